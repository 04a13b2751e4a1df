-- What holds of an end, and of a requested byte wherever it holds of what follows it, holds of `identify` and `identify_qsfp`.
-- Of a call with any result: that each successful acquire gets one release call, and that the accesses show the attempts.
use Rattle.std.proofs.Common.{ℕ, zero, suc, Bool, true, false}
use Rattle.hardware.specs.declared.Port.{Port}
use Rattle.hardware.specs.Prog.{Prog, ret, R, Ok, Err, pick, ◌>>=◌}
use Rattle.transfer.specs.declared.attempt.Sequence.{Sequence}
use Rattle.i2c.specs.declared.once.Request.TheVariants.{ReadByte}
use Rattle.i2c.specs.I2c.{locked, transferred}
use Rattle.i2c.proofs.Pairs.{Pairs, pairs_then, pairs_ret}
use Rattle.i2c.proofs.Paired.{transferred_pairs}
use Rattle.i2c.proofs.Shown.{Showing, shows_ret, shows_then}
use Rattle.sfp.specs.declared.Codes.{Codes}
use Rattle.sfp.specs.declared.Kind.{Kind}
use Rattle.sfp.specs.declared.Identity.{Identity}
use Rattle.sfp.specs.Identify.{EEPROM, or_absent, byte, identifier_of, reach_of, bx10g_of, kind_by, classify, known, identified, identify}
use Rattle.sfp.specs.Qsfp.{qsfp_technology, qsfp_length, qsfp_connector, qsfp_classify, qsfp_known, qsfp_identified, identify_qsfp}

pub record Spreads {A : Type 0} (q : Sequence) (port : Port) (P : Prog A → Type 0) : Type 0 where
  pub ends : (v : A) → P (ret v)
  pub requests : (offset tries : ℕ) (k : R ℕ → Prog A) → ((r : R ℕ) → P (k r)) → P (transferred port (ReadByte EEPROM offset) (locked q) tries >>= k)

abbrev pub Keeping : {A : Type 0} → Prog A → Type 0
Keeping p = Pairs false p (λ _. false)

pub pairs_spreads : {A : Type 0} (q : Sequence) (port : Port) → Spreads {A = A} q port Keeping
pairs_spreads q port =
    record {
      ends = λ v. pairs_ret false v;
      requests = λ offset tries k e. pairs_then false _ k _ (transferred_pairs port (ReadByte EEPROM offset) (locked q) tries) e;
    }

pub shows_spreads : {A : Type 0} (q : Sequence) (port : Port) → Spreads {A = A} q port (Showing q port)
shows_spreads q port =
    record { ends = λ v. shows_ret q port v; requests = λ offset tries k e. shows_then q port (ReadByte EEPROM offset) tries k e }

-- less is enough, since `or_absent` stands behind each request: what holds of an end, and of a byte wherever it holds of what follows it
pub record Bytewise (q : Sequence) (port : Port) (P : Prog (R Identity) → Type 0) : Type 0 where
  pub ends : (v : R Identity) → P (ret v)
  pub bytes : (offset tries : ℕ) (k : ℕ → Prog (R Identity)) → ((v : ℕ) → P (k v)) → P (byte q port offset tries k)

module _ (q : Sequence) (port : Port) (P : Prog (R Identity) → Type 0) where
  pick_holds : (b : Bool) (p r : Prog (R Identity)) → P p → P r → P (pick b p r)
  unfolding pick
  pick_holds true p r e d = e
  pick_holds false p r e d = d

  module _ (s : Bytewise q port P) where
    kind_holds : (c : Codes) (bx : Bool) (k : Kind → Prog (R Identity)) → ((kind : Kind) → P (k kind)) → P (kind_by q port c bx k)
    unfolding kind_by
    kind_holds c bx k e = pick_holds _ _ _ (e _) (pick_holds _ _ _ (s.bytes 60 _ _ (λ v. e _)) (e _))

    bx_holds : (c : Codes) (k : Bool → Prog (R Identity)) → ((b : Bool) → P (k b)) → P (bx10g_of q port c k)
    unfolding bx10g_of reach_of
    bx_holds c k e =
        pick_holds _ _ _
        (s.bytes 12 _ _ (λ rate. pick_holds _ _ _ (s.bytes 14 _ _ (λ km. s.bytes 15 _ _ (λ hm. e _))) (e _)))
        (e _)

    known_holds : (identifier : ℕ) → P (known q port identifier)
    unfolding known classify
    known_holds identifier =
        s.bytes 6 _ _ (λ g1. s.bytes 3 _ _ (λ g10. s.bytes 8 _ _ (λ cable.
        bx_holds _ _ (λ bx. kind_holds _ bx _ (λ kind. s.ends _)))))

    identifier_holds : (left identifier : ℕ) (k : ℕ → Prog (R Identity)) → ((v : ℕ) → P (k v)) → P (identifier_of q port left identifier k)
    unfolding identifier_of
    identifier_holds zero identifier k e = e identifier
    identifier_holds (suc left) identifier k e = s.bytes 0 11 _ (λ v. pick_holds _ _ _ (e v) (identifier_holds left v k e))

    pub identify_bytes : P (identify q port)
    unfolding identify identified
    identify_bytes = identifier_holds 5 0 _ (λ v. pick_holds _ _ _ (known_holds v) (s.ends _))

    qsfp_bytes_lem : P (identify_qsfp q port)
    unfolding identify_qsfp qsfp_identified qsfp_known qsfp_classify qsfp_connector qsfp_length qsfp_technology
    qsfp_bytes_lem =
        s.bytes 0 11 _ (λ v. pick_holds _ _ _
        (s.bytes 0x83 _ _ (λ g10. s.bytes 0x86 _ _ (λ g1. pick_holds _ _ _ (s.ends _) (pick_holds _ _ _ (s.ends _) (pick_holds _ _ _ (s.ends _)
        (s.bytes 0x82 _ _ (λ a. pick_holds _ _ _ (s.bytes 0x92 _ _ (λ b. pick_holds _ _ _
        (s.bytes 0x93 _ _ (λ c. pick_holds _ _ _ (s.ends _) (s.ends _))) (s.ends _))) (s.ends _))))))))
        (s.ends _))

  module _ (s : Spreads q port P) where
    absent_holds : (k : ℕ → Prog (R Identity)) (r : R ℕ) → ((v : ℕ) → P (k v)) → P (or_absent k r)
    unfolding or_absent
    absent_holds k (Ok v) e = e v
    absent_holds k (Err error) e = pick_holds _ _ _ (s.ends _) (s.ends _)

    bytewise : Bytewise q port P
    unfolding byte
    bytewise = record { ends = s.ends; bytes = λ offset tries k e. s.requests offset tries _ (λ r. absent_holds k r e) }

    pub identify_holds : P (identify q port)
    identify_holds = identify_bytes bytewise

    pub qsfp_holds : P (identify_qsfp q port)
    qsfp_holds = qsfp_bytes_lem bytewise
