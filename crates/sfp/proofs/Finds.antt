-- The calls classify as the papers do: where byte n of the module is at n, `identify` makes `requests at` requests and its
-- record has the class `class_of at`; and `identify_qsfp` has `qsfp_class_of at`.
use Rattle.std.proofs.Common.{◌≡◌, ℕ, zero, suc, ◌+◌, ◌/◌, ◌<◌, Bool, true, false, not, ◌&&◌, ◌||◌, eqb, ltb, leb, refl, subst, arith, lit<}
use Rattle.hardware.specs.declared.Port.{Port}
use Rattle.hardware.specs.Prog.{Prog, R, pick}
use Rattle.hardware.specs.Registers.{none_of}
use Rattle.transfer.specs.declared.attempt.Sequence.{Sequence}
use Rattle.i2c.specs.I2c.{attempts}
use Rattle.i2c.proofs.Laws.{attempts_some}
use Rattle.sfp.specs.declared.Kind.{Kind}
use Rattle.sfp.specs.declared.Kind.TheVariants.{DaCu, DaActiveLimiting, SrLr, Unknown}
use Rattle.sfp.specs.declared.Identity.{Identity}
use Rattle.sfp.specs.Bytes.{codes_of}
use Rattle.sfp.specs.Classes.{Bytes, has, SFP, QSFP, PASSIVE_DA, ACTIVE_DA, LIMITING, asks_rate, asks_reach, asks_active, bx10g, kind_of, multispeed_of, class_of, requests, qsfp_active, qsfp_kind_of, qsfp_multispeed_of, qsfp_class_of}
use Rattle.sfp.specs.Identify.{other, byte, identifier_of, reach_of, bx10g_of, fibre_of, kind_by, recorded, classify, known, identified, identify}
use Rattle.sfp.specs.Qsfp.{qsfp_recorded, qsfp_technology, qsfp_length, qsfp_connector, qsfp_classify, qsfp_known, qsfp_identified, identify_qsfp}
use Rattle.sfp.specs.Finds.{Finds, found, reads, identity_of, qsfp_identity_of, class_in}
use Rattle.sfp.proofs.Laws.{either_bit, kind_by_codes}

module _ (q : Sequence) (port : Port) (at : Bytes) where
  next : (offset : ℕ) → offset < 256 → (n : ℕ) (k : ℕ → Prog (R Identity)) (m : Identity) → Finds q port at n (k (at offset)) m
      → Finds q port at (suc n) (byte q port offset (attempts port) k) m
  next offset o n k m h = reads _ _ _ n k m o (attempts_some port) h

  -- byte 0 gets eleven attempts
  probe : (n : ℕ) (k : ℕ → Prog (R Identity)) (m : Identity) → Finds q port at n (k (at 0)) m → Finds q port at (suc n) (byte q port 0 11 k) m
  probe n k m h = reads 0 11 10 n k m (lit< tt) refl h

  -- the number of requests, written otherwise
  counts : (i : ℕ) {j : ℕ} {p : Prog (R Identity)} {m : Identity} → i ≡ j → Finds q port at i p m → Finds q port at j p m
  counts i {p = p} {m = m} e h = subst (λ n. Finds q port at n p m) e h

  -- step 4: 12, 14 and 15 are requested where the test needs them
  rate_finds : (n : ℕ) (k : Bool → Prog (R Identity)) (m : Identity) (b : Bool) → eqb (at 12) 0x67 ≡ b
      → Finds q port at n (k (b && (ltb 0 (at 14) || leb 10 (at 15)))) m
      → Finds q port at (1 + (pick b 2 0 + n)) (byte q port 12 (attempts port) (λ rate. pick (eqb rate 0x67) (reach_of q port k) (k false))) m
  unfolding pick reach_of
  rate_finds n k m true e h = counts (suc (suc (suc n))) (omega arith) (next 12 (lit< tt) _ _ _ (rw e (next 14 (lit< tt) _ _ _ (next 15 (lit< tt) _ _ _ h))))
  rate_finds n k m false e h = counts (suc n) (omega arith) (next 12 (lit< tt) _ _ _ (rw e h))

  bx_by : (n : ℕ) (k : Bool → Prog (R Identity)) (m : Identity) (b c : Bool) → asks_rate at ≡ b → eqb (at 12) 0x67 ≡ c
      → Finds q port at n (k ((b && c) && (ltb 0 (at 14) || leb 10 (at 15)))) m
      → Finds q port at (pick b 1 0 + (pick (b && c) 2 0 + n)) (bx10g_of q port (codes_of at) k) m
  unfolding bx10g_of asks_rate pick
  bx_by n k m true c e f h = rw e (rate_finds n k m c f h)
  bx_by n k m false c e f h = counts n (omega arith) (rw e h)

  bx_finds : (n : ℕ) (k : Bool → Prog (R Identity)) (m : Identity) → Finds q port at n (k (bx10g at)) m
      → Finds q port at (pick (asks_rate at) 1 0 + (pick (asks_reach at) 2 0 + n)) (bx10g_of q port (codes_of at) k) m
  unfolding asks_reach bx10g
  bx_finds n k m h = bx_by n k m (asks_rate at) (eqb (at 12) 0x67) refl refl h

  -- step 5: 60 is requested of an active cable
  kind_by_lem : (n : ℕ) (k : Kind → Prog (R Identity)) (m : Identity) (b c : Bool) → has (at 8) PASSIVE_DA ≡ b → has (at 8) ACTIVE_DA ≡ c
      → Finds q port at n (k (pick b DaCu (pick c (pick (has (at 60) LIMITING) DaActiveLimiting Unknown) (fibre_of (codes_of at) (bx10g at))))) m
      → Finds q port at (pick (not b && c) 1 0 + n) (kind_by q port (codes_of at) (bx10g at) k) m
  unfolding kind_by pick
  kind_by_lem n k m true c e f h = counts n (omega arith) (rw e h)
  kind_by_lem n k m false true e f h = counts (suc n) (omega arith) (rw (e, f) (next 60 (lit< tt) _ _ _ h))
  kind_by_lem n k m false false e f h = counts n (omega arith) (rw (e, f) h)

  active : (not (has (at 8) PASSIVE_DA) && has (at 8) ACTIVE_DA) ≡ asks_active at
  unfolding asks_active has
  active = by (none_of (at 8) PASSIVE_DA)
    where
      by : (b : Bool) → (not (not b) && not (none_of (at 8) ACTIVE_DA)) ≡ (b && not (none_of (at 8) ACTIVE_DA))
      by true = refl
      by false = refl

  kind_finds : (n : ℕ) (k : Kind → Prog (R Identity)) (m : Identity) → Finds q port at n (k (kind_of at)) m
      → Finds q port at (pick (asks_active at) 1 0 + n) (kind_by q port (codes_of at) (bx10g at) k) m
  kind_finds n k m h =
      rw (← active) (kind_by_lem n k m (has (at 8) PASSIVE_DA) (has (at 8) ACTIVE_DA) refl refl (rw (kind_by_codes at) h))

  -- the requests after byte 0 of an SFP
  abbrev further : ℕ
  further = 3 + (pick (asks_rate at) 1 0 + (pick (asks_reach at) 2 0 + (pick (asks_active at) 1 0 + 0)))

  known_finds : Finds q port at further (known q port (at 0)) (recorded (at 0) (codes_of at) (kind_of at))
  unfolding known classify
  known_finds =
      counts (suc (suc (suc (pick (asks_rate at) 1 0 + (pick (asks_reach at) 2 0 + (pick (asks_active at) 1 0 + 0)))))) (omega arith)
      (next 6 (lit< tt) _ _ _ (next 3 (lit< tt) _ _ _ (next 8 (lit< tt) _ _ _ (bx_finds _ _ _ (kind_finds 0 _ _ found)))))

  -- byte 0 is requested anew, and is the same
  again_finds : (left : ℕ) → eqb (at 0) SFP ≡ false → Finds q port at left (identifier_of q port left (at 0) (identified q port)) (other (at 0))
  unfolding identifier_of identified pick
  again_finds zero e = rw e found
  again_finds (suc left) e = probe _ _ _ (rw e (again_finds left e))

  rest_by : (b : Bool) → eqb (at 0) SFP ≡ b
      → Finds q port at (pick b further 4) (pick b (identified q port (at 0)) (identifier_of q port 4 (at 0) (identified q port))) (pick b (recorded (at 0) (codes_of at) (kind_of at)) (other (at 0)))
  unfolding identified pick
  rest_by true e = rw e known_finds
  rest_by false e = again_finds 4 e

  -- what is left once byte 0 was read
  pub rest_finds : Finds q port at (pick (eqb (at 0) SFP) further 4) (pick (eqb (at 0) SFP) (identified q port (at 0)) (identifier_of q port 4 (at 0) (identified q port))) (identity_of at)
  rest_finds = rest_by (eqb (at 0) SFP) refl

  requests_by : (b : Bool) → suc (pick b further 4) ≡ pick b (4 + pick (asks_rate at) 1 0 + pick (asks_reach at) 2 0 + pick (asks_active at) 1 0) 5
  unfolding pick
  requests_by true = omega arith
  requests_by false = refl

  pub requests_further : suc (pick (eqb (at 0) SFP) further 4) ≡ requests at
  unfolding requests
  requests_further = requests_by (eqb (at 0) SFP)

  pub identify_finds : Finds q port at (requests at) (identify q port) (identity_of at)
  unfolding identify identifier_of
  identify_finds = counts _ requests_further (probe _ _ _ rest_finds)

  -- 82, 92 and 93 are requested one after the other, where they are needed
  qsfp_by : (a b c d e f : Bool) → has (at 0x83) 0x08 ≡ a → has (at 0x83) 0x30 ≡ b → has (at 0x83) 0x01 ≡ c
      → eqb (at 0x82) 0x23 ≡ d → ltb 0 (at 0x92) ≡ e → eqb (at 0x93 / 16) 0 ≡ f
      → (n : ℕ) × Finds q port at n (qsfp_classify q port (at 0x83) (at 0x86)) (qsfp_recorded (at 0x83) (at 0x86) (pick a DaCu (pick b SrLr (pick (c || (d && (e && f))) DaActiveLimiting Unknown))))
  unfolding qsfp_classify qsfp_connector qsfp_length qsfp_technology pick
  qsfp_by true b c d e f p q r s t u = (0, rw p found)
  qsfp_by false true c d e f p q r s t u = (0, rw (p, q) found)
  qsfp_by false false true d e f p q r s t u = (0, rw (p, q, r) found)
  qsfp_by false false false false e f p q r s t u = (1, rw (p, q, r) (next 0x82 (lit< tt) _ _ _ (rw s found)))
  qsfp_by false false false true false f p q r s t u = (2, rw (p, q, r) (next 0x82 (lit< tt) _ _ _ (rw s (next 0x92 (lit< tt) _ _ _ (rw t found)))))
  qsfp_by false false false true true false p q r s t u = (3, rw (p, q, r) (next 0x82 (lit< tt) _ _ _ (rw s (next 0x92 (lit< tt) _ _ _ (rw t (next 0x93 (lit< tt) _ _ _ (rw u found)))))))
  qsfp_by false false false true true true p q r s t u = (3, rw (p, q, r) (next 0x82 (lit< tt) _ _ _ (rw s (next 0x92 (lit< tt) _ _ _ (rw t (next 0x93 (lit< tt) _ _ _ (rw u found)))))))

  qsfp_codes : (n : ℕ) × Finds q port at n (qsfp_classify q port (at 0x83) (at 0x86)) (qsfp_recorded (at 0x83) (at 0x86) (qsfp_kind_of at))
  unfolding qsfp_kind_of qsfp_active
  qsfp_codes = rw (← either_bit (at 0x83)) (qsfp_by _ _ _ _ _ _ refl refl refl refl refl refl)

  qsfp_rest : (b : Bool) → eqb (at 0) QSFP ≡ b
      → (n : ℕ) × Finds q port at n (qsfp_identified q port (at 0)) (pick b (qsfp_recorded (at 0x83) (at 0x86) (qsfp_kind_of at)) (other (at 0)))
  unfolding qsfp_identified qsfp_known pick
  qsfp_rest true e = (suc (suc qsfp_codes.0), rw e (next 0x83 (lit< tt) _ _ _ (next 0x86 (lit< tt) _ _ _ qsfp_codes.1)))
  qsfp_rest false e = (0, rw e found)

  pub qsfp_finds : (n : ℕ) × Finds q port at n (identify_qsfp q port) (qsfp_identity_of at)
  unfolding identify_qsfp
  qsfp_finds = let h = qsfp_rest (eqb (at 0) QSFP) refl in (suc h.0, probe _ _ _ h.1)

-- the records have the papers' classes
pub module_class : (at : Bytes) → class_in (identity_of at) ≡ class_of at
unfolding class_of recorded multispeed_of pick
module_class at = by (eqb (at 0) SFP)
  where
    by : (b : Bool) → class_in (pick b (recorded (at 0) (codes_of at) (kind_of at)) (other (at 0))) ≡ pick b (record { kind = kind_of at; multispeed = multispeed_of at }) (record { kind = Unknown; multispeed = false })
    by true = refl
    by false = refl

pub qsfp_module_class : (at : Bytes) → class_in (qsfp_identity_of at) ≡ qsfp_class_of at
unfolding qsfp_class_of qsfp_recorded qsfp_multispeed_of pick
qsfp_module_class at = by (eqb (at 0) QSFP)
  where
    by : (b : Bool) → class_in (pick b (qsfp_recorded (at 0x83) (at 0x86) (qsfp_kind_of at)) (other (at 0))) ≡ pick b (record { kind = qsfp_kind_of at; multispeed = qsfp_multispeed_of at }) (record { kind = Unknown; multispeed = false })
    by true = refl
    by false = refl
