-- The transfers' lock and the QSFP handshake leave I2CCTL, the bench module and the count of transfers alone; the lock switches
-- the mux where the port has one.
use Prim.Native.Nat.{ℕ, suc, zero}
use mathlib.Core.Path.{◌≡◌, refl, ap, ◌∙◌, sym}
use mathlib.Core.Bool.{Bool, true, false, ◌&&◌, false≢true}
use lib.Dec.{eqb}
use borrow.Author.Tests.{eqb-true}
use Rattle.hardware.specs.declared.Access.{Access}
use Rattle.hardware.specs.declared.Access.TheVariants.{Read, Write}
use Rattle.hardware.specs.declared.Answer.{Answer}
use Rattle.hardware.specs.declared.Family.{Family}
use Rattle.hardware.specs.declared.Family.TheVariants.{F82599, X540, X550, X552, X553}
use Rattle.hardware.specs.declared.Port.{Port}
use Rattle.hardware.specs.declared.change.Bits.{Bits}
use Rattle.hardware.specs.declared.change.Change.{Change}
use Rattle.hardware.specs.Asked.{is}
use Rattle.hardware.specs.Prog.{Prog, ret, R, Ok, or_err, ◌>>=◌, ◌>>?◌, pick}
use Rattle.hardware.specs.Registers.{ESDP, none_of, checked, written, flushed, flush, delay_ms}
use Rattle.hardware.specs.Change.{changed, settled, stored, change}
use Rattle.sync.specs.Regs.{I2C, TOKEN, mux, set_mux}
use Rattle.sync.specs.Resource.{muxed, unmuxed, release_bits}
use Rattle.hostif.specs.Acquire.{hw_of, with_bits, acquired_all, acquire, give_bits, release}
use Rattle.transfer.specs.declared.attempt.Sequence.{Sequence}
use Rattle.bus.specs.declared.Taken.{Taken}
use Rattle.bus.specs.Layout.{x550em, layout_of}
use Rattle.wire.specs.Lines.{master}
use Rattle.wire.specs.Machine.{switched, models, modelled, at_lines, reply, after}
use Rattle.wire.specs.Always.{nobody, Meets, Answered, Always}
use Rattle.wire.proofs.Always.{always_map, always_bind}
use Rattle.bench.specs.Mux.{has_mux, joins}
use Rattle.i2c.specs.I2c.{mask, qsfp, ask_bus, give_bus, granting, granted, given_bus, on_grant, with_bus, when_lock}
use Rattle.i2c.proofs.Masks.{mask_plain, mask_bits}
use Rattle.demand.specs.Fine.{Fine}
use Rattle.demand.specs.Claim.{CountedBench, BenchWorld, Sound}
use Rattle.demand.specs.Mux.{Settled, Switches, watched}
use Rattle.demand.proofs.Fine.{Beside, fair_is, fine_map, fine_try, fine_pick, fine_ret, fine_lapsed, fine_read, fine_delay, fine_flush, fine_change, fine_alone, alone_then}
use Rattle.demand.proofs.Locks.{aside, esdp_apart, machine_unmoved, acquire_bits_always, unmuxed_fine, stays}
use Rattle.demand.proofs.Mux.{sound_set, sound_clear, sound_present, mux_set, joined_set, sees_nobody, switched_nobody}

abbrev pub world : ℕ → CountedBench → BenchWorld
world w m = record { word = w; other = m }

-- the same module with another ESDP
abbrev pub at : ℕ → CountedBench → CountedBench
at e m = record { bench = m.bench; esdp = e; meter = m.meter }

-- the same with the mux switched, where the port has one
abbrev pub switch : Port → Bool → CountedBench → CountedBench
switch port on m = at (pick (has_mux port) (changed (set_mux on).bits m.esdp) m.esdp) m

-- the same where bits of SW_FW_SYNC are taken or given back
abbrev pub switch_for : Port → ℕ → Bool → CountedBench → CountedBench
switch_for port bits on m = at (pick (mux port bits) (changed (set_mux on).bits m.esdp) m.esdp) m

-- the same where a call takes its lock, or gives it back, if it has one
abbrev pub locked_by : Port → Bool → CountedBench → CountedBench
locked_by port lock m = at (pick lock (switch port true m).esdp m.esdp) m

abbrev pub unlocked_by : Port → Bool → CountedBench → CountedBench
unlocked_by port lock m = at (pick lock (switch port false m).esdp m.esdp) m

-- Where a mux may be switched: the master pulls neither line, and ESDP never reads FFFFFFFF
pub record Fit (port : Port) (w : ℕ) (m : CountedBench) : Type 0 where
  pub released : has_mux port ≡ true → master (layout_of port.family) w ≡ nobody
  pub sound : has_mux port ≡ true → Sound m.esdp

pub switch_sound : (port : Port) (on : Bool) (m : CountedBench) → (has_mux port ≡ true → Sound m.esdp) → has_mux port ≡ true → Sound (switch port on m).esdp
unfolding pick changed set_mux
switch_sound port true m s h = rw h (sound_set m.esdp (s h))
switch_sound port false m s h = rw h (sound_clear m.esdp (s h))

-- with the mux on, or without one, the two sides feel each other
pub switch_joins : (port : Port) (m : CountedBench) → joins (has_mux port) (switch port true m).esdp ≡ true
unfolding pick changed set_mux joins
switch_joins port m = by (has_mux port)
  where
    by : (b : Bool) → joins b (pick b (changed (set_mux true).bits m.esdp) m.esdp) ≡ true
    by true = joined_set true m.esdp
    by false = refl

-- without the lock nothing is asked of ESDP
pub fit_sound : (port : Port) (lock : Bool) (w : ℕ) (m : CountedBench) → (lock ≡ true → Fit port w m) → (lock && has_mux port) ≡ true → Sound m.esdp
fit_sound port true w m f h = (f refl).sound h
fit_sound port false w m f h = absurd (false≢true h)

pub locked_sound : (port : Port) (lock : Bool) (m : CountedBench) → ((lock && has_mux port) ≡ true → Sound m.esdp) → (lock && has_mux port) ≡ true → Sound (locked_by port lock m).esdp
unfolding pick
locked_sound port true m s h = switch_sound port true m s h
locked_sound port false m s h = s h

pub unlocked_sound : (port : Port) (lock : Bool) (m : CountedBench) → ((lock && has_mux port) ≡ true → Sound m.esdp) → (lock && has_mux port) ≡ true → Sound (unlocked_by port lock m).esdp
unfolding pick
unlocked_sound port true m s h = switch_sound port false m s h
unlocked_sound port false m s h = s h

pub locked_joins : (port : Port) (lock : Bool) (m : CountedBench) → (lock ≡ false → joins (has_mux port) m.esdp ≡ true) → joins (has_mux port) (locked_by port lock m).esdp ≡ true
unfolding pick
locked_joins port true m j = switch_joins port m
locked_joins port false m j = j refl

-- a transfer's mask has the bits for which a port with a mux switches it
family_mask : (f : Family) → is f X552 ≡ true → x550em f ≡ true
unfolding is x550em
family_mask F82599 e = absurd (false≢true e)
family_mask X540 e = absurd (false≢true e)
family_mask X550 e = absurd (false≢true e)
family_mask X552 e = refl
family_mask X553 e = absurd (false≢true e)

pub mux_there : (port : Port) → has_mux port ≡ true → mux port (mask port) ≡ true
unfolding has_mux mux mask pick none_of
mux_there port h = by (is port.family X552) (eqb port.lan 1) refl refl h
  where
    by : (a b : Bool) → is port.family X552 ≡ a → eqb port.lan 1 ≡ b → (a && b) ≡ true
        → pick (is port.family X552) (pick (eqb port.lan 1) (pick (none_of (mask port) I2C) false true) false) false ≡ true
    by true true d e k = rw (d, e, family_mask port.family d)
    by true false d e k = absurd (false≢true k)
    by false b d e k = absurd (false≢true k)

-- no other port switches it
mux_has : (port : Port) (bits : ℕ) → mux port bits ≡ true → has_mux port ≡ true
unfolding has_mux mux pick
mux_has port bits h = by (is port.family X552) (eqb port.lan 1) h
  where
    by : (a b : Bool) → pick a (pick b (pick (none_of bits I2C) false true) false) false ≡ true → (a && b) ≡ true
    by true true h = refl
    by true false h = h
    by false b h = h

mux_none : (port : Port) (bits : ℕ) → eqb bits 0 ≡ true → mux port bits ≡ false
unfolding mux pick none_of
mux_none port bits e = rw (eqb-true bits 0 e) (by (is port.family X552) (eqb port.lan 1))
  where
    by : (a b : Bool) → pick a (pick b false false) false ≡ false
    by true true = refl
    by true false = refl
    by false b = refl

mask_mux : (port : Port) → mux port (mask port) ≡ has_mux port
mask_mux port = by (has_mux port) (mux port (mask port)) (mux_there port) (mux_has port (mask port))
  where
    by : (a b : Bool) → (a ≡ true → b ≡ true) → (b ≡ true → a ≡ true) → b ≡ a
    by true b f g = f refl
    by false true f g = sym (g refl)
    by false false f g = refl

-- The handshake is the 82599's, which has no mux
pub qsfp_plain : (port : Port) → qsfp port ≡ true → has_mux port ≡ false
unfolding qsfp has_mux is pick
qsfp_plain port h = by port.family refl h
  where
    by : (f : Family) → port.family ≡ f → pick (is port.family F82599) (eqb port.device 0x1558) false ≡ true → (is port.family X552 && eqb port.lan 1) ≡ false
    by F82599 e h = rw e
    by X540 e h = rw e
    by X550 e h = rw e
    by X552 e h = absurd (false≢true (rw e at h))
    by X553 e h = rw e

module _ (q : Sequence) (port : Port) where
  answered_own : (x : Access) (K : Answer → BenchWorld → Type 0) (w : BenchWorld) → modelled (layout_of port.family) (watched q port) x ≡ true
      → Meets (layout_of port.family) (watched q port) x w → K (reply (layout_of port.family) (watched q port) x w) (after (layout_of port.family) (watched q port) x w)
      → Answered (layout_of port.family) (watched q port) x K w
  unfolding Answered
  answered_own x K w e m k = rw e (m, k)

  -- ESDP where that is the machine's: a bit is set or cleared
  module _ (has : has_mux port ≡ true) where
    owned : models (layout_of port.family) (watched q port) ESDP ≡ true
    unfolding models
    owned = rw (esdp_apart port.family, has)

    wrote_esdp : (v w : ℕ) (m : CountedBench) → master (layout_of port.family) w ≡ nobody
        → after (layout_of port.family) (watched q port) (Write ESDP v) (world w m) ≡ world w (at v m)
    unfolding after at_lines pick switched
    wrote_esdp v w m free = rw (esdp_apart port.family, free) (ap (λ b. world w (record { bench = b; esdp = v; meter = m.meter })) (switched_nobody (has_mux port) m.esdp v m.bench))

    meets_write : (v w : ℕ) (m : CountedBench) → master (layout_of port.family) w ≡ nobody → (none_of v 2 ≡ true → Settled q nobody m)
        → Meets (layout_of port.family) (watched q port) (Write ESDP v) (world w m)
    unfolding Meets at_lines Switches
    meets_write v w m free left = rw (esdp_apart port.family, free) (sees_nobody _ _ m.bench, left)

    meets_read : (w : BenchWorld) → Meets (layout_of port.family) (watched q port) (Read ESDP) w
    unfolding Meets at_lines Switches
    meets_read w = rw (esdp_apart port.family) tt

    change_esdp : (b : Bits) (w : ℕ) (m : CountedBench) (Q : R (Unit {0}) → BenchWorld → Type 0) → master (layout_of port.family) w ≡ nobody → eqb m.esdp 0xffffffff ≡ false
        → (none_of (changed b m.esdp) 2 ≡ true → Settled q nobody m) → Q (Ok tt) (world w (at (changed b m.esdp) m))
        → Always (layout_of port.family) (watched q port) (change (record { register = ESDP; bits = b; flushed = true })) (world w m) Q
    unfolding Always modelled change stored settled ◌>>=◌ or_err checked written flushed pick reply at_lines after
    change_esdp b w m Q free here left h =
        answered_own (Read ESDP) _ (world w m) owned (meets_read (world w m))
        (rw (esdp_apart port.family, here)
        (answered_own (Write ESDP (changed b m.esdp)) _ (world w m) owned (meets_write (changed b m.esdp) w m free left)
        (rw (wrote_esdp (changed b m.esdp) w m free)
        (fine_alone (layout_of port.family) (watched q port) (machine_unmoved q port) flush (world w (at (changed b m.esdp) m)) Q
        (fine_map _ _ flush _ _ (λ r g. rw (fair_is r g) h) (fine_flush _ _ (aside q port port.family).status))))))

  -- ESDP where it is not
  esdp_beside : has_mux port ≡ false → Beside (layout_of port.family) (watched q port) ESDP
  unfolding models
  esdp_beside e = record { other = rw (esdp_apart port.family, e); present = λ v m. stays ESDP v refl m }

  -- the mux is switched, or the port or the bits have none
  module _ (bits w : ℕ) (m : CountedBench) (fit : mux port bits ≡ true → Fit port w m) where
    mux_alone : (on : Bool) (Q : R (Unit {0}) → BenchWorld → Type 0) → (on ≡ false → mux port bits ≡ true → Settled q nobody m) → Q (Ok tt) (world w (switch_for port bits on m))
        → Always (layout_of port.family) (watched q port) (muxed port bits on) (world w m) Q
    unfolding muxed set_mux pick changed Always
    mux_alone on Q left k = by on (mux port bits) refl left k
      where
        by : (on b : Bool) → mux port bits ≡ b → (on ≡ false → mux port bits ≡ true → Settled q nobody m)
            → Q (Ok tt) (world w (at (pick b (changed (set_mux on).bits m.esdp) m.esdp) m))
            → Always (layout_of port.family) (watched q port) (pick b (change (set_mux on)) (ret (Ok tt))) (world w m) Q
        by true true e left k =
            let h = mux_has port bits e in
            change_esdp h _ w m Q ((fit e).released h) (sound_present m.esdp ((fit e).sound h)) (λ e. absurd (false≢true (sym (mux_set m.esdp) ∙ e))) k
        by false true e left k = let h = mux_has port bits e in change_esdp h _ w m Q ((fit e).released h) (sound_present m.esdp ((fit e).sound h)) (λ _. left refl e) k
        by on false e left k = k

    -- without bits there is nothing to give back, and no mux
    bits_alone : (Q : R (Unit {0}) → BenchWorld → Type 0) → (mux port bits ≡ true → Settled q nobody m) → Q (Ok tt) (world w (switch_for port bits false m))
        → Always (layout_of port.family) (watched q port) (with_bits bits (release_bits port bits)) (world w m) Q
    unfolding with_bits release_bits Always pick or_err
    bits_alone Q left k = by (eqb bits 0) refl
      where
        by : (b : Bool) → eqb bits 0 ≡ b → Always (layout_of port.family) (watched q port) (pick b (ret (Ok tt)) (muxed port bits false >>? λ _. unmuxed port bits)) (world w m) Q
        by true e = rw (mux_none port bits e) at k
        by false e =
            always_bind _ _ _ _ (world w m) Q
            (mux_alone false _ (λ _. left)
            (fine_alone _ _ (machine_unmoved q port) _ (world w (switch_for port bits false m)) Q
            (fine_map _ _ _ _ _ (λ r g. rw (fair_is r g) k) (unmuxed_fine _ _ (machine_unmoved q port) port (aside q port port.family) bits))))

  -- any mask without TOKEN
  module _ (bits : ℕ) (plain : none_of bits TOKEN ≡ true) (w : ℕ) (m : CountedBench) (Q : R (Unit {0}) → BenchWorld → Type 0) (fit : mux port (hw_of bits) ≡ true → Fit port w m) where
    pub acquire_alone : Q (Ok tt) (world w (switch_for port (hw_of bits) true m)) → Always (layout_of port.family) (watched q port) (acquire port bits) (world w m) Q
    unfolding acquire acquired_all Always pick or_err
    acquire_alone k =
        rw plain
        (always_bind _ _ _ _ (world w m) Q
        (acquire_bits_always _ _ (machine_unmoved q port) port (aside q port port.family) (hw_of bits) (world w m) _
        (mux_alone (hw_of bits) w m fit true _ (λ e. absurd (false≢true (sym e))) k)))

    pub release_alone : (mux port (hw_of bits) ≡ true → Settled q nobody m) → Q (Ok tt) (world w (switch_for port (hw_of bits) false m))
        → Always (layout_of port.family) (watched q port) (release port bits) (world w m) Q
    unfolding release give_bits Always pick or_err
    release_alone left k = rw plain (always_bind _ _ _ _ (world w m) Q (bits_alone (hw_of bits) w m fit _ left k))

  module _ (w : ℕ) (m : CountedBench) (Q : R Taken → BenchWorld → Type 0) where
    pub lock_alone : (on : Bool) (k : Prog (R Taken)) → (on ≡ true → Fit port w m) → Always (layout_of port.family) (watched q port) k (world w (locked_by port on m)) Q
        → Always (layout_of port.family) (watched q port) (when_lock on (acquire port (mask port)) k) (world w m) Q
    unfolding when_lock pick or_err
    lock_alone true k f h = always_bind _ _ _ _ (world w m) Q (acquire_alone (mask port) (mask_plain port) w m _ (λ _. f refl) (rw (mask_bits port, mask_mux port) h))
    lock_alone false k f h = h

    pub unlock_alone : (on : Bool) (k : Prog (R Taken)) → (on ≡ true → Fit port w m) → (has_mux port ≡ true → Settled q nobody m)
        → Always (layout_of port.family) (watched q port) k (world w (unlocked_by port on m)) Q
        → Always (layout_of port.family) (watched q port) (when_lock on (release port (mask port)) k) (world w m) Q
    unfolding when_lock pick or_err
    unlock_alone true k f left h =
        always_bind _ _ _ _ (world w m) Q (release_alone (mask port) (mask_plain port) w m _ (λ _. f refl) (λ e. left (mux_has port _ e)) (rw (mask_bits port, mask_mux port) h))
    unlock_alone false k f left h = h

    pub pause_alone : (ms : ℕ) (k : Unit {0} → Prog (R Taken)) → Always (layout_of port.family) (watched q port) (k tt) (world w m) Q
        → Always (layout_of port.family) (watched q port) (delay_ms ms >>? k) (world w m) Q
    pause_alone ms k h = alone_then _ _ (machine_unmoved q port) _ _ _ (world w m) Q (fine_map _ _ _ _ _ fair_is (fine_delay _ _ _)) h

  module _ (none : has_mux port ≡ false) where
    -- ESDP: a bit is set or cleared
    esdp_fine : (c : Change) → c.register ≡ ESDP → Fine (layout_of port.family) (watched q port) (change c) (λ r. r ≡ Ok tt)
    esdp_fine c e = fine_map _ _ _ _ _ fair_is (fine_change _ _ (aside q port port.family).status c (rw e (esdp_beside none)))

    -- a grant that does not come is a lapse
    granted_fine : (n : ℕ) → Fine (layout_of port.family) (watched q port) (granted n) (λ r. r ≡ Ok true)
    unfolding granted granting
    granted_fine zero = fine_lapsed _ _ _ _
    granted_fine (suc n) =
        fine_try _ _ _ _ _ _ (fine_read _ _ _ (esdp_beside none))
        (λ v _. fine_pick _ _ _ _ _ _ (fine_try _ _ _ _ _ _ (fine_delay _ _ _) (λ _ _. granted_fine n)) (fine_ret _ _ _ _ refl))

    given_alone : (w : BenchWorld) (Q : R Taken → BenchWorld → Type 0) (r : R Taken) → Q r w → Always (layout_of port.family) (watched q port) (given_bus r) w Q
    unfolding given_bus Always
    given_alone w Q r k = alone_then _ _ (machine_unmoved q port) _ _ _ w Q (esdp_fine give_bus refl) k

    on_grant_alone : (device : ℕ) (f : Prog (R Taken)) (w : BenchWorld) (Q : R Taken → BenchWorld → Type 0)
        → Always (layout_of port.family) (watched q port) f w Q → Always (layout_of port.family) (watched q port) (on_grant device f true) w Q
    unfolding on_grant pick
    on_grant_alone device f w Q h = always_bind _ _ f given_bus w Q (always_map _ _ f w Q _ (λ r w'. given_alone w' Q r) h)

  -- the handshake around a call: what holds at the call's end holds at the whole's
  pub bus_alone : (device : ℕ) (f : Prog (R Taken)) (w : BenchWorld) (Q : R Taken → BenchWorld → Type 0)
      → Always (layout_of port.family) (watched q port) f w Q → Always (layout_of port.family) (watched q port) (with_bus port device f) w Q
  unfolding with_bus pick
  bus_alone device f w Q h = by (qsfp port) refl
    where
      by : (b : Bool) → qsfp port ≡ b → Always (layout_of port.family) (watched q port) (pick b (change ask_bus >>? λ _. granted 200 >>? on_grant device f) f) w Q
      by true e =
          alone_then _ _ (machine_unmoved q port) _ _ _ w Q (esdp_fine (qsfp_plain port e) ask_bus refl)
          (alone_then _ _ (machine_unmoved q port) _ _ _ w Q (granted_fine (qsfp_plain port e) 200) (on_grant_alone (qsfp_plain port e) device f w Q h))
      by false e = h
