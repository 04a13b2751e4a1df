-- The locks: `acquire` and `release` name I2CCTL nowhere and begin no transfer, and where no access fails, no wait lapses and the
-- card stays in, they succeed. ESDP they write only to switch a mux; where that is the machine's, and the master pulls neither
-- line, the module is left alone.
use Prim.Native.Nat.{ℕ, suc, zero}
use mathlib.Core.Path.{◌≡◌, refl}
use mathlib.Core.Bool.{Bool, true, false, not, ◌||◌}
use lib.Dec.{T, eqb}
use Rattle.hardware.specs.declared.Family.{Family}
use Rattle.hardware.specs.declared.Family.TheVariants.{F82599, X540, X550, X552, X553}
use Rattle.hardware.specs.declared.Port.{Port}
use Rattle.hardware.specs.Asked.{is}
use Rattle.hardware.specs.Prog.{Prog, R, Ok, Err, or_err, pick}
use Rattle.hardware.specs.Registers.{STATUS, ESDP}
use Rattle.hardware.specs.Change.{change}
use Rattle.sync.specs.Regs.{TRIES, swsm, sw_fw_sync, tries, smbi_watch, regsmp_watch, set_swesmbi, back_swsm, clear_sync}
use Rattle.sync.specs.Lock.{swesmbi, swesmbi_seen, lapsed, swesmbi_done, regsmp_done, second, smbi_done, lock, unlock}
use Rattle.sync.specs.Resource.{muxed, taken, free, sync_seen, acquire_tries, acquire_bits, settle, cleared, clear_bits, clearing, unmuxed}
use Rattle.bus.specs.declared.Layout.{Layout}
use Rattle.bus.specs.Layout.{x550em, layout_of}
use Rattle.wire.specs.Machine.{Side, World, models}
use Rattle.wire.specs.Always.{Always}
use Rattle.wire.proofs.Always.{always_pick}
use Rattle.wire.proofs.Lines.{status_other}
use Rattle.wire.proofs.Distinct.{distinct}
use Rattle.demand.specs.Fine.{Fine}
use Rattle.transfer.specs.declared.attempt.Sequence.{Sequence}
use Rattle.demand.specs.Claim.{CountedBench, stays_in, caged}
use Rattle.demand.specs.Mux.{Switches, watched}
use Rattle.bench.specs.Mux.{has_mux}
use Rattle.wire.specs.Lines.{Pulls}
use Rattle.hardware.specs.declared.Access.{Access}
use Rattle.demand.proofs.Fine.{Good, Fair, Beside, Unmoved, fine_map, fine_then, fine_or, fine_try, fine_pick, fine_ok, fine_lapsed, fine_read, fine_write, fine_wait, fine_delay, fine_change, fine_poll, fine_always, fine_tried}

-- the registers of the locks
pub record Aside (l : Layout) (o : Side) (family : Family) : Type 0 where
  pub status : models l o STATUS ≡ false
  pub swesmbi : Beside l o 0x10140
  pub swsm : Beside l o (swsm family)
  pub sync : Beside l o (sw_fw_sync family)

module _ (l : Layout) (o : Side) where
  swesmbi_fine : {f : Family} → Aside l o f → (n : ℕ) → Fine l o (swesmbi n) Fair
  unfolding swesmbi swesmbi_seen
  swesmbi_fine s zero = fine_ok l o false
  swesmbi_fine s (suc n) =
      fine_try l o _ _ _ _ (fine_change l o s.status set_swesmbi s.swesmbi)
      (λ _ _. fine_try l o _ _ _ _ (fine_read l o _ s.swesmbi)
      (λ v _. fine_pick l o _ _ _ _ (fine_wait l o _ _ _ (λ _. swesmbi_fine s n)) (fine_ok l o true)))

  second_fine : (f : Family) → Aside l o f → Fine l o (second f) Fair
  unfolding second swesmbi_done regsmp_done lapsed regsmp_watch
  second_fine f s =
      fine_pick l o _ _ _ _
      (fine_try l o _ _ _ _ (swesmbi_fine s TRIES) (λ got _. fine_pick l o got _ _ _ (fine_ok l o tt) (fine_lapsed l o _ _)))
      (fine_try l o _ _ _ _ (fine_poll l o _ s.sync TRIES 0) (λ v _. fine_pick l o _ _ _ _ (fine_ok l o tt) (fine_lapsed l o _ _)))

  pub lock_fine : (f : Family) → Aside l o f → Fine l o (lock f) Fair
  unfolding lock smbi_done smbi_watch
  lock_fine f s =
      fine_try l o _ _ _ _ (fine_poll l o _ s.swsm TRIES 0)
      (λ v _. fine_pick l o _ _ _ _ (second_fine f s) (fine_lapsed l o _ _))

  back_fine : (f : Family) → Aside l o f → Fine l o (change (back_swsm f)) Fair
  unfolding back_swsm
  back_fine f s = fine_change l o s.status _ s.swsm

  clear_fine : (f : Family) → Aside l o f → (bits : ℕ) → Fine l o (change (clear_sync f bits)) Fair
  unfolding clear_sync
  clear_fine f s bits = fine_change l o s.status _ s.sync

  pub unlock_fine : (f : Family) → Aside l o f → Fine l o (unlock f) Fair
  unfolding unlock
  unlock_fine f s = fine_pick l o _ _ _ _ (back_fine f s) (fine_try l o _ _ _ _ (clear_fine f s _) (λ _ _. back_fine f s))

  module _ (still : Unmoved o) (port : Port) (s : Aside l o port.family) (mask : ℕ) where
    -- the bits are taken, and then the mux is switched
    module _ (w : World o) (Q : R (Unit {0}) → World o → Type 0) (on : Always l o (muxed port mask true) w Q) where
      taken_always : (r : R (Unit {0})) → Fair r → Always l o (taken port mask r) w Q
      unfolding taken or_err Good
      taken_always (Ok u) g = on
      taken_always (Err e) g = absurd g

      free_always : (sync : ℕ) → Always l o (free port mask sync) w Q
      unfolding free
      free_always sync =
          fine_always l o still _ _ w Q
          (fine_map l o _ _ _ (λ r g. fine_tried l o still _ _ _ w Q (unlock_fine port.family s) (λ _ _. taken_always r g)) (fine_write l o _ _ s.sync.other))

      seen_always : (again : ℕ → Prog (R (Unit {0}))) → ((held : ℕ) → Always l o (again held) w Q) → (r : R ℕ) → Fair r → Always l o (sync_seen port mask again r) w Q
      unfolding sync_seen Good
      seen_always again h (Ok sync) g =
          always_pick l o _ _ _ w Q (free_always sync)
          (fine_tried l o still _ _ _ w Q (unlock_fine port.family s) (λ _ _. fine_tried l o still _ _ _ w Q (fine_delay l o _) (λ _ _. h _)))
      seen_always again h (Err e) g = absurd g

      tries_always : (n held : ℕ) → Always l o (acquire_tries port mask n held) w Q
      unfolding acquire_tries Always
      tries_always zero held = tt
      tries_always (suc n) held =
          fine_tried l o still _ _ _ w Q (lock_fine port.family s)
          (λ _ _. fine_always l o still _ _ w Q (fine_map l o _ _ _ (seen_always _ (tries_always n)) (fine_read l o _ s.sync)))

      pub acquire_bits_always : Always l o (acquire_bits port mask) w Q
      unfolding acquire_bits
      acquire_bits_always = tries_always (tries port.family) 0

    settle_fine : Fine l o (settle port mask) Fair
    unfolding settle
    settle_fine = fine_pick l o _ _ _ _ (fine_ok l o tt) (fine_delay l o _)

    -- what a release does once the mux is switched
    pub unmuxed_fine : Fine l o (unmuxed port mask) Fair
    unfolding unmuxed clearing clear_bits cleared
    unmuxed_fine =
        fine_try l o _ _ _ _ (lock_fine port.family s)
        (λ _ _. fine_then l o _ _ _ _ (clear_fine port.family s _)
        (λ w g. fine_try l o _ _ _ _ (unlock_fine port.family s) (λ _ _. fine_or l o _ _ _ (λ _ _. settle_fine) w g)))

-- none of I2CCTL, ESDP and STATUS, whose reads are raw
apart : Layout → ℕ → Bool
apart l r = not (eqb r l.reg || (eqb r ESDP || eqb r STATUS))

-- what is not: it is no register of the machine's, and its checked reads don't say that the card is gone
pub stays : (r v : ℕ) → eqb r STATUS ≡ false → stays_in r v → eqb v 0xffffffff ≡ false
stays r v e m = by (eqb v 0xffffffff) (rw e at m)
  where
    by : (b : Bool) → T (false || not b) → b ≡ false
    by false u = refl
    by true u = absurd u

module _ (mux : Bool) (meets : Access → Pulls → CountedBench → Type 0) where
  beside : (l : Layout) (r : ℕ) → T (apart l r) → Beside l (caged mux meets) r
  unfolding apart models
  beside l r t = record { other = rw (three.0, three.1); present = λ v m. stays r v three.2 m }
    where
      none : (a b c : Bool) → T (not (a || (b || c))) → (a ≡ false) × (b ≡ false) × (c ≡ false)
      none false false false u = (refl, refl, refl)
      none false false true u = absurd u
      none false true c u = absurd u
      none true b c u = absurd u

      three : (eqb r l.reg ≡ false) × (eqb r ESDP ≡ false) × (eqb r STATUS ≡ false)
      three = none (eqb r l.reg) (eqb r ESDP) (eqb r STATUS) t

  aside_by : (f : Family) → T (apart (layout_of f) 0x10140) → T (apart (layout_of f) (swsm f)) → T (apart (layout_of f) (sw_fw_sync f))
      → Aside (layout_of f) (caged mux meets) f
  aside_by f b c d = record { status = status_other (layout_of f) (distinct f) (caged mux meets); swesmbi = beside _ _ b; swsm = beside _ _ c; sync = beside _ _ d }

  -- on every family
  pub asides_of : (f : Family) → Aside (layout_of f) (caged mux meets) f
  unfolding apart layout_of x550em swsm sw_fw_sync is pick
  asides_of F82599 = aside_by F82599 tt tt tt
  asides_of X540 = aside_by X540 tt tt tt
  asides_of X550 = aside_by X550 tt tt tt
  asides_of X552 = aside_by X552 tt tt tt
  asides_of X553 = aside_by X553 tt tt tt

pub aside : (q : Sequence) (port : Port) (f : Family) → Aside (layout_of f) (watched q port) f
aside q port f = asides_of (has_mux port) (Switches q) f

-- ESDP is not I2CCTL
pub esdp_apart : (f : Family) → eqb ESDP (layout_of f).reg ≡ false
unfolding layout_of x550em is pick
esdp_apart F82599 = refl
esdp_apart X540 = refl
esdp_apart X550 = refl
esdp_apart X552 = refl
esdp_apart X553 = refl

-- the bench module and the count of transfers are unmoved by what they note
pub machine_unmoved : (q : Sequence) (port : Port) → Unmoved (watched q port)
machine_unmoved q port = record { acquires = λ s. refl; acquired = λ s. refl; released = λ s. refl }
