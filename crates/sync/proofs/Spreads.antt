-- What spreads (`hardware/proofs/Spreads.antt`) holds of the calls on the semaphores as well.
use Prim.Native.Nat.{ℕ, suc, zero}
use mathlib.Core.Path.{◌≡◌, refl}
use mathlib.Core.Bool.{Bool, true, false}
use Rattle.hardware.specs.declared.Access.{Access}
use Rattle.hardware.specs.declared.Family.{Family}
use Rattle.hardware.specs.declared.Port.{Port}
use Rattle.hardware.specs.Prog.{Prog, ret, R, Ok, Err, pick}
use Rattle.hardware.specs.Registers.{ESDP}
use Rattle.hardware.specs.Change.{change}
use Rattle.sync.specs.Regs.{TRIES, tries, swsm, sw_fw_sync, smbi_watch, regsmp_watch, back_swsm, clear_sync, mux, set_mux}
use Rattle.sync.specs.Lock.{swesmbi, swesmbi_seen, lapsed, swesmbi_done, regsmp_done, second, smbi_done, lock, unlock}
use Rattle.sync.specs.Resource.{muxed, taken, free, sync_seen, acquire_tries, acquire_bits, settle, cleared, clear_bits, clearing, unmuxed, release_bits}
use Rattle.hardware.proofs.Spreads.{Spreads, Open, Passes, or_holds, try_holds, pick_holds, one_holds, change_holds, poll_holds}

-- the registers of the semaphores; SWSM of the 82599 is the one of every family but the X553
pub record Semaphores (May : Access → Type 0) (family : Family) : Type 0 where
  pub passes : Passes May
  pub first : Open May 0x10140
  pub swsm : Open May (swsm family)
  pub sync : Open May (sw_fw_sync family)

module _ (P : (A : Type 0) → Prog A → Type 0) (May : Access → Type 0) (s : Spreads P May) where
  module _ (family : Family) (o : Semaphores May family) where
    swesmbi_holds : (n : ℕ) → P (R Bool) (swesmbi n)
    unfolding swesmbi swesmbi_seen
    swesmbi_holds zero = s.ends _ _
    swesmbi_holds (suc n) =
        try_holds P May s _ _ (change_holds P May s o.passes _ o.first)
        (λ _. try_holds P May s _ _ (one_holds P May s _ _ o.first.reads)
        (λ v. pick_holds P May s _ _ _ (s.asks _ _ _ (o.passes.waits _) (λ _. swesmbi_holds n)) (s.ends _ _)))

    back_holds : P (R (Unit {0})) (change (back_swsm family))
    unfolding back_swsm
    back_holds = change_holds P May s o.passes _ o.swsm

    lapsed_holds : (held : ℕ) → P (R (Unit {0})) (lapsed family held)
    unfolding lapsed
    lapsed_holds held = s.lapses _ _ (try_holds P May s _ _ back_holds (λ _. s.ends _ _))

    second_holds : P (R (Unit {0})) (second family)
    unfolding second swesmbi_done regsmp_done regsmp_watch
    second_holds =
        pick_holds P May s _ _ _ (try_holds P May s _ _ (swesmbi_holds TRIES) (λ got. pick_holds P May s _ _ _ (s.ends _ _) (lapsed_holds _)))
        (try_holds P May s _ _ (poll_holds P May s o.passes _ TRIES 0 o.sync.reads) (λ v. pick_holds P May s _ _ _ (s.ends _ _) (lapsed_holds _)))

    pub lock_holds : P (R (Unit {0})) (lock family)
    unfolding lock smbi_done smbi_watch
    lock_holds =
        try_holds P May s _ _ (poll_holds P May s o.passes _ TRIES 0 o.swsm.reads)
        (λ v. pick_holds P May s _ _ _ second_holds (s.lapses _ _ (s.ends _ _)))

    clear_holds : (cleared : ℕ) → P (R (Unit {0})) (change (clear_sync family cleared))
    unfolding clear_sync
    clear_holds cleared = change_holds P May s o.passes _ o.sync

    pub unlock_holds : P (R (Unit {0})) (unlock family)
    unfolding unlock
    unlock_holds = pick_holds P May s _ _ _ back_holds (try_holds P May s _ _ (clear_holds _) (λ _. back_holds))

  -- the bits given back, once the mux is switched
  module _ (port : Port) (mask : ℕ) (o : Semaphores May port.family) where
    settle_holds : P (R (Unit {0})) (settle port mask)
    unfolding settle
    settle_holds = pick_holds P May s _ _ _ (s.ends _ _) (one_holds P May s _ _ (o.passes.waits _))

    cleared_holds : (w : R (Unit {0})) → P (R (Unit {0})) (cleared port mask w)
    unfolding cleared
    cleared_holds w = try_holds P May s _ _ (unlock_holds port.family o) (λ _. or_holds P May s _ w (λ _. settle_holds))

    pub unmuxed_holds : P (R (Unit {0})) (unmuxed port mask)
    unfolding unmuxed clearing clear_bits
    unmuxed_holds = try_holds P May s _ _ (lock_holds port.family o) (λ _. s.binds _ _ _ _ (clear_holds port.family o _) (λ w. cleared_holds w))

  -- and of a resource, whose mux may be switched where the port has one
  module _ (port : Port) (mask : ℕ) (o : Semaphores May port.family) (m : mux port mask ≡ true → Open May ESDP) where
    mux_holds : (on : Bool) → Open May ESDP → P (R (Unit {0})) (change (set_mux on))
    unfolding set_mux
    mux_holds true e = change_holds P May s o.passes _ e
    mux_holds false e = change_holds P May s o.passes _ e

    muxed_holds : (on : Bool) → P (R (Unit {0})) (muxed port mask on)
    unfolding muxed pick
    muxed_holds on = by (mux port mask) m
      where
        by : (b : Bool) → (b ≡ true → Open May ESDP) → P (R (Unit {0})) (pick b (change (set_mux on)) (ret (Ok tt)))
        by true e = mux_holds on (e refl)
        by false e = s.ends _ _

    free_holds : (sync : ℕ) → P (R (Unit {0})) (free port mask sync)
    unfolding free taken
    free_holds sync =
        s.binds _ _ _ _ (one_holds P May s _ _ (o.sync.writes _))
        (λ w. try_holds P May s _ _ (unlock_holds port.family o) (λ _. or_holds P May s _ w (λ _. muxed_holds true)))

    seen_holds : (again : ℕ → Prog (R (Unit {0}))) → ((held : ℕ) → P (R (Unit {0})) (again held)) → (r : R ℕ)
        → P (R (Unit {0})) (sync_seen port mask again r)
    unfolding sync_seen
    seen_holds again d (Err e) = try_holds P May s _ _ (unlock_holds port.family o) (λ _. s.ends _ _)
    seen_holds again d (Ok sync) =
        pick_holds P May s _ _ _ (free_holds sync)
        (try_holds P May s _ _ (unlock_holds port.family o) (λ _. try_holds P May s _ _ (one_holds P May s _ _ (o.passes.waits _)) (λ _. d _)))

    acquire_tries_holds : (n held : ℕ) → P (R (Unit {0})) (acquire_tries port mask n held)
    unfolding acquire_tries
    acquire_tries_holds zero held = s.lapses _ _ (s.ends _ _)
    acquire_tries_holds (suc n) held =
        try_holds P May s _ _ (lock_holds port.family o)
        (λ _. s.binds _ _ _ _ (one_holds P May s _ _ o.sync.reads) (λ r. seen_holds _ (acquire_tries_holds n) r))

    pub acquire_bits_holds : P (R (Unit {0})) (acquire_bits port mask)
    unfolding acquire_bits
    acquire_bits_holds = acquire_tries_holds (tries port.family) 0

    pub release_bits_holds : P (R (Unit {0})) (release_bits port mask)
    unfolding release_bits
    release_bits_holds = try_holds P May s _ _ (muxed_holds false) (λ _. unmuxed_holds port mask o)
