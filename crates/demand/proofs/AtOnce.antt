-- Laws of `AtOnce` for any call, what `at_once` answers, and that with its answers no lock runs out.
use Prim.Native.Nat.{ℕ, suc}
use mathlib.Core.Path.{◌≡◌, refl, ap, subst}
use mathlib.Core.Bool.{Bool, true, false, ◌||◌}
use lib.Bits.{and_zero_l}
use lib.Dec.{T, eqb}
use Rattle.hardware.specs.declared.Family.{Family}
use Rattle.hardware.specs.declared.Family.TheVariants.{F82599, X540, X550, X552, X553}
use Rattle.hardware.specs.declared.Port.{Port}
use Rattle.hardware.specs.declared.Access.{Access}
use Rattle.hardware.specs.declared.Access.TheVariants.{Read, Write, Wait}
use Rattle.hardware.specs.declared.Answer.{Answer}
use Rattle.hardware.specs.declared.Answer.TheVariants.{Value}
use Rattle.hardware.specs.declared.change.Change.{Change}
use Rattle.hardware.specs.declared.poll.Watch.{Watch}
use Rattle.hardware.specs.Asked.{is, fits}
use Rattle.hardware.specs.Prog.{Prog, ret, ask, note, give, Note, Attempt, Acquires, Acquired, Released, Lapsed, Acknowledged, R, Ok, Err, or_err, ◌>>=◌, ◌>>?◌, pick}
use Rattle.hardware.specs.Registers.{STATUS, ESDP, none_of, checked, written, flushed, read, write, delay}
use Rattle.hardware.specs.Change.{settled, stored, change}
use Rattle.hardware.specs.Poll.{polled, poll}
use Rattle.sync.specs.Regs.{TOKEN, SMBI, REGSMP, swsm, sw_fw_sync, tries, smbi_watch, regsmp_watch, set_swesmbi, back_swsm, clear_sync}
use Rattle.sync.specs.Lock.{swesmbi, swesmbi_seen, swesmbi_done, regsmp_done, second, smbi_done, lock, unlock}
use Rattle.sync.specs.Resource.{against, muxed, taken, free, sync_seen, acquire_tries, acquire_bits, settle, cleared, clear_bits, clearing, unmuxed, release_bits}
use Rattle.hostif.specs.Acquire.{hw_of, with_bits, acquired_all, acquire, give_bits, release}
use Rattle.bus.specs.declared.Layout.{Layout}
use Rattle.bus.specs.Layout.{layout_of}
use Rattle.bus.proofs.Noteless.{Noteless}
use Rattle.wire.specs.Machine.{Side, models, modelled}
use Rattle.wire.specs.Always.{Either}
use Rattle.wire.proofs.Always.{either_map}
use Rattle.demand.specs.Fine.{Unlapsed, AtOnce}
use Rattle.demand.specs.Claim.{stays_in, machine}
use Rattle.bench.specs.Mux.{has_mux}
use Rattle.bench.specs.AtOnce.{at_once_at, at_once}
use Rattle.demand.proofs.Locks.{Aside, asides_of, esdp_apart}

-- what holds for any answer holds for the chosen one
either_any : {A : Type 0} (b : Bool) (P : A → Type 0) (a : A) → ((c : A) → P c) → Either b ((c : A) → P c) (P a)
either_any true P a h = h
either_any false P a h = h a

unlapsed_map : (n : Note) (X Y : Type 0) → (X → Y) → Unlapsed n X → Unlapsed n Y
unlapsed_map Attempt X Y f h = f h
unlapsed_map Acquires X Y f h = f h
unlapsed_map Acquired X Y f h = f h
unlapsed_map Released X Y f h = f h
unlapsed_map Lapsed X Y f h = h
unlapsed_map (Acknowledged sample) X Y f h = f h

module _ (l : Layout) (o : Side) (answers : Access → Answer) where
  -- what follows from Q holds too
  pub at_once_map : {A : Type 0} (p : Prog A) (Q S : A → Type 0) → ((a : A) → Q a → S a) → AtOnce l o answers p Q → AtOnce l o answers p S
  unfolding AtOnce
  at_once_map (ret a) Q S f h = f a h
  at_once_map (ask x k) Q S f h = either_map (modelled l o x) (λ g a. at_once_map (k a) Q S f (g a)) (at_once_map (k (answers x)) Q S f) h
  at_once_map (note n p) Q S f h = unlapsed_map n _ _ (at_once_map p Q S f) h
  at_once_map (give b p) Q S f h = at_once_map p Q S f h

  -- one call after another
  pub at_once_bind : {A B : Type 0} (p : Prog A) (k : A → Prog B) (Q : B → Type 0) → AtOnce l o answers p (λ a. AtOnce l o answers (k a) Q)
      → AtOnce l o answers (p >>= k) Q
  unfolding AtOnce ◌>>=◌
  at_once_bind (ret a) k Q h = h
  at_once_bind (ask x f) k Q h = either_map (modelled l o x) (λ g a. at_once_bind (f a) k Q (g a)) (at_once_bind (f (answers x)) k Q) h
  at_once_bind (note n p) k Q h = unlapsed_map n _ _ (at_once_bind p k Q) h
  at_once_bind (give b p) k Q h = at_once_bind p k Q h

  pub at_once_then : {A B : Type 0} (p : Prog A) (k : A → Prog B) (P : A → Type 0) (Q : B → Type 0) → AtOnce l o answers p P
      → ((a : A) → P a → AtOnce l o answers (k a) Q) → AtOnce l o answers (p >>= k) Q
  at_once_then p k P Q h f = at_once_bind p k Q (at_once_map p P _ f h)

  -- the same where a call gives one value only
  pub at_once_next : {A B : Type 0} (p : Prog A) (k : A → Prog B) (a : A) (Q : B → Type 0) → AtOnce l o answers p (λ x. x ≡ a) → AtOnce l o answers (k a) Q
      → AtOnce l o answers (p >>= k) Q
  at_once_next p k a Q h g = at_once_then p k _ Q h (λ x e. rw e g)

  pub at_once_try : {A B : Type 0} (p : Prog (R A)) (k : A → Prog (R B)) (a : A) (Q : R B → Type 0) → AtOnce l o answers p (λ x. x ≡ Ok a)
      → AtOnce l o answers (k a) Q → AtOnce l o answers (p >>? k) Q
  unfolding or_err
  at_once_try p k a Q h g = at_once_next p (or_err k) (Ok a) Q h g

  pub at_once_pick : {A : Type 0} (b : Bool) (p q : Prog A) (Q : A → Type 0) → AtOnce l o answers p Q → AtOnce l o answers q Q → AtOnce l o answers (pick b p q) Q
  unfolding pick
  at_once_pick true p q Q h g = h
  at_once_pick false p q Q h g = g

  pub at_once_ret : {A : Type 0} (a : A) (Q : A → Type 0) → Q a → AtOnce l o answers (ret a) Q
  unfolding AtOnce
  at_once_ret a Q h = h

  pub at_once_note : {A : Type 0} (n : Note) (p : Prog A) (Q : A → Type 0) → Unlapsed n (AtOnce l o answers p Q) → AtOnce l o answers (note n p) Q
  unfolding AtOnce
  at_once_note n p Q h = h

  -- an access of another register
  pub at_once_ask : {A : Type 0} (x : Access) (f : Answer → Prog A) (Q : A → Type 0) → modelled l o x ≡ false → AtOnce l o answers (f (answers x)) Q
      → AtOnce l o answers (ask x f) Q
  unfolding AtOnce
  at_once_ask x f Q e h = rw e h

  -- a call that notes nothing, whatever the answers are
  pub noteless_at_once : {A : Type 0} (p : Prog A) (Q : A → Type 0) → Noteless p → ((a : A) → Q a) → AtOnce l o answers p Q
  unfolding AtOnce Noteless
  noteless_at_once (ret a) Q h f = f a
  noteless_at_once (ask x k) Q h f = either_any (modelled l o x) _ (answers x) (λ a. noteless_at_once (k a) Q (h a) f)
  noteless_at_once (note Attempt p) Q h f = absurd h.0
  noteless_at_once (note Acquires p) Q h f = absurd h.0
  noteless_at_once (note Acquired p) Q h f = absurd h.0
  noteless_at_once (note Released p) Q h f = absurd h.0
  noteless_at_once (note Lapsed p) Q h f = absurd h.0
  noteless_at_once (note (Acknowledged sample) p) Q h f = noteless_at_once p Q h.1 f
  noteless_at_once (give b p) Q h f = noteless_at_once p Q h f

-- what a register reads is 2 or 0
either_way : (P : ℕ → Type 0) → P 2 → P 0 → (r : ℕ) → P (at_once_at r)
unfolding at_once_at pick
either_way P h g r = way (eqb r 0x10140 || eqb r ESDP)
  where
    way : (b : Bool) → P (pick b 2 0)
    way true = h
    way false = g

-- every answer is of the awaited kind
pub at_once_fits : (x : Access) → T (fits x (at_once x))
unfolding fits at_once
at_once_fits (Read r) = tt
at_once_fits (Write r v) = tt
at_once_fits (Wait us) = tt

-- and by what is read the card stays in
pub at_once_stays : (r v : ℕ) → at_once (Read r) ≡ Value v → stays_in r v
unfolding at_once
at_once_stays r v e = let z : at_once_at r ≡ v = cc in subst (stays_in r) z (either_way (stays_in r) (or_true (eqb r STATUS)) (or_true (eqb r STATUS)) r)
  where
    or_true : (b : Bool) → T (b || true)
    or_true true = tt
    or_true false = tt

smbi_clear : (r : ℕ) → none_of (at_once_at r) SMBI ≡ true
unfolding none_of
smbi_clear = either_way (λ v. none_of v SMBI ≡ true) refl refl

regsmp_clear : (r : ℕ) → none_of (at_once_at r) REGSMP ≡ true
unfolding none_of
regsmp_clear = either_way (λ v. none_of v REGSMP ≡ true) refl refl

module _ (l : Layout) (o : Side) where
  pub read_at_once : (r : ℕ) → models l o r ≡ false → AtOnce l o at_once (read r) (λ x. x ≡ Ok (at_once_at r))
  unfolding modelled at_once checked pick
  read_at_once r e = at_once_ask l o at_once _ _ _ e (at_once_ret l o at_once _ _ (rw (either_way (λ v. eqb v 0xffffffff ≡ false) refl refl r)))

  pub write_at_once : (r v : ℕ) → models l o r ≡ false → AtOnce l o at_once (write r v) (λ x. x ≡ Ok tt)
  unfolding modelled at_once written
  write_at_once r v e = at_once_ask l o at_once _ _ _ e (at_once_ret l o at_once _ _ refl)

  pub delay_at_once : (us : ℕ) → AtOnce l o at_once (delay us) (λ x. x ≡ Ok tt)
  unfolding modelled
  delay_at_once us = at_once_ask l o at_once _ _ _ refl (at_once_ret l o at_once _ _ refl)

  -- the bit is clear at the first look
  pub poll_at_once : (w : Watch) (n last : ℕ) → models l o w.register ≡ false → none_of (at_once_at w.register) w.bit ≡ true
      → AtOnce l o at_once (poll w (suc n) last) (λ x. x ≡ Ok (at_once_at w.register))
  unfolding poll polled pick
  poll_at_once w n last e h = at_once_try l o at_once _ _ _ _ (read_at_once _ e) (rw h (at_once_ret l o at_once _ _ refl))

  module _ (f : Family) (s : Aside l o f) where
    settled_at_once : (b : Bool) → AtOnce l o at_once (settled b) (λ x. x ≡ Ok tt)
    unfolding settled modelled at_once flushed
    settled_at_once true = at_once_ask l o at_once _ _ _ s.status (at_once_ret l o at_once _ _ refl)
    settled_at_once false = at_once_ret l o at_once _ _ refl

    pub change_at_once : (c : Change) → models l o c.register ≡ false → AtOnce l o at_once (change c) (λ x. x ≡ Ok tt)
    unfolding change stored
    change_at_once c e =
        at_once_try l o at_once _ _ _ _ (read_at_once _ e) (at_once_try l o at_once _ _ _ _ (write_at_once _ _ e) (settled_at_once c.flushed))

    swesmbi_at_once : (n : ℕ) → AtOnce l o at_once (swesmbi (suc n)) (λ x. x ≡ Ok true)
    unfolding swesmbi swesmbi_seen at_once_at none_of pick
    swesmbi_at_once n =
        at_once_try l o at_once _ _ _ _ (change_at_once set_swesmbi s.swesmbi.other)
        (at_once_try l o at_once (read 0x10140) _ _ _ (read_at_once 0x10140 s.swesmbi.other) (at_once_ret l o at_once _ _ refl))

    swesmbi_came : AtOnce l o at_once (swesmbi_done f true) (λ x. x ≡ Ok tt)
    unfolding swesmbi_done pick
    swesmbi_came = at_once_ret l o at_once _ _ refl

    regsmp_came : (r : ℕ) → AtOnce l o at_once (regsmp_done f (at_once_at r)) (λ x. x ≡ Ok tt)
    unfolding regsmp_done pick
    regsmp_came r = rw (regsmp_clear r) (at_once_ret l o at_once _ _ refl)

    second_at_once : AtOnce l o at_once (second f) (λ x. x ≡ Ok tt)
    unfolding second regsmp_watch
    second_at_once =
        at_once_pick l o at_once _ _ _ _ (at_once_try l o at_once _ _ _ _ (swesmbi_at_once 1999) swesmbi_came)
        (at_once_try l o at_once _ _ _ _ (poll_at_once _ 1999 0 s.sync.other (regsmp_clear _)) (regsmp_came _))

    pub lock_at_once : AtOnce l o at_once (lock f) (λ x. x ≡ Ok tt)
    unfolding lock smbi_done smbi_watch pick
    lock_at_once = at_once_try l o at_once _ _ _ _ (poll_at_once _ 1999 0 s.swsm.other (smbi_clear _)) (rw (smbi_clear (swsm f)) second_at_once)

    back_at_once : AtOnce l o at_once (change (back_swsm f)) (λ x. x ≡ Ok tt)
    unfolding back_swsm
    back_at_once = change_at_once _ s.swsm.other

    clear_at_once : (bits : ℕ) → AtOnce l o at_once (change (clear_sync f bits)) (λ x. x ≡ Ok tt)
    unfolding clear_sync
    clear_at_once bits = change_at_once _ s.sync.other

    pub unlock_at_once : AtOnce l o at_once (unlock f) (λ x. x ≡ Ok tt)
    unfolding unlock
    unlock_at_once = at_once_pick l o at_once _ _ _ _ back_at_once (at_once_try l o at_once _ _ _ _ (clear_at_once _) back_at_once)

-- SW_FW_SYNC reads 0
sync_free : (f : Family) → at_once_at (sw_fw_sync f) ≡ 0
unfolding at_once_at sw_fw_sync is pick
sync_free F82599 = refl
sync_free X540 = refl
sync_free X550 = refl
sync_free X552 = refl
sync_free X553 = refl

against_none : (n : ℕ) → none_of 0 n ≡ true
unfolding none_of
against_none n = ap (λ v. eqb v 0) (and_zero_l n)

-- there is a try
some_tries : (f : Family) → (n : ℕ) × (tries f ≡ suc n)
some_tries F82599 = (199, refl)
some_tries X540 = (199, refl)
some_tries X550 = (999, refl)
some_tries X552 = (999, refl)
some_tries X553 = (999, refl)

-- what changes a register notes nothing
settled_noteless : (b : Bool) → Noteless (settled b)
unfolding settled Noteless
settled_noteless true = λ a. tt
settled_noteless false = tt

stored_noteless : (c : Change) (r : R ℕ) → Noteless (or_err (stored c) r)
unfolding stored or_err Noteless ◌>>=◌
stored_noteless c (Ok v) = λ a. by (written a)
  where
    by : (w : R (Unit {0})) → Noteless (or_err (λ _. settled c.flushed) w)
    by (Ok u) = settled_noteless c.flushed
    by (Err e) = tt
stored_noteless c (Err e) = tt

change_noteless : (c : Change) → Noteless (change c)
unfolding change Noteless ◌>>=◌
change_noteless c = λ a. stored_noteless c (checked a)

module _ (l : Layout) (o : Side) where
  -- where nothing is asked of the results
  pub at_once_any : {A B : Type 0} (p : Prog (R A)) (k : A → Prog (R B)) → AtOnce l o at_once p (λ _. Unit {0}) → ((a : A) → AtOnce l o at_once (k a) (λ _. Unit {0}))
      → AtOnce l o at_once (p >>? k) (λ _. Unit {0})
  unfolding or_err
  at_once_any {A} p k h f = at_once_then l o at_once p (or_err k) _ _ h (λ r _. by r)
    where
      by : (r : R A) → AtOnce l o at_once (or_err k r) (λ _. Unit {0})
      by (Ok a) = f a
      by (Err e) = at_once_ret l o at_once _ _ tt

  module _ (port : Port) (s : Aside l o port.family) (mask : ℕ) where
    -- the mux, whether ESDP is the machine's or not
    muxed_at_once : (on : Bool) → AtOnce l o at_once (muxed port mask on) (λ _. Unit {0})
    unfolding muxed
    muxed_at_once on = at_once_pick l o at_once _ _ _ _ (noteless_at_once l o at_once _ _ (change_noteless _) (λ _. tt)) (at_once_ret l o at_once _ _ tt)

    free_at_once : (sync : ℕ) → AtOnce l o at_once (free port mask sync) (λ _. Unit {0})
    unfolding free taken or_err
    free_at_once sync =
        at_once_next l o at_once _ _ _ _ (write_at_once l o _ _ s.sync.other)
        (at_once_try l o at_once _ _ _ _ (unlock_at_once l o port.family s) (muxed_at_once true))

    seen_at_once : (again : ℕ → Prog (R (Unit {0}))) → AtOnce l o at_once (sync_seen port mask again (Ok 0)) (λ _. Unit {0})
    unfolding sync_seen pick
    seen_at_once again = rw (against_none (against port.family mask)) (free_at_once 0)

    acquire_tries_at_once : (n held : ℕ) → AtOnce l o at_once (acquire_tries port mask (suc n) held) (λ _. Unit {0})
    unfolding acquire_tries
    acquire_tries_at_once n held =
        at_once_try l o at_once _ _ _ _ (lock_at_once l o port.family s)
        (at_once_next l o at_once _ _ _ _ (read_at_once l o _ s.sync.other) (rw (sync_free port.family) (seen_at_once _)))

    acquire_bits_at_once : AtOnce l o at_once (acquire_bits port mask) (λ _. Unit {0})
    unfolding acquire_bits
    acquire_bits_at_once = let n = some_tries port.family in rw n.1 (acquire_tries_at_once n.0 0)

    settle_at_once : AtOnce l o at_once (settle port mask) (λ x. x ≡ Ok tt)
    unfolding settle
    settle_at_once = at_once_pick l o at_once _ _ _ _ (at_once_ret l o at_once _ _ refl) (delay_at_once l o _)

    cleared_at_once : AtOnce l o at_once (cleared port mask (Ok tt)) (λ x. x ≡ Ok tt)
    unfolding cleared or_err
    cleared_at_once = at_once_try l o at_once _ _ _ _ (unlock_at_once l o port.family s) settle_at_once

    release_bits_at_once : AtOnce l o at_once (release_bits port mask) (λ _. Unit {0})
    unfolding release_bits unmuxed clearing clear_bits
    release_bits_at_once =
        at_once_any _ _ (muxed_at_once false)
        (λ _. at_once_map l o at_once _ _ _ (λ _ _. tt)
        (at_once_try l o at_once _ _ _ _ (lock_at_once l o port.family s)
        (at_once_next l o at_once _ _ _ _ (clear_at_once l o port.family s _) cleared_at_once)))

    given_at_once : AtOnce l o at_once (give_bits port mask (Ok tt)) (λ _. Unit {0})
    unfolding give_bits with_bits
    given_at_once =
        at_once_any _ _ (at_once_pick l o at_once _ _ _ _ (at_once_ret l o at_once _ _ tt) release_bits_at_once)
        (λ _. at_once_ret l o at_once _ _ tt)

-- the locks' registers of a port's machine
machine_aside : (port : Port) → Aside (layout_of port.family) (machine port) port.family
machine_aside port = asides_of (has_mux port) _ port.family

-- whatever the port, and whatever the bits of SW_FW_SYNC in the mask; it has no token
pub acquire_at_once : (port : Port) (mask : ℕ) → none_of mask TOKEN ≡ true → AtOnce (layout_of port.family) (machine port) at_once (acquire port mask) (λ _. Unit {0})
unfolding acquire acquired_all pick
acquire_at_once port mask e =
    at_once_note _ _ _ Acquires _ _
    (rw e
    (at_once_any _ _ _ _ (acquire_bits_at_once _ _ port (machine_aside port) (hw_of mask)) (λ _. at_once_note _ _ _ Acquired _ _ (at_once_ret _ _ _ _ _ tt))))

pub release_at_once : (port : Port) (mask : ℕ) → none_of mask TOKEN ≡ true → AtOnce (layout_of port.family) (machine port) at_once (release port mask) (λ _. Unit {0})
unfolding release pick
release_at_once port mask e = at_once_note _ _ _ Released _ _ (rw e (given_at_once _ _ port (machine_aside port) (hw_of mask)))

-- ESDP where it is not the machine's: a bit is set or cleared, and is read
pub esdp_at_once : (port : Port) → has_mux port ≡ false → (c : Change) → c.register ≡ ESDP → AtOnce (layout_of port.family) (machine port) at_once (change c) (λ r. r ≡ Ok tt)
unfolding models
esdp_at_once port none c e = change_at_once _ _ port.family (machine_aside port) c (rw (e, esdp_apart port.family, none))

pub read_esdp_at_once : (port : Port) → has_mux port ≡ false → AtOnce (layout_of port.family) (machine port) at_once (read ESDP) (λ x. x ≡ Ok (at_once_at ESDP))
unfolding models
read_esdp_at_once port none = read_at_once _ _ ESDP (rw (esdp_apart port.family, none))
