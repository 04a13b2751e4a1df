-- An acquire whose write to the mux register fails reports the failure with its bits still taken, whatever was answered before.
use Prim.Native.Nat.{ℕ, ◌+◌, suc, zero}
use mathlib.Core.Path.{◌≡◌, refl, ap, ◌∙◌, sym, subst}
use mathlib.Core.Bool.{Bool, true, false, false≢true}
use mathlib.Core.List.{List, [], ◌∷◌, ◌++◌, append-nil, append_assoc}
use mathlib.Core.Logic.{inl, inr}
use native.Mathlib.Omega.{arith}
use lib.Dec.{eqb}
use Rattle.hardware.specs.declared.Access.{Access}
use Rattle.hardware.specs.declared.Access.TheVariants.{Read, Write}
use Rattle.hardware.specs.declared.Answer.{Answer}
use Rattle.hardware.specs.declared.Answer.TheVariants.{Value, Done, Failed}
use Rattle.hardware.specs.Failures.{Failure, Io, Removed}
use Rattle.hardware.specs.declared.Family.TheVariants.{X552}
use Rattle.hardware.specs.declared.Port.{Port}
use Rattle.hardware.specs.declared.change.Bits.{Bits}
use Rattle.hardware.specs.declared.change.Bits.TheVariants.{Set, Clear}
use Rattle.hardware.specs.declared.change.Change.{Change}
use Rattle.hardware.specs.Asked.{is}
use Rattle.hardware.specs.Prog.{Prog, ret, ask, note, give, R, Ok, Err, or_err, ◌>>=◌, ◌>>?◌, pick}
use Rattle.hardware.specs.Registers.{ESDP, none_of, checked, raw, written, flushed, flush}
use Rattle.hardware.specs.Change.{changed, settled, stored, change}
use Rattle.hardware.specs.Poll.{polled, poll}
use Rattle.hardware.specs.Runs.{Status, run, on_answer, ended, waiting}
use Rattle.sync.specs.Regs.{I2C, TOKEN, tries, bits, bits_x540, mux, set_mux, back_swsm, clear_sync, smbi_watch, regsmp_watch, release_us}
use Rattle.sync.specs.Lock.{regsmp_done, second, smbi_done, lock, unlock}
use Rattle.sync.specs.Resource.{muxed, taken, free, sync_seen, against, acquire_tries, acquire_bits, settle, cleared, clear_bits, clearing, unmuxed, release_bits}
use Rattle.hostif.specs.Hostif.{header, len_of, status_of, words_of, words, completed, polling, start, enabled, hicr_read, request, fill, head_seen, respond, both, closed, released, requested, acquired, command, token_second, token_block, token_status, tokened, token}
use Rattle.hostif.specs.Acquire.{TOKEN_TRIES, hw_of, with_bits, acquired_all, not_granted, given_back, token_seen, acquire_token, acquire}
use Rattle.hostif.proofs.Plain.{acquire_plain}
use Rattle.acquire.specs.MuxFails.{History, exchanged, bits_written, BitsTaken, StillTaken, Took, StillOurs, MuxFails}
use Rattle.acquire.proofs.Spares.{to_mux, Spares, spares_one, sync_spared, lock_spares, unlock_spares, unmuxed_spares, token_spares, alone_spares}

busy : ◌≡◌ {A = R Bool} (Ok false) (Ok true) → ⊥
busy e = false≢true cc

failed : (f : Failure) → ◌≡◌ {A = R Bool} (Err f) (Ok true) → ⊥
failed f e = let z : ◌≡◌ {A = ℕ} 0 1 = cc in omega arith

waiting_same : {A : Type 0} {x y : Access} → ◌≡◌ {A = Status A} (waiting x) (waiting y) → x ≡ y
waiting_same e = cc

write_same : {r v w : ℕ} → Write r v ≡ Write r w → v ≡ w
write_same e = cc

ended_not : {A : Type 0} {v : A} {x : Access} → ended v ≡ waiting x → ⊥
ended_not e = let z : ◌≡◌ {A = ℕ} 0 1 = cc in omega arith

-- a write to ESDP is not spared
spared_not : {x : Access} {v : ℕ} → x ≡ Write ESDP v → to_mux x ≡ false → ⊥
spared_not e s = false≢true (sym s ∙ ap to_mux e)

-- nothing is said of the end
abbrev Unsaid : {A : Type 0} → History → R A → Type 0
Unsaid h r = Unit {0}

-- h happened before. Where a write to ESDP is reached, the history is Good for its value, and its failure ends the call with Io; at an end
-- the history is as Post says
unfoldable Leads : {A : Type 0} → (History → ℕ → Type 0) → (History → R A → Type 0) → History → Prog (R A) → Type 0
Leads Good Post h (ret v) = Post h v
Leads Good Post h (ask x f) = ((v : ℕ) → x ≡ Write ESDP v → Good h v × (f Failed ≡ ret (Err Io))) × ((a : Answer) → Leads Good Post (h ++ (x, a) ∷ []) (f a))
Leads Good Post h (note n p) = Leads Good Post h p
Leads Good Post h (give b p) = Leads Good Post h p

leads_more : {A : Type 0} (Good Good' : History → ℕ → Type 0) (Post Post' : History → R A → Type 0) → ((g : History) (v : ℕ) → Good g v → Good' g v) → ((g : History) (r : R A) → Post g r → Post' g r)
    → (h : History) (p : Prog (R A)) → Leads Good Post h p → Leads Good' Post' h p
unfolding Leads
leads_more Good Good' Post Post' good post h (ret v) e = post h v e
leads_more Good Good' Post Post' good post h (ask x f) e = (λ v t. (good h v (e.0 v t).0, (e.0 v t).1), λ a. leads_more Good Good' Post Post' good post _ (f a) (e.1 a))
leads_more Good Good' Post Post' good post h (note n p) e = leads_more Good Good' Post Post' good post h p e
leads_more Good Good' Post Post' good post h (give b p) e = leads_more Good Good' Post Post' good post h p e

-- the history at an end is what p was run over, behind h
abbrev Ran : {A : Type 0} → History → Prog (R A) → History → R A → Type 0
Ran h p g r = (l : List Answer) × ((run p l).status ≡ ended r) × (g ≡ h ++ exchanged p l)

leads_ran : {A : Type 0} (Good : History → ℕ → Type 0) (h : History) (p : Prog (R A)) → Leads Good Unsaid h p → Leads Good (Ran h p) h p
unfolding Leads exchanged run on_answer
leads_ran Good h (ret v) e = ([], refl, sym (append-nil h))
leads_ran Good h (ask x f) e = (
  e.0,
  λ a. leads_more Good Good (Ran (h ++ (x, a) ∷ []) (f a)) (Ran h (ask x f)) (λ g v t. t) (λ g r t. (a ∷ t.0, t.1, t.2 ∙ append_assoc h ((x, a) ∷ []) (exchanged (f a) t.0))) _ (f a) (leads_ran Good (h ++ (x, a) ∷ []) (f a) (e.1 a)),
)
leads_ran Good h (note n p) e = leads_ran Good h p e
leads_ran Good h (give b p) e = leads_ran Good h p e

module _ (Good : History → ℕ → Type 0) where
  -- a call that does not write to ESDP, and then k
  leads_bind : {A B : Type 0} (Post : History → R B → Type 0) (h : History) (p : Prog A) (k : A → Prog (R B)) → Spares p
      → ((u : List Answer) (v : A) → (run p u).status ≡ ended v → Leads Good Post (h ++ exchanged p u) (k v)) → Leads Good Post h (p >>= k)
  unfolding Leads Spares exchanged run on_answer ◌>>=◌
  leads_bind Post h (ret a) k s d = subst (λ t. Leads Good Post t (k a)) (append-nil h) (d [] a refl)
  leads_bind Post h (ask x f) k s d = (
    λ v e. absurd (spared_not e s.0),
    λ a. leads_bind Post (h ++ (x, a) ∷ []) (f a) k (s.1 a)
        (λ u v e. subst (λ t. Leads Good Post t (k v)) (sym (append_assoc h ((x, a) ∷ []) (exchanged (f a) u))) (d (a ∷ u) v e)),
  )
  leads_bind Post h (note n p) k s d = leads_bind Post h p k s d
  leads_bind Post h (give b p) k s d = leads_bind Post h p k s d

  leads_spared : {A : Type 0} (h : History) (p : Prog (R A)) → Spares p → Leads Good Unsaid h p
  unfolding Leads Spares
  leads_spared h (ret v) s = tt
  leads_spared h (ask x f) s = (λ v e. absurd (spared_not e s.0), λ a. leads_spared _ (f a) (s.1 a))
  leads_spared h (note n p) s = leads_spared h p s
  leads_spared h (give b p) s = leads_spared h p s

  -- one that may write to it, and then k where it succeeded
  leads_then : {A B : Type 0} (Post : History → R A → Type 0) (h : History) (p : Prog (R A)) (k : A → Prog (R B)) → Leads Good Post h p
      → ((g : History) (a : A) → Post g (Ok a) → Leads Good Unsaid g (k a)) → Leads Good Unsaid h (p >>? k)
  unfolding Leads or_err ◌>>=◌
  leads_then Post h (ret (Ok a)) k e d = d h a e
  leads_then Post h (ret (Err error)) k e d = tt
  leads_then Post h (ask x f) k e d = (
    λ v t. ((e.0 v t).0, ap (λ p. p >>= or_err k) (e.0 v t).1),
    λ a. leads_then Post _ (f a) k (e.1 a) d,
  )
  leads_then Post h (note n p) k e d = leads_then Post h p k e d
  leads_then Post h (give b p) k e d = leads_then Post h p k e d

  leads_pick : {A : Type 0} (Post : History → R A → Type 0) (h : History) (b : Bool) (p q : Prog (R A)) → Leads Good Post h p → Leads Good Post h q → Leads Good Post h (pick b p q)
  unfolding pick
  leads_pick Post h true p q e d = e
  leads_pick Post h false p q e d = d

  -- and so of a run that awaits such a write
  awaits : {A : Type 0} (h : History) (p : Prog (R A)) (l : List Answer) (v : ℕ) → Leads Good Unsaid h p → (run p l).status ≡ waiting (Write ESDP v)
      → Good (h ++ exchanged p l) v
      × ((run p (l ++ Failed ∷ [])).status ≡ ended (Err Io))
      × ((run p (l ++ Failed ∷ [])).accesses ≡ (run p l).accesses ++ Write ESDP v ∷ [])
  unfolding Leads exchanged run on_answer
  awaits h (ret r) l v e w = absurd (ended_not w)
  awaits h (ask x f) [] v e w =
      let same : x ≡ Write ESDP v = waiting_same w in
      let here = e.0 v same in (
        subst (λ t. Good t v) (sym (append-nil h)) here.0,
        ap (λ p. (run p []).status) here.1,
        ap (λ p. x ∷ (run p []).accesses) here.1 ∙ ap (λ y. y ∷ []) same,
      )
  awaits h (ask x f) (a ∷ l) v e w =
      let on = awaits (h ++ (x, a) ∷ []) (f a) l v (e.1 a) w in
      (subst (λ t. Good t v) (append_assoc h ((x, a) ∷ []) (exchanged (f a) l)) on.0, on.1, ap (λ t. x ∷ t) on.2)
  awaits h (note n p) l v e w = awaits h p l v e w
  awaits h (give b p) l v e w = awaits h p l v e w

  -- the mux, switched by changing some bits of ESDP
  abbrev esdp_change : Bits → Change
  esdp_change b = record { register = ESDP; bits = b; flushed = true }

  flush_leads : (h : History) → Leads Good Unsaid h flush
  unfolding Leads
  flush_leads h = (λ v e. absurd (spared_not e refl), λ a. tt)

  -- ESDP was read: it is written
  stored_leads : (b : Bits) (h : History) (esdp : ℕ) → Good h (changed b esdp) → Leads Good Unsaid h (stored (esdp_change b) esdp)
  unfolding Leads stored settled written or_err ◌>>=◌
  stored_leads b h esdp good = (λ v e. (subst (Good h) (write_same e) good, refl), by)
    where
      by : (a : Answer) → Leads Good Unsaid (h ++ (Write ESDP (changed b esdp), a) ∷ []) (or_err (λ _. flush) (written a))
      by (Value v) = tt
      by Done = flush_leads _
      by Failed = tt

  read_leads : (b : Bits) (h : History) → ((esdp : ℕ) → Good (h ++ (Read ESDP, Value esdp) ∷ []) (changed b esdp)) → Leads Good Unsaid h (change (esdp_change b))
  unfolding Leads change checked or_err pick ◌>>=◌
  read_leads b h good = (λ v e. absurd (spared_not e refl), by)
    where
      sees : (esdp : ℕ) (removed : Bool) → Leads Good Unsaid (h ++ (Read ESDP, Value esdp) ∷ []) (or_err (stored (esdp_change b)) (pick removed (Err Removed) (Ok esdp)))
      sees esdp true = tt
      sees esdp false = stored_leads b _ esdp (good esdp)

      by : (a : Answer) → Leads Good Unsaid (h ++ (Read ESDP, a) ∷ []) (or_err (stored (esdp_change b)) (checked a))
      by (Value esdp) = sees esdp (eqb esdp 0xFFFFFFFF)
      by Done = tt
      by Failed = tt

  mux_leads : (port : Port) (mask : ℕ) (on : Bool) (h : History) → ((esdp : ℕ) → Good (h ++ (Read ESDP, Value esdp) ∷ []) (changed (set_mux on).bits esdp))
      → Leads Good Unsaid h (muxed port mask on)
  unfolding muxed set_mux Leads
  mux_leads port mask true h good = leads_pick Unsaid h (mux port mask) _ _ (read_leads (Set 2) h good) tt
  mux_leads port mask false h good = leads_pick Unsaid h (mux port mask) _ _ (read_leads (Clear 2) h good) tt

module _ (port : Port) (mask : ℕ) where
  -- `acquire_bits`
  abbrev Switching : History → ℕ → Type 0
  Switching = StillTaken port.family mask

  -- where it succeeds, the bits are taken and the mux is switched
  unfoldable Succeeds : History → R (Unit {0}) → Type 0
  Succeeds h (Ok u) = Took port mask h
  Succeeds h (Err e) = Unit {0}

  -- SW_FW_SYNC is written with the bits, and answered
  abbrev bits_answered : History → ℕ → Answer → History
  bits_answered h sync a = h ++ (bits_written port.family mask sync, a) ∷ []

  -- behind that the register semaphore is given back
  abbrev behind_bits : History → ℕ → List Answer → History
  behind_bits h sync u = bits_answered h sync Done ++ exchanged (unlock port.family) u

  -- a call that does not write to ESDP, and then k where it succeeded
  fails_leads : {A : Type 0} (p : Prog (R A)) (k : A → Prog (R (Unit {0}))) → Spares p → ((g : History) (a : A) → Leads Switching Succeeds g (k a)) → (h : History) → Leads Switching Succeeds h (p >>? k)
  unfolding Leads Succeeds or_err
  fails_leads p k s d h = leads_bind Switching Succeeds h p (or_err k) s by
    where
      by : (u : List Answer) (r : R _) → (run p u).status ≡ ended r → Leads Switching Succeeds (h ++ exchanged p u) (or_err k r)
      by u (Ok a) e = d _ a
      by u (Err error) e = tt

  free_leads : (h : History) (sync : ℕ) → Leads Switching Succeeds h (free port mask sync)
  unfolding Leads Succeeds free taken set_mux written or_err ◌>>=◌
  free_leads h sync = (λ v e. absurd (spared_not e (sync_spared port.family)), by)
    where
      bits_taken : (u : List Answer) → (run (unlock port.family) u).status ≡ ended (Ok tt) → BitsTaken port.family mask (behind_bits h sync u)
      bits_taken u o = record { before = h; sync = sync; unlocking = u; unlocked = o; exchange = append_assoc h ((bits_written port.family mask sync, Done) ∷ []) _ }

      switched : (u : List Answer) → (run (unlock port.family) u).status ≡ ended (Ok tt) → (g : History) (r : R (Unit {0}))
          → Ran (behind_bits h sync u) (muxed port mask true) g r → Succeeds g r
      switched u o g (Ok t) ran = record { first = behind_bits h sync u; taken = bits_taken u o; switching = ran.0; switched = ran.1; exchange = ran.2 }
      switched u o g (Err e) ran = tt

      unlocked : (u : List Answer) (r : R (Unit {0})) → (run (unlock port.family) u).status ≡ ended r
          → Leads Switching Succeeds (behind_bits h sync u) (or_err (λ _. muxed port mask true) r)
      unlocked u (Err e) o = tt
      unlocked u (Ok t) o =
          leads_more Switching Switching (Ran (behind_bits h sync u) (muxed port mask true)) Succeeds (λ g v t. t) (switched u o) (behind_bits h sync u) (muxed port mask true)
          (leads_ran Switching (behind_bits h sync u) (muxed port mask true)
          (mux_leads Switching port mask true (behind_bits h sync u) (λ esdp. record { first = behind_bits h sync u; taken = bits_taken u o; esdp = esdp; value = refl; exchange = refl })))

      by : (a : Answer) → Leads Switching Succeeds (bits_answered h sync a) (unlock port.family >>? λ _. or_err (λ _. muxed port mask true) (written a))
      by (Value v) = fails_leads _ _ (unlock_spares port.family) (λ g t. tt) _
      by Done = leads_bind Switching Succeeds _ (unlock port.family) _ (unlock_spares port.family) unlocked
      by Failed = fails_leads _ _ (unlock_spares port.family) (λ g t. tt) _

  seen_leads : (again : ℕ → Prog (R (Unit {0}))) → ((h : History) (held : ℕ) → Leads Switching Succeeds h (again held)) → (h : History) (r : R ℕ)
      → Leads Switching Succeeds h (sync_seen port mask again r)
  unfolding sync_seen Leads Succeeds
  seen_leads again d h (Err e) = fails_leads _ _ (unlock_spares port.family) (λ g t. tt) h
  seen_leads again d h (Ok sync) =
      leads_pick Switching Succeeds _ _ _ _ (free_leads h sync)
      (fails_leads _ _ (unlock_spares port.family) (λ g t. fails_leads _ _ (spares_one _ _ refl) (λ i t. d _ _) _) h)

  tries_leads : (n held : ℕ) (h : History) → Leads Switching Succeeds h (acquire_tries port mask n held)
  unfolding acquire_tries Leads Succeeds
  tries_leads zero held h = tt
  tries_leads (suc n) held h =
      fails_leads _ _ (lock_spares port.family)
      (λ g t. leads_bind Switching Succeeds _ _ _ (spares_one _ _ refl) (λ u r e. seen_leads _ (λ i held. tries_leads n held i) _ r)) h

  bits_leads : (h : History) → Leads Switching Succeeds h (acquire_bits port mask)
  unfolding acquire_bits
  bits_leads h = tries_leads (tries port.family) 0 h

  -- with the token
  abbrev Ours : History → ℕ → Type 0
  Ours = StillOurs port mask

  back_leads : (h : History) (again : Answer → Prog (R (Unit {0}))) (g : R Bool) → ((i : History) (a : Answer) → Leads Ours Unsaid i (again a))
      → ((esdp : ℕ) → Ours (h ++ (Read ESDP, Value esdp) ∷ []) (changed (set_mux false).bits esdp)) → Leads Ours Unsaid h (release_bits port mask >>? λ _. not_granted again g)
  unfolding release_bits not_granted Leads
  back_leads h again g d good =
      leads_then Ours Unsaid h (release_bits port mask) _ (leads_then Ours Unsaid h (muxed port mask false) _ (mux_leads Ours port mask false h good) (λ i t _. leads_spared Ours i _ (unmuxed_spares port mask)))
      (λ i t _. by i g)
    where
      by : (i : History) (g : R Bool) → Leads Ours Unsaid i (not_granted again g)
      by i (Err e) = tt
      by i (Ok b) = (λ v e. absurd (spared_not e refl), λ a. d _ a)

  -- a mask with bits of SW_FW_SYNC
  module _ (some : eqb mask 0 ≡ false) where
    told_leads : (h : History) (again : Answer → Prog (R (Unit {0}))) → Took port mask h → ((i : History) (a : Answer) → Leads Ours Unsaid i (again a))
        → (u : List Answer) (r : R Bool) → (run (token port true) u).status ≡ ended r → Leads Ours Unsaid (h ++ exchanged (token port true) u) (token_seen port mask again r)
    unfolding token_seen given_back with_bits acquired_all set_mux pick Leads
    told_leads h again took d u r e = by r e
      where
        held : (r : R Bool) → (run (token port true) u).status ≡ ended r → (r ≡ Ok true → ⊥) → (esdp : ℕ)
            → Ours ((h ++ exchanged (token port true) u) ++ (Read ESDP, Value esdp) ∷ []) (changed (set_mux false).bits esdp)
        held r e n esdp =
            inr (record { first = h; took = took; asking = u; answer = r; answered = e; denied = n; esdp = esdp; value = refl; exchange = append_assoc h (exchanged (token port true) u) _ })

        by : (r : R Bool) → (run (token port true) u).status ≡ ended r → Leads Ours Unsaid (h ++ exchanged (token port true) u) (token_seen port mask again r)
        by (Ok true) e = tt
        by (Ok false) e = rw some (back_leads _ again (Ok false) d (held _ e busy))
        by (Err error) e = rw some (back_leads _ again (Err error) d (held _ e (failed error)))

    token_leads : (n : ℕ) (h : History) → Leads Ours Unsaid h (acquire_token port mask n)
    unfolding acquire_token with_bits pick Leads Succeeds
    token_leads zero h = tt
    token_leads (suc n) h =
        rw some
        (leads_then Ours Succeeds h (acquire_bits port mask) _ (leads_more Switching Ours Succeeds Succeeds (λ g v t. inl t) (λ g r t. t) h (acquire_bits port mask) (bits_leads h))
        (λ g t took. leads_bind Ours Unsaid g (token port true) _ (token_spares port true) (told_leads g _ took (λ i a. token_leads n i))))

  acquire_token_leads : (n : ℕ) (h : History) → Leads Ours Unsaid h (acquire_token port mask n)
  acquire_token_leads n h = by (eqb mask 0) refl
    where
      by : (b : Bool) → eqb mask 0 ≡ b → Leads Ours Unsaid h (acquire_token port mask n)
      by true e = leads_spared Ours h _ (alone_spares port mask e n)
      by false e = token_leads e n h

acquire_leads : (port : Port) (mask : ℕ) → none_of mask TOKEN ≡ true → Leads (StillTaken port.family (hw_of mask)) Unsaid [] (acquire port mask)
unfolding Leads acquired_all
acquire_leads port mask plain =
    rw (acquire_plain port mask plain) (leads_then _ (Succeeds port (hw_of mask)) [] (acquire_bits port (hw_of mask)) _ (bits_leads port (hw_of mask) []) (λ g u t. tt))

acquire_any_leads : (port : Port) (mask : ℕ) → Leads (StillOurs port (hw_of mask)) Unsaid [] (acquire port mask)
unfolding acquire pick Leads
acquire_any_leads port mask = by (none_of mask TOKEN) refl
  where
    by : (b : Bool) → none_of mask TOKEN ≡ b → Leads (StillOurs port (hw_of mask)) Unsaid [] (acquire port mask)
    by true e = leads_more (StillTaken port.family (hw_of mask)) (StillOurs port (hw_of mask)) Unsaid Unsaid (λ g v t. inl t) (λ g r t. t) [] (acquire port mask) (acquire_leads port mask e)
    by false e = rw e (acquire_token_leads port (hw_of mask) TOKEN_TRIES [])

fails : (port : Port) (mask v : ℕ) (l : List Answer) (Still : History → ℕ → Type 0) → Leads Still Unsaid [] (acquire port mask)
    → (run (acquire port mask) l).status ≡ waiting (Write ESDP v) → MuxFails Still port mask v l
fails port mask v l Still leads w =
    let facts = awaits Still [] (acquire port mask) l v leads w in
    record { result = facts.1; accesses = facts.2; taken = facts.0 }

-- Whatever was answered: where the write to ESDP is awaited, a failure ends the call with Io, and the bits are still taken
pub mux_write_fails : (port : Port) (mask v : ℕ) (l : List Answer) → (run (acquire port mask) l).status ≡ waiting (Write ESDP v)
    → MuxFails (StillOurs port (hw_of mask)) port mask v l
mux_write_fails port mask v l w = fails port mask v l _ (acquire_any_leads port mask) w

-- without TOKEN it is the write behind the bits
pub plain_mux_write_fails : (port : Port) (mask v : ℕ) (l : List Answer) → none_of mask TOKEN ≡ true
    → (run (acquire port mask) l).status ≡ waiting (Write ESDP v) → MuxFails (StillTaken port.family (hw_of mask)) port mask v l
plain_mux_write_fails port mask v l plain w = fails port mask v l _ (acquire_leads port mask plain) w

-- the register semaphore, SW_FW_SYNC read and written, and the semaphore given back; from, to: what SW_FW_SYNC reads as
abbrev sync_then : ℕ → ℕ → List Answer → List Answer
sync_then from to l = Value 0 ∷ Value from ∷ Value from ∷ Done ∷ Value to ∷ Done ∷ Value 0 ∷ Done ∷ Value 0 ∷ l

-- it is reached, on a card that reads as it was written: port 1 of an X552, and nothing taken before
pub mux_reached : (device : ℕ) → (run (acquire (record { family = X552; device = device; lan = 1 }) I2C)
    (sync_then 0 0x1800 (Value 0 ∷ []))).status ≡ waiting (Write ESDP 2)
unfolding acquire hw_of acquire_bits acquire_tries lock smbi_done second regsmp_done smbi_watch regsmp_watch poll polled sync_seen against free taken muxed mux unlock back_swsm clear_sync set_mux change stored changed settled checked written flushed bits bits_x540 is none_of or_err pick ◌>>=◌ run on_answer
mux_reached device = refl

-- and so is the one that switches it back: the bits, with the write behind them; the token's command, to which the firmware says that it is
-- busy; ESDP
pub mux_back_reached : (device : ℕ) → (run (acquire (record { family = X552; device = device; lan = 1 }) (I2C + TOKEN))
    (sync_then 0 0x1800 (Value 0 ∷ Done ∷ Value 0 ∷ sync_then 0x1800 0x1c00 (Value 0 ∷ Done ∷ Value 1 ∷ Done ∷ Done ∷ Done ∷ Value 4 ∷ Value 0x800000 ∷ sync_then 0x1c00 0x1800 (Done ∷ Value 2 ∷ []))))).status ≡ waiting (Write ESDP 0)
unfolding acquire hw_of acquire_token with_bits token_seen given_back token tokened token_status token_block token_second header command acquired request hicr_read enabled words start polling completed requested respond head_seen len_of status_of words_of fill released closed both acquire_bits acquire_tries release_bits unmuxed clearing clear_bits cleared settle release_us lock smbi_done second regsmp_done smbi_watch regsmp_watch poll polled sync_seen against free taken muxed mux unlock back_swsm clear_sync set_mux change stored changed settled checked raw written flushed bits bits_x540 is none_of or_err pick ◌>>=◌ run on_answer
mux_back_reached device = refl
