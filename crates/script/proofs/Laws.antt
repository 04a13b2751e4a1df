-- Laws of the walk over a script's commands.
use Prim.Native.Nat.{ℕ, zero, suc, ◌+◌, ◌<◌, ◌≤◌}
use mathlib.Core.Path.{◌≡◌, refl, ap, sym, ◌∙◌}
use mathlib.Core.Bool.{Bool, true, false, false≢true, ◌&&◌}
use mathlib.Core.List.{List, [], ◌∷◌}
use native.Mathlib.Omega.{arith}
use native.Mathlib.Nat.{add-zero, zero-add}
use lib.Dec.{eqb, leb, ltb}
use lib.ListN.{length, get_or, drop, length-drop, drop_of_length-le, get_or-eq_default}
use lib.Seq.{drop-cons, drop-drop, get_or-drop}
use borrow.Author.Tests.{leb-true, ltb-true, ltb-false}
use Rattle.std.proofs.Common.{ne_eqb, eq-eqb}
use Rattle.std.specs.List.{fold, list_all, list_any}
use Rattle.hardware.specs.Prog.{pick}
use Rattle.bus.specs.declared.command.Command.{Command}
use Rattle.bus.specs.declared.command.Command.TheVariants.{Start, Send, Read, Stop, Free}
use Rattle.bus.specs.declared.command.Piece.{Piece}
use Rattle.script.specs.declared.cursor.Where.{Where}
use Rattle.script.specs.declared.cursor.Where.TheVariants.{Begin, Address, Sending, Reading, Between, End, Wrong}
use Rattle.script.specs.Script.{alone, single, commands, complete, starts, on_command, head_sends, head_command, head_width, head_known, command_at, next_at, places_from, places, leads, follows, walked, is_script, length_fits, judged}

-- the head of the bytes

pub sending_long : (t : List ℕ) → head_sends t ≡ true → 2 ≤ length t
unfolding head_sends
sending_long [] h = absurd (false≢true h)
sending_long (b ∷ []) h = absurd (false≢true h)
sending_long (b ∷ v ∷ s) h = omega arith

pub sending_short : (t : List ℕ) → length t ≤ 1 → head_sends t ≡ false
unfolding head_sends
sending_short [] h = refl
sending_short (b ∷ []) h = refl
sending_short (b ∷ v ∷ s) h = absurd (omega arith)

pub width_two : (t : List ℕ) → head_sends t ≡ true → head_width t ≡ 2
unfolding head_sends head_width pick
width_two [] h = absurd (false≢true h)
width_two (b ∷ s) h = rw h

pub width_one : (t : List ℕ) → 0 < length t → head_sends t ≡ false → head_width t ≡ 1
unfolding head_width pick
width_one [] l h = absurd (omega arith)
width_one (b ∷ s) l h = rw h

pub width_positive : (t : List ℕ) → 0 < length t → 0 < head_width t
unfolding head_width pick
width_positive [] l = absurd (omega arith)
width_positive (b ∷ s) l = elim (head_sends (b ∷ s)) as (λ x. 0 < pick x 2 1) [ true ↦ omega arith | false ↦ omega arith ]

pub width_within : (t : List ℕ) → head_width t ≤ length t
unfolding head_width head_sends pick
width_within [] = omega arith
width_within (b ∷ []) = omega arith
width_within (b ∷ v ∷ s) = elim (eqb b 0x20) as (λ x. pick x 2 1 ≤ length (b ∷ v ∷ s)) [ true ↦ omega arith | false ↦ omega arith ]

-- the lists are walked by the head's width

pub commands_step : (t : List ℕ) → 0 < length t → commands t ≡ head_command t ∷ commands (drop (head_width t) t)
unfolding commands head_command head_width head_sends pick
commands_step [] l = absurd (omega arith)
commands_step (b ∷ []) l = refl
commands_step (b ∷ v ∷ s) l =
    elim (eqb b 0x20) as (λ x. pick x (Send v ∷ commands s) (alone b ∷ commands (v ∷ s)) ≡ pick x (Send v) (alone b) ∷ commands (drop (pick x 2 1) (b ∷ v ∷ s))) [ true ↦ refl | false ↦ refl ]

pub complete_step : (t : List ℕ) → 0 < length t → complete t ≡ pick (head_known t) (complete (drop (head_width t) t)) false
unfolding complete head_known head_width head_sends pick
complete_step [] l = absurd (omega arith)
complete_step (b ∷ []) l = elim (single b) as (λ x. x ≡ pick x true false) [ true ↦ refl | false ↦ refl ]
complete_step (b ∷ v ∷ s) l =
    elim (eqb b 0x20) as (λ x. pick x (complete s) (pick (single b) (complete (v ∷ s)) false) ≡ pick (pick x true (single b)) (complete (drop (pick x 2 1) (b ∷ v ∷ s))) false) [ true ↦ refl | false ↦ refl ]

starts_step : (t : List ℕ) → drop (head_width t) (starts t) ≡ starts (drop (head_width t) t)
unfolding starts head_width head_sends pick
starts_step [] = refl
starts_step (b ∷ []) = refl
starts_step (b ∷ v ∷ s) =
    elim (eqb b 0x20) as (λ x. drop (pick x 2 1) (true ∷ pick x (false ∷ starts s) (starts (v ∷ s))) ≡ starts (drop (pick x 2 1) (b ∷ v ∷ s))) [ true ↦ refl | false ↦ refl ]

-- no command begins inside another
starts_inside : (t : List ℕ) (k : ℕ) → 0 < k → k < head_width t → get_or (starts t) k false ≡ false
unfolding starts head_width head_sends pick
starts_inside t zero l h = absurd (omega arith)
starts_inside [] (suc k) l h = absurd (omega arith)
starts_inside (b ∷ []) (suc k) l h = absurd (omega arith)
starts_inside (b ∷ v ∷ s) (suc zero) l h =
    (elim (eqb b 0x20) as (λ x. 1 < pick x 2 1 → get_or (true ∷ pick x (false ∷ starts s) (starts (v ∷ s))) 1 false ≡ false) [ true ↦ λ _. refl | false ↦ λ g. absurd (omega arith) ]) h
starts_inside (b ∷ v ∷ s) (suc (suc k)) l h =
    absurd ((elim (eqb b 0x20) as (λ x. suc (suc k) < pick x 2 1 → ⊥) [ true ↦ λ g. omega arith | false ↦ λ g. omega arith ]) h)

starts_length : (t : List ℕ) → length (starts t) ≡ length t
unfolding starts pick
starts_length [] = refl
starts_length (b ∷ []) = refl
starts_length (b ∷ v ∷ s) =
    elim (eqb b 0x20) as (λ x. length (true ∷ pick x (false ∷ starts s) (starts (v ∷ s))) ≡ length (b ∷ v ∷ s)) [ true ↦ ap (λ n. suc (suc n)) (starts_length s) | false ↦ ap suc (starts_length (v ∷ s)) ]

starts_first : (t : List ℕ) → 0 < length t → get_or (starts t) 0 false ≡ true
unfolding starts
starts_first [] l = absurd (omega arith)
starts_first (b ∷ []) l = refl
starts_first (b ∷ v ∷ s) l = refl

-- From a position that is a command's, or the end, the starts are those of the bytes from there
abbrev pub Aligned : List ℕ → ℕ → Type 0
Aligned s at = drop at (starts s) ≡ starts (drop at s)

pub aligned_next : (s : List ℕ) (at : ℕ) → Aligned s at → Aligned s (next_at s at)
unfolding next_at
aligned_next s at h =
    sym (drop-drop (head_width (drop at s)) at (starts s)) ∙ ap (drop (head_width (drop at s))) h ∙ starts_step (drop at s) ∙ ap starts (drop-drop (head_width (drop at s)) at s)

pub aligned_on : (s : List ℕ) (at : ℕ) → on_command s at ≡ true → Aligned s at
unfolding on_command starts pick
aligned_on [] at h = absurd (false≢true h)
aligned_on (b ∷ []) zero h = refl
aligned_on (b ∷ []) (suc n) h = absurd (false≢true h)
aligned_on (b ∷ v ∷ s) zero h = refl
aligned_on (b ∷ v ∷ s) (suc zero) h =
    (elim (eqb b 0x20) as (λ x. get_or (pick x (false ∷ starts s) (starts (v ∷ s))) 0 false ≡ true → pick x (false ∷ starts s) (starts (v ∷ s)) ≡ starts (v ∷ s)) [ true ↦ λ g. absurd (false≢true g) | false ↦ λ g. refl ]) h
aligned_on (b ∷ v ∷ s) (suc (suc n)) h =
    (elim (eqb b 0x20) as (λ x. get_or (pick x (false ∷ starts s) (starts (v ∷ s))) (suc n) false ≡ true → drop (suc n) (pick x (false ∷ starts s) (starts (v ∷ s))) ≡ starts (drop n s)) [ true ↦ λ g. aligned_on s n g | false ↦ λ g. aligned_on (v ∷ s) (suc n) g ]) h

pub aligned_first : (s : List ℕ) (at : ℕ) → Aligned s at → at < length s → on_command s at ≡ true
unfolding on_command
aligned_first s at h l =
    let long : 0 < length (drop at s) = rw length-drop (omega arith) in
    rw add-zero at (sym (get_or-drop at (starts s) 0 false) ∙ ap (λ t. get_or t 0 false) h ∙ starts_first (drop at s) long)

-- no command begins between a command and the next
pub aligned_inside : (s : List ℕ) (at k : ℕ) → Aligned s at → 0 < k → at + k < next_at s at → on_command s (at + k) ≡ false
unfolding on_command next_at
aligned_inside s at k h l m =
    sym (get_or-drop at (starts s) k false) ∙ ap (λ t. get_or t k false) h ∙ starts_inside (drop at s) k l (omega arith)

pub on_past : (s : List ℕ) (at : ℕ) → length s ≤ at → on_command s at ≡ false
unfolding on_command
on_past s at l = get_or-eq_default (starts s) false (rw starts_length l)

-- no piece of a clearing sequence stands in a script
pub free_wrong : (p : Piece) (w : Where) → follows w (Free p) ≡ Wrong
unfolding follows leads
free_wrong p Begin = refl
free_wrong p Address = refl
free_wrong p Sending = refl
free_wrong p Reading = refl
free_wrong p Between = refl
free_wrong p End = refl
free_wrong p Wrong = refl

-- what users of the cursor cite

pub commands_at : (s : List ℕ) (at : ℕ) → at < length s → commands (drop at s) ≡ command_at s at ∷ commands (drop (next_at s at) s)
unfolding command_at next_at
commands_at s at l =
    commands_step (drop at s) (rw length-drop (omega arith)) ∙ ap (λ t. head_command (drop at s) ∷ commands t) (drop-drop (head_width (drop at s)) at s)

pub commands_past : (s : List ℕ) (at : ℕ) → length s ≤ at → commands (drop at s) ≡ []
unfolding commands
commands_past s at l = rw drop_of_length-le

pub complete_at : (s : List ℕ) (at : ℕ) → at < length s → complete (drop at s) ≡ pick (head_known (drop at s)) (complete (drop (next_at s at) s)) false
unfolding next_at
complete_at s at l =
    complete_step (drop at s) (rw length-drop (omega arith)) ∙ ap (λ t. pick (head_known (drop at s)) (complete t) false) (drop-drop (head_width (drop at s)) at s)

pub complete_past : (s : List ℕ) (at : ℕ) → length s ≤ at → complete (drop at s) ≡ true
unfolding complete
complete_past s at l = rw drop_of_length-le

-- no piece of a clearing sequence is among the commands of a script

none_free : (p : Piece) (x y z : Bool) → pick x Start (pick y (Read false) (pick z (Read true) Stop)) ≡ Free p → ⊥
unfolding pick
none_free p true y z e = let q : ◌≡◌ {A = ℕ} 0 1 = cc in omega arith
none_free p false true z e = let q : ◌≡◌ {A = ℕ} 0 1 = cc in omega arith
none_free p false false true e = let q : ◌≡◌ {A = ℕ} 0 1 = cc in omega arith
none_free p false false false e = let q : ◌≡◌ {A = ℕ} 0 1 = cc in omega arith

alone_not_free : (p : Piece) (b : ℕ) → alone b ≡ Free p → ⊥
unfolding alone
alone_not_free p b = none_free p (eqb b 0x10) (eqb b 0x30) (eqb b 0x31)

send_not_free : (p : Piece) (v : ℕ) → Send v ≡ Free p → ⊥
send_not_free p v e = let q : ◌≡◌ {A = ℕ} 0 1 = cc in omega arith

pub command_not_free : (p : Piece) (s : List ℕ) (at : ℕ) → command_at s at ≡ Free p → ⊥
unfolding command_at head_command pick
command_not_free p s at =
    elim (head_sends (drop at s)) as (λ x. pick x (Send (get_or (drop at s) 1 0)) (alone (get_or (drop at s) 0 0)) ≡ Free p → ⊥) [ true ↦ send_not_free p _ | false ↦ alone_not_free p _ ]

unfoldable pub Unfreed : List Command → Type 0
Unfreed [] = Unit {0}
Unfreed (c ∷ cs) = ((p : Piece) → c ≡ Free p → ⊥) × Unfreed cs

pub commands_unfreed : (s : List ℕ) → Unfreed (commands s)
unfolding commands Unfreed pick
commands_unfreed [] = tt
commands_unfreed (b ∷ []) = (λ p. alone_not_free p b, tt)
commands_unfreed (b ∷ v ∷ s) =
    elim (eqb b 0x20) as (λ x. Unfreed (pick x (Send v ∷ commands s) (alone b ∷ commands (v ∷ s)))) [
      | true ↦ (λ p. send_not_free p v, commands_unfreed s)
      | false ↦ (λ p. alone_not_free p b, commands_unfreed (v ∷ s))
    ]

pub next_after_lem : (s : List ℕ) (at : ℕ) → at < length s → at < next_at s at
unfolding next_at
next_after_lem s at l = omega (arith, width_positive (drop at s) (rw length-drop (omega arith)))

pub next_within : (s : List ℕ) (at : ℕ) → at ≤ length s → next_at s at ≤ length s
unfolding next_at
next_within s at l = omega (arith, rw length-drop at (width_within (drop at s)))

pub on_within : (s : List ℕ) (at : ℕ) → on_command s at ≡ true → at < length s
on_within s at h =
    let out : length s ≤ at → ⊥ = λ l. false≢true (sym (on_past s at l) ∙ h) in
    omega arith

pub on_next : (s : List ℕ) (at : ℕ) → on_command s at ≡ true → next_at s at < length s → on_command s (next_at s at) ≡ true
on_next s at h l = aligned_first s (next_at s at) (aligned_next s at (aligned_on s at h)) l

all_hold : (x y z : Bool) → ◌≡◌ {A = ℕ} (pick x (pick y (pick z 0 7) 6) 5) 0 → (x ≡ true) × (y ≡ true) × (z ≡ true)
unfolding pick
all_hold true true true e = (refl, refl, refl)
all_hold true true false e = absurd (omega arith)
all_hold true false z e = absurd (omega arith)
all_hold false y z e = absurd (omega arith)

pub accepted : (s : List ℕ) → judged s ≡ 0 → (length_fits s ≡ true) × (complete s ≡ true) × (is_script s ≡ true)
unfolding judged
accepted s h = all_hold (length_fits s) (complete s) (is_script s) h

both_hold : (x y : Bool) → pick x y false ≡ true → (x ≡ true) × (y ≡ true)
unfolding pick
both_hold true y e = (refl, e)
both_hold false y e = absurd (false≢true e)

pub fits_length : (s : List ℕ) → length_fits s ≡ true → (1 ≤ length s) × (length s ≤ 64)
unfolding length_fits
fits_length s h =
    let both = both_hold (leb 1 (length s)) (leb (length s) 64) h in (leb-true 1 (length s) both.0, leb-true (length s) 64 both.1)

pub on_first : (s : List ℕ) → judged s ≡ 0 → on_command s 0 ≡ true
unfolding on_command
on_first s h = starts_first s (fits_length s (accepted s h).0).0

commands_first : (t : List ℕ) → get_or (commands t) 0 Stop ≡ head_command t
unfolding commands head_command head_sends alone pick
commands_first [] = refl
commands_first (b ∷ s) = ap (λ l. get_or l 0 Stop) (commands_step (b ∷ s) (omega arith))

-- the second command
pub commands_second : (s : List ℕ) → get_or (commands s) 1 Stop ≡ command_at s (next_at s 0)
unfolding commands command_at next_at head_command head_sends head_width alone pick
commands_second [] = refl
commands_second (b ∷ s) =
    ap (λ l. get_or l 1 Stop) (commands_step (b ∷ s) (omega arith)) ∙ commands_first (drop (head_width (b ∷ s)) (b ∷ s)) ∙ ap (λ n. head_command (drop n (b ∷ s))) (sym (zero-add (head_width (b ∷ s))))

-- the head of the bytes from a position

pub first_at : (s : List ℕ) (at : ℕ) → get_or (drop at s) 0 0 ≡ get_or s at 0
first_at s at = rw add-zero at (get_or-drop at s 0 0)

pub sending_at : (s : List ℕ) (at : ℕ) → head_sends (drop at s) ≡ true → at + 2 ≤ length s
sending_at s at h = omega (arith, rw length-drop at (sending_long (drop at s) h))

pub sending_here : (s : List ℕ) (at : ℕ) → at + 1 < length s → head_sends (drop at s) ≡ eqb (get_or s at 0) 0x20
unfolding head_sends
sending_here s at l = rw (drop-cons s at 0 (omega arith), drop-cons s (suc at) 0 (omega arith))

-- the positions of the commands

places_step : (n : ℕ) (t : List ℕ) → 0 < length t → places_from n t ≡ n ∷ places_from (n + head_width t) (drop (head_width t) t)
unfolding places_from head_width head_sends pick
places_step n [] l = absurd (omega arith)
places_step n (b ∷ []) l = refl
places_step n (b ∷ v ∷ s) l =
    elim (eqb b 0x20) as (λ x. n ∷ pick x (places_from (n + 2) s) (places_from (n + 1) (v ∷ s)) ≡ n ∷ places_from (n + pick x 2 1) (drop (pick x 2 1) (b ∷ v ∷ s))) [ true ↦ refl | false ↦ refl ]

pub places_at : (s : List ℕ) (at : ℕ) → at < length s → places s at ≡ at ∷ places s (next_at s at)
unfolding places next_at
places_at s at l =
    places_step at (drop at s) (rw length-drop (omega arith)) ∙ ap (λ t. at ∷ places_from (at + head_width (drop at s)) t) (drop-drop (head_width (drop at s)) at s)

pub places_past : (s : List ℕ) (at : ℕ) → length s ≤ at → places s at ≡ []
unfolding places places_from
places_past s at l = rw drop_of_length-le

-- what holds past the end, and at a command where it holds at the next, holds from each position on
by_places : (s : List ℕ) (P : ℕ → Type 0) → ((at : ℕ) → length s ≤ at → P at) → ((at : ℕ) → at < length s → P (next_at s at) → P at) → (at : ℕ) → P at
by_places s P past step at = go (length s) at (omega arith)
  where
    go : (n at : ℕ) → length s ≤ at + n → P at
    go zero at h = past at (omega arith)
    go (suc n) at h =
        elim (ltb at (length s)) as (λ x. ltb at (length s) ≡ x → P at) [
          | true ↦ λ e.
              let l : at < length s = ltb-true at (length s) e in
              step at l (go n (next_at s at) (omega (arith, next_after_lem s at l)))
          | false ↦ λ e. past at (ltb-false at (length s) e)
        ] refl

both_known : (x y : Bool) → (x && y) ≡ pick x y false
unfolding pick
both_known true y = refl
both_known false y = refl

pub all_known : (s : List ℕ) (at : ℕ) → list_all (λ p. head_known (drop p s)) (places s at) ≡ complete (drop at s)
all_known s =
    by_places s (λ at. list_all (λ p. head_known (drop p s)) (places s at) ≡ complete (drop at s))
    (λ at l. rw (places_past s at l) (sym (complete_past s at l)))
    (λ at l h. rw (places_at s at l, complete_at s at l, ← h) (both_known _ _))

pub followed : (s : List ℕ) (at : ℕ) (w : Where) → fold (λ u p. follows u (command_at s p)) w (places s at) ≡ walked w (commands (drop at s))
unfolding walked
followed s =
    by_places s (λ at. (w : Where) → fold (λ u p. follows u (command_at s p)) w (places s at) ≡ walked w (commands (drop at s)))
    (λ at l w. rw (places_past s at l, commands_past s at l))
    (λ at l h w. rw (places_at s at l, commands_at s at l) (h (follows w (command_at s at))))

none_below : (t : List ℕ) (n k : ℕ) → k < n → list_any (λ p. eqb p k) (places_from n t) ≡ false
unfolding places_from pick
none_below [] n k l = refl
none_below (b ∷ []) n k l = rw (ne_eqb n k (λ e. omega arith))
none_below (b ∷ v ∷ s) n k l =
    rw (ne_eqb n k (λ e. omega arith))
    (elim (eqb b 0x20) as (λ x. list_any (λ p. eqb p k) (pick x (places_from (n + 2) s) (places_from (n + 1) (v ∷ s))) ≡ false) [ true ↦ none_below s (n + 2) k (omega arith) | false ↦ none_below (v ∷ s) (n + 1) k (omega arith) ])

found_from : (t : List ℕ) (n k : ℕ) → list_any (λ p. eqb p (n + k)) (places_from n t) ≡ get_or (starts t) k false
unfolding places_from starts pick
found_from [] n k = refl
found_from (b ∷ []) n zero = rw (add-zero n, eq-eqb n n refl)
found_from (b ∷ []) n (suc k) = rw (ne_eqb n (n + suc k) (λ e. omega arith))
found_from (b ∷ v ∷ s) n zero = rw (add-zero n, eq-eqb n n refl)
found_from (b ∷ v ∷ s) n (suc zero) =
    rw (ne_eqb n (n + 1) (λ e. omega arith))
    (elim (eqb b 0x20) as (λ x. list_any (λ p. eqb p (n + 1)) (pick x (places_from (n + 2) s) (places_from (n + 1) (v ∷ s))) ≡ get_or (pick x (false ∷ starts s) (starts (v ∷ s))) 0 false) [
      | true ↦ none_below s (n + 2) (n + 1) (omega arith)
      | false ↦ rw add-zero at (found_from (v ∷ s) (n + 1) 0)
    ])
found_from (b ∷ v ∷ s) n (suc (suc k)) =
    let e : n + suc (suc k) ≡ n + 2 + k = omega arith in
    let f : n + suc (suc k) ≡ n + 1 + suc k = omega arith in
    rw (ne_eqb n (n + suc (suc k)) (λ e. omega arith))
    (elim (eqb b 0x20) as (λ x. list_any (λ p. eqb p (n + suc (suc k))) (pick x (places_from (n + 2) s) (places_from (n + 1) (v ∷ s))) ≡ get_or (pick x (false ∷ starts s) (starts (v ∷ s))) (suc k) false) [
      | true ↦ rw e (found_from s (n + 2) k)
      | false ↦ rw f (found_from (v ∷ s) (n + 1) (suc k))
    ])

pub found : (s : List ℕ) (at : ℕ) → list_any (λ p. eqb p at) (places s 0) ≡ on_command s at
unfolding places on_command
found s at = rw zero-add at (found_from s 0 at)

-- each command takes a byte or two
pub commands_length : (s : List ℕ) → length (commands s) ≤ length s
unfolding commands pick
commands_length [] = omega arith
commands_length (b ∷ []) = omega arith
commands_length (b ∷ v ∷ s) =
    elim (eqb b 0x20) as (λ x. length (pick x (Send v ∷ commands s) (alone b ∷ commands (v ∷ s))) ≤ length (b ∷ v ∷ s)) [ true ↦ omega (arith, commands_length s) | false ↦ omega (arith, commands_length (v ∷ s)) ]
