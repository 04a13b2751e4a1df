-- Laws of the reference programs that the proofs cite.
use Prim.Native.Nat.{ℕ, ◌+◌, ◌*◌, ◌-◌, ◌<◌, ◌≤◌, suc, zero}
use mathlib.Core.Path.{◌≡◌, refl, ap}
use mathlib.Core.List.{List, [], ◌∷◌}
use native.Mathlib.Numerals.{sub-one, add-one}
use native.Mathlib.Omega.{arith}
use lib.ListN.{length, get_or, drop, drop_of_length-le}
use lib.Seq.{drop-cons}
use mathlib.Core.Bool.{true}
use lib.Dec.{ltb}
use borrow.Author.Tests.{leb-true, lt-ltb, ltb-true}
use native.Mathlib.Nat.{div-lt_iff_lt-mul}
use Rattle.hardware.specs.Prog.{erase, ◌>>=◌}
use Rattle.hardware.proofs.Laws.{below, both_true}
use Rattle.hostif.specs.Calls.{block_fits}
use Rattle.hostif.specs.Hostif.{len_of, words_of, words, start, fill, access_request, rest_request, request_next, access_response, rest_response, response_next, valid_response}
use Rattle.hostif.specs.declared.request.Request.TheVariants.{Word, Start}
use Rattle.hostif.specs.declared.response.Response.TheVariants.{Rest}
use Rattle.hardware.specs.declared.Next.TheVariants.{Going}

-- with a word left, the block is written on from it
pub words_at : (l : List ℕ) (at hicr : ℕ) → at < length l → request_next (Going (Word hicr at)) l ≡ erase (words at (drop at l) (start hicr))
unfolding words request_next access_request rest_request erase ◌>>=◌
words_at l at hicr h = rw (drop-cons l at 0, add-one at)

-- with none left, the command is started
pub words_none : (l : List ℕ) (at hicr : ℕ) → length l ≤ at → request_next (Going (Start hicr)) l ≡ erase (words at (drop at l) (start hicr))
unfolding words start request_next access_request rest_request erase ◌>>=◌
words_none l at hicr h = rw (drop_of_length-le l h)

-- with a word left, the response is read on
pub fill_more : (head left : ℕ) (l : List ℕ) → (left ≡ 0 → ⊥) → response_next (Going (Rest head (left - 1))) l ≡ erase (fill head left l)
unfolding fill response_next access_response rest_response erase ◌>>=◌
fill_more head zero l h = absurd (h refl)
fill_more head (suc n) l h = ap (λ m. response_next (Going (Rest head m)) l) (sub-one (suc n))

-- a list of two words is its first and its second
pub two_words : (l : List ℕ) → length l ≡ 2 → get_or l 0 0 ∷ get_or l 1 0 ∷ [] ≡ l
two_words [] e = absurd (omega arith)
two_words (a ∷ []) e = absurd (omega arith)
two_words (a ∷ b ∷ []) e = refl
two_words (a ∷ b ∷ c ∷ l) e = absurd (omega arith)

-- a block that is accepted has at most 64 words
pub block_fits_lem : (l : List ℕ) → block_fits l ≡ true → length l ≤ 64
unfolding block_fits
block_fits_lem l e = leb-true _ _ (both_true _ _ e).1

-- a block that has words has a first one
pub first_word : (n : ℕ) → (n ≡ 0 → ⊥) → ltb 0 n ≡ true
first_word n h = lt-ltb 0 n (omega arith)

-- a response that fits the block leaves room for its head
pub words_fit : (head n : ℕ) → len_of head + 4 ≤ 4 * n → words_of head < n
unfolding words_of
words_fit head n h = (div-lt_iff_lt-mul {k = 4} {x = len_of head + 3} {y = n} (omega arith)).1 (omega arith)

-- what is left of a response is no more than all of it, and that fits the block
pub rest_fits : (n head left : ℕ) → valid_response n (Rest head left) ≡ true → (left ≤ words_of head) × (words_of head < n)
unfolding valid_response
rest_fits n head left v = (below _ _ (both_true _ _ v).0, ltb-true _ _ (both_true _ _ v).1)
