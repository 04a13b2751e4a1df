-- Places, caps and sums of a page: what the machine's proofs use.
use Prim.Native.Nat.{ℕ, ◌+◌, ◌*◌, ◌-◌, ◌<◌, ◌≤◌, suc}
use mathlib.Core.Path.{◌≡◌, ◌∙◌, ap, refl, subst, sym}
use mathlib.Core.Bool.{Bool, true, false}
use mathlib.Core.List.{List, [], ◌∷◌}
use native.Mathlib.Nat.{mul-le-mul, suc-mul}
use native.Mathlib.Numerals.{add-one}
use native.Mathlib.Omega.{arith}
use lib.Dec.{ltb}
use lib.ListN.{drop, get_or, take}
use borrow.Author.Tests.{eq-eqb, ne_eqb}
use Rattle.hardware.specs.declared.Meter.{Meter}
use Rattle.hardware.specs.declared.Port.{Port}
use Rattle.hardware.specs.declared.Access.{Access}
use Rattle.hardware.specs.declared.Answer.{Answer}
use Rattle.hardware.specs.declared.Marks.{Marks}
use Rattle.hardware.specs.Marks.{FULL, acknowledged, marked}
use Rattle.hardware.specs.Asked.{Asked, yes}
use Rattle.hardware.specs.Prog.{Note, Attempt, is_told, note_if, Prog, ret, ask, note, give, erase, followed, R, Ok, Err, pick, ◌>>=◌}
use Rattle.hardware.proofs.Prog.{bind_ret, going_on, over}
use Rattle.bus.specs.declared.Taken.{Taken}
use Rattle.bus.proofs.Laws.{picked_second}
use Rattle.transfer.specs.declared.attempt.Sequence.{Sequence}
use Rattle.i2c.specs.declared.handshake.Handshake.{Handshake}
use Rattle.i2c.specs.I2c.{handshaken, is_write, locked, retried, transferred, value_of}
use Rattle.i2c.specs.Handshake.{handshake_next, rest_handshake, rest_request, valued}
use Rattle.i2c.specs.Retry.{wanted}
use Rattle.i2c.proofs.Laws.{fits_below}
use Rattle.i2c.proofs.Request.{request_begun, request_over}
use Rattle.sfp.specs.Sum.{sum_of}
use Rattle.page.specs.declared.walk.Form.{Form}
use Rattle.page.specs.declared.walk.Page.{Page}
use Rattle.page.specs.Page.{LAST, page_from, place_of, request_at, sum_right}
use Rattle.page.specs.Walk.{access_page, cap_at, filling, filled_at, filled_from, stored, valid_page}
use Rattle.page.specs.Calls.{FilledAs}
use Rattle.hardware.specs.Registers.{reply}
use Rattle.page.specs.Aliases.{PageTold}
use Rattle.hardware.specs.declared.Next.TheVariants.{Going, End}
use Rattle.hardware.specs.declared.Told.TheVariants.{Ask, End as Ends}
use Rattle.std.specs.Prelude.{Result}
use Rattle.hardware.specs.declared.Error.{Error}

-- at most 96 bytes with 255 attempts each
pub cap_few : (tries left : ℕ) → tries ≤ 255 → cap_at tries left ≤ 24480
unfolding cap_at
cap_few tries left h = mul-le-mul places h
  where
    places : suc (place_of left) ≤ 96
    places = omega arith

pub cap_most : (tries left : ℕ) → tries ≤ 255 → cap_at tries left < FULL
cap_most tries left h = omega (arith, cap_few tries left h)

pub cap_is : (tries left place : ℕ) → place ≡ place_of left → (place + 1) * tries ≡ cap_at tries left
unfolding cap_at
cap_is tries left place e = rw (e, add-one (place_of left))

one_more : (n places tries : ℕ) → n ≤ places * tries → n + tries ≤ suc places * tries
one_more n places tries h = rw (suc-mul places tries) (omega (arith, h))

-- the first byte, and each after it, has room for its attempts
pub cap_first : (tries : ℕ) → 0 + tries ≤ cap_at tries LAST
unfolding cap_at
cap_first tries = one_more 0 0 tries (omega arith)

pub cap_next : (n tries left : ℕ) → (left ≡ 0 → ⊥) → left < 96 → n ≤ cap_at tries left → n + tries ≤ cap_at tries (left - 1)
unfolding cap_at
cap_next n tries left z h k = rw (next) (one_more n (suc (place_of left)) tries k)
  where
    next : place_of (left - 1) ≡ suc (place_of left)
    next = omega arith

-- with bytes left, the next is the one that has one fewer after it
one_after : (left : ℕ) → (left ≡ 0 → ⊥) → suc (left - 1) ≡ left
one_after left z = omega arith

pub again : (q : Sequence) (port : Port) (form : Form) (tries left : ℕ) (l : List ℕ) → (left ≡ 0 → ⊥)
    → page_from q port form tries (suc (left - 1)) l ≡ page_from q port form tries left l
again q port form tries left l z = ap (λ n. page_from q port form tries n l) (one_after left z)

pub filled_again : (q : Sequence) (port : Port) (form : Form) (tries left : ℕ) (b : List ℕ) (l : List Answer) → (left ≡ 0 → ⊥)
    → filled_from q port form tries (suc (left - 1)) b l ≡ filled_from q port form tries left b l
filled_again q port form tries left b l z = ap (λ n. filled_from q port form tries n b l) (one_after left z)

-- a byte's request makes the attempts that stand in its state
pub own : (form : Form) (tries left : ℕ) → wanted (request_at form left) tries ≤ tries
unfolding wanted request_at is_write pick
own form tries left = omega arith

-- the count of a state within its limits is below the top of its type
pub valid_below : (port : Port) (form : Form) (tries : ℕ) (m : Meter) (s : Page) → tries ≤ 255 → valid_page port form tries m s ≡ true
    → m.transfers < FULL
unfolding valid_page
valid_below port form tries m s h v =
    fits_below port (request_at form s.left) tries (cap_at tries s.left) m s.request (cap_most tries s.left h)
    (picked_second (ltb s.left 96) _ v)

-- a sum is the byte at its place, or not
pub sum_right_lem : (l : List ℕ) (from at s : ℕ) → s ≡ sum_of (take (at - from) (drop from l)) → s ≡ get_or l at 0 → sum_right l from at ≡ true
unfolding sum_right
sum_right_lem l from at s e h = eq-eqb _ _ (sym e ∙ h)

pub sum_wrong : (l : List ℕ) (from at s : ℕ) → s ≡ sum_of (take (at - from) (drop from l)) → (s ≡ get_or l at 0 → ⊥) → sum_right l from at ≡ false
unfolding sum_right
sum_wrong l from at s e h = ne_eqb _ _ (λ g. h (e ∙ g))

-- notes store nothing, and neither does what is only asked for
stored_noted : (place : ℕ) (buffer : List ℕ) (b : Bool) (n : Note) (p : Prog (R Taken)) → stored place buffer (note_if b n p) ≡ stored place buffer p
unfolding stored
stored_noted place buffer true n p = refl
stored_noted place buffer false n p = refl

pub stored_erase : (place : ℕ) (buffer : List ℕ) (p : Prog (R Taken)) → stored place buffer (erase p) ≡ stored place buffer p
unfolding stored erase
stored_erase place buffer (ret (Ok t)) = refl
stored_erase place buffer (ret (Err e)) = refl
stored_erase place buffer (ask x f) = refl
stored_erase place buffer (note n p) = stored_noted place buffer (is_told n) n (erase p) ∙ stored_erase place buffer p
stored_erase place buffer (give b p) = stored_erase place buffer p

pub stored_asks : (place : ℕ) (buffer : List ℕ) (k : Marks) (x : Access) (f : Answer → Prog (R Taken)) → stored place buffer (marked k (ask x f)) ≡ buffer
unfolding stored marked acknowledged
stored_asks place buffer k x f = stored_noted place buffer k.attempt Attempt _ ∙ stored_noted place buffer (ltb k.left 10) _ (ask x f)

-- nor do they over further answers
module _ (place : ℕ) (next : List ℕ → List Answer → List ℕ) (buffer : List ℕ) where
  filling_noted : (b : Bool) (n : Note) (p : Prog (R ℕ)) (l : List Answer) → filling place next buffer (note_if b n p) l ≡ filling place next buffer p l
  unfolding filling
  filling_noted true n p l = refl
  filling_noted false n p l = refl

  filling_erase : (p : Prog (R ℕ)) (l : List Answer) → filling place next buffer (erase p) l ≡ filling place next buffer p l
  unfolding filling erase
  filling_erase (ret (Ok v)) l = refl
  filling_erase (ret (Err e)) l = refl
  filling_erase (ask x f) [] = refl
  filling_erase (ask x f) (a ∷ l) = filling_erase (f a) l
  filling_erase (note n p) l = filling_noted (is_told n) n (erase p) l ∙ filling_erase p l
  filling_erase (give b p) l = filling_erase p l

  filling_asks : (k : Marks) (x : Access) (f : Answer → Prog (R ℕ)) (l : List Answer)
      → filling place next buffer (marked k (ask x (λ a. erase (f a)))) l ≡ filling place next buffer (ask x f) l
  unfolding filling erase marked acknowledged
  filling_asks k x f l = filling_noted k.attempt Attempt _ l ∙ filling_noted (ltb k.left 10) _ _ l ∙ filling_erase (ask x f) l

  -- a request that an answer has taken to p
  pub filling_on : (port : Port) (q : Sequence) (form : Form) (left : ℕ) (s : Handshake) (a : Answer) (p : Prog (R Taken)) (l : List Answer)
      → p ≡ erase (rest_handshake port (request_at form left) (locked q) s a)
      → filling place next buffer (followed p (valued (request_at form left) ret)) l
      ≡ filling place next buffer (rest_request port (request_at form left) (locked q) ret s a) l
  unfolding rest_request
  filling_on port q form left s a p l h =
      ap (λ r. filling place next buffer r l) (over _ (valued (request_at form left) ret) refl h) ∙ filling_erase _ l

-- a byte's request that has begun, that is over at once, and that goes on
module _ (q : Sequence) (port : Port) (form : Form) (tries left : ℕ) (b : List ℕ) (l : List Answer) where
  abbrev filled : Prog (R ℕ) → List ℕ
  filled p = filling (place_of left) (filled_from q port form tries left) b p l

  begins : filled (erase (transferred port (request_at form left) (locked q) tries >>= ret)) ≡ filled_from q port form tries (suc left) b l
  unfolding filled_from
  begins = filling_erase _ _ b _ l ∙ ap filled (bind_ret _)

  pub filled_begun : (k : Marks) (s : Handshake)
      → handshake_next port (request_at form left) (locked q) (Going (k, s)) ≡ erase (handshaken port (request_at form left) (retried port (request_at form left) (locked q) tries))
      → filled_at q port form tries (record { left = left; request = s }) b l ≡ filled_from q port form tries (suc left) b l
  unfolding filled_at access_page
  filled_begun k s h =
      sym (filling_asks _ _ b k _ _ l) ∙ ap filled (request_begun port (request_at form left) (locked q) tries ret k s h) ∙ begins

  pub filled_over : (g : (Result Taken Error))
      → handshake_next port (request_at form left) (locked q) (End g) ≡ erase (handshaken port (request_at form left) (retried port (request_at form left) (locked q) tries))
      → filled (ret (value_of (request_at form left) (reply g))) ≡ filled_from q port form tries (suc left) b l
  unfolding valued erase
  filled_over g h = ap filled (request_over port (request_at form left) (locked q) tries ret g h) ∙ begins

  pub filled_going : (k : Marks) (s : Handshake)
      → filled_at q port form tries (record { left = left; request = s }) b l
      ≡ filled (followed (handshake_next port (request_at form left) (locked q) (Going (k, s))) (valued (request_at form left) ret))
  unfolding filled_at access_page rest_request handshake_next
  filled_going k s = sym (filling_asks _ _ b k _ _ l) ∙ ap filled (going_on k _ _ (valued (request_at form left) ret))

-- the same buffers after further answers, said otherwise
pub filled_as : (t : PageTold) (b : List ℕ) (f g : List Answer → List ℕ) → ((l : List Answer) → f l ≡ g l) → FilledAs t b f → FilledAs t b g
unfolding FilledAs
filled_as (Ok (Ask x s)) b f g e h = λ l. h l ∙ e l
filled_as (Ok (Ends (p, m))) b f g e h = λ l. h l ∙ e l
filled_as (Err q) b f g e h = tt

-- an opening has one port
pub filled_port : (t : PageTold) (q : Sequence) (p port : Port) (form : Form) (tries : ℕ) (b : List ℕ) (o : Asked Port) → yes p ≡ o → o ≡ yes port
    → FilledAs t b (filled_from q p form tries 96 b) → FilledAs t b (filled_from q port form tries 96 b)
filled_port t q p port form tries b o e d h =
    let z : yes p ≡ yes port = e ∙ d in
    let same : p ≡ port = cc in
    subst (λ r. FilledAs t b (filled_from q r form tries 96 b)) same h
