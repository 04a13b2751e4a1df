-- A step inside a command moves a call's request alone: nothing is stored.
use Prim.Native.Nat.{ℕ}
use mathlib.Core.Path.{◌≡◌, ap, sym, ◌∙◌}
use mathlib.Core.Bool.{true}
use mathlib.Core.List.{List, ◌∷◌}
use lib.Dec.{ltb}
use Rattle.hardware.specs.declared.Next.TheVariants.{Going as Goes}
use Rattle.hardware.specs.declared.Access.{Access}
use Rattle.hardware.specs.declared.Answer.{Answer}
use Rattle.hardware.specs.declared.Meter.{Meter}
use Rattle.hardware.specs.declared.Port.{Port}
use Rattle.hardware.specs.Lent.{goes, lent}
use Rattle.hardware.specs.Marks.{acknowledged, marked, unmarked, valid_held}
use Rattle.hardware.specs.Prog.{erase}
use Rattle.bus.proofs.Laws.{picked}
use Rattle.transfer.specs.declared.attempt.Sequence.{Sequence}
use Rattle.i2c.specs.declared.handshake.Handshake.{Handshake}
use Rattle.i2c.specs.I2c.{locked}
use Rattle.i2c.specs.Handshake.{handshake_next, rest_handshake, rest_request}
use Rattle.i2c.specs.Direct.{RequestMoves}
use Rattle.i2c.proofs.Moves.{admitted, request_on}
use Rattle.page.specs.declared.walk.Form.{Form}
use Rattle.page.specs.Page.{place_of, request_at}
use Rattle.page.specs.Walk.{Fills, access_page, buffer_page, cap_at, filled_at, filled_from, filling, rest_page, stored, valid_page}
use Rattle.page.specs.Calls.{FilledAs, buffer_stepped, filled_call, kept, said_page, stands_page, stepped_page, valid_call}
use Rattle.page.proofs.Laws.{filled_going, filling_on, stored_erase}
use Rattle.page.specs.Aliases.{PageTold, PageCall}
use Rattle.hardware.specs.declared.Told.TheVariants.{Ask}
use Rattle.std.specs.Prelude.{Ok, Some}

module _ (port : Port) (q : Sequence) (form : Form) (tries : ℕ) (m : Meter) (left : ℕ) (h g : Handshake) (a : Answer) (x : Access) (buffer : List ℕ) where
  -- the call before the answer, and what is told after it
  abbrev before : PageCall
  before = Some (port, q, form, tries, m, (record { left = left; request = h }))

  abbrev after : PageTold
  after = Ok (Ask x (Some (port, q, form, tries, m, (record { left = left; request = g }))))

  abbrev moves : Type 0
  moves = RequestMoves port (request_at form left) tries (cap_at tries left) m h a x g

  -- the request that goes on, with nothing noted before its access
  request_next_lem : moves → handshake_next port (request_at form left) (locked q) (Goes (unmarked, g)) ≡ erase (rest_handshake port (request_at form left) (locked q) h a)
  unfolding handshake_next marked acknowledged
  request_next_lem d = rw d.access at (d.yields (locked q))

  pub page_on : valid_held port m ≡ true → ltb left 96 ≡ true → moves
      → Fills (said_page after buffer ≡ lent buffer (stepped_page before buffer a)) (stands_page after) (buffer ≡ kept buffer (buffer_stepped before buffer a)) (FilledAs after buffer (λ l. filled_call before buffer (a ∷ l)))
  unfolding said_page stands_page stepped_page buffer_stepped buffer_page kept lent FilledAs filled_call filled_at filling stored valid_call valid_page access_page rest_page rest_request
  page_on held v d =
      let valid = picked _ _ held (picked _ _ v d.valid) in
      record {
        yields = ap goes (request_on port (request_at form left) (locked q) tries (cap_at tries left) m h g a x _ d) ∙ ap (lent buffer) (sym (admitted _ _ a _ valid d.kind));
        limits = (d.access, picked _ _ held (picked _ _ v d.limits));
        holds = ap (stored (place_of left) buffer) (d.yields (locked q)) ∙ stored_erase _ _ _ ∙ ap (kept buffer) (sym (admitted _ _ a _ valid d.kind));
        fills = λ l. filled_going q port form tries left buffer l unmarked g ∙ filling_on (place_of left) (filled_from q port form tries left) buffer port q form left h a _ l (request_next_lem d);
      }
