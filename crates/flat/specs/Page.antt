-- States of `page` as numbers, and back; back again nothing is lost. Written by `derive`.
use Rattle.std.specs.Prelude.{ℕ, ◌≡◌, refl, eqb, Some, None}
use Rattle.flat.specs.Pick.{pick}
use Rattle.page.specs.declared.walk.Form.{Form}
use Rattle.page.specs.declared.walk.Form.TheVariants.{Sff8472 as FormSff8472, Sff8636 as FormSff8636}
use Rattle.page.specs.declared.walk.Page.{Page}
use Rattle.flat.specs.declared.of_page.PageFlat.{PageFlat}
use Rattle.page.specs.Aliases.{PageCall}
use Rattle.flat.specs.declared.State.{State}
use Rattle.flat.specs.Hardware.{flat_meter, the_meter, back_meter}
use Rattle.flat.specs.Hardware.{flat_port, the_port, back_port}
use Rattle.flat.specs.I2c.{flat_handshake, the_handshake, back_handshake}
use Rattle.flat.specs.Transfer.{flat_sequence, the_sequence, back_sequence}

unfoldable pub flat_form : Form → ℕ
flat_form FormSff8472 = 0
flat_form FormSff8636 = 1

unfoldable pub the_form : ℕ → Form
the_form b =
    pick (eqb b 0) (FormSff8472)
    (FormSff8636)

pub back_form : (s : Form) → the_form (flat_form s) ≡ s
unfolding flat_form the_form
back_form FormSff8472 = refl
back_form FormSff8636 = refl

unfoldable pub flat_page : Page → PageFlat
flat_page s = record { b0 = (flat_handshake s.request).tag; b1 = (flat_handshake s.request).b1; b2 = (flat_handshake s.request).b2; b3 = (flat_handshake s.request).b3; b4 = (flat_handshake s.request).b4; b5 = (flat_handshake s.request).b5; b6 = (flat_handshake s.request).b6; b7 = (flat_handshake s.request).b7; b8 = (flat_handshake s.request).b8; b9 = (flat_handshake s.request).b9; b10 = (flat_handshake s.request).b10; b11 = (flat_handshake s.request).b11; b12 = (flat_handshake s.request).b12; b13 = (flat_handshake s.request).b13; b14 = s.left; h0 = (flat_handshake s.request).h0; w0 = (flat_handshake s.request).w0; w1 = (flat_handshake s.request).w1; w2 = (flat_handshake s.request).w2; z0 = (flat_handshake s.request).z0 }

unfoldable pub the_page : PageFlat → Page
the_page b = record { left = b.b14; request = the_handshake (record { tag = b.b0; b1 = b.b1; b2 = b.b2; b3 = b.b3; b4 = b.b4; b5 = b.b5; b6 = b.b6; b7 = b.b7; b8 = b.b8; b9 = b.b9; b10 = b.b10; b11 = b.b11; b12 = b.b12; b13 = b.b13; h0 = b.h0; w0 = b.w0; w1 = b.w1; w2 = b.w2; z0 = b.z0 }) }

pub back_page : (s : Page) → the_page (flat_page s) ≡ s
unfolding flat_page the_page
back_page s = λ i. record { left = s.left; request = back_handshake s.request i }

unfoldable pub flat_page_call : PageCall → State
flat_page_call (Some (x0, x1, x2, x3, x4, x5)) = record { call = 10; tag = 0; b1 = (flat_page x5).b0; b2 = (flat_page x5).b1; b3 = (flat_page x5).b2; b4 = (flat_page x5).b3; b5 = (flat_page x5).b4; b6 = (flat_page x5).b5; b7 = (flat_page x5).b6; b8 = (flat_page x5).b7; b9 = (flat_page x5).b8; b10 = (flat_page x5).b9; b11 = (flat_page x5).b10; b12 = (flat_page x5).b11; b13 = (flat_page x5).b12; b14 = (flat_page x5).b13; b15 = (flat_port x0).b0; b16 = (flat_port x0).b1; b17 = (flat_meter x4).b0; b18 = (flat_page x5).b14; b19 = flat_sequence x1; b20 = flat_form x2; b21 = x3; b22 = 0; b23 = 0; h0 = (flat_page x5).h0; h1 = (flat_port x0).h0; h2 = 0; h3 = 0; h4 = 0; h5 = 0; h6 = 0; w0 = (flat_page x5).w0; w1 = (flat_page x5).w1; w2 = (flat_page x5).w2; w3 = (flat_meter x4).w0; w4 = 0; w5 = 0; w6 = 0; w7 = 0; w8 = 0; z0 = (flat_page x5).z0 }
flat_page_call None = record { call = 10; tag = 1; b1 = 0; b2 = 0; b3 = 0; b4 = 0; b5 = 0; b6 = 0; b7 = 0; b8 = 0; b9 = 0; b10 = 0; b11 = 0; b12 = 0; b13 = 0; b14 = 0; b15 = 0; b16 = 0; b17 = 0; b18 = 0; b19 = 0; b20 = 0; b21 = 0; b22 = 0; b23 = 0; h0 = 0; h1 = 0; h2 = 0; h3 = 0; h4 = 0; h5 = 0; h6 = 0; w0 = 0; w1 = 0; w2 = 0; w3 = 0; w4 = 0; w5 = 0; w6 = 0; w7 = 0; w8 = 0; z0 = 0 }

unfoldable pub the_page_call : State → PageCall
the_page_call b =
    pick (eqb b.tag 0) (Some ((the_port (record { b0 = b.b15; b1 = b.b16; h0 = b.h1 })), (the_sequence b.b19), (the_form b.b20), b.b21, (the_meter (record { b0 = b.b17; w0 = b.w3 })), (the_page (record { b0 = b.b1; b1 = b.b2; b2 = b.b3; b3 = b.b4; b4 = b.b5; b5 = b.b6; b6 = b.b7; b7 = b.b8; b8 = b.b9; b9 = b.b10; b10 = b.b11; b11 = b.b12; b12 = b.b13; b13 = b.b14; h0 = b.h0; w0 = b.w0; w1 = b.w1; w2 = b.w2; z0 = b.z0; b14 = b.b18 }))))
    (None)

pub back_page_call : (s : PageCall) → the_page_call (flat_page_call s) ≡ s
unfolding flat_page_call the_page_call
back_page_call (Some (x0, x1, x2, x3, x4, x5)) = λ i. Some ((back_port x0 i), (back_sequence x1 i), (back_form x2 i), x3, (back_meter x4 i), (back_page x5 i))
back_page_call None = refl

pub number_page_call : (s : PageCall) → (flat_page_call s).call ≡ 10
unfolding flat_page_call
number_page_call (Some (x0, x1, x2, x3, x4, x5)) = refl
number_page_call None = refl
