-- States of `hostif` as numbers, and back; back again nothing is lost. Written by `derive`.
use Rattle.std.specs.Prelude.{◌≡◌, refl, eqb, Some, None}
use Rattle.flat.specs.Pick.{pick, bit, set, back_bit}
use Rattle.hostif.specs.declared.request.Request.{Request}
use Rattle.hostif.specs.declared.request.Request.TheVariants.{Fwsts as RequestFwsts, Hicr as RequestHicr, Word as RequestWord, Start as RequestStart, Polling as RequestPolling}
use Rattle.flat.specs.declared.of_hostif.RequestFlat.{RequestFlat}
use Rattle.hostif.specs.declared.response.Response.{Response}
use Rattle.hostif.specs.declared.response.Response.TheVariants.{Head as ResponseHead, Rest as ResponseRest}
use Rattle.flat.specs.declared.of_hostif.ResponseFlat.{ResponseFlat}
use Rattle.hostif.specs.declared.command.Command.{Command}
use Rattle.hostif.specs.declared.command.Command.TheVariants.{Acquiring as CommandAcquiring, Requesting as CommandRequesting, Responding as CommandResponding, Releasing as CommandReleasing}
use Rattle.flat.specs.declared.of_hostif.CommandFlat.{CommandFlat}
use Rattle.hostif.specs.declared.token.Token.{Token}
use Rattle.flat.specs.declared.of_hostif.TokenFlat.{TokenFlat}
use Rattle.hostif.specs.Aliases.{TokenCall}
use Rattle.flat.specs.declared.State.{State}
use Rattle.hostif.specs.Aliases.{CommandCall}
use Rattle.flat.specs.Hardware.{flat_byte, the_byte, back_byte}
use Rattle.flat.specs.Hardware.{flat_port, the_port, back_port}
use Rattle.flat.specs.Hardware.{flat_update, the_update, back_update}
use Rattle.flat.specs.Hardware.{flat_poll, the_poll, back_poll}
use Rattle.flat.specs.Sync.{flat_acquire_bits, the_acquire_bits, back_acquire_bits}
use Rattle.flat.specs.Sync.{flat_release_bits, the_release_bits, back_release_bits}

unfoldable pub flat_request : Request → RequestFlat
flat_request (RequestFwsts x0) = record { tag = 0; b1 = (flat_update x0).tag; w0 = (flat_update x0).w0; w1 = 0 }
flat_request RequestHicr = record { tag = 1; b1 = 0; w0 = 0; w1 = 0 }
flat_request (RequestWord x0 x1) = record { tag = 2; b1 = x1; w0 = x0; w1 = 0 }
flat_request (RequestStart x0) = record { tag = 3; b1 = 0; w0 = x0; w1 = 0 }
flat_request (RequestPolling x0) = record { tag = 4; b1 = (flat_poll x0).tag; w0 = (flat_poll x0).w0; w1 = (flat_poll x0).w1 }

unfoldable pub the_request : RequestFlat → Request
the_request b =
    pick (eqb b.tag 0) (RequestFwsts (the_update (record { tag = b.b1; w0 = b.w0 })))
    (pick (eqb b.tag 1) (RequestHicr)
    (pick (eqb b.tag 2) (RequestWord b.w0 b.b1)
    (pick (eqb b.tag 3) (RequestStart b.w0)
    (RequestPolling (the_poll (record { tag = b.b1; w0 = b.w0; w1 = b.w1 }))))))

pub back_request : (s : Request) → the_request (flat_request s) ≡ s
unfolding flat_request the_request
back_request (RequestFwsts x0) = λ i. RequestFwsts (back_update x0 i)
back_request RequestHicr = refl
back_request (RequestWord x0 x1) = refl
back_request (RequestStart x0) = refl
back_request (RequestPolling x0) = λ i. RequestPolling (back_poll x0 i)

unfoldable pub flat_response : Response → ResponseFlat
flat_response (ResponseHead x0) = record { tag = 0; b1 = 0; w0 = x0 }
flat_response (ResponseRest x0 x1) = record { tag = 1; b1 = x1; w0 = x0 }

unfoldable pub the_response : ResponseFlat → Response
the_response b =
    pick (eqb b.tag 0) (ResponseHead b.w0)
    (ResponseRest b.w0 b.b1)

pub back_response : (s : Response) → the_response (flat_response s) ≡ s
unfolding flat_response the_response
back_response (ResponseHead x0) = refl
back_response (ResponseRest x0 x1) = refl

unfoldable pub flat_command : Command → CommandFlat
flat_command (CommandAcquiring x0) = record { tag = 0; b1 = (flat_acquire_bits x0).b0; b2 = (flat_acquire_bits x0).b1; b3 = (flat_acquire_bits x0).b2; b4 = (flat_acquire_bits x0).b3; b5 = (flat_acquire_bits x0).b4; b6 = (flat_acquire_bits x0).b5; b7 = (flat_acquire_bits x0).b6; b8 = 0; b9 = 0; b10 = 0; b11 = 0; w0 = (flat_acquire_bits x0).w0; w1 = (flat_acquire_bits x0).w1; w2 = (flat_acquire_bits x0).w2 }
flat_command (CommandRequesting x0) = record { tag = 1; b1 = (flat_request x0).tag; b2 = (flat_request x0).b1; b3 = 0; b4 = 0; b5 = 0; b6 = 0; b7 = 0; b8 = 0; b9 = 0; b10 = 0; b11 = 0; w0 = (flat_request x0).w0; w1 = (flat_request x0).w1; w2 = 0 }
flat_command (CommandResponding x0) = record { tag = 2; b1 = (flat_response x0).tag; b2 = (flat_response x0).b1; b3 = 0; b4 = 0; b5 = 0; b6 = 0; b7 = 0; b8 = 0; b9 = 0; b10 = 0; b11 = 0; w0 = (flat_response x0).w0; w1 = 0; w2 = 0 }
flat_command (CommandReleasing x0 x1) = record { tag = 3; b1 = (flat_release_bits x0).tag; b2 = (flat_release_bits x0).b1; b3 = (flat_release_bits x0).b2; b4 = (flat_release_bits x0).b3; b5 = (flat_release_bits x0).b4; b6 = (flat_release_bits x0).b5; b7 = (flat_release_bits x0).b6; b8 = (flat_byte x1).tag; b9 = (flat_byte x1).b1; b10 = (flat_byte x1).b2; b11 = (flat_byte x1).b3; w0 = (flat_release_bits x0).w0; w1 = (flat_release_bits x0).w1; w2 = (flat_byte x1).w0 }

unfoldable pub the_command : CommandFlat → Command
the_command b =
    pick (eqb b.tag 0) (CommandAcquiring (the_acquire_bits (record { b0 = b.b1; b1 = b.b2; b2 = b.b3; b3 = b.b4; b4 = b.b5; b5 = b.b6; b6 = b.b7; w0 = b.w0; w1 = b.w1; w2 = b.w2 })))
    (pick (eqb b.tag 1) (CommandRequesting (the_request (record { tag = b.b1; b1 = b.b2; w0 = b.w0; w1 = b.w1 })))
    (pick (eqb b.tag 2) (CommandResponding (the_response (record { tag = b.b1; b1 = b.b2; w0 = b.w0 })))
    (CommandReleasing (the_release_bits (record { tag = b.b1; b1 = b.b2; b2 = b.b3; b3 = b.b4; b4 = b.b5; b5 = b.b6; b6 = b.b7; w0 = b.w0; w1 = b.w1 })) (the_byte (record { tag = b.b8; b1 = b.b9; b2 = b.b10; b3 = b.b11; w0 = b.w2 })))))

pub back_command : (s : Command) → the_command (flat_command s) ≡ s
unfolding flat_command the_command
back_command (CommandAcquiring x0) = λ i. CommandAcquiring (back_acquire_bits x0 i)
back_command (CommandRequesting x0) = λ i. CommandRequesting (back_request x0 i)
back_command (CommandResponding x0) = λ i. CommandResponding (back_response x0 i)
back_command (CommandReleasing x0 x1) = λ i. CommandReleasing (back_release_bits x0 i) (back_byte x1 i)

unfoldable pub flat_token : Token → TokenFlat
flat_token s = record { b0 = (flat_command s.command).tag; b1 = (flat_command s.command).b1; b2 = (flat_command s.command).b2; b3 = (flat_command s.command).b3; b4 = (flat_command s.command).b4; b5 = (flat_command s.command).b5; b6 = (flat_command s.command).b6; b7 = (flat_command s.command).b7; b8 = (flat_command s.command).b8; b9 = (flat_command s.command).b9; b10 = (flat_command s.command).b10; b11 = (flat_command s.command).b11; w0 = (flat_command s.command).w0; w1 = (flat_command s.command).w1; w2 = (flat_command s.command).w2; w3 = s.first; w4 = s.second }

unfoldable pub the_token : TokenFlat → Token
the_token b = record { first = b.w3; second = b.w4; command = the_command (record { tag = b.b0; b1 = b.b1; b2 = b.b2; b3 = b.b3; b4 = b.b4; b5 = b.b5; b6 = b.b6; b7 = b.b7; b8 = b.b8; b9 = b.b9; b10 = b.b10; b11 = b.b11; w0 = b.w0; w1 = b.w1; w2 = b.w2 }) }

pub back_token : (s : Token) → the_token (flat_token s) ≡ s
unfolding flat_token the_token
back_token s = λ i. record { first = s.first; second = s.second; command = back_command s.command i }

unfoldable pub flat_token_call : TokenCall → State
flat_token_call (Some (x0, x1, x2)) = record { call = 7; tag = 0; b1 = (flat_port x0).b0; b2 = (flat_port x0).b1; b3 = (flat_token x2).b0; b4 = (flat_token x2).b1; b5 = (flat_token x2).b2; b6 = (flat_token x2).b3; b7 = (flat_token x2).b4; b8 = (flat_token x2).b5; b9 = (flat_token x2).b6; b10 = (flat_token x2).b7; b11 = (flat_token x2).b8; b12 = (flat_token x2).b9; b13 = (flat_token x2).b10; b14 = (flat_token x2).b11; b15 = bit x1; b16 = 0; b17 = 0; b18 = 0; b19 = 0; b20 = 0; b21 = 0; b22 = 0; b23 = 0; h0 = (flat_port x0).h0; h1 = 0; h2 = 0; h3 = 0; h4 = 0; h5 = 0; h6 = 0; w0 = (flat_token x2).w0; w1 = (flat_token x2).w1; w2 = (flat_token x2).w2; w3 = (flat_token x2).w3; w4 = (flat_token x2).w4; w5 = 0; w6 = 0; w7 = 0; w8 = 0; z0 = 0 }
flat_token_call None = record { call = 7; tag = 1; b1 = 0; b2 = 0; b3 = 0; b4 = 0; b5 = 0; b6 = 0; b7 = 0; b8 = 0; b9 = 0; b10 = 0; b11 = 0; b12 = 0; b13 = 0; b14 = 0; b15 = 0; b16 = 0; b17 = 0; b18 = 0; b19 = 0; b20 = 0; b21 = 0; b22 = 0; b23 = 0; h0 = 0; h1 = 0; h2 = 0; h3 = 0; h4 = 0; h5 = 0; h6 = 0; w0 = 0; w1 = 0; w2 = 0; w3 = 0; w4 = 0; w5 = 0; w6 = 0; w7 = 0; w8 = 0; z0 = 0 }

unfoldable pub the_token_call : State → TokenCall
the_token_call b =
    pick (eqb b.tag 0) (Some ((the_port (record { b0 = b.b1; b1 = b.b2; h0 = b.h0 })), (set b.b15), (the_token (record { b0 = b.b3; b1 = b.b4; b2 = b.b5; b3 = b.b6; b4 = b.b7; b5 = b.b8; b6 = b.b9; b7 = b.b10; b8 = b.b11; b9 = b.b12; b10 = b.b13; b11 = b.b14; w0 = b.w0; w1 = b.w1; w2 = b.w2; w3 = b.w3; w4 = b.w4 }))))
    (None)

pub back_token_call : (s : TokenCall) → the_token_call (flat_token_call s) ≡ s
unfolding flat_token_call the_token_call
back_token_call (Some (x0, x1, x2)) = λ i. Some ((back_port x0 i), (back_bit x1 i), (back_token x2 i))
back_token_call None = refl

pub number_token_call : (s : TokenCall) → (flat_token_call s).call ≡ 7
unfolding flat_token_call
number_token_call (Some (x0, x1, x2)) = refl
number_token_call None = refl

unfoldable pub flat_command_call : CommandCall → State
flat_command_call (Some (x0, x1)) = record { call = 8; tag = 0; b1 = (flat_port x0).b0; b2 = (flat_port x0).b1; b3 = (flat_command x1).tag; b4 = (flat_command x1).b1; b5 = (flat_command x1).b2; b6 = (flat_command x1).b3; b7 = (flat_command x1).b4; b8 = (flat_command x1).b5; b9 = (flat_command x1).b6; b10 = (flat_command x1).b7; b11 = (flat_command x1).b8; b12 = (flat_command x1).b9; b13 = (flat_command x1).b10; b14 = (flat_command x1).b11; b15 = 0; b16 = 0; b17 = 0; b18 = 0; b19 = 0; b20 = 0; b21 = 0; b22 = 0; b23 = 0; h0 = (flat_port x0).h0; h1 = 0; h2 = 0; h3 = 0; h4 = 0; h5 = 0; h6 = 0; w0 = (flat_command x1).w0; w1 = (flat_command x1).w1; w2 = (flat_command x1).w2; w3 = 0; w4 = 0; w5 = 0; w6 = 0; w7 = 0; w8 = 0; z0 = 0 }
flat_command_call None = record { call = 8; tag = 1; b1 = 0; b2 = 0; b3 = 0; b4 = 0; b5 = 0; b6 = 0; b7 = 0; b8 = 0; b9 = 0; b10 = 0; b11 = 0; b12 = 0; b13 = 0; b14 = 0; b15 = 0; b16 = 0; b17 = 0; b18 = 0; b19 = 0; b20 = 0; b21 = 0; b22 = 0; b23 = 0; h0 = 0; h1 = 0; h2 = 0; h3 = 0; h4 = 0; h5 = 0; h6 = 0; w0 = 0; w1 = 0; w2 = 0; w3 = 0; w4 = 0; w5 = 0; w6 = 0; w7 = 0; w8 = 0; z0 = 0 }

unfoldable pub the_command_call : State → CommandCall
the_command_call b =
    pick (eqb b.tag 0) (Some ((the_port (record { b0 = b.b1; b1 = b.b2; h0 = b.h0 })), (the_command (record { tag = b.b3; b1 = b.b4; b2 = b.b5; b3 = b.b6; b4 = b.b7; b5 = b.b8; b6 = b.b9; b7 = b.b10; b8 = b.b11; b9 = b.b12; b10 = b.b13; b11 = b.b14; w0 = b.w0; w1 = b.w1; w2 = b.w2 }))))
    (None)

pub back_command_call : (s : CommandCall) → the_command_call (flat_command_call s) ≡ s
unfolding flat_command_call the_command_call
back_command_call (Some (x0, x1)) = λ i. Some ((back_port x0 i), (back_command x1 i))
back_command_call None = refl

pub number_command_call : (s : CommandCall) → (flat_command_call s).call ≡ 8
unfolding flat_command_call
number_command_call (Some (x0, x1)) = refl
number_command_call None = refl
