use Rattle.std.proofs.Common.{arith, rules}
use Rattle.hardware.specs.Prog.{◌>>=◌, followed}
use Rattle.hardware.proofs.Prog.{going_on}
use Rattle.i2c.specs.Handshake.{access_handshake, due_handshake, due_handshake_next, handshake_next, rest_handshake, valid_handshake, valid_handshake_next}
use Rattle.i2c.specs.Retry.{due_retry_next, retry_next, valid_retry_next}
use Rattle.i2c.proofs.handshake.inside.Goals as goal

pub returns-in-Going : goal.returns-in-Going
unfolding handshake_next access_handshake rest_handshake valid_handshake_next valid_handshake due_handshake_next due_handshake retry_next valid_retry_next due_retry_next
returns-in-Going c = rw c.in-Going.is (record { yields = λ how. going_on _ _ _ _; limits = λ most h. h; due = omega arith })

pub returns-in-End : goal.returns-in-End
unfolding retry_next followed ◌>>=◌ valid_retry_next due_retry_next
returns-in-End c = search rules
