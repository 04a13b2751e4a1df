use Rattle.std.proofs.Common.{rules}
use Rattle.hardware.specs.Marks.{acknowledged, marked, more}
use Rattle.hardware.specs.Change.{update_next}
use Rattle.hardware.specs.Prog.{◌>>=◌, erase, followed, or_err, pick}
use Rattle.hardware.specs.Registers.{reply}
use Rattle.hardware.proofs.Prog.{going}
use Rattle.i2c.specs.Handshake.{access_handshake, due_handshake, due_handshake_next, handshake_next, rest_handshake, valid_handshake, valid_handshake_next}
use mathlib.Core.Path.{refl}
use Rattle.i2c.proofs.handshake.given.Goals as goal

pub returns-in-Going : goal.returns-in-Going
unfolding marked acknowledged handshake_next access_handshake rest_handshake valid_handshake_next valid_handshake due_handshake_next due_handshake more pick update_next
returns-in-Going c = record { yields = λ port r how. rw c.in-Going.is (going _ _ _); limits = λ most port r. refl; due = λ r. refl }

pub returns-in-Ok : goal.returns-in-Ok
unfolding handshake_next followed ◌>>=◌ or_err reply erase valid_handshake_next due_handshake_next update_next
returns-in-Ok c = search rules

pub returns-in-Err : goal.returns-in-Err
unfolding handshake_next followed ◌>>=◌ or_err reply erase valid_handshake_next due_handshake_next update_next
returns-in-Err c = search rules
