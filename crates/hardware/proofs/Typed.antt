-- What an answer's type says of it.
use mathlib.Core.List.{List}
use mir.Val.{Val}
use denote.Laws.{Is}
use denote.Enum.Declared.{row}
use denote.Enum.Laws.{owed}
use Rattle.hardware.specs.declared.Answer.{Answer}
use Rattle.hardware.specs.declared.Answer.TheVariants.{Value, Done, Failed}
use Rattle.hardware.specs.Asked.{InType}
use Rattle.hardware.specs.contracts.Answer.{the_type}
use Rattle.hardware.proofs.Answer.TheLaws.{the_laws}

pub answer_typed : (a : Answer) (vs : List Val) → Is (row the_type) a vs → InType a
unfolding InType
answer_typed (Value v) vs h = (owed the_type the_laws (Value v) vs h).0.1
answer_typed Done vs h = tt
answer_typed Failed vs h = tt
