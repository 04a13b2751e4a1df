-- count lies between the entries at lo and hi, which the rounds so far have brought near one another.
use Rattle.level.proofs.Search.{Between}
use Rattle.level.proofs.lookup.place.Given as goal

abbrev pub invariant-loop : goal.invariant-loop
invariant-loop l = Between l.count l.counter l.lo l.hi
