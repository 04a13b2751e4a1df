-- What is to be shown where the mux is switched: no write of ESDP moves a line at the module, and with the default sequence one that
-- clears the bit finds the module idle and both lines released; with such a write each release begins.
use Rattle.std.specs.Prelude.{◌≡◌, ℕ, Bool, true, false, not, ◌&&◌, List, [], ◌∷◌, eqb}
use Rattle.hardware.specs.declared.Access.{Access}
use Rattle.hardware.specs.declared.Access.TheVariants.{Read, Write, Wait}
use Rattle.hardware.specs.declared.Answer.{Answer}
use Rattle.hardware.specs.declared.Port.{Port}
use Rattle.hardware.specs.Prog.{Prog, ret, ask, note, give, Note, Attempt, Acquires, Acquired, Released, Lapsed, Acknowledged}
use Rattle.hardware.specs.Registers.{ESDP, none_of}
use Rattle.transfer.specs.declared.attempt.Sequence.{Sequence}
use Rattle.transfer.specs.declared.attempt.Sequence.TheVariants.{Pulses, Rounds}
use Rattle.bus.specs.declared.Layout.{Layout}
use Rattle.bus.specs.Layout.{layout_of}
use Rattle.wire.specs.Lines.{Pulls, master}
use Rattle.wire.specs.Machine.{Side, at_lines}
use Rattle.wire.specs.Always.{nobody, Either}
use Rattle.wire.specs.Run.{Event, at_machine, answered, noticed}
use Rattle.bench.specs.declared.receiver.Stage.TheVariants.{Idle}
use Rattle.bench.specs.Bench.{bench_pulls}
use Rattle.bench.specs.Mux.{has_mux, joins, sees}
use Rattle.demand.specs.Claim.{CountedBench, BenchWorld, caged}

-- p: the master's pulls
unfoldable pub Settled : Sequence → Pulls → CountedBench → Type 0
Settled Pulses p m = Unit {0}
Settled Rounds p m = (m.bench.receiver.stage ≡ Idle) × (p ≡ nobody) × (bench_pulls m.bench ≡ nobody)

unfoldable pub Switches : Sequence → Access → Pulls → CountedBench → Type 0
Switches q (Read r) p m = Unit {0}
Switches q (Write r v) p m =
    (sees (joins true m.esdp) p m.bench ≡ sees (joins true v) p m.bench) × (none_of v 2 ≡ true → Settled q p m)
Switches q (Wait n) p m = Unit {0}

-- the machine of a port, with this asked of it
abbrev pub watched : Sequence → Port → Side
watched q port = caged (has_mux port) (Switches q)

-- in a run: so at each write of ESDP, which is the machine's only where the port has a mux
unfoldable pub Switched : Sequence → Port → Event BenchWorld → Type 0
Switched q port (at_machine (Read r) w) = Unit {0}
Switched q port (at_machine (Write r v) w) = r ≡ ESDP → Switches q (Write r v) (master (layout_of port.family) w.word) w.other
Switched q port (at_machine (Wait n) w) = Unit {0}
Switched q port (answered x a) = Unit {0}
Switched q port (noticed n) = Unit {0}

-- ESDP is written with the bit set
unfoldable pub sets_bit : Access → Bool
sets_bit (Read r) = false
sets_bit (Write r v) = eqb r ESDP && not (none_of v 2)
sets_bit (Wait n) = false

-- Whatever the answers are, no access is to I2CCTL before the bit is set; E holds of the result where it never is
unfoldable pub SetsFirst : Layout → {A : Type 0} → Prog A → (A → Type 0) → Type 0
SetsFirst l (ret a) E = E a
SetsFirst l (ask x f) E = Either (sets_bit x) (Unit {0}) ((at_lines l x ≡ false) × ((a : Answer) → SetsFirst l (f a) E))
SetsFirst l (note n p) E = SetsFirst l p E
SetsFirst l (give b p) E = SetsFirst l p E

-- so in a run: where the bit is first set I2CCTL is this word
unfoldable pub FirstWord : ℕ → List (Event BenchWorld) → Type 0
FirstWord word [] = Unit {0}
FirstWord word (at_machine x w ∷ es) = Either (sets_bit x) (w.word ≡ word) (FirstWord word es)
FirstWord word (answered x a ∷ es) = FirstWord word es
FirstWord word (noticed n ∷ es) = FirstWord word es

-- What comes next is a write of ESDP with the bit clear, with nothing before it but reads of ESDP. The module is settled at the write
-- and, as a read changes nothing, at the reads. Events that end before the write are not so
unfoldable pub NextClears : Sequence → Port → List (Event BenchWorld) → Type 0
NextClears q port [] = ⊥
NextClears q port (at_machine (Read r) w ∷ es) = (r ≡ ESDP) × Settled q (master (layout_of port.family) w.word) w.other × NextClears q port es
NextClears q port (at_machine (Write r v) w ∷ es) = (r ≡ ESDP) × (none_of v 2 ≡ true) × Settled q (master (layout_of port.family) w.word) w.other
NextClears q port (at_machine (Wait n) w ∷ es) = ⊥
NextClears q port (answered x a ∷ es) = ⊥
NextClears q port (noticed n ∷ es) = ⊥

-- asked only where a release begins
abbrev pub AtRelease : Note → Type 0 → Type 0
AtRelease Attempt X = Unit {0}
AtRelease Acquires X = Unit {0}
AtRelease Acquired X = Unit {0}
AtRelease Released X = X
AtRelease Lapsed X = Unit {0}
AtRelease (Acknowledged sample) X = Unit {0}

-- in a run on a port with a mux: so behind the beginning of each release
unfoldable pub Releases : Sequence → Port → List (Event BenchWorld) → Type 0
Releases q port [] = Unit {0}
Releases q port (at_machine x w ∷ es) = Releases q port es
Releases q port (answered x a ∷ es) = Releases q port es
Releases q port (noticed n ∷ es) = AtRelease n (NextClears q port es) × Releases q port es
