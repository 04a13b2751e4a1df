-- A register is read until a bit of it is clear.
use Rattle.std.specs.Prelude.{ℕ, suc, zero, Bool, true, ltb}
use Rattle.hardware.specs.declared.Access.{Access}
use Rattle.hardware.specs.declared.Access.TheVariants.{Read, Wait}
use Rattle.hardware.specs.declared.Answer.{Answer}
use Rattle.hardware.specs.declared.poll.Watch.{Watch}
use Rattle.hardware.specs.declared.poll.Poll.{Poll}
use Rattle.hardware.specs.declared.poll.Poll.TheVariants.{Reading, Waiting}
use Rattle.hardware.specs.Aliases.{PollNext}
use Rattle.hardware.specs.declared.Next.TheVariants.{Going, End}
use Rattle.hardware.specs.Prog.{Prog, ret, ask, erase, R, Ok, or_err, ◌>>?◌, pick}
use Rattle.hardware.specs.Registers.{none_of, read, delay, checked, reply}

-- what a read makes of the value; again: the rest of the loop
unfoldable pub polled : Watch → (ℕ → Prog (R ℕ)) → ℕ → Prog (R ℕ)
polled w again v = pick (none_of v w.bit) (ret (Ok v)) (delay w.us.0 >>? λ _. again v)

-- at most `tries` reads, each that finds the bit set followed by a wait; the value last read
unfoldable pub poll : Watch → ℕ → ℕ → Prog (R ℕ)
poll w zero last = ret (Ok last)
poll w (suc left) last = read w.register >>? polled w (poll w left)

unfoldable pub access_poll : Watch → Poll → Access
access_poll w (Reading left) = Read w.register
access_poll w (Waiting left last) = Wait w.us

-- what follows the answer
unfoldable pub rest_poll : Watch → Poll → Answer → Prog (R ℕ)
rest_poll w (Reading left) a = or_err (polled w (poll w left)) (checked a)
rest_poll w (Waiting left last) a = poll w left last

unfoldable pub poll_next : Watch → PollNext → Prog (R ℕ)
poll_next w (Going s) = ask (access_poll w s) (λ a. erase (rest_poll w s a))
poll_next w (End v) = ret (reply v)

-- the reads left are fewer than the limit
unfoldable pub valid_poll : ℕ → Poll → Bool
valid_poll tries (Reading left) = ltb left tries
valid_poll tries (Waiting left last) = ltb left tries

-- what is left keeps within the limit
unfoldable pub valid_poll_next : ℕ → PollNext → Bool
valid_poll_next tries (Going s) = valid_poll tries s
valid_poll_next tries (End v) = true
