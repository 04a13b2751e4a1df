-- A call on the host's registers as a value: it has ended, it asks for one access and goes on with the answer, it
-- notes something that no register sees, or it gives a byte out.
use Rattle.std.specs.Prelude.{ℕ, suc, max, Bool, true, false, Result}
pub use Rattle.std.specs.Prelude.{Ok, Err}
use Rattle.hardware.specs.declared.Access.{Access}
use Rattle.hardware.specs.declared.Answer.{Answer}
use Rattle.hardware.specs.declared.Meter.{Meter}
use Rattle.hardware.specs.Failures.{Failure}

-- Attempt: a transfer begins. Acquires: `acquire` is called. Acquired: it succeeded. Released: `release` is called.
-- Lapsed: a bounded wait for a lock or a grant ran out. Acknowledged: a byte was, in the sample with this number, 1 to 10.
pub data Note : Type 0 where
  Attempt Acquires Acquired Released Lapsed : Note
  Acknowledged : ℕ → Note

pub data Prog (A : Type 0) : Type 0 where
  ret : A → Prog A
  ask : Access → (Answer → Prog A) → Prog A
  note : Note → Prog A → Prog A
  give : ℕ → Prog A → Prog A

infixl 20 ◌>>=◌
unfoldable pub ◌>>=◌ : {A B : Type 0} → Prog A → (A → Prog B) → Prog B
ret a >>= k = k a
ask x f >>= k = ask x (λ r. f r >>= k)
note n p >>= k = note n (p >>= k)
give b p >>= k = give b (p >>= k)

-- the notes that marks tell, since a result goes by them
abbrev pub is_told : Note → Bool
is_told Attempt = true
is_told Acquires = false
is_told Acquired = false
is_told Released = false
is_told Lapsed = false
is_told (Acknowledged sample) = true

abbrev pub note_if : {A : Type 0} → Bool → Note → Prog A → Prog A
note_if true n p = note n p
note_if false n p = p

abbrev pub stays : {A : Type 0} → Note → Prog A → Prog A
stays n p = note_if (is_told n) n p

-- what the host sees of it: the same accesses, bytes and end, and the notes that marks tell
unfoldable pub erase : {A : Type 0} → Prog A → Prog A
erase (ret a) = ret a
erase (ask x f) = ask x (λ r. erase (f r))
erase (note n p) = stays n (erase p)
erase (give b p) = give b (erase p)

unfoldable pub pick : {A : Type 0} → Bool → A → A → A
pick true a b = a
pick false a b = b

-- the Rust's `R<T>`
abbrev pub R : Type 0 → Type 0
R A = Result A Failure

-- the Rust's `?`
unfoldable pub or_err : {A B : Type 0} → (A → Prog (R B)) → R A → Prog (R B)
or_err k (Ok a) = k a
or_err k (Err e) = ret (Err e)

infixl 20 ◌>>?◌
abbrev pub ◌>>?◌ : {A B : Type 0} → Prog (R A) → (A → Prog (R B)) → Prog (R B)
p >>? k = p >>= or_err k

-- what is left of a call, already erased, followed by k
unfoldable pub followed : {A B : Type 0} → Prog A → (A → Prog B) → Prog B
followed p k = p >>= (λ v. erase (k v))

-- What a result tells of the way to it, beside what the call gave
pub record Counted (A : Type 0) : Type 0 where
  pub meter : Meter
  pub result : A

-- one more for each attempt
abbrev pub attempts_after : Note → ℕ → ℕ
attempts_after Attempt n = suc n
attempts_after Acquires n = n
attempts_after Acquired n = n
attempts_after Released n = n
attempts_after Lapsed n = n
attempts_after (Acknowledged sample) n = n

-- the greatest sample
abbrev pub slowest_after : Note → ℕ → ℕ
slowest_after Attempt n = n
slowest_after Acquires n = n
slowest_after Acquired n = n
slowest_after Released n = n
slowest_after Lapsed n = n
slowest_after (Acknowledged sample) n = max n sample

-- the meter after a note
abbrev pub metered : Note → Meter → Meter
metered k m = record { transfers = attempts_after k m.transfers; slowest = slowest_after k m.slowest }

-- before the first note
abbrev pub blank : Meter
blank = record { transfers = 0; slowest = 0 }

-- the end carries the meter after all that was noted on the way
unfoldable pub tally : {A : Type 0} → Meter → Prog A → Prog (Counted A)
tally m (ret a) = ret (record { meter = m; result = a })
tally m (ask x f) = ask x (λ r. tally m (f r))
tally m (note k p) = tally (metered k m) p
tally m (give b p) = give b (tally m p)
