-- Bytes one after another: what the machine's proofs use.
use Prim.Native.Nat.{ℕ, ◌+◌, ◌*◌, ◌-◌, ◌<◌, ◌≤◌, suc}
use mathlib.Core.Path.{◌≡◌, ap}
use mathlib.Core.Bool.{true, false, true≢false}
use native.Mathlib.Nat.{mul-le-mul, suc-mul}
use native.Mathlib.Omega.{arith}
use lib.Dec.{leb}
use Rattle.hardware.specs.declared.Meter.{Meter}
use Rattle.hardware.specs.declared.Port.{Port}
use Rattle.hardware.specs.Marks.{FULL}
use Rattle.hardware.specs.Prog.{pick}
use Rattle.bus.proofs.Laws.{picked_second}
use Rattle.transfer.specs.declared.attempt.Sequence.{Sequence}
use Rattle.i2c.specs.I2c.{is_write}
use Rattle.i2c.specs.Retry.{wanted}
use Rattle.i2c.proofs.Laws.{fits_below}
use Rattle.light.specs.declared.sensed.Sensed.{Sensed}
use Rattle.light.specs.declared.walk.Light.{Light}
use Rattle.light.specs.Light.{FIRST, light_from, request_at, stops}
use Rattle.light.specs.Walk.{cap_at, valid_light}

-- at most 31 bytes with 255 attempts each
pub cap_few : (tries left : ℕ) → tries ≤ 255 → cap_at tries left ≤ 7905
unfolding cap_at
cap_few tries left h = mul-le-mul places h
  where
    places : suc (FIRST - left) ≤ 31
    places = omega arith

pub cap_most : (tries left : ℕ) → tries ≤ 255 → cap_at tries left < FULL
cap_most tries left h = omega (arith, cap_few tries left h)

pub cap_is : (tries left : ℕ) → left ≤ FIRST → (31 - left) * tries ≡ cap_at tries left
unfolding cap_at
cap_is tries left h = ap (λ n. n * tries) places
  where
    places : 31 - left ≡ suc (FIRST - left)
    places = omega arith

one_more : (n places tries : ℕ) → n ≤ places * tries → n + tries ≤ suc places * tries
one_more n places tries h = rw (suc-mul places tries) (omega (arith, h))

-- the first byte, and each after it, has room for its attempts
pub cap_first : (tries : ℕ) → 0 + tries ≤ cap_at tries FIRST
unfolding cap_at
cap_first tries = one_more 0 0 tries (omega arith)

pub cap_next : (n tries left : ℕ) → (left ≡ 0 → ⊥) → left ≤ FIRST → n ≤ cap_at tries left → n + tries ≤ cap_at tries (left - 1)
unfolding cap_at
cap_next n tries left z h k = rw (next) (one_more n (suc (FIRST - left)) tries k)
  where
    next : FIRST - (left - 1) ≡ suc (FIRST - left)
    next = omega arith

-- where one follows, there is one
pub follows_some : (kind left : ℕ) → stops kind left ≡ false → left ≡ 0 → ⊥
unfolding stops pick
follows_some kind left h z = true≢false (rw z at h)

-- with bytes left, the next is the one that has one fewer after it
pub again : (q : Sequence) (port : Port) (tries left : ℕ) (s : Sensed) → (left ≡ 0 → ⊥)
    → light_from q port tries (suc (left - 1)) s ≡ light_from q port tries left s
again q port tries left s z = ap (λ n. light_from q port tries n s) more
  where
    more : suc (left - 1) ≡ left
    more = omega arith

-- a byte's request makes the attempts that stand in its state
pub own : (tries left : ℕ) → wanted (request_at left) tries ≤ tries
unfolding wanted request_at is_write pick
own tries left = omega arith

-- the count of a state within its limits is below the top of its type
pub valid_below : (port : Port) (tries : ℕ) (m : Meter) (s : Light) → tries ≤ 255 → valid_light port tries m s ≡ true → m.transfers < FULL
unfolding valid_light
valid_below port tries m s h v =
    fits_below port (request_at s.left) tries (cap_at tries s.left) m s.request (cap_most tries s.left h)
    (picked_second (leb s.left FIRST) _ v)
