-- Two binary digits of a number are set in either order.
use mathlib.Core.Path.{◌≡◌, refl, ap}
use mathlib.Core.Logic.{◌≢◌}
use Prim.Native.Nat.{ℕ, zero, suc, ◌+◌, ◌*◌, ◌/◌, ◌%◌}
use native.Mathlib.Omega.{arith}
use Rattle.event.specs.Step.{digit_set}

half : (h r : ℕ) → (h * 2 + r % 2) / 2 ≡ h
half h r = omega arith

odd : (h r : ℕ) → (h * 2 + r % 2) % 2 ≡ r % 2
odd h r = omega arith

pub digits-commute : (s t v w x : ℕ) → s ≢ t → digit_set s v (digit_set t w x) ≡ digit_set t w (digit_set s v x)
unfolding digit_set
digits-commute zero zero v w x h = absurd (h refl)
digits-commute zero (suc t) v w x h = simp (half, odd)
digits-commute (suc s) zero v w x h = simp (half, odd)
digits-commute (suc s) (suc t) v w x h = simp (half, odd) (ap (λ y. y * 2 + x % 2) (digits-commute s t v w (x / 2) (λ q. h (ap suc q))))
