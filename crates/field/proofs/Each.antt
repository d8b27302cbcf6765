-- What is alike at each place is alike. Assumes nothing.
use mathlib.Core.Path.{◌≡◌, refl}
use Prim.Native.Nat.{ℕ, zero, suc, ◌+◌, ◌<◌}
use native.Mathlib.Nat.{add-zero, add-suc, suc-add, zero-lt-suc}
use native.Mathlib.Omega.{arith}
use Rattle.field.specs.Field.{from}

pub from-same : {A : Type 0} (f g : ℕ → A) (n a : ℕ) → ((j : ℕ) → j < n → f (a + j) ≡ g (a + j)) → from a n f ≡ from a n g
unfolding from
from-same f g zero a h = refl
from-same f g (suc n) a h =
    let e : f a ≡ g a = rw add-zero at (h zero (zero-lt-suc n)) in
    let r = from-same f g n (suc a) (λ j b. rw (suc-add a j, ← add-suc a j) (h (suc j) (omega arith))) in
    cc
