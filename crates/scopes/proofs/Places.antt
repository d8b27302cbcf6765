-- The lowest of two lists. Assumes nothing.
use mathlib.Core.Path.{◌≡◌, refl, ap}
use mathlib.Core.List.{List, [], ◌∷◌, ◌++◌}
use mathlib.Core.Option.{Option, none, some}
use Prim.Native.Nat.{ℕ}
use native.Mathlib.Omega.{arith}
use Rattle.program.specs.Check.{lowest}
use Rattle.scopes.specs.Places.{lower}

pub lower-append : (a b : List ℕ) → lowest (a ++ b) ≡ lower (lowest a) (lowest b)
unfolding lowest
lower-append [] b = refl
lower-append (n ∷ a) b = go (lowest a) (lowest b) refl refl (lower-append a b)
  where
    go : (x y : Option ℕ) → lowest a ≡ x → lowest b ≡ y → lowest (a ++ b) ≡ lower (lowest a) (lowest b)
        → lowest (n ∷ a ++ b) ≡ lower (lowest (n ∷ a)) (lowest b)
    go none none p q r = rw (r, p, q)
    go none (some m) p q r = rw (r, p, q)
    go (some k) none p q r = rw (r, p, q)
    go (some k) (some m) p q r = rw (r, p, q) (ap some (omega arith))

pub lower_none : (x : Option ℕ) → lower x none ≡ x
lower_none none = refl
lower_none (some n) = refl

pub lower_comm : (x y : Option ℕ) → lower x y ≡ lower y x
lower_comm none none = refl
lower_comm none (some m) = refl
lower_comm (some n) none = refl
lower_comm (some n) (some m) = ap some (omega arith)

pub lower_assoc : (x y z : Option ℕ) → lower (lower x y) z ≡ lower x (lower y z)
lower_assoc none y z = refl
lower_assoc (some n) none z = refl
lower_assoc (some n) (some m) none = refl
lower_assoc (some n) (some m) (some k) = ap some (omega arith)

-- a part that comes behind another, first
pub lower_turn : (x y z : Option ℕ) → lower x (lower y z) ≡ lower y (lower x z)
lower_turn none y z = refl
lower_turn (some n) none z = refl
lower_turn (some n) (some m) none = ap some (omega arith)
lower_turn (some n) (some m) (some k) = ap some (omega arith)
