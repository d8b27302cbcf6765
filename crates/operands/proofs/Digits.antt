-- The widths as the digits of one number. Assumes nothing.
use mathlib.Core.Path.{◌≡◌, refl}
use mathlib.Core.Bool.{Bool}
use Prim.Native.Nat.{ℕ, ◌*◌, ◌/◌, ◌%◌, ◌^◌, ◌<◌}
use lib.ListN.{get_or}
use lib.Dec.{eqb}
use borrow.Author.Tests.{eqb-true}
use Rattle.decide.proofs.Below.{all-below}
use Rattle.operands.specs.Formed.{widths, packed}

digit : ℕ → Bool
digit f = eqb (packed widths / 2 ^ (2 * f) % 4) (get_or widths f 0)

pub width_digit : (f : ℕ) → f < 32 → packed widths / 2 ^ (2 * f) % 4 ≡ get_or widths f 0
unfolding digit
width_digit f h = eqb-true _ _ (all-below digit 32 refl f h)
