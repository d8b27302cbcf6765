-- Numbers as text. Small ones by computation; inf and floor by their ten digits. Assumes nothing.
use mathlib.Core.Path.{◌≡◌, refl, sym, ap}
use mathlib.Core.List.{List, [], ◌∷◌}
use Prim.Native.Nat.{ℕ}
use native.Mathlib.Omega.{arith}
use lib.IntN.{negsuc}
use Rattle.std.specs.Fmt.{digits}
use Rattle.lines.specs.Text.{spelt, decimal, signed_text}
use Rattle.lines.specs.Example.{Example}
use Rattle.lines.proofs.Digits.{as_decimal}

small : (decimal 0 ≡ 48 ∷ []) × (decimal 1023 ≡ 49 ∷ 48 ∷ 50 ∷ 51 ∷ []) × (signed_text (negsuc 4) ≡ 45 ∷ 53 ∷ [])
unfolding spelt decimal signed_text
small = (refl, refl, refl)

pub shown : Example
unfolding signed_text digits
shown =
    record {
      zero = small.0;
      digits = small.1;
      negative = small.2;
      inf = sym (as_decimal 2147483647 (omega arith));
      floor = ap (λ (l : List ℕ). 45 ∷ l) (sym (as_decimal 2147483647 (omega arith)));
    }
