-- Numbers as text. `proofs/Shown.antt` computes it. Definitions only: nothing is assumed.
use Rattle.std.specs.Prelude.{◌≡◌, [], ◌∷◌, pos, negsuc}
use Rattle.lines.specs.Text.{decimal, signed_text}

pub record Example : Type 0 where
  -- "0", "1023"
  pub zero : decimal 0 ≡ 48 ∷ []
  pub digits : decimal 1023 ≡ 49 ∷ 48 ∷ 50 ∷ 51 ∷ []
  -- "-5", and inf and floor
  pub negative : signed_text (negsuc 4) ≡ 45 ∷ 53 ∷ []
  pub inf : signed_text (pos 2147483647) ≡ 50 ∷ 49 ∷ 52 ∷ 55 ∷ 52 ∷ 56 ∷ 51 ∷ 54 ∷ 52 ∷ 55 ∷ []
  pub floor : signed_text (negsuc 2147483646) ≡ 45 ∷ 50 ∷ 49 ∷ 52 ∷ 55 ∷ 52 ∷ 56 ∷ 51 ∷ 54 ∷ 52 ∷ 55 ∷ []
