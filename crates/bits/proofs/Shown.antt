-- Bits of a number, and the number with given bits, at examples, by computation. Assumes nothing.
use mathlib.Core.Path.{◌≡◌, refl}
use mathlib.Core.Bool.{true, false}
use mathlib.Core.List.{[], ◌∷◌}
use Rattle.bits.specs.Bits.{has_bit, bits_of, all_bits}

-- 38 is 32 and 4 and 2
had : (has_bit 0 38 ≡ false) × (has_bit 1 38 ≡ true) × (has_bit 2 38 ≡ true) × (has_bit 3 38 ≡ false) × (has_bit 5 38 ≡ true) × (has_bit 6 38 ≡ false)
had = (refl, refl, refl, refl, refl, refl)

-- in any order, each named once
named : (bits_of [] ≡ 0) × (bits_of (0 ∷ []) ≡ 1) × (bits_of (1 ∷ 2 ∷ 5 ∷ []) ≡ 38) × (bits_of (5 ∷ 1 ∷ 2 ∷ []) ≡ 38)
named = (refl, refl, refl, refl)

-- the lowest and the highest, and none above
all : (has_bit 0 all_bits ≡ true) × (has_bit 31 all_bits ≡ true) × (has_bit 32 all_bits ≡ false)
all = (refl, refl, refl)
