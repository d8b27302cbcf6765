-- The bits of a number. Definitions only: nothing is assumed.
use Rattle.std.specs.Prelude.{Bool, List, [], ◌∷◌, ℕ, ◌+◌, ◌/◌, ◌%◌, ◌^◌, eqb}

-- whether m has bit k
abbrev pub has_bit : ℕ → ℕ → Bool
has_bit k m = eqb (m / 2 ^ k % 2) 1

-- the number with these bits, each named once
abbrev pub bits_of : List ℕ → ℕ
bits_of [] = 0
bits_of (k ∷ ks) = 2 ^ k + bits_of ks

-- the number with all 32 bits
abbrev pub all_bits : ℕ
all_bits = 4294967295
