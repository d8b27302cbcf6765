-- Codes and bits of words, by computation. Assumes nothing.
use mathlib.Core.Path.{◌≡◌, refl}
use mathlib.Core.List.{[], ◌∷◌, map}
use Prim.Native.Nat.{ℕ}
use Rattle.notation.specs.Words.{ascii, index_of, is_letter, is_digit, name_byte, is_name, reserved_words, reserved, own_name, operators, operator, is_count, is_negative, is_number, bits_of}
use Rattle.vocabulary.specs.Codes.{code_of}

-- what the examples compute with
unfoldable opened : ℕ → ℕ
unfolding index_of is_letter is_digit name_byte is_name reserved own_name operator is_count is_negative is_number bits_of code_of
opened n = n

listed : (map code_of operators ≡ 0 ∷ 1 ∷ 2 ∷ 3 ∷ 4 ∷ 5 ∷ 6 ∷ 7 ∷ 8 ∷ []) × (map code_of reserved_words ≡ 9 ∷ 10 ∷ 11 ∷ 12 ∷ 13 ∷ 14 ∷ 15 ∷ 16 ∷ 17 ∷ 18 ∷ [])
unfolding opened
listed = (refl, refl)

-- "A name is 1 to 16 of a–z, digits, hyphen and star, beginning with a letter."
names : map code_of (ascii "x" ∷ ascii "abcdefghijklmnop" ∷ ascii "abcdefghijklmnopq" ∷ ascii "iffy" ∷ ascii "nbr-rang" ∷ ascii "fold-hood" ∷ ascii "1st" ∷ ascii "Def" ∷ [])
    ≡ 19 ∷ 19 ∷ 21 ∷ 19 ∷ 19 ∷ 19 ∷ 21 ∷ 21 ∷ []
unfolding opened
names = refl

-- "leading zeros allowed", "one outside floor..inf is outside the grammar"
numbers : map code_of (ascii "2147483647" ∷ ascii "2147483648" ∷ ascii "0002147483647" ∷ ascii "-2147483647" ∷ ascii "-2147483648" ∷ ascii "-0" ∷ ascii "-inf" ∷ [])
    ≡ 20 ∷ 21 ∷ 20 ∷ 20 ∷ 21 ∷ 20 ∷ 21 ∷ []
unfolding opened
numbers = refl

signs : map code_of (ascii "-" ∷ ascii "!=" ∷ ascii "<=" ∷ ascii "=" ∷ ascii "=x" ∷ []) ≡ 1 ∷ 8 ∷ 21 ∷ 21 ∷ 21 ∷ []
unfolding opened
signs = refl

bits : map bits_of (ascii "inf" ∷ ascii "2147483647" ∷ ascii "-2147483647" ∷ ascii "-1" ∷ ascii "-0" ∷ ascii "007" ∷ []) ≡ 2147483647 ∷ 2147483647 ∷ 2147483649 ∷ 4294967295 ∷ 0 ∷ 7 ∷ []
unfolding opened
bits = refl
