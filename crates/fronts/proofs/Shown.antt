-- Fronts of words, by computation. Assumes nothing.
use mathlib.Core.Path.{◌≡◌, refl}
use mathlib.Core.List.{[], ◌∷◌, map}
use Prim.Native.Nat.{ℕ}
use Rattle.notation.specs.Words.{ascii, is_letter, is_digit, name_byte, operator}
use Rattle.fronts.specs.Fronts.{run, name_front, count_front, atom_front, function_front}

-- what the examples compute with
unfoldable opened : ℕ → ℕ
unfolding is_letter is_digit name_byte operator run name_front count_front atom_front function_front
opened n = n

bound : map name_front (ascii "abcdefghijklmnopq" ∷ ascii "abcdefghijklmnop" ∷ ascii "def" ∷ ascii "a+b" ∷ ascii "-x" ∷ []) ≡ 16 ∷ 16 ∷ 3 ∷ 1 ∷ 0 ∷ []
unfolding opened
bound = refl

alone : map atom_front (ascii "2147483648" ∷ ascii "-2147483648" ∷ ascii "0002147483647" ∷ ascii "-" ∷ ascii "-inf" ∷ ascii "iffy" ∷ ascii "<=" ∷ []) ≡ 9 ∷ 10 ∷ 13 ∷ 1 ∷ 1 ∷ 4 ∷ 0 ∷ []
unfolding opened
alone = refl

functions : map function_front (ascii "<=" ∷ ascii ">=" ∷ ascii "=x" ∷ ascii "==x" ∷ ascii "!=" ∷ ascii "-1" ∷ ascii "7" ∷ ascii "nbr-rang" ∷ []) ≡ 1 ∷ 2 ∷ 1 ∷ 2 ∷ 2 ∷ 1 ∷ 0 ∷ 8 ∷ []
unfolding opened
functions = refl
