-- How far a word that is refused still begins one that is allowed. `proofs/Viable.antt` proves that this is what notation's machine finds viable.
use Rattle.std.specs.Prelude.{Bool, cond, ◌&&◌, [], ◌∷◌, ℕ, suc, ◌+◌, ◌-◌, ◌*◌, min, eqb, leb}
use Rattle.std.specs.List.{prefix_len}
use Rattle.notation.specs.Words.{Word, is_letter, is_digit, name_byte, operator}

-- how many bytes of a name lead, one of them a letter and 16 at most
unfoldable pub run : (ℕ → Bool) → Word → ℕ
run f w = prefix_len f w

unfoldable pub name_front : Word → ℕ
name_front [] = 0
name_front (b ∷ w) = cond (is_letter b) (suc (min 15 (run name_byte w))) 0

-- how many digits lead before the value passes inf
unfoldable pub count_front : ℕ → Word → ℕ
count_front n [] = 0
count_front n (d ∷ w) = cond (is_digit d && leb (n * 10 + (d - 48)) 2147483647) (suc (count_front (n * 10 + (d - 48)) w)) 0

-- of what stands alone
unfoldable pub atom_front : Word → ℕ
atom_front [] = 0
atom_front (b ∷ w) = cond (is_letter b) (name_front (b ∷ w)) (cond (eqb b 45) (suc (count_front 0 w)) (count_front 0 (b ∷ w)))

-- of functions and heads: >= == != have two bytes, the other operators one
abbrev pub equals_next : Word → ℕ
equals_next [] = 1
equals_next (b ∷ w) = cond (eqb b 61) 2 1

unfoldable pub function_front : Word → ℕ
function_front [] = 0
function_front (b ∷ w) =
    cond (is_letter b) (name_front (b ∷ w))
    (cond (eqb b 62) (equals_next w)
    (cond (eqb b 61) (equals_next w)
    (cond (eqb b 33) (equals_next w)
    (cond (operator (b ∷ [])) 1 0))))
