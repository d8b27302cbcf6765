-- Moves, levels, fronts and the window at examples, by computation. Assumes nothing.
use mathlib.Core.Path.{◌≡◌, refl}
use mathlib.Core.List.{List, [], ◌∷◌}
use mathlib.Core.Option.{some}
use Prim.Native.Nat.{ℕ}
use Rattle.notation.specs.Words.{ascii, index_of, is_letter, is_digit, name_byte, is_name, reserved, own_name, operator, is_count, is_negative, is_number}
use Rattle.notation.specs.Grammar.{Token, opening, closing, word}
use Rattle.lexemes.specs.declared.Kind.TheVariants.{Opening, Closing, Word}
use Rattle.vocabulary.specs.Codes.{code_of}
use Rattle.fronts.specs.Fronts.{run, name_front, count_front, atom_front, function_front}
use Rattle.levels.specs.Levels.{refusal, move_of, move, levels_at, put_at, level_in, advanced, judged, level_front}

-- behind an opening bracket def heads a definition in an outermost form only; behind four parameters no fifth stands
heads-shown : (move_of 3 9 ≡ 18) × (move_of 2 9 ≡ refusal) × (move_of 2 11 ≡ 9) × (move_of 2 19 ≡ 4)
unfolding move_of
heads-shown = (refl, refl, refl, refl)

parameters-shown : (move_of 17 19 ≡ 16) × (move_of 14 19 ≡ 13) × (move_of 13 19 ≡ refusal) × (move_of 13 23 ≡ 30)
unfolding move_of
parameters-shown = (refl, refl, refl, refl)

abbrev senses : List Token
senses = opening ∷ word (ascii "sense") ∷ word (ascii "x") ∷ closing ∷ []

-- the levels of a program, and of one whose third token is refused
levels-shown : (levels_at (0 ∷ []) senses ≡ 1) × (levels_at (0 ∷ []) (opening ∷ word (ascii "sense") ∷ word (ascii "+") ∷ []) ≡ 2)
unfolding levels_at move move_of code_of index_of operator reserved own_name is_name is_letter is_digit name_byte is_number is_count is_negative
levels-shown = (refl, refl)

-- def behind the first bracket: the name is to come, then a program
define-shown : move (3 ∷ 1 ∷ []) 9 ≡ some (11 ∷ 0 ∷ [])
unfolding move move_of
define-shown = refl

-- of a refused word: two letters of a name, the digits of a number, none where a bracket must stand
fronts-shown : (level_front 9 (word (ascii "ab#")) ≡ 2) × (level_front 4 (word (ascii "12x")) ≡ 2) × (level_front 10 (word (ascii ">=x")) ≡ 2)
    × (level_front 5 (word (ascii "ab")) ≡ 0) × (level_front 4 opening ≡ 0)
unfolding atom_front name_front function_front count_front run is_letter is_digit name_byte
fronts-shown = (refl, refl, refl, refl, refl)

-- a window from depth 2 on: the level above it is not held, and what is put there changes nothing
abbrev four : List ℕ
four = 0 ∷ 1 ∷ 2 ∷ 3 ∷ []

window-shown : (level_in 2 1 four ≡ 18) × (level_in 2 4 four ≡ 2) × (level_in 0 4096 four ≡ 18) × (put_at 2 1 7 four ≡ four) × (put_at 2 4 7 four ≡ 0 ∷ 1 ∷ 7 ∷ 3 ∷ [])
window-shown = (refl, refl, refl, refl, refl)

advanced-shown : (advanced 0 1 Opening 4 4 four ≡ 0 ∷ 4 ∷ 2 ∷ 3 ∷ []) × (advanced 0 1 Closing 5 30 four ≡ four) × (advanced 0 1 Word 3 18 four ≡ 0 ∷ 11 ∷ 2 ∷ 3 ∷ [])
advanced-shown = (refl, refl, refl)

unheld-shown : judged 18 Opening (ascii "(") ≡ 0
unheld-shown = refl
