-- The bytes of words and forms of a short text, by computation. Assumes nothing.
use mathlib.Core.Path.{◌≡◌, refl}
use mathlib.Core.List.{List, [], ◌∷◌}
use Prim.Native.Nat.{ℕ}
use lib.ListN.{take}
use Rattle.notation.specs.Words.{ascii, is_letter, is_digit, name_byte, is_name, reserved, own_name, operator, is_count, is_negative, is_number, index_of, bits_of, head_of}
use Rattle.notation.specs.Text.{byte_kind}
use Rattle.vocabulary.specs.Codes.{code_of}
use Rattle.token_scans.specs.Scan.{mode_after, words_in, heads_in}
use Rattle.rep_around.specs.Around.{rep_around}
use Rattle.rep_around.specs.Meaning.{meaning_at}
use Rattle.parts.specs.Bytes.{word_bytes, form_bytes}

abbrev text : List ℕ
text = ascii "(def f (x) (+ x 1)) (rep a 2 (fold-hood* f 0 (nbr a)))"

abbrev earlier : List ℕ
earlier = take 20 text

-- x is parameter 0, 2 a constant, a variable 0
words-shown : (word_bytes [] (take 14 text) (ascii "x") ≡ 1 ∷ 0 ∷ 2 ∷ 1 ∷ 0 ∷ [])
    × (word_bytes earlier (ascii "(rep a ") (ascii "2") ≡ 1 ∷ 0 ∷ 5 ∷ 0 ∷ 0 ∷ 0 ∷ 0 ∷ 2 ∷ [])
    × (word_bytes earlier (ascii "(rep a 2 (fold-hood* f 0 (nbr ") (ascii "a") ≡ 1 ∷ 0 ∷ 2 ∷ 2 ∷ 0 ∷ [])
unfolding meaning_at rep_around mode_after words_in heads_in code_of operator reserved own_name is_name is_letter is_digit name_byte is_number is_count is_negative index_of bits_of byte_kind
words-shown = (refl, refl, refl)

-- the neighbour's value takes slot 1, the fold is by definition 0, the rep has variable 0
forms-shown : (form_bytes earlier (take 45 text) (ascii "nbr") (ascii "a") (5 ∷ []) ≡ 1 ∷ 0 ∷ 3 ∷ 8 ∷ 1 ∷ 5 ∷ [])
    × (form_bytes earlier (take 29 text) (ascii "fold-hood*") (ascii "f") (4 ∷ 6 ∷ []) ≡ 1 ∷ 0 ∷ 4 ∷ 11 ∷ 0 ∷ 4 ∷ 6 ∷ [])
    × (form_bytes earlier earlier (ascii "rep") (ascii "a") (3 ∷ 7 ∷ []) ≡ 1 ∷ 0 ∷ 4 ∷ 5 ∷ 0 ∷ 3 ∷ 7 ∷ [])
unfolding mode_after words_in heads_in head_of code_of operator reserved own_name is_name is_letter is_digit name_byte is_number is_count is_negative index_of byte_kind
forms-shown = (refl, refl, refl)
