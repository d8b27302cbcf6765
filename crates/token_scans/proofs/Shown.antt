-- Scans of short texts, by computation. Assumes nothing.
use mathlib.Core.Path.{◌≡◌, refl}
use mathlib.Core.List.{[], ◌∷◌}
use Rattle.notation.specs.Words.{ascii, is_letter, is_digit, name_byte, is_name, reserved, own_name, operator, is_count, is_negative, is_number, index_of}
use Rattle.notation.specs.Text.{byte_kind}
use Rattle.notation.proofs.Lexing.{lex}
use Rattle.vocabulary.specs.Codes.{code_of}
use Rattle.token_scans.specs.Scan.{mode_after, words_in, heads_in, definitions_in, parameters_in, slots_in, reps_in}

names-shown : (definitions_in (lex (ascii "(def f (x y) x) (def g () 1) (f (g) 2)")) ≡ ascii "f" ∷ ascii "g" ∷ []) × (parameters_in (lex (ascii "(def f (x y) x")) ≡ ascii "x" ∷ ascii "y" ∷ [])
unfolding mode_after words_in code_of operator reserved own_name is_name is_letter is_digit name_byte is_number is_count is_negative index_of byte_kind
names-shown = (refl, refl)

counts-shown : (slots_in (lex (ascii "(+ (nbr 1) (rep a (nbr-range) (nbr-lag)))")) ≡ 3) × (reps_in (lex (ascii "(rep a 0 (rep b a b))")) ≡ 2)
unfolding mode_after heads_in code_of operator reserved own_name is_name is_letter is_digit name_byte is_number is_count is_negative index_of byte_kind
counts-shown = (refl, refl)
