-- Short texts whose names resolve, and some whose names do not, by computation. Assumes nothing.
use mathlib.Core.Path.{◌≡◌, refl}
use mathlib.Core.Bool.{Bool, true, false}
use mathlib.Core.List.{[]}
use Prim.Native.String.{String}
use Rattle.notation.specs.Words.{ascii, is_letter, is_digit, name_byte, is_name, reserved, own_name, operator, is_count, is_negative, is_number, index_of}
use Rattle.notation.specs.Text.{byte_kind}
use Rattle.notation.proofs.Lexing.{lex}
use Rattle.vocabulary.specs.Codes.{code_of}
use Rattle.token_scans.specs.Scan.{mode_after, words_in}
use Rattle.rep_around.specs.Around.{rep_around}
use Rattle.bindings.specs.Good.{word_good, names_pass}

abbrev good : String → Bool
good s = names_pass [] [] 0 0 (lex (ascii s))

-- names that resolve; unknown, repeated and reserved ones
good-shown : (good "(def f (x) (rep a x (+ a x))) (f 1)" ≡ true) × (good "(rep a a 1)" ≡ false) × (good "(f 1)" ≡ false) × (good "(def f (x x) 1) 2" ≡ false) × (good "(rep if 0 1)" ≡ false)
unfolding names_pass word_good mode_after words_in rep_around code_of operator reserved own_name is_name is_letter is_digit name_byte is_number is_count is_negative index_of byte_kind
good-shown = (refl, refl, refl, refl, refl)
