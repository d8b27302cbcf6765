-- The next and the last token of texts, by computation. Assumes nothing.
use mathlib.Core.Path.{◌≡◌, refl}
use mathlib.Core.List.{List, [], ◌∷◌}
use Prim.Native.Nat.{ℕ}
use Rattle.notation.specs.Words.{ascii}
use Rattle.notation.specs.Grammar.{opening, closing, word}
use Rattle.notation.specs.Text.{byte_kind}
use Rattle.std.specs.Prelude.{Option, Some, None}
use Rattle.lexemes.specs.declared.Kind.{Kind}
use Rattle.lexemes.specs.declared.Kind.TheVariants.{Opening, Closing, Word}
use Rattle.lexemes.specs.declared.Lexeme.{Lexeme}
use Rattle.lexemes.specs.Lexeme.{blank_size, word_size, next_lexeme, last_lexeme, token_of}

abbrev of : Kind → ℕ → ℕ → Lexeme
of kind start end = record { kind = kind; start = start; end = end }

abbrev is : Option Lexeme → Kind → ℕ → ℕ → Type 0
is r kind start end = r ≡ Some (of kind start end)

abbrev text : List ℕ
text = ascii "(def f)  "

next-shown : is (next_lexeme text 0) Opening 0 1 × is (next_lexeme text 1) Word 1 4 × is (next_lexeme text 4) Word 5 6 × is (next_lexeme text 6) Closing 6 7 × (next_lexeme text 7 ≡ None)
unfolding blank_size word_size byte_kind
next-shown = (refl, refl, refl, refl, refl)

last-shown : is (last_lexeme text 9) Closing 6 7 × is (last_lexeme text 6) Word 5 6 × is (last_lexeme text 5) Word 1 4 × is (last_lexeme text 1) Opening 0 1 × (last_lexeme text 0 ≡ None)
unfolding blank_size word_size byte_kind
last-shown = (refl, refl, refl, refl, refl)

-- from inside a word its rest, up to inside a word what stands before
inside-shown : is (next_lexeme text 2) Word 2 4 × is (last_lexeme text 3) Word 1 3
unfolding blank_size word_size byte_kind
inside-shown = (refl, refl)

tokens-shown : (token_of text (of Opening 0 1) ≡ opening) × (token_of text (of Word 1 4) ≡ word (ascii "def")) × (token_of text (of Closing 6 7) ≡ closing)
tokens-shown = (refl, refl, refl)

-- line ends are blanks, 10 and 13; a tab is part of a word
blanks-shown : is (next_lexeme (13 ∷ 10 ∷ 97 ∷ []) 0) Word 2 3 × is (next_lexeme (32 ∷ 9 ∷ 97 ∷ []) 0) Word 1 3
unfolding blank_size word_size byte_kind
blanks-shown = (refl, refl)
