-- A word as a number, and a token. `proofs/Laws.antt` proves what the number says of the word in notation's terms.
use Rattle.std.specs.Prelude.{cond, List, [], ◌∷◌, ◌++◌, ℕ, ◌+◌, ◌-◌, ltb, get_or}
use Rattle.notation.specs.Words.{Word, index_of, reserved_words, reserved, own_name, operators, operator, is_number, Head, plain, slotted, operation, rep, fold, define}
use Rattle.notation.specs.Words.{call, nothing}
use Rattle.notation.specs.Grammar.{Token, opening, closing, word}

-- 0 to 8 an operator, 9 to 18 a reserved word (def sense rep if mux nbr nbr-range nbr-lag fold-hood* inf), 19 another name, 20 another number, 21 no word of the notation
unfoldable pub code_of : Word → ℕ
code_of w =
    cond (operator w) (index_of w operators)
    (cond (reserved w) (9 + index_of w reserved_words)
    (cond (own_name w) 19 (cond (is_number w) 20 21)))

-- where a word stands among the operators and the reserved words, 19 where it is none of them
abbrev pub known_words : List Word
known_words = operators ++ reserved_words

unfoldable pub place_of : Word → ℕ
place_of w = index_of w known_words

-- what a word is behind an opening bracket, by its code
abbrev pub form_heads : List Head
form_heads = define ∷ plain 4 1 ∷ rep ∷ plain 6 3 ∷ plain 7 3 ∷ slotted 8 1 ∷ slotted 9 0 ∷ slotted 13 0 ∷ fold ∷ nothing ∷ call ∷ []

unfoldable pub head_by_code : ℕ → Head
head_by_code k = cond (ltb k 9) operation (get_or form_heads (k - 9) nothing)

-- a token as a number: a word's code, 22 an opening bracket, 23 a closing one
abbrev pub token_code : Token → ℕ
token_code opening = 22
token_code closing = 23
token_code (word w) = code_of w
