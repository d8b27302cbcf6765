-- The token that begins at or behind a place of a text, and the one that ends at or before it. `proofs/Laws.antt` proves that they are the tokens of notation's layout.
use Rattle.std.specs.Prelude.{Bool, true, false, Option, Some, None, List, [], ◌∷◌, reverse, ◌⊎◌, ℕ, suc, ◌+◌, ◌-◌, take, drop}
use Rattle.std.specs.List.{prefix_len}
use Rattle.notation.specs.Words.{between}
use Rattle.notation.specs.Grammar.{Token, opening, closing, word}
use Rattle.notation.specs.Text.{ByteKind, blank_byte, left, right, word_byte, byte_kind, Apart}
use Rattle.lexemes.specs.declared.Kind.{Kind}
use Rattle.lexemes.specs.declared.Kind.TheVariants.{Opening, Closing, Word}
use Rattle.lexemes.specs.declared.Lexeme.{Lexeme}

abbrev pub blank_kind : ByteKind → Bool
blank_kind blank_byte = true
blank_kind left = false
blank_kind right = false
blank_kind word_byte = false

abbrev pub word_kind : ByteKind → Bool
word_kind blank_byte = false
word_kind left = false
word_kind right = false
word_kind word_byte = true

abbrev pub is_blank : ℕ → Bool
is_blank b = blank_kind (byte_kind b)

abbrev pub in_word : ℕ → Bool
in_word b = word_kind (byte_kind b)

-- how many blanks lead, how many bytes of a word
unfoldable pub blank_size : List ℕ → ℕ
blank_size s = prefix_len is_blank s

unfoldable pub word_size : List ℕ → ℕ
word_size s = prefix_len in_word s

-- the kind of the token that begins with such a byte, if it is no blank, and how many bytes it has at the front of those
abbrev pub kind_of : ByteKind → Kind
kind_of blank_byte = Word
kind_of left = Opening
kind_of right = Closing
kind_of word_byte = Word

abbrev pub size_of : Kind → List ℕ → ℕ
size_of Opening s = 1
size_of Closing s = 1
size_of Word s = word_size s

abbrev pub lexeme_from : ℕ → List ℕ → Option Lexeme
lexeme_from start [] = None
lexeme_from start (b ∷ s) = Some (record { kind = kind_of (byte_kind b); start = start; end = start + size_of (kind_of (byte_kind b)) (b ∷ s) })

abbrev pub next_lexeme : List ℕ → ℕ → Option Lexeme
next_lexeme s at = lexeme_from (at + blank_size (drop at s)) (drop (at + blank_size (drop at s)) s)

-- the same of the bytes before a place, the nearest first
abbrev pub lexeme_to : ℕ → List ℕ → Option Lexeme
lexeme_to end [] = None
lexeme_to end (b ∷ back) = Some (record { kind = kind_of (byte_kind b); start = end - size_of (kind_of (byte_kind b)) (b ∷ back); end = end })

abbrev pub last_lexeme : List ℕ → ℕ → Option Lexeme
last_lexeme s at =
    let end : ℕ = at - blank_size (reverse (take at s)) in
    lexeme_to end (reverse (take end s))

-- the token of that kind with those bytes
abbrev pub token_by : Kind → List ℕ → Token
token_by Opening w = opening
token_by Closing w = closing
token_by Word w = word w

abbrev pub token_of : List ℕ → Lexeme → Token
token_of s r = token_by r.kind (between r.start r.end s)

-- a place that is not inside a word: none reaches up to it, or none goes on there
unfoldable pub Parted : List ℕ → ℕ → Type 0
Parted s at = Apart (reverse (take at s)) ⊎ Apart (drop at s)

-- the brackets that are open behind a token, and by its kind
abbrev pub depth_after : ℕ → Token → ℕ
depth_after d opening = suc d
depth_after d closing = d - 1
depth_after d (word w) = d

abbrev pub depth_by : ℕ → Kind → ℕ
depth_by d Opening = suc d
depth_by d Closing = d - 1
depth_by d Word = d
