-- Texts of the notation, their beginnings, and the longest beginning that bytes share with a text. Definitions only: nothing is assumed.
use Rattle.std.specs.Prelude.{◌≡◌, cond, ◌||◌, List, [], ◌∷◌, ◌++◌, ℕ, ◌≤◌, eqb, length, take}
use Rattle.notation.specs.Words.{Word}
use Rattle.notation.specs.Grammar.{Token, opening, closing, word, Program, program_tokens, FineProgram}

-- what a byte is: a blank (a space or a line end), a bracket; every other is part of a word (word_byte), whether a word of the notation has it or not
pub data ByteKind : Type 0 where
  blank_byte left right word_byte : ByteKind

unfoldable pub byte_kind : ℕ → ByteKind
byte_kind b = cond (eqb b 32 || (eqb b 10 || eqb b 13)) blank_byte (cond (eqb b 40) left (cond (eqb b 41) right word_byte))

-- bytes of a word, all of them
abbrev pub Plain : Word → Type 0
Plain [] = Unit {0}
Plain (b ∷ w) = (byte_kind b ≡ word_byte) × Plain w

-- no word goes on here
abbrev pub Apart : List ℕ → Type 0
Apart [] = Unit {0}
Apart (b ∷ s) = byte_kind b ≡ word_byte → ⊥

-- bytes that lay out these tokens: blanks anywhere between them, and a word as far as it goes
pub data Spaced : List Token → List ℕ → Type 0 where
  over : Spaced [] []
  blank : {ts : List Token} {s : List ℕ} (b : ℕ) → byte_kind b ≡ blank_byte → Spaced ts s → Spaced ts (b ∷ s)
  enter : {ts : List Token} {s : List ℕ} (b : ℕ) → byte_kind b ≡ left → Spaced ts s → Spaced (opening ∷ ts) (b ∷ s)
  leave : {ts : List Token} {s : List ℕ} (b : ℕ) → byte_kind b ≡ right → Spaced ts s → Spaced (closing ∷ ts) (b ∷ s)
  spell : {ts : List Token} {s : List ℕ} (b : ℕ) (w : Word) → Plain (b ∷ w) → Apart s → Spaced ts s → Spaced (word (b ∷ w) ∷ ts) (b ∷ w ++ s)

pub record Text (s : List ℕ) : Type 0 where
  pub program : Program
  pub fine : FineProgram program
  pub laid : Spaced (program_tokens program) s

pub record Begins (t : List ℕ) : Type 0 where
  pub rest : List ℕ
  pub text : Text (t ++ rest)

pub record Longest (s : List ℕ) (k : ℕ) : Type 0 where
  pub within : k ≤ length s
  pub begins : Begins (take k s)
  pub longest : (j : ℕ) → j ≤ length s → Begins (take j s) → j ≤ k
