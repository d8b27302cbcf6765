-- The last token of the bytes that are left, the blanks at their end taken off one at a time. Assumes nothing.
use mathlib.Core.Path.{◌≡◌, refl, sym, ap, ◌∙◌}
use mathlib.Core.List.{List, [], ◌∷◌, reverse}
use Prim.Native.Nat.{ℕ, suc, ◌+◌, ◌-◌, ◌≤◌}
use native.Mathlib.Omega.{arith}
use lib.ListN.{length, get_or, take, drop, length-reverse}
use lib.Seq.{take_all, length-take-le}
use Rattle.std.specs.Prelude.{Option, Some, None}
use Rattle.notation.specs.Text.{blank_byte, left, right, word_byte, byte_kind}
use Rattle.lexemes.specs.declared.Kind.{Kind}
use Rattle.lexemes.specs.declared.Kind.TheVariants.{Opening, Closing, Word}
use Rattle.lexemes.specs.declared.Lexeme.{Lexeme}
use Rattle.lexemes.specs.Lexeme.{blank_size, word_size, kind_of, size_of, last_lexeme, lexeme_to}
use Rattle.lexemes.proofs.Leading.{blank-cons, blank_none, word-cons, back-cons}
use Rattle.lexemes.proofs.Made.{last-back}

-- the bytes that are left, the nearest first
abbrev nearest : List ℕ → Option Lexeme
nearest v = lexeme_to (length v - blank_size v) (drop (blank_size v) v)

abbrev pub last_of : List ℕ → Option Lexeme
last_of rest = nearest (reverse rest)

abbrev of : Kind → ℕ → ℕ → Option Lexeme
of kind start end = Some (record { kind = kind; start = start; end = end })

nearest-blank : (b : ℕ) (v : List ℕ) → byte_kind b ≡ blank_byte → nearest (b ∷ v) ≡ nearest v
nearest-blank b v e =
    let z : blank_size (b ∷ v) ≡ suc (blank_size v) = rw e at (blank-cons b v) in
    let n : suc (length v) - suc (blank_size v) ≡ length v - blank_size v = omega arith in
    rw (z, n) refl

-- n are the bytes before it
module _ (b : ℕ) (v : List ℕ) (n : ℕ) (l : length v ≡ n) where
  shown : blank_size (b ∷ v) ≡ 0 → nearest (b ∷ v) ≡ of (kind_of (byte_kind b)) (n + 1 - size_of (kind_of (byte_kind b)) (b ∷ v)) (n + 1)
  shown z =
      let m : suc (length v) - 0 ≡ n + 1 = omega (arith, l) in
      rw (z, m) refl

  one_byte : n + 1 - 1 ≡ n
  one_byte = omega arith

  nearest-left : byte_kind b ≡ left → nearest (b ∷ v) ≡ of Opening n (n + 1)
  nearest-left e = shown (rw e at (blank-cons b v)) ∙ rw (e, one_byte) refl

  nearest-right : byte_kind b ≡ right → nearest (b ∷ v) ≡ of Closing n (n + 1)
  nearest-right e = shown (rw e at (blank-cons b v)) ∙ rw (e, one_byte) refl

  nearest-word : byte_kind b ≡ word_byte → nearest (b ∷ v) ≡ of Word (n - word_size v) (n + 1)
  nearest-word e =
      let w : word_size (b ∷ v) ≡ suc (word_size v) = rw e at (word-cons b v) in
      let m : n + 1 - suc (word_size v) ≡ n - word_size v = omega arith in
      shown (rw e at (blank-cons b v)) ∙ rw (e, w, m) refl

pub last-first : (s : List ℕ) (at : ℕ) → at ≤ length s → last_lexeme s at ≡ last_of (take at s)
last-first s at h =
    let n : length (reverse (take at s)) ≡ at = length-reverse (take at s) ∙ length-take-le at s h in
    rw (last-back s at h, n) refl

pub last-nil : last_of [] ≡ None
last-nil = rw blank_none refl

-- by the last byte of what is left
module _ (rest : List ℕ) (h : 1 ≤ length rest) where
  abbrev front : List ℕ
  front = take (length rest - 1) rest

  abbrev byte : ℕ
  byte = get_or rest (length rest - 1) 0

  turned : reverse rest ≡ byte ∷ reverse front
  turned = ap reverse (sym (take_all (length rest) rest (omega arith))) ∙ back-cons rest (length rest) (omega arith) (omega arith)

  fewer : length (reverse front) ≡ length front
  fewer = length-reverse front

  one_less : length front + 1 ≡ length rest
  one_less = omega (arith, length-take-le (length rest - 1) rest (omega arith))

  pub last_blank : byte_kind byte ≡ blank_byte → {x : Option Lexeme} → x ≡ last_of rest → x ≡ last_of front
  last_blank e q = q ∙ ap nearest turned ∙ nearest-blank byte (reverse front) e

  pub last_left : byte_kind byte ≡ left → {x : Option Lexeme} → x ≡ last_of rest → of Opening (length front) (length rest) ≡ x
  last_left e q = sym (q ∙ ap nearest turned ∙ nearest-left byte (reverse front) (length front) fewer e ∙ ap (of Opening (length front)) one_less)

  pub last_right : byte_kind byte ≡ right → {x : Option Lexeme} → x ≡ last_of rest → of Closing (length front) (length rest) ≡ x
  last_right e q = sym (q ∙ ap nearest turned ∙ nearest-right byte (reverse front) (length front) fewer e ∙ ap (of Closing (length front)) one_less)

  pub last-word : byte_kind byte ≡ word_byte → {x : Option Lexeme} → x ≡ last_of rest → (start : ℕ) → start ≡ length front - word_size (reverse front)
      → of Word start (length rest) ≡ x
  last-word e q start i = rw i (sym (q ∙ ap nearest turned ∙ nearest-word byte (reverse front) (length front) fewer e ∙ ap (of Word (length front - word_size (reverse front))) one_less))
