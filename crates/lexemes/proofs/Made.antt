-- What a token that `next_lexeme` or `last_lexeme` gives is made of, and what it means that there is none. Assumes nothing.
use mathlib.Core.Path.{◌≡◌, refl}
use mathlib.Core.List.{List, [], ◌∷◌, reverse}
use Prim.Native.Nat.{ℕ, ◌+◌, ◌-◌, ◌≤◌}
use lib.ListN.{length, take, drop}
use lib.Seq.{drop-drop}
use Rattle.std.specs.Prelude.{Some, None}
use Rattle.notation.specs.Text.{byte_kind}
use Rattle.lexemes.specs.declared.Kind.{Kind}
use Rattle.lexemes.specs.declared.Lexeme.{Lexeme}
use Rattle.lexemes.specs.Lexeme.{blank_size, kind_of, size_of, lexeme_from, lexeme_to}
use Rattle.lexemes.proofs.Leading.{blank-other, back-drop, back-within}
use Rattle.lexemes.proofs.Seen.{Seen, seen}

-- behind the blanks stands none, nor before them
pub firm : (s : List ℕ) (at : ℕ) → blank_size (drop (at + blank_size (drop at s)) s) ≡ 0
firm s at = rw drop-drop at (blank-other (drop at s))

pub last-back : (s : List ℕ) (at : ℕ) → at ≤ length s
    → drop (blank_size (reverse (take at s))) (reverse (take at s)) ≡ reverse (take (at - blank_size (reverse (take at s))) s)
last-back s at h = back-drop s at (blank_size (reverse (take at s))) h (back-within s at h)

pub firm-back : (s : List ℕ) (at : ℕ) → at ≤ length s → blank_size (reverse (take (at - blank_size (reverse (take at s))) s)) ≡ 0
firm-back s at h = rw (last-back s at h) at (blank-other (reverse (take at s)))

-- the token at the front of v, which begins at `start`
pub record From (start : ℕ) (v : List ℕ) (r : Lexeme) : Type 0 where
  pub kind : Kind
  pub size : ℕ
  pub is : r ≡ record { kind = kind; start = start; end = start + size }
  pub front : Seen v kind size

pub from-none : (start : ℕ) (v : List ℕ) → lexeme_from start v ≡ None → v ≡ []
from-none start [] e = refl
from-none start (b ∷ v) e = cc

pub from-some : (start : ℕ) (v : List ℕ) (r : Lexeme) → blank_size v ≡ 0 → lexeme_from start v ≡ Some r → From start v r
from-some start [] r h e = absurd cc
from-some start (b ∷ v) r h e = record { kind = kind_of (byte_kind b); size = size_of (kind_of (byte_kind b)) (b ∷ v); is = cc; front = seen b v h }

-- the token at the front of v, the bytes before `end` with the nearest first
pub record To (end : ℕ) (v : List ℕ) (r : Lexeme) : Type 0 where
  pub kind : Kind
  pub size : ℕ
  pub is : r ≡ record { kind = kind; start = end - size; end = end }
  pub front : Seen v kind size

pub to-none : (end : ℕ) (v : List ℕ) → lexeme_to end v ≡ None → v ≡ []
to-none end [] e = refl
to-none end (b ∷ v) e = cc

pub to-some : (end : ℕ) (v : List ℕ) (r : Lexeme) → blank_size v ≡ 0 → lexeme_to end v ≡ Some r → To end v r
to-some end [] r h e = absurd cc
to-some end (b ∷ v) r h e = record { kind = kind_of (byte_kind b); size = size_of (kind_of (byte_kind b)) (b ∷ v); is = cc; front = seen b v h }
