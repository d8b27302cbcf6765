-- The blanks that lead and the bytes of a word that lead; the bytes before a place, the nearest first. Assumes nothing.
use mathlib.Core.Path.{◌≡◌, refl, ap, ◌∙◌}
use mathlib.Core.Bool.{Bool, true, false, cond}
use mathlib.Core.List.{List, [], ◌∷◌, ◌++◌, reverse, reverse-append}
use Prim.Native.Nat.{ℕ, zero, suc, ◌+◌, ◌-◌, ◌≤◌, ◌<◌}
use native.Mathlib.Omega.{arith}
use lib.ListN.{length, get_or, take, drop, length-reverse, length-drop}
use lib.Seq.{take-suc, take-add, take_at, drop_at, length-take-le}
use Rattle.std.specs.List.{prefix_len}
use Rattle.std.proofs.lemmas.List.Sums.{prefix_len-le-length}
use Rattle.notation.specs.Text.{blank_byte, word_byte, byte_kind}
use Rattle.lexemes.specs.Lexeme.{is_blank, in_word, blank_size, word_size}

one-more : (c : Bool) (n : ℕ) → cond c (1 + n) 0 ≡ cond c (suc n) 0
one-more true n = omega arith
one-more false n = refl

pub blank-cons : (b : ℕ) (s : List ℕ) → blank_size (b ∷ s) ≡ cond (is_blank b) (suc (blank_size s)) 0
unfolding blank_size
blank-cons b s = one-more (is_blank b) (prefix_len is_blank s)

pub word-cons : (b : ℕ) (s : List ℕ) → word_size (b ∷ s) ≡ cond (in_word b) (suc (word_size s)) 0
unfolding word_size
word-cons b s = one-more (in_word b) (prefix_len in_word s)

pub blank_none : blank_size [] ≡ 0
unfolding blank_size
blank_none = refl

pub word_none : word_size [] ≡ 0
unfolding word_size
word_none = refl

pub blank-within : (s : List ℕ) → blank_size s ≤ length s
unfolding blank_size
blank-within s = prefix_len-le-length is_blank s

pub word-within : (s : List ℕ) → word_size s ≤ length s
unfolding word_size
word-within s = prefix_len-le-length in_word s

-- what follows them does not begin so
module _ (p : ℕ → Bool) where
  other : (s : List ℕ) → prefix_len p (drop (prefix_len p s) s) ≡ 0
  other [] = refl
  other (b ∷ s) = rw (one-more (p b) (prefix_len p s)) (go (p b) refl (other s))
    where
      go : (c : Bool) → p b ≡ c → prefix_len p (drop (prefix_len p s) s) ≡ 0 → prefix_len p (drop (cond c (suc (prefix_len p s)) 0) (b ∷ s)) ≡ 0
      go true e h = h
      go false e h = rw e

pub blank-other : (s : List ℕ) → blank_size (drop (blank_size s) s) ≡ 0
unfolding blank_size
blank-other s = other is_blank s

pub word-other : (s : List ℕ) → word_size (drop (word_size s) s) ≡ 0
unfolding word_size
word-other s = other in_word s

pub no-blank : (b : ℕ) (s : List ℕ) → blank_size (b ∷ s) ≡ 0 → byte_kind b ≡ blank_byte → ⊥
no-blank b s h e = omega (arith, rw e at (blank-cons b s))

pub no-letter : (b : ℕ) (s : List ℕ) → word_size (b ∷ s) ≡ 0 → byte_kind b ≡ word_byte → ⊥
no-letter b s h e = omega (arith, rw e at (word-cons b s))

-- ---- from a place on, and up to one
pub forth-within : (s : List ℕ) (i : ℕ) → i ≤ length s → i + blank_size (drop i s) ≤ length s
forth-within s i h = omega (arith, blank-within (drop i s), length-drop i s)

pub back-within : (s : List ℕ) (i : ℕ) → i ≤ length s → blank_size (reverse (take i s)) ≤ i
back-within s i h = omega (arith, blank-within (reverse (take i s)), length-reverse (take i s), length-take-le i s h)

pub back-cons : (s : List ℕ) (i : ℕ) → 0 < i → i ≤ length s → reverse (take i s) ≡ get_or s (i - 1) 0 ∷ reverse (take (i - 1) s)
back-cons s zero p h = absurd (omega arith)
back-cons s (suc j) p h =
    let e : suc j - 1 ≡ j = omega arith in
    rw e (ap reverse (take-suc s j 0 h) ∙ reverse-append (take j s) (get_or s j 0 ∷ []))

-- the nearest j of them, and those behind
module _ (s : List ℕ) (at j : ℕ) (h : at ≤ length s) (l : j ≤ at) where
  near : List ℕ
  near = take j (drop (at - j) s)

  far : List ℕ
  far = take (at - j) s

  back-split : reverse (take at s) ≡ reverse near ++ reverse far
  unfolding near far
  back-split =
      let e : at ≡ at - j + j = omega arith in
      ap (λ (m : ℕ). reverse (take m s)) e ∙ ap reverse (take-add (at - j) j s) ∙ reverse-append (take (at - j) s) (take j (drop (at - j) s))

  near-size : length (reverse near) ≡ j
  unfolding near
  near-size = length-reverse near ∙ length-take-le j (drop (at - j) s) (omega (arith, length-drop (at - j) s))

  pub back-drop : drop j (reverse (take at s)) ≡ reverse (take (at - j) s)
  unfolding far
  back-drop = rw back-split (drop_at (reverse near) (reverse far) j near-size)

  pub back-take : take j (reverse (take at s)) ≡ reverse (take j (drop (at - j) s))
  unfolding near
  back-take = rw back-split (take_at (reverse near) (reverse far) j near-size)
