-- What stands at the front of bytes that no blank leads, where there are any: a bracket, or a word as far as it goes; read forwards, or backwards with the nearest byte first. Assumes nothing.
use mathlib.Core.Path.{◌≡◌, refl, ap, ◌∙◌}
use mathlib.Core.Bool.{cond}
use mathlib.Core.List.{List, [], ◌∷◌, ◌++◌, reverse, reverse-cons, reverse-append, append_assoc, append-nil}
use mathlib.Core.Logic.{◌⊎◌, inl, inr}
use Prim.Native.Nat.{ℕ, suc, ◌≤◌, ◌<◌}
use native.Mathlib.Omega.{arith}
use lib.ListN.{length, get_or, take, drop, take-append-drop, length-append, length-reverse}
use lib.Seq.{take-append_seam, drop-append_seam, length-take-le}
use Rattle.notation.specs.Grammar.{Token}
use Rattle.notation.specs.Text.{ByteKind, blank_byte, left, right, word_byte, byte_kind, Plain, Apart}
use Rattle.notation.proofs.Lexing.{lex, plain_end}
use Rattle.lexemes.specs.declared.Kind.{Kind}
use Rattle.lexemes.specs.declared.Kind.TheVariants.{Opening, Closing, Word}
use Rattle.lexemes.specs.Lexeme.{blank_kind, word_kind, blank_size, word_size, kind_of, size_of, token_by}
use Rattle.lexemes.proofs.Leading.{blank-cons, blank_none, word-cons, word_none, word-within, word-other, no-blank, no-letter}
use Rattle.lexemes.proofs.Cut.{apart-append, back-append, word-alone}

-- the bytes, the token's kind and size
pub data Seen : List ℕ → Kind → ℕ → Type 0 where
  enter : (b : ℕ) (w : List ℕ) → byte_kind b ≡ left → Seen (b ∷ w) Opening 1
  leave : (b : ℕ) (w : List ℕ) → byte_kind b ≡ right → Seen (b ∷ w) Closing 1
  spelt : (x y : List ℕ) → Plain x → 0 < length x → Apart y → Seen (x ++ y) Word (length x)

plain-letters : (v : List ℕ) → Plain (take (word_size v) v)
plain-letters [] = rw word_none tt
plain-letters (b ∷ v) = rw (word-cons b v) (go (byte_kind b) refl (plain-letters v))
  where
    go : (o : ByteKind) → byte_kind b ≡ o → Plain (take (word_size v) v) → Plain (take (cond (word_kind o) (suc (word_size v)) 0) (b ∷ v))
    go blank_byte e ih = tt
    go left e ih = tt
    go right e ih = tt
    go word_byte e ih = (e, ih)

apart_none : (v : List ℕ) → word_size v ≡ 0 → Apart v
apart_none [] h = tt
apart_none (b ∷ v) h = λ e. no-letter b v h e

a_word : (v : List ℕ) → 0 < word_size v → Seen v Word (word_size v)
a_word v h =
    let l : length (take (word_size v) v) ≡ word_size v = length-take-le (word_size v) v (word-within v) in
    rw (take-append-drop (word_size v) v, l) at (spelt (take (word_size v) v) (drop (word_size v) v) (plain-letters v) (omega arith) (apart_none (drop (word_size v) v) (word-other v)))

pub seen : (b : ℕ) (v : List ℕ) → blank_size (b ∷ v) ≡ 0 → Seen (b ∷ v) (kind_of (byte_kind b)) (size_of (kind_of (byte_kind b)) (b ∷ v))
seen b v h = go (byte_kind b) refl
  where
    go : (o : ByteKind) → byte_kind b ≡ o → Seen (b ∷ v) (kind_of o) (size_of (kind_of o) (b ∷ v))
    go blank_byte e = absurd (no-blank b v h e)
    go left e = enter b v e
    go right e = leave b v e
    go word_byte e = a_word (b ∷ v) (rw (word-cons b v, e) (omega arith))

plain-reverse : (x : List ℕ) → Plain x → Plain (reverse x)
plain-reverse [] p = tt
plain-reverse (b ∷ x) p = rw (reverse-cons b x) (plain_end (reverse x) b (plain-reverse x p.1) p.0)

pub seen_size : {v : List ℕ} {k : Kind} {n : ℕ} → Seen v k n → n ≤ length v
seen_size (enter b w e) = omega arith
seen_size (leave b w e) = omega arith
seen_size (spelt x y p h a) = omega (arith, length-append x y)

pub seen-some : {v : List ℕ} {k : Kind} {n : ℕ} → Seen v k n → 0 < n
seen-some (enter b w e) = omega arith
seen-some (leave b w e) = omega arith
seen-some (spelt x y p h a) = h

pub seen-token : {v : List ℕ} {k : Kind} {n : ℕ} → Seen v k n → lex v ≡ token_by k (take n v) ∷ lex (drop n v)
seen-token (enter b w e) = rw e
seen-token (leave b w e) = rw e
seen-token (spelt x y p h a) = rw (take-append_seam x y, drop-append_seam x y) (word-alone x y p h a)

pub seen-alone : {v : List ℕ} {k : Kind} {n : ℕ} → Seen v k n → lex (take n v) ≡ token_by k (take n v) ∷ []
seen-alone (enter b w e) = rw e
seen-alone (leave b w e) = rw e
seen-alone (spelt x y p h a) = rw (take-append_seam x y) (rw append-nil at (word-alone x [] p h tt))

pub seen_back : {v : List ℕ} {k : Kind} {n : ℕ} → Seen v k n → lex (reverse v) ≡ lex (reverse (drop n v)) ++ token_by k (reverse (take n v)) ∷ []
seen_back (enter b w e) = rw (reverse-cons b w) (apart-append (reverse w) [] (b ∷ []) (λ q. cc) ∙ rw e)
seen_back (leave b w e) = rw (reverse-cons b w) (apart-append (reverse w) [] (b ∷ []) (λ q. cc) ∙ rw e)
seen_back (spelt x y p h a) =
    rw (take-append_seam x y, drop-append_seam x y, reverse-append x y)
    (back-append y (reverse x) a
    ∙ ap (λ (l : List Token). lex (reverse y) ++ l) (rw append-nil at (word-alone (reverse x) [] (plain-reverse x p) (omega (arith, length-reverse x)) tt)))

-- ---- what its bytes are
pub seen-word : {v : List ℕ} {k : Kind} {n : ℕ} → Seen v k n → k ≡ Word → Plain (take n v) × Apart (drop n v)
seen-word (enter b w e) q = absurd cc
seen-word (leave b w e) q = absurd cc
seen-word (spelt x y p h a) q = rw (take-append_seam x y, drop-append_seam x y) (p, a)

pub seen-left : {v : List ℕ} {k : Kind} {n : ℕ} → Seen v k n → k ≡ Opening → (byte_kind (get_or v 0 0) ≡ left) × (n ≡ 1)
seen-left (enter b w e) q = (e, refl)
seen-left (leave b w e) q = absurd cc
seen-left (spelt x y p h a) q = absurd cc

pub seen-right : {v : List ℕ} {k : Kind} {n : ℕ} → Seen v k n → k ≡ Closing → (byte_kind (get_or v 0 0) ≡ right) × (n ≡ 1)
seen-right (enter b w e) q = absurd cc
seen-right (leave b w e) q = (e, refl)
seen-right (spelt x y p h a) q = absurd cc

-- ---- no word stands on both sides of its end; read backwards, of its beginning
pub seen_end : {v : List ℕ} {k : Kind} {n : ℕ} → Seen v k n → (t : List ℕ) → Apart (reverse (t ++ take n v)) ⊎ Apart (drop n v)
seen_end (enter b w e) t = inl (rw (reverse-append t (b ∷ [])) (λ q. cc))
seen_end (leave b w e) t = inl (rw (reverse-append t (b ∷ [])) (λ q. cc))
seen_end (spelt x y p h a) t = inr (rw (drop-append_seam x y) a)

pub seen_start : {v : List ℕ} {k : Kind} {n : ℕ} → Seen v k n → (u : List ℕ) → Apart (drop n v) ⊎ Apart (reverse (take n v) ++ u)
seen_start (enter b w e) u = inr (λ q. cc)
seen_start (leave b w e) u = inr (λ q. cc)
seen_start (spelt x y p h a) u = inl (rw (drop-append_seam x y) a)

-- nor behind the blanks, where none does before them
pub gaps-end : (t u : List ℕ) → Apart (reverse t) ⊎ Apart u → Apart (reverse (t ++ take (blank_size u) u)) ⊎ Apart (drop (blank_size u) u)
gaps-end t [] p = rw (blank_none, append-nil t) p
gaps-end t (b ∷ u) p = rw (blank-cons b u) (go (byte_kind b) refl (gaps-end (t ++ b ∷ []) u))
  where
    go : (o : ByteKind) → byte_kind b ≡ o → (Apart (reverse (t ++ b ∷ [])) ⊎ Apart u → Apart (reverse ((t ++ b ∷ []) ++ take (blank_size u) u)) ⊎ Apart (drop (blank_size u) u))
        → Apart (reverse (t ++ take (cond (blank_kind o) (suc (blank_size u)) 0) (b ∷ u))) ⊎ Apart (drop (cond (blank_kind o) (suc (blank_size u)) 0) (b ∷ u))
    go blank_byte e ih =
        rw (append_assoc t (b ∷ []) (take (blank_size u) u)) at (ih (inl (rw (reverse-append t (b ∷ [])) (λ q. cc))))
    go left e ih = rw (append-nil t) p
    go right e ih = rw (append-nil t) p
    go word_byte e ih = rw (append-nil t) p
