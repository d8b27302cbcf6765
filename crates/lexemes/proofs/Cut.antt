-- Lexing in two parts, cut where no word stands on both sides; blanks at either end. Assumes nothing.
use mathlib.Core.Path.{◌≡◌, refl, sym, ap, ◌∙◌}
use mathlib.Core.Bool.{cond}
use mathlib.Core.List.{List, [], ◌∷◌, ◌++◌, reverse, reverse-cons, reverse-reverse, append_assoc, append-nil}
use mathlib.Core.Logic.{◌⊎◌, inl, inr}
use Prim.Native.Nat.{ℕ, suc, ◌+◌, ◌<◌}
use native.Mathlib.Omega.{arith}
use lib.ListN.{length, take, drop}
use Rattle.notation.specs.Words.{Word}
use Rattle.notation.specs.Grammar.{Token, opening, closing, word}
use Rattle.notation.specs.Text.{ByteKind, blank_byte, left, right, word_byte, byte_kind, Plain, Apart}
use Rattle.notation.proofs.Lexing.{flush, lex_byte, lex_from, lex, lex-plain, lex-apart}
use Rattle.notation.proofs.Machine.{Symbol}
use Rattle.notation.proofs.Place.{next, reach_by, reach}
use Rattle.lexemes.specs.Lexeme.{blank_kind, blank_size}
use Rattle.lexemes.proofs.Leading.{blank-cons, blank_none}

flush-append : (w : Word) (x y : List Token) → flush w (x ++ y) ≡ flush w x ++ y
flush-append [] x y = refl
flush-append (b ∷ w) x y = refl

-- no word goes on behind the cut
pub apart-append : (t : List ℕ) (w : Word) (u : List ℕ) → Apart u → lex_from w (t ++ u) ≡ lex_from w t ++ lex u
apart-append [] w u a = lex-apart w u a ∙ flush-append w [] (lex u)
apart-append (b ∷ t) w u a = go (byte_kind b) (λ w. apart-append t w u a)
  where
    go : (o : ByteKind) → ((w : Word) → lex_from w (t ++ u) ≡ lex_from w t ++ lex u) → lex_byte o w b (λ w. lex_from w (t ++ u)) ≡ lex_byte o w b (λ w. lex_from w t) ++ lex u
    go blank_byte ih = ap (flush w) (ih []) ∙ flush-append w (lex t) (lex u)
    go left ih = ap (λ (l : List Token). flush w (opening ∷ l)) (ih []) ∙ flush-append w (opening ∷ lex t) (lex u)
    go right ih = ap (λ (l : List Token). flush w (closing ∷ l)) (ih []) ∙ flush-append w (closing ∷ lex t) (lex u)
    go word_byte ih = ih (w ++ b ∷ [])

one_byte : (b : ℕ) (u : List ℕ) → (byte_kind b ≡ word_byte → ⊥) → lex (b ∷ u) ≡ lex (b ∷ []) ++ lex u
one_byte b u n = go (byte_kind b) refl
  where
    go : (o : ByteKind) → byte_kind b ≡ o → lex_byte o [] b (λ w. lex_from w u) ≡ lex_byte o [] b (λ w. lex_from w []) ++ lex u
    go blank_byte e = refl
    go left e = refl
    go right e = refl
    go word_byte e = absurd (n e)

-- no word reaches up to the cut; r are the bytes before it, the nearest first
pub back-append : (r u : List ℕ) → Apart r → lex (reverse r ++ u) ≡ lex (reverse r) ++ lex u
back-append [] u a = refl
back-append (b ∷ r) u a =
    rw (reverse-cons b r, append_assoc (reverse r) (b ∷ []) u, apart-append (reverse r) [] (b ∷ u) a, apart-append (reverse r) [] (b ∷ []) a, one_byte b u a)
    (sym (append_assoc (lex (reverse r)) (lex (b ∷ [])) (lex u)))

pub cut : (t u : List ℕ) → Apart (reverse t) ⊎ Apart u → lex (t ++ u) ≡ lex t ++ lex u
cut t u (inl a) = rw reverse-reverse at (back-append (reverse t) u a)
cut t u (inr a) = apart-append t [] u a

pub word-alone : (x y : List ℕ) → Plain x → 0 < length x → Apart y → lex (x ++ y) ≡ word x ∷ lex y
word-alone [] y p h a = absurd (omega arith)
word-alone (b ∷ x) y p h a = lex-plain (b ∷ x) [] p y ∙ lex-apart (b ∷ x) y a

-- ---- blanks
pub lex-gaps : (u : List ℕ) → lex u ≡ lex (drop (blank_size u) u)
lex-gaps [] = rw blank_none
lex-gaps (b ∷ u) = rw (blank-cons b u) (go (byte_kind b) refl (lex-gaps u))
  where
    go : (o : ByteKind) → byte_kind b ≡ o → lex u ≡ lex (drop (blank_size u) u) → lex_byte o [] b (λ w. lex_from w u) ≡ lex (drop (cond (blank_kind o) (suc (blank_size u)) 0) (b ∷ u))
    go blank_byte e ih = ih
    go left e ih = rw e
    go right e ih = rw e
    go word_byte e ih = rw e

pub blank-apart : (u : List ℕ) → Apart (take (blank_size u) u)
blank-apart [] = rw blank_none tt
blank-apart (b ∷ u) = rw (blank-cons b u) (go (byte_kind b) refl)
  where
    go : (o : ByteKind) → byte_kind b ≡ o → Apart (take (cond (blank_kind o) (suc (blank_size u)) 0) (b ∷ u))
    go blank_byte e = λ q. let z : ◌≡◌ {A = ℕ} 0 1 = cc in omega arith
    go left e = tt
    go right e = tt
    go word_byte e = tt

pub blank-lex : (u : List ℕ) → lex (take (blank_size u) u) ≡ []
blank-lex [] = rw blank_none
blank-lex (b ∷ u) = rw (blank-cons b u) (go (byte_kind b) refl (blank-lex u))
  where
    go : (o : ByteKind) → byte_kind b ≡ o → lex (take (blank_size u) u) ≡ [] → lex (take (cond (blank_kind o) (suc (blank_size u)) 0) (b ∷ u)) ≡ []
    go blank_byte e ih = rw e ih
    go left e ih = refl
    go right e ih = refl
    go word_byte e ih = refl

pub blank-after : (t u : List ℕ) → lex (t ++ take (blank_size u) u) ≡ lex t
blank-after t u = apart-append t [] (take (blank_size u) u) (blank-apart u) ∙ rw (blank-lex u) (append-nil (lex t))

-- the same where r are the bytes before a place, the nearest first
pub back-gaps : (r : List ℕ) → lex (reverse r) ≡ lex (reverse (drop (blank_size r) r))
back-gaps [] = rw blank_none
back-gaps (b ∷ r) = rw (blank-cons b r) (go (byte_kind b) refl (back-gaps r))
  where
    go : (o : ByteKind) → byte_kind b ≡ o → lex (reverse r) ≡ lex (reverse (drop (blank_size r) r)) → lex (reverse (b ∷ r)) ≡ lex (reverse (drop (cond (blank_kind o) (suc (blank_size r)) 0) (b ∷ r)))
    go blank_byte e ih =
        rw (reverse-cons b r) (apart-append (reverse r) [] (b ∷ []) (λ q. let z : ◌≡◌ {A = ℕ} 0 1 = cc in omega arith) ∙ rw e (append-nil (lex (reverse r)) ∙ ih))
    go left e ih = refl
    go right e ih = refl
    go word_byte e ih = refl

pub reach-gaps : (st : List Symbol) (u : List ℕ) → reach st [] u ≡ blank_size u + reach st [] (drop (blank_size u) u)
reach-gaps st [] = rw blank_none
reach-gaps st (b ∷ u) = rw (blank-cons b u) (go (byte_kind b) refl (reach-gaps st u))
  where
    go : (o : ByteKind) → byte_kind b ≡ o → reach st [] u ≡ blank_size u + reach st [] (drop (blank_size u) u)
        → reach_by (next o st [] b) (λ st w. reach st w u)
        ≡ cond (blank_kind o) (suc (blank_size u)) 0 + reach st [] (drop (cond (blank_kind o) (suc (blank_size u)) 0) (b ∷ u))
    go blank_byte e ih = omega arith
    go left e ih = rw e (omega arith)
    go right e ih = rw e (omega arith)
    go word_byte e ih = rw e (omega arith)
