-- equal words; the word def, and no other, begins a definition.
use mathlib.Core.Path.{◌≡◌, refl, sym, ap, ◌∙◌}
use mathlib.Core.Bool.{Bool, true, false, cond, not, ◌||◌}
use mathlib.Core.List.{List, [], ◌∷◌}
use lib.Dec.{eqb}
use borrow.Author.Tests.{eqb-true}
use Rattle.decide.proofs.Picks.{not-both, both, implied}
use Rattle.notation.specs.Words.{Word, same_word, every, lookup, operation, call, nothing, head_words, Role, fixed, calls, definition, no_form, role_of, the_def, operator, own_name, head_of}
use Rattle.notation.specs.Words.{role}

pub same_word_lem : (w v : Word) → same_word w v ≡ true → w ≡ v
same_word_lem [] [] e = refl
same_word_lem [] (b ∷ v) e = not-both (sym e)
same_word_lem (a ∷ w) [] e = not-both (sym e)
same_word_lem (a ∷ w) (b ∷ v) e =
    let h = both (eqb a b) (same_word w v) e in
    let p = eqb-true a b h.0 in
    let q = same_word_lem w v h.1 in
    cc

pub role-def : role the_def ≡ definition
unfolding role head_of
role-def = refl

-- What a list has for a word passes a test: then the word is one whose entry passes it, or the test is passed by what stands for all other words
pub lookup-word : {A : Type 0} {C : Type 0} (f : A → Bool) (t : Word → Bool) (w : Word) (l : List (Word × A)) (r : A) → every (λ x. not (f x.1) || t x.0) l ≡ true
    → (t w ≡ true → C) → (f r ≡ true → C) → f (lookup w l r) ≡ true → C
lookup-word f t w [] r h k m e = m e
lookup-word {A} {C} f t w (x ∷ l) r h k m e =
    go (same_word w x.0) refl (both (not (f x.1) || t x.0) (every (λ x. not (f x.1) || t x.0) l) h) e (λ g. lookup-word f t w l r g k m)
  where
    go : (c : Bool) → same_word w x.0 ≡ c → ((not (f x.1) || t x.0) ≡ true) × (every (λ x. not (f x.1) || t x.0) l ≡ true)
        → f (cond c x.1 (lookup w l r)) ≡ true → (every (λ x. not (f x.1) || t x.0) l ≡ true → f (lookup w l r) ≡ true → C) → C
    go true q p e ih = k (rw (same_word_lem w x.0 q) (implied (f x.1) (t x.0) e p.0))
    go false q p e ih = ih p.1 e

abbrev defines : Role → Bool
defines (fixed ks) = false
defines calls = false
defines definition = true
defines no_form = false

other_word : (a b : Bool) → defines (role_of (cond a operation (cond b call nothing))) ≡ false
other_word true b = refl
other_word false true = refl
other_word false false = refl

pub role-is-def : (w : Word) → role w ≡ definition → w ≡ the_def
unfolding role head_of
role-is-def w e =
    lookup-word (λ h. defines (role_of h)) (λ v. same_word v the_def) w head_words (cond (operator w) operation (cond (own_name w) call nothing)) refl (same_word_lem w the_def)
    (λ q. not-both (sym q ∙ other_word (operator w) (own_name w))) (ap defines e)
