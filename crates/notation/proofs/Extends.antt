-- what passes the test of beginnings can be extended to a word of the class.
use mathlib.Core.Path.{◌≡◌, refl, sym, ◌∙◌}
use mathlib.Core.Bool.{Bool, true, false, cond, not, ◌&&◌, or-true}
use mathlib.Core.List.{[], ◌∷◌, ◌++◌, append-nil}
use mathlib.Core.Logic.{◌⊎◌, inl, inr}
use Prim.Native.Nat.{ℕ}
use Rattle.notation.specs.Words.{Word, same_word, every, is_letter, is_digit, name_byte, is_name, reserved_words, reserved, operators, operator, is_count, is_negative, is_number, own_name}
use Rattle.notation.specs.Words.{atom, binder, function, Role, fixed, calls, definition, no_form, operation, call, nothing, head_words, role_of, the_def, the_inf, lookup, head_of, role}
use Rattle.notation.specs.Text.{word_byte, byte_kind, Plain}
use Rattle.decide.proofs.Picks.{not-both, both}
use Rattle.notation.proofs.Words.{same_word_lem, lookup-word}
use Rattle.notation.proofs.Viable.{Class, atoms, binders, functions, heads, openers, is_head, is_opener, allowed, empty, begins_atom, begins_binder, begins_function, begins, either, Five, is₁}
use Rattle.notation.proofs.Viable.{is₂, is₃, is₄, is₅, which, listed}

pub record Extends (c : Class) (w : Word) : Type 0 where
  pub more : Word
  pub plain : Plain more
  pub filled : empty (w ++ more) ≡ false
  pub good : allowed c (w ++ more) ≡ true

as_is : (c : Class) (w : Word) → empty w ≡ false → allowed c w ≡ true → Extends c w
as_is c w e h = record { more = []; plain = tt; filled = rw (append-nil w) e; good = rw (append-nil w) h }

by_one : (c : Class) (w : Word) (b : ℕ) → byte_kind b ≡ word_byte → allowed c (w ++ b ∷ []) ≡ true → Extends c w
by_one c w b p h = record { more = b ∷ []; plain = (p, tt); filled = go w; good = h }
  where
    go : (w : Word) → empty (w ++ b ∷ []) ≡ false
    go [] = refl
    go (a ∷ w) = refl

by-a : (c : Class) (w : Word) → allowed c (w ++ 97 ∷ []) ≡ true → Extends c w
unfolding byte_kind
by-a c w h = by_one c w 97 refl h

-- the letter a alone is a word of each class, and each reserved word with an a behind it is
a-alone : (c : Class) → allowed c (97 ∷ []) ≡ true
unfolding atom binder function role head_of is_number is_count is_negative operator own_name is_name reserved is_letter name_byte is_digit
a-alone atoms = refl
a-alone binders = refl
a-alone functions = refl
a-alone heads = refl
a-alone openers = refl

longer : (c : Class) → every (λ r. allowed c (r ++ 97 ∷ [])) reserved_words ≡ true
unfolding atom binder function role head_of is_number is_count is_negative operator own_name is_name reserved is_letter name_byte is_digit
longer atoms = refl
longer binders = refl
longer functions = refl
longer heads = refl
longer openers = refl

own-apart : (w : Word) → own_name w ≡ true → same_word w the_def ≡ true → ⊥
unfolding own_name reserved
own-apart w e q = not-both (sym (both (is_name w) (not (reserved w)) e).1 ∙ rw q)

own-head : (w : Word) → own_name w ≡ true → is_head (role w) ≡ true
unfolding role head_of
own-head w e = go (is_head (role w)) refl
  where
    other : (a : Bool) → not (is_head (role_of (cond a operation (cond (own_name w) call nothing)))) ≡ true → ⊥
    other true q = not-both (sym q)
    other false q = not-both (sym q ∙ rw e)

    go : (b : Bool) → is_head (role_of (lookup w head_words (cond (operator w) operation (cond (own_name w) call nothing)))) ≡ b → b ≡ true
    go true q = refl
    go false q =
        absurd (
        lookup-word (λ h. not (is_head (role_of h))) (λ v. same_word v the_def) w head_words (cond (operator w) operation (cond (own_name w) call nothing))
        refl (own-apart w e) (other (operator w)) (rw q)
        )

opens : (r : Role) → is_head r ≡ true → is_opener r ≡ true
opens (fixed ks) e = refl
opens calls e = refl
opens definition e = not-both (sym e)
opens no_form e = not-both (sym e)

-- a name that is no word of the notation is a word of each class; so is any name where something is bound
own-allowed : (c : Class) (w : Word) → is_name w ≡ true → reserved w ≡ false → allowed c w ≡ true
unfolding own_name atom binder function
own-allowed c w n r = go c (rw (n, r))
  where
    go : (c : Class) → own_name w ≡ true → allowed c w ≡ true
    go atoms o = rw o (or-true (is_number w))
    go binders o = n
    go functions o = rw o (or-true (operator w))
    go heads o = own-head w o
    go openers o = opens (role w) (own-head w o)

name-filled : (w : Word) → is_name w ≡ true → empty w ≡ false
unfolding is_name
name-filled [] e = not-both (sym e)
name-filled (b ∷ w) e = refl

extend-name : (c : Class) (w : Word) → is_name w ≡ true → Extends c w
extend-name c w n = go (reserved w) refl
  where
    go : (t : Bool) → reserved w ≡ t → Extends c w
    go true e = by-a c w (listed (λ r. allowed c (r ++ 97 ∷ [])) w reserved_words (longer c) (unfold reserved in e))
    go false e = as_is c w (name-filled w n) (own-allowed c w n e)

extend-empty : (c : Class) (w : Word) → empty w ≡ true → Extends c w
extend-empty c [] e = by-a c [] (a-alone c)
extend-empty c (b ∷ w) e = not-both (sym e)

-- each operator is a function of a fold and a head
operator-functions : every (λ o. allowed functions o && not (empty o)) operators ≡ true
unfolding function operator
operator-functions = refl

operator-heads : every (λ o. allowed heads o && not (empty o)) operators ≡ true
unfolding role head_of operator
operator-heads = refl

operator-openers : every (λ o. allowed openers o && not (empty o)) operators ≡ true
unfolding role head_of operator
operator-openers = refl

filled_of : (w : Word) → not (empty w) ≡ true → empty w ≡ false
filled_of [] e = not-both (sym e)
filled_of (b ∷ w) e = refl

extend-operator : (c : Class) (w : Word) → every (λ o. allowed c o && not (empty o)) operators ≡ true → operator w ≡ true → Extends c w
unfolding operator
extend-operator c w h e =
    let g = both (allowed c w) (not (empty w)) (listed (λ o. allowed c o && not (empty o)) w operators h e) in
    as_is c w (filled_of w g.1) g.0

-- = and ! go on to == and !=
extend-function : (c : Class) (w : Word) → every (λ o. allowed c o && not (empty o)) operators ≡ true → begins_function w ≡ true → Extends c w
unfolding begins_function
extend-function c w h e = go (which (empty w) (is_name w) (operator w) (same_word w (61 ∷ [])) (same_word w (33 ∷ [])) e)
  where
    equals : operator (61 ∷ 61 ∷ []) ≡ true
    equals = unfold operator in refl

    differs : operator (33 ∷ 61 ∷ []) ≡ true
    differs = unfold operator in refl

    good : (o : Word) → operator o ≡ true → allowed c o ≡ true
    good o q = (both (allowed c o) (not (empty o)) (listed (λ o. allowed c o && not (empty o)) o operators h (unfold operator in q))).0

    go : Five (empty w) (is_name w) (operator w) (same_word w (61 ∷ [])) (same_word w (33 ∷ [])) → Extends c w
    go (is₁ q) = extend-empty c w q
    go (is₂ q) = extend-name c w q
    go (is₃ q) = extend-operator c w h q
    go (is₄ q) = by_one c w 61 (unfold byte_kind in refl) (rw (same_word_lem w (61 ∷ []) q) (good (61 ∷ 61 ∷ []) equals))
    go (is₅ q) = by_one c w 61 (unfold byte_kind in refl) (rw (same_word_lem w (33 ∷ []) q) (good (33 ∷ 61 ∷ []) differs))

count-filled : (w : Word) → is_count w ≡ true → empty w ≡ false
unfolding is_count
count-filled [] e = not-both (sym e)
count-filled (b ∷ w) e = refl

negative-filled : (w : Word) → is_negative w ≡ true → empty w ≡ false
unfolding is_negative
negative-filled [] e = not-both (sym e)
negative-filled (b ∷ w) e = refl

minus-zero : atom (45 ∷ 48 ∷ []) ≡ true
unfolding atom is_number is_count is_negative is_digit
minus-zero = refl

extend-atom : (w : Word) → begins_atom w ≡ true → Extends atoms w
unfolding begins_atom atom is_number
extend-atom w e = go (which (empty w) (is_name w) (is_count w) (is_negative w) (same_word w (45 ∷ [])) e)
  where
    go : Five (empty w) (is_name w) (is_count w) (is_negative w) (same_word w (45 ∷ [])) → Extends atoms w
    go (is₁ q) = extend-empty atoms w q
    go (is₂ q) = extend-name atoms w q
    go (is₃ q) = as_is atoms w (count-filled w q) (rw (q, or-true (same_word w the_inf)))
    go (is₄ q) = as_is atoms w (negative-filled w q) (rw (q, or-true (is_count w), or-true (same_word w the_inf)))
    go (is₅ q) = by_one atoms w 48 (unfold byte_kind in refl) (rw (same_word_lem w (45 ∷ []) q) minus-zero)

extend-binder : (w : Word) → begins_binder w ≡ true → Extends binders w
unfolding begins_binder
extend-binder w e = go (either (empty w) (is_name w) e)
  where
    go : (empty w ≡ true) ⊎ (is_name w ≡ true) → Extends binders w
    go (inl q) = extend-empty binders w q
    go (inr q) = extend-name binders w q

pub begins-extends : (c : Class) (w : Word) → begins c w ≡ true → Extends c w
begins-extends atoms w e = extend-atom w e
begins-extends binders w e = extend-binder w e
begins-extends functions w e = extend-function functions w operator-functions e
begins-extends heads w e = extend-function heads w operator-heads e
begins-extends openers w e = extend-function openers w operator-openers e

pub begins-empty : (c : Class) → begins c [] ≡ true
unfolding begins_atom begins_binder begins_function
begins-empty atoms = refl
begins-empty binders = refl
begins-empty functions = refl
begins-empty heads = refl
begins-empty openers = refl
