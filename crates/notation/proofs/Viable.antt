-- which words begin a word of a class: exactly those that can be extended to one.
use mathlib.Core.Path.{◌≡◌, refl, sym}
use mathlib.Core.Bool.{Bool, true, false, cond, not, ◌&&◌, ◌||◌, or-true}
use mathlib.Core.List.{List, [], ◌∷◌, ◌++◌}
use mathlib.Core.Logic.{◌⊎◌, inl, inr}
use Prim.Native.Nat.{ℕ, ◌+◌, ◌*◌, ◌-◌, ◌≤◌}
use native.Mathlib.Omega.{arith}
use lib.Dec.{eqb, leb}
use lib.ListN.{length, length-append}
use borrow.Author.Tests.{leb-true, le-leb}
use Rattle.notation.specs.Words.{Word, same_word, every, one_of, is_letter, is_digit, name_byte, is_name, reserved, operators, operator, value_from, is_count, is_negative, is_number}
use Rattle.notation.specs.Words.{own_name, atom, binder, function, Role, fixed, calls, definition, no_form, operation, call, nothing, head_words, role_of, the_inf, head_of, role}
use Rattle.decide.proofs.Picks.{not-both, both}
use Rattle.notation.proofs.Words.{same_word_lem, lookup-word}

-- the classes of words: what stands alone, what is bound, functions of folds, heads within a program, heads of its outermost forms
pub data Class : Type 0 where
  atoms binders functions heads openers : Class

abbrev pub is_head : Role → Bool
is_head (fixed ks) = true
is_head calls = true
is_head definition = false
is_head no_form = false

abbrev pub is_opener : Role → Bool
is_opener (fixed ks) = true
is_opener calls = true
is_opener definition = true
is_opener no_form = false

abbrev pub allowed : Class → Word → Bool
allowed atoms w = atom w
allowed binders w = binder w
allowed functions w = function w
allowed heads w = is_head (role w)
allowed openers w = is_opener (role w)

abbrev pub empty : Word → Bool
empty [] = true
empty (b ∷ w) = false

-- beginnings: a name is one itself; - begins numbers, = and ! begin operators
unfoldable pub begins_atom : Word → Bool
begins_atom w = empty w || (is_name w || (is_count w || (is_negative w || same_word w (45 ∷ []))))

unfoldable pub begins_binder : Word → Bool
begins_binder w = empty w || is_name w

unfoldable pub begins_function : Word → Bool
begins_function w = empty w || (is_name w || (operator w || (same_word w (61 ∷ []) || same_word w (33 ∷ []))))

abbrev pub begins : Class → Word → Bool
begins atoms w = begins_atom w
begins binders w = begins_binder w
begins functions w = begins_function w
begins heads w = begins_function w
begins openers w = begins_function w

pub either : (a b : Bool) → (a || b) ≡ true → (a ≡ true) ⊎ (b ≡ true)
either true b e = inl refl
either false b e = inr e

first : (a b : Bool) → a ≡ true → (a || b) ≡ true
first a b e = rw e

second : (a b : Bool) → b ≡ true → (a || b) ≡ true
second a b e = rw e (or-true a)

module _ (a b c d e : Bool) where
  abbrev pub five : Bool
  five = a || (b || (c || (d || e)))

  at₁ : a ≡ true → five ≡ true
  at₁ h = first a (b || (c || (d || e))) h

  at₂ : b ≡ true → five ≡ true
  at₂ h = second a (b || (c || (d || e))) (first b (c || (d || e)) h)

  at₃ : c ≡ true → five ≡ true
  at₃ h = second a (b || (c || (d || e))) (second b (c || (d || e)) (first c (d || e) h))

  at₄ : d ≡ true → five ≡ true
  at₄ h = second a (b || (c || (d || e))) (second b (c || (d || e)) (second c (d || e) (first d e h)))

  at₅ : e ≡ true → five ≡ true
  at₅ h = second a (b || (c || (d || e))) (second b (c || (d || e)) (second c (d || e) (second d e h)))

  pub data Five : Type 0 where
    is₁ : a ≡ true → Five
    is₂ : b ≡ true → Five
    is₃ : c ≡ true → Five
    is₄ : d ≡ true → Five
    is₅ : e ≡ true → Five

pub which : (a b c d e : Bool) → five a b c d e ≡ true → Five a b c d e
which true b c d e h = is₁ refl
which false true c d e h = is₂ refl
which false false true d e h = is₃ refl
which false false false true e h = is₄ refl
which false false false false e h = is₅ h

-- ---- a beginning of a word of the class passes the test
every_front : (f : ℕ → Bool) (w x : Word) → every f (w ++ x) ≡ true → every f w ≡ true
every_front f [] x e = refl
every_front f (b ∷ w) x e = let h = both (f b) (every f (w ++ x)) e in rw (h.0, every_front f w x h.1)

value_grows : (x : Word) (n : ℕ) → n ≤ value_from n x
value_grows [] n = omega arith
value_grows (d ∷ x) n = let h = value_grows x (n * 10 + (d - 48)) in omega arith

value-front : (w x : Word) (n : ℕ) → value_from n w ≤ value_from n (w ++ x)
value-front [] x n = value_grows x n
value-front (d ∷ w) x n = value-front w x (n * 10 + (d - 48))

name-front : (w x : Word) → is_name (w ++ x) ≡ true → (empty w || is_name w) ≡ true
unfolding is_name
name-front [] x e = refl
name-front (b ∷ w) x e =
    let h = both (is_letter b) (every name_byte (w ++ x) && leb (length (w ++ x)) 15) e in
    let g = both (every name_byte (w ++ x)) (leb (length (w ++ x)) 15) h.1 in
    let l = leb-true (length (w ++ x)) 15 g.1 in
    rw (h.0, every_front name_byte w x g.0, le-leb (length w) 15 (omega (arith, length-append w x)))

count-front : (w x : Word) → is_count (w ++ x) ≡ true → (empty w || is_count w) ≡ true
unfolding is_count
count-front [] x e = refl
count-front (d ∷ w) x e =
    let h = both (every is_digit (d ∷ w ++ x)) (leb (value_from 0 (d ∷ w ++ x)) 2147483647) e in
    let l = leb-true (value_from 0 (d ∷ w ++ x)) 2147483647 h.1 in
    let g = every_front is_digit (d ∷ w) x h.0 in
    rw (g, le-leb (value_from 0 (d ∷ w)) 2147483647 (omega (arith, value-front (d ∷ w) x 0)))

negative-front : (w x : Word) → is_negative (w ++ x) ≡ true → (empty w || (is_negative w || same_word w (45 ∷ []))) ≡ true
unfolding is_negative
negative-front [] x e = refl
negative-front (b ∷ []) x e = let h = both (eqb b 45) (is_count x) e in second (eqb b 45 && is_count []) (same_word (b ∷ []) (45 ∷ [])) (rw h.0)
negative-front (b ∷ d ∷ w) x e =
    let h = both (eqb b 45) (is_count ((d ∷ w) ++ x)) e in
    first (eqb b 45 && is_count (d ∷ w)) (same_word (b ∷ d ∷ w) (45 ∷ [])) (rw h.0 (count-front (d ∷ w) x h.1))

-- every beginning of this word passes
abbrev fronts : (Word → Bool) → Word → Bool
fronts t [] = t []
fronts t (b ∷ w) = t [] && fronts (λ v. t (b ∷ v)) w

front_of_lem : (t : Word → Bool) (w x : Word) → fronts t (w ++ x) ≡ true → t w ≡ true
front_of_lem t [] [] e = e
front_of_lem t [] (b ∷ x) e = (both (t []) (fronts (λ v. t (b ∷ v)) x) e).0
front_of_lem t (b ∷ w) x e = front_of_lem (λ v. t (b ∷ v)) w x (both (t []) (fronts (λ v. t (b ∷ v)) (w ++ x)) e).1

-- what holds for each word of a list holds for one of them
pub listed : (t : Word → Bool) (w : Word) (l : List Word) → every t l ≡ true → one_of w l ≡ true → t w ≡ true
listed t w [] h e = not-both (sym e)
listed t w (x ∷ l) h e = go (either (same_word w x) (one_of w l) e) (both (t x) (every t l) h) (listed t w l)
  where
    go : (same_word w x ≡ true) ⊎ (one_of w l ≡ true) → (t x ≡ true) × (every t l ≡ true) → (every t l ≡ true → one_of w l ≡ true → t w ≡ true) → t w ≡ true
    go (inl q) p ih = rw (same_word_lem w x q) p.0
    go (inr q) p ih = ih p.1 q

operator-front : (w x : Word) → operator (w ++ x) ≡ true → begins_function w ≡ true
unfolding operator begins_function is_name is_letter
operator-front w x e = front_of_lem begins_function w x (listed (fronts begins_function) (w ++ x) operators refl e)

pub name_of : (w : Word) → own_name w ≡ true → is_name w ≡ true
unfolding own_name
name_of w e = (both (is_name w) (not (reserved w)) e).0

name-atom : (w : Word) → (empty w || is_name w) ≡ true → begins_atom w ≡ true
unfolding begins_atom
name-atom w h = go (either (empty w) (is_name w) h)
  where
    go : (empty w ≡ true) ⊎ (is_name w ≡ true) → begins_atom w ≡ true
    go (inl q) = at₁ (empty w) (is_name w) (is_count w) (is_negative w) (same_word w (45 ∷ [])) q
    go (inr q) = at₂ (empty w) (is_name w) (is_count w) (is_negative w) (same_word w (45 ∷ [])) q

count-atom : (w : Word) → (empty w || is_count w) ≡ true → begins_atom w ≡ true
unfolding begins_atom
count-atom w h = go (either (empty w) (is_count w) h)
  where
    go : (empty w ≡ true) ⊎ (is_count w ≡ true) → begins_atom w ≡ true
    go (inl q) = at₁ (empty w) (is_name w) (is_count w) (is_negative w) (same_word w (45 ∷ [])) q
    go (inr q) = at₃ (empty w) (is_name w) (is_count w) (is_negative w) (same_word w (45 ∷ [])) q

negative-atom : (w : Word) → (empty w || (is_negative w || same_word w (45 ∷ []))) ≡ true → begins_atom w ≡ true
unfolding begins_atom
negative-atom w h = go (either (empty w) (is_negative w || same_word w (45 ∷ [])) h)
  where
    go : (empty w ≡ true) ⊎ ((is_negative w || same_word w (45 ∷ [])) ≡ true) → begins_atom w ≡ true
    go (inl q) = at₁ (empty w) (is_name w) (is_count w) (is_negative w) (same_word w (45 ∷ [])) q
    go (inr q) = rw (q, or-true (is_count w), or-true (is_name w), or-true (empty w))

name-function : (w : Word) → (empty w || is_name w) ≡ true → begins_function w ≡ true
unfolding begins_function
name-function w h = go (either (empty w) (is_name w) h)
  where
    go : (empty w ≡ true) ⊎ (is_name w ≡ true) → begins_function w ≡ true
    go (inl q) = at₁ (empty w) (is_name w) (operator w) (same_word w (61 ∷ [])) (same_word w (33 ∷ [])) q
    go (inr q) = at₂ (empty w) (is_name w) (operator w) (same_word w (61 ∷ [])) (same_word w (33 ∷ [])) q

inf-fronts : fronts begins_atom the_inf ≡ true
unfolding begins_atom is_name is_letter name_byte
inf-fronts = refl

number-front : (w x : Word) → is_number (w ++ x) ≡ true → begins_atom w ≡ true
unfolding is_number
number-front w x e = go (either (same_word (w ++ x) the_inf) (is_count (w ++ x) || is_negative (w ++ x)) e)
  where
    go : (same_word (w ++ x) the_inf ≡ true) ⊎ ((is_count (w ++ x) || is_negative (w ++ x)) ≡ true) → begins_atom w ≡ true
    go (inl q) = front_of_lem begins_atom w x (rw (same_word_lem (w ++ x) the_inf q) inf-fronts)
    go (inr q) = or (either (is_count (w ++ x)) (is_negative (w ++ x)) q)
      where
        or : (is_count (w ++ x) ≡ true) ⊎ (is_negative (w ++ x) ≡ true) → begins_atom w ≡ true
        or (inl q) = count-atom w (count-front w x q)
        or (inr q) = negative-atom w (negative-front w x q)

heads-fronts : every (λ x. not (is_opener (role_of x.1)) || fronts begins_function x.0) head_words ≡ true
unfolding begins_function is_name is_letter name_byte is_digit operator
heads-fronts = refl

own-front : (w x : Word) → own_name (w ++ x) ≡ true → (empty w || is_name w) ≡ true
own-front w x e = name-front w x (name_of (w ++ x) e)

opener-front : (w x : Word) → is_opener (role (w ++ x)) ≡ true → begins_function w ≡ true
unfolding role head_of
opener-front w x e =
    lookup-word (λ h. is_opener (role_of h)) (fronts begins_function) (w ++ x) head_words (cond (operator (w ++ x)) operation (cond (own_name (w ++ x)) call nothing))
    heads-fronts (front_of_lem begins_function w x) (go (operator (w ++ x)) (own_name (w ++ x)) refl refl) e
  where
    go : (a b : Bool) → operator (w ++ x) ≡ a → own_name (w ++ x) ≡ b → is_opener (role_of (cond a operation (cond b call nothing))) ≡ true → begins_function w ≡ true
    go true b p q e = operator-front w x p
    go false true p q e = name-function w (own-front w x q)
    go false false p q e = not-both (sym e)

head-opener : (r : Role) → is_head r ≡ true → is_opener r ≡ true
head-opener (fixed ks) e = refl
head-opener calls e = refl
head-opener definition e = not-both (sym e)
head-opener no_form e = not-both (sym e)

pub front-begins : (c : Class) (w x : Word) → allowed c (w ++ x) ≡ true → begins c w ≡ true
unfolding atom binder function begins_binder
front-begins atoms w x e = go (either (is_number (w ++ x)) (own_name (w ++ x)) e)
  where
    go : (is_number (w ++ x) ≡ true) ⊎ (own_name (w ++ x) ≡ true) → begins_atom w ≡ true
    go (inl q) = number-front w x q
    go (inr q) = name-atom w (own-front w x q)
front-begins binders w x e = name-front w x e
front-begins functions w x e = go (either (operator (w ++ x)) (own_name (w ++ x)) e)
  where
    go : (operator (w ++ x) ≡ true) ⊎ (own_name (w ++ x) ≡ true) → begins_function w ≡ true
    go (inl q) = operator-front w x q
    go (inr q) = name-function w (own-front w x q)
front-begins heads w x e = opener-front w x (head-opener (role (w ++ x)) e)
front-begins openers w x e = opener-front w x e
