-- What the fronts measure: how much of a word, at a stack of notation's machine, still begins a word that the stack takes.
use mathlib.Core.Path.{◌≡◌, refl, sym, ap, ◌∙◌}
use mathlib.Core.Bool.{Bool, true, false, cond, ◌&&◌, and-true, and-false, or-false}
use mathlib.Core.List.{List, [], ◌∷◌, ◌++◌, append_assoc}
use mathlib.Core.Option.{none, some}
use Prim.Native.Nat.{ℕ, suc, ◌+◌, ◌*◌, ◌-◌, ◌≤◌, min}
use native.Mathlib.Omega.{arith}
use native.Mathlib.Nat.{zero-min, min-zero, suc-min-suc}
use lib.Dec.{eqb, leb}
use lib.ListN.{length, length-append}
use borrow.Author.Tests.{eqb-true, leb-true, leb-false}
use Rattle.notation.specs.Words.{Word, every, value_from, is_letter, is_digit, name_byte, is_name, operator, is_count, is_negative}
use Rattle.notation.proofs.Viable.{Class, atoms, binders, functions, heads, openers, begins_atom, begins_binder, begins_function, begins}
use Rattle.notation.proofs.Machine.{Symbol}
use Rattle.notation.proofs.Finish.{words_of}
use Rattle.notation.proofs.Rules.{viable}
use Rattle.fronts.specs.Fronts.{run, name_front, count_front, atom_front, equals_next, function_front}
use Rattle.fronts.proofs.Turns.{run_none, run_cons}
use Rattle.fronts.proofs.Classes.{letter-is-not, letter-count, letter-negative, letter-operator, name-letter}

abbrev pub front_of : Class → Word → ℕ
front_of atoms w = atom_front w
front_of binders w = name_front w
front_of functions w = function_front w
front_of heads w = function_front w
front_of openers w = function_front w

-- how much of x, behind the word in hand, passes a test
abbrev passing : (Word → Bool) → Word → Word → ℕ
passing f w [] = 0
passing f w (b ∷ x) = cond (f (w ++ b ∷ [])) (suc (passing f (w ++ b ∷ []) x)) 0

in-class : (st : List Symbol) (c : Class) → words_of st ≡ some c → (x w : Word) → viable st w x ≡ passing (begins c) w x
in-class st c e [] w = refl
in-class st c e (b ∷ x) w = rw (e, in-class st c e x (w ++ b ∷ []))

-- ---- names
every-end : (f : ℕ → Bool) (v : Word) (c : ℕ) → every f (v ++ c ∷ []) ≡ (every f v && f c)
every-end f [] c = and-true (f c)
every-end f (b ∷ v) c = go (f b) (every-end f v c)
  where
    go : (a : Bool) → every f (v ++ c ∷ []) ≡ (every f v && f c) → (a && every f (v ++ c ∷ [])) ≡ ((a && every f v) && f c)
    go true e = e
    go false e = refl

length-end : (v : Word) (c : ℕ) → length (v ++ c ∷ []) ≡ suc (length v)
length-end v c = length-append v (c ∷ []) ∙ omega arith

module _ (f : Word → Bool) (b : ℕ) (l : is_letter b ≡ true) (same : (v : Word) → f (b ∷ v) ≡ is_name (b ∷ v)) where
  name-end : (v : Word) (c : ℕ) → every name_byte v ≡ true → f (b ∷ v ++ c ∷ []) ≡ (name_byte c && leb (suc (length v)) 15)
  unfolding is_name
  name-end v c e = same (v ++ c ∷ []) ∙ rw (l, every-end name_byte v c, e, length-end v c)

  name-rest : (x v : Word) → every name_byte v ≡ true → length v ≤ 15 → passing f (b ∷ v) x ≡ min (15 - length v) (run name_byte x)
  name-rest [] v e h = rw run_none (sym (min-zero (15 - length v)))
  name-rest (c ∷ x) v e h = rw (name-end v c e, run_cons name_byte c x) (go (name_byte c) (leb (suc (length v)) 15) refl refl (name-rest x (v ++ c ∷ [])))
    where
      go : (p q : Bool) → name_byte c ≡ p → leb (suc (length v)) 15 ≡ q
          → (every name_byte (v ++ c ∷ []) ≡ true → length (v ++ c ∷ []) ≤ 15 → passing f (b ∷ v ++ c ∷ []) x ≡ min (15 - length (v ++ c ∷ [])) (run name_byte x))
          → cond (p && q) (suc (passing f (b ∷ v ++ c ∷ []) x)) 0 ≡ min (15 - length v) (cond p (suc (run name_byte x)) 0)
      go true true d q ih =
          let k = leb-true (suc (length v)) 15 q in
          let n = length-end v c in
          let z : 15 - length v ≡ suc (15 - length (v ++ c ∷ [])) = omega arith in
          rw (z, suc-min-suc) (ap suc (ih (rw (every-end name_byte v c, e, d)) (omega arith)))
      go true false d q ih = let k = leb-false (suc (length v)) 15 q in let z : 15 - length v ≡ 0 = omega arith in rw z (sym (zero-min (suc (run name_byte x))))
      go false q d r ih = sym (min-zero (15 - length v))

  name-passes : (x : Word) → passing f [] (b ∷ x) ≡ name_front (b ∷ x)
  unfolding name_front is_name
  name-passes x = rw (same [], l) (ap suc (name-rest x [] refl (omega arith)))

-- ---- digits
module _ (f : Word → Bool) where
  value-end : (v : Word) (c n : ℕ) → value_from n (v ++ c ∷ []) ≡ value_from n v * 10 + (c - 48)
  value-end [] c n = refl
  value-end (d ∷ v) c n = value-end v c (n * 10 + (d - 48))

  count-end : (v : Word) (c : ℕ) → every is_digit v ≡ true → is_count (v ++ c ∷ []) ≡ (is_digit c && leb (value_from 0 v * 10 + (c - 48)) 2147483647)
  unfolding is_count
  count-end [] c e = rw (and-true (is_digit c))
  count-end (d ∷ v) c e = rw (every-end is_digit (d ∷ v) c, value-end (d ∷ v) c 0, e)

  count-rest : (x w v : Word) → ((c : ℕ) (u : Word) → f (w ++ c ∷ u) ≡ is_count (v ++ c ∷ u)) → every is_digit v ≡ true → passing f w x ≡ count_front (value_from 0 v) x
  unfolding count_front
  count-rest [] w v same e = refl
  count-rest (c ∷ x) w v same e =
      rw (same c [], count-end v c e) (go (is_digit c) (leb (value_from 0 v * 10 + (c - 48)) 2147483647) refl (count-rest x (w ++ c ∷ []) (v ++ c ∷ [])))
    where
      IH : Type 0
      IH = ((d : ℕ) (u : Word) → f ((w ++ c ∷ []) ++ d ∷ u) ≡ is_count ((v ++ c ∷ []) ++ d ∷ u)) → every is_digit (v ++ c ∷ []) ≡ true
          → passing f (w ++ c ∷ []) x ≡ count_front (value_from 0 (v ++ c ∷ [])) x

      go : (p q : Bool) → is_digit c ≡ p → IH
          → cond (p && q) (suc (passing f (w ++ c ∷ []) x)) 0 ≡ cond (p && q) (suc (count_front (value_from 0 v * 10 + (c - 48)) x)) 0
      go true true d ih =
          ap suc
          (ih (λ d u. rw (append_assoc w (c ∷ []) (d ∷ u), append_assoc v (c ∷ []) (d ∷ u)) (same c (d ∷ u))) (rw (every-end is_digit v c, e, d))
          ∙ rw (value-end v c 0))
      go true false d ih = refl
      go false q d ih = refl

-- ---- what stands alone
atom-letter : (b : ℕ) (v : Word) → is_letter b ≡ true → begins_atom (b ∷ v) ≡ is_name (b ∷ v)
unfolding begins_atom is_letter
atom-letter b v e = rw (letter-count b v e, letter-negative b v e, letter-is-not b 45 e refl) (or-false (is_name (b ∷ v)))

atom-minus : (c : ℕ) (u : Word) → begins_atom (45 ∷ c ∷ u) ≡ is_count (c ∷ u)
unfolding begins_atom is_name is_letter is_count is_digit is_negative
atom-minus c u = or-false (is_count (c ∷ u))

atom-other : (b : ℕ) (v : Word) → is_letter b ≡ false → eqb b 45 ≡ false → begins_atom (b ∷ v) ≡ is_count (b ∷ v)
unfolding begins_atom is_negative
atom-other b v e m = rw (name-letter b v e, m) (or-false (is_count (b ∷ v)))

minus-alone : begins_atom (45 ∷ []) ≡ true
unfolding begins_atom is_name is_letter is_count is_digit is_negative
minus-alone = refl

other-passes : (b : ℕ) (x : Word) → is_letter b ≡ false → eqb b 45 ≡ false → passing begins_atom [] (b ∷ x) ≡ count_front 0 (b ∷ x)
unfolding count_front is_count
other-passes b x e q = rw (atom-other b [] e q, and-true (is_digit b)) (go (is_digit b) (leb (0 * 10 + (b - 48)) 2147483647) refl)
  where
    go : (d m : Bool) → is_digit b ≡ d → cond (d && m) (suc (passing begins_atom (b ∷ []) x)) 0 ≡ cond (d && m) (suc (count_front (0 * 10 + (b - 48)) x)) 0
    go true true r = ap suc (count-rest begins_atom x (b ∷ []) (b ∷ []) (λ c u. atom-other b (c ∷ u) e q) (rw r))
    go true false r = refl
    go false m r = refl

atom-passes : (w : Word) → passing begins_atom [] w ≡ atom_front w
unfolding atom_front
atom-passes [] = refl
atom-passes (b ∷ x) = go (is_letter b) (eqb b 45) refl refl
  where
    go : (l m : Bool) → is_letter b ≡ l → eqb b 45 ≡ m → passing begins_atom [] (b ∷ x) ≡ cond l (name_front (b ∷ x)) (cond m (suc (count_front 0 x)) (count_front 0 (b ∷ x)))
    go true m e q = name-passes begins_atom b e (λ v. atom-letter b v e) x
    go false true e q = rw (eqb-true b 45 q, minus-alone) (ap suc (count-rest begins_atom x (45 ∷ []) [] atom-minus refl))
    go false false e q = other-passes b x e q

-- ---- functions and heads
function-letter : (b : ℕ) (v : Word) → is_letter b ≡ true → begins_function (b ∷ v) ≡ is_name (b ∷ v)
unfolding begins_function is_letter
function-letter b v e = rw (letter-operator b v e, letter-is-not b 61 e refl, letter-is-not b 33 e refl) (or-false (is_name (b ∷ v)))

-- of one byte, or two where the second is =
pair-passes : (f : Word → Bool) (b : ℕ) → f (b ∷ []) ≡ true → ((c : ℕ) → f (b ∷ c ∷ []) ≡ eqb c 61) → ((c d : ℕ) → f (b ∷ c ∷ d ∷ []) ≡ false) → (x : Word)
    → passing f [] (b ∷ x) ≡ equals_next x
pair-passes f b one two three [] = rw one
pair-passes f b one two three (c ∷ []) = rw (one, two c) (go (eqb c 61))
  where
    go : (m : Bool) → suc (cond m 1 0) ≡ cond m 2 1
    go true = refl
    go false = refl
pair-passes f b one two three (c ∷ d ∷ x) = rw (one, two c, three c d) (go (eqb c 61))
  where
    go : (m : Bool) → suc (cond m 1 0) ≡ cond m 2 1
    go true = refl
    go false = refl

greater-passes : (x : Word) → passing begins_function [] (62 ∷ x) ≡ equals_next x
unfolding begins_function operator is_name is_letter
greater-passes x = pair-passes begins_function 62 refl (λ c. simp (and-true, and-false, or-false)) (λ c d. simp (and-true, and-false, or-false)) x

equal-passes : (x : Word) → passing begins_function [] (61 ∷ x) ≡ equals_next x
unfolding begins_function operator is_name is_letter
equal-passes x = pair-passes begins_function 61 refl (λ c. simp (and-true, and-false, or-false)) (λ c d. simp (and-true, and-false, or-false)) x

unequal-passes : (x : Word) → passing begins_function [] (33 ∷ x) ≡ equals_next x
unfolding begins_function operator is_name is_letter
unequal-passes x = pair-passes begins_function 33 refl (λ c. simp (and-true, and-false, or-false)) (λ c d. simp (and-true, and-false, or-false)) x

module _ (b : ℕ) (l : is_letter b ≡ false) (g : eqb b 62 ≡ false) (e : eqb b 61 ≡ false) (u : eqb b 33 ≡ false) where
  sign-one : begins_function (b ∷ []) ≡ operator (b ∷ [])
  unfolding begins_function
  sign-one = rw (name-letter b [] l, e, u) (or-false (operator (b ∷ [])))

  sign-two : (c : ℕ) → begins_function (b ∷ c ∷ []) ≡ false
  unfolding begins_function operator
  sign-two c = rw (name-letter b (c ∷ []) l, g, e, u) (simp (and-false, or-false))

  sign-passes : (x : Word) → passing begins_function [] (b ∷ x) ≡ cond (operator (b ∷ [])) 1 0
  sign-passes [] = rw sign-one
  sign-passes (c ∷ x) = rw (sign-one, sign-two c)

function-passes : (w : Word) → passing begins_function [] w ≡ function_front w
unfolding function_front
function-passes [] = refl
function-passes (b ∷ x) = go (is_letter b) (eqb b 62) (eqb b 61) (eqb b 33) refl refl refl refl
  where
    go : (l g e u : Bool) → is_letter b ≡ l → eqb b 62 ≡ g → eqb b 61 ≡ e → eqb b 33 ≡ u
        → passing begins_function [] (b ∷ x) ≡ cond l (name_front (b ∷ x)) (cond g (equals_next x) (cond e (equals_next x) (cond u (equals_next x) (cond (operator (b ∷ [])) 1 0))))
    go true g e u p q r s = name-passes begins_function b p (λ v. function-letter b v p) x
    go false true e u p q r s = rw (eqb-true b 62 q) (greater-passes x)
    go false false true u p q r s = rw (eqb-true b 61 r) (equal-passes x)
    go false false false true p q r s = rw (eqb-true b 33 s) (unequal-passes x)
    go false false false false p q r s = sign-passes b p q r s x

-- ---- what is bound
binder-passes : (w : Word) → passing begins_binder [] w ≡ name_front w
unfolding begins_binder name_front
binder-passes [] = refl
binder-passes (b ∷ x) = go (is_letter b) refl
  where
    go : (l : Bool) → is_letter b ≡ l → passing begins_binder [] (b ∷ x) ≡ cond l (suc (min 15 (run name_byte x))) 0
    go true e = name-passes begins_binder b e (λ v. refl) x ∙ rw e
    go false e = rw (name-letter b [] e)

-- ---- every stack
pub front-viable : (st : List Symbol) (c : Class) (w : Word) → words_of st ≡ some c → viable st [] w ≡ front_of c w
front-viable st c w e = in-class st c e w [] ∙ go c
  where
    go : (c : Class) → passing (begins c) [] w ≡ front_of c w
    go atoms = atom-passes w
    go binders = binder-passes w
    go functions = function-passes w
    go heads = function-passes w
    go openers = function-passes w

pub front-nothing : (st : List Symbol) (w : Word) → words_of st ≡ none → viable st [] w ≡ 0
front-nothing st [] e = refl
front-nothing st (b ∷ w) e = rw e
