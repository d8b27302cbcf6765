-- names, numbers and operators by their first byte, and the words that a front covers whole.
use mathlib.Core.Path.{◌≡◌, refl, sym, ap, ◌∙◌}
use mathlib.Core.Bool.{Bool, true, false, cond, ◌&&◌, and-false, or-false}
use mathlib.Core.List.{[], ◌∷◌}
use Prim.Native.Nat.{ℕ, suc, ◌+◌, ◌*◌, ◌-◌, ◌≤◌, ◌<◌, min}
use native.Mathlib.Omega.{arith}
use native.Mathlib.Nat.{min-eq_left, min-eq_right, min-le_right}
use lib.Dec.{eqb, leb, eqb-suc-suc}
use lib.ListN.{length}
use borrow.Author.Tests.{eq-eqb, ne_eqb, leb-true, leb-false, le-leb, lt-leb}
use Rattle.notation.specs.Words.{Word, same_word, every, value_from, is_letter, is_digit, name_byte, is_name, operator, is_count, is_negative, is_number, the_inf}
use Rattle.decide.proofs.Picks.{not-both, both}
use Rattle.fronts.specs.Fronts.{run, name_front, count_front}
use Rattle.fronts.proofs.Turns.{run_none, run_cons, value_grows}

-- ---- a letter is no digit and no minus
pub letter-digit : (c : ℕ) → is_letter c ≡ true → is_digit c ≡ false
unfolding is_letter is_digit
letter-digit c e = let h = leb-true 97 c (both (leb 97 c) (leb c 122) e).0 in rw (lt-leb c 57 (omega arith)) (and-false (leb 48 c))

pub letter-is-not : (c d : ℕ) → is_letter c ≡ true → is_letter d ≡ false → eqb c d ≡ false
letter-is-not c d e f = ne_eqb c d (λ q. not-both (sym e ∙ ap is_letter q ∙ f))

pub letter-count : (c : ℕ) (v : Word) → is_letter c ≡ true → is_count (c ∷ v) ≡ false
unfolding is_count
letter-count c v e = rw (letter-digit c e)

pub letter-negative : (c : ℕ) (v : Word) → is_letter c ≡ true → is_negative (c ∷ v) ≡ false
unfolding is_negative is_letter
letter-negative c v e = rw (letter-is-not c 45 e refl)

-- ---- no operator begins with a letter
pub letter-operator : (c : ℕ) (v : Word) → is_letter c ≡ true → operator (c ∷ v) ≡ false
unfolding operator is_letter
letter-operator c v e =
    rw (
      letter-is-not c 43 e refl,
      letter-is-not c 45 e refl,
      letter-is-not c 42 e refl,
      letter-is-not c 47 e refl,
      letter-is-not c 60 e refl,
      letter-is-not c 62 e refl,
      letter-is-not c 61 e refl,
      letter-is-not c 33 e refl,
    )

-- ---- numbers by their first byte
pub number-letter : (c : ℕ) (v : Word) → is_letter c ≡ true → is_number (c ∷ v) ≡ same_word (c ∷ v) the_inf
unfolding is_number
number-letter c v e = rw (letter-count c v e, letter-negative c v e) (or-false (same_word (c ∷ v) the_inf))

pub number-minus : (v : Word) → is_number (45 ∷ v) ≡ is_count v
unfolding is_number is_count is_negative is_digit
number-minus v = refl

pub number-other : (c : ℕ) (v : Word) → is_letter c ≡ false → eqb c 45 ≡ false → is_number (c ∷ v) ≡ is_count (c ∷ v)
unfolding is_number is_negative is_letter
number-other c v e m =
    let f : eqb c 105 ≡ false = ne_eqb c 105 (λ q. not-both (sym (ap is_letter q) ∙ e)) in
    rw (f, m) (or-false (is_count (c ∷ v)))

pub number-filled : (v : Word) → is_number v ≡ true → 0 < length v
unfolding is_number is_count is_negative
number-filled [] e = not-both (sym e)
number-filled (c ∷ v) e = omega arith

-- ---- digits: the front is the whole word where it is a count
count-all : (w : Word) (n : ℕ) → n ≤ 2147483647 → eqb (count_front n w) (length w) ≡ (every is_digit w && leb (value_from n w) 2147483647)
unfolding count_front
count-all [] n h = sym (le-leb n 2147483647 h)
count-all (d ∷ w) n h = go (is_digit d) (leb (n * 10 + (d - 48)) 2147483647) refl refl (count-all w (n * 10 + (d - 48)))
  where
    go : (a b : Bool) → is_digit d ≡ a → leb (n * 10 + (d - 48)) 2147483647 ≡ b
        → (n * 10 + (d - 48) ≤ 2147483647 → eqb (count_front (n * 10 + (d - 48)) w) (length w) ≡ (every is_digit w && leb (value_from (n * 10 + (d - 48)) w) 2147483647))
        → eqb (cond (a && b) (suc (count_front (n * 10 + (d - 48)) w)) 0) (suc (length w)) ≡ ((a && every is_digit w) && leb (value_from (n * 10 + (d - 48)) w) 2147483647)
    go true true p q ih = eqb-suc-suc (count_front (n * 10 + (d - 48)) w) (length w) ∙ ih (leb-true (n * 10 + (d - 48)) 2147483647 q)
    go true false p q ih =
        let l = leb-false (n * 10 + (d - 48)) 2147483647 q in
        let m = value_grows w (n * 10 + (d - 48)) in
        ne_eqb 0 (suc (length w)) (λ z. omega arith) ∙ sym (rw (lt-leb (value_from (n * 10 + (d - 48)) w) 2147483647 (omega arith)) (and-false (every is_digit w)))
    go false b p q ih = ne_eqb 0 (suc (length w)) (λ z. omega arith)

pub count-whole : (w : Word) → 0 < length w → is_count w ≡ eqb (count_front 0 w) (length w)
unfolding is_count
count-whole [] h = absurd (omega arith)
count-whole (d ∷ w) h = sym (count-all (d ∷ w) 0 (omega arith))

-- ---- names: the front is the whole word where it is one
run-all : (f : ℕ → Bool) (v : Word) → every f v ≡ true → run f v ≡ length v
run-all f [] e = run_none f
run-all f (b ∷ v) e = let h = both (f b) (every f v) e in rw (run_cons f b v, h.0, run-all f v h.1)

run-part : (f : ℕ → Bool) (v : Word) → every f v ≡ false → run f v < length v
run-part f [] e = not-both e
run-part f (b ∷ v) e = rw (run_cons f b v) (go (f b) e (run-part f v))
  where
    go : (a : Bool) → (a && every f v) ≡ false → (every f v ≡ false → run f v < length v) → cond a (suc (run f v)) 0 < suc (length v)
    go true e ih = let h = ih e in omega arith
    go false e ih = omega arith

pub name-letter : (c : ℕ) (v : Word) → is_letter c ≡ false → is_name (c ∷ v) ≡ false
unfolding is_name
name-letter c v e = rw e

pub name-whole : (c : ℕ) (v : Word) → is_letter c ≡ true → is_name (c ∷ v) ≡ eqb (name_front (c ∷ v)) (suc (length v))
unfolding is_name name_front
name-whole c v e = rw e (go (every name_byte v) (leb (length v) 15) refl refl ∙ sym (eqb-suc-suc (min 15 (run name_byte v)) (length v)))
  where
    go : (a b : Bool) → every name_byte v ≡ a → leb (length v) 15 ≡ b → (a && b) ≡ eqb (min 15 (run name_byte v)) (length v)
    go true true p q = sym (eq-eqb (min 15 (run name_byte v)) (length v) (rw (run-all name_byte v p) (min-eq_right (leb-true (length v) 15 q))))
    go true false p q =
        let l = leb-false (length v) 15 q in
        let m : min 15 (run name_byte v) ≡ 15 = rw (run-all name_byte v p) (min-eq_left (omega arith)) in
        sym (ne_eqb (min 15 (run name_byte v)) (length v) (λ z. omega arith))
    go false b p q =
        let l = run-part name_byte v p in
        let m = min-le_right 15 (run name_byte v) in
        sym (ne_eqb (min 15 (run name_byte v)) (length v) (λ z. omega arith))
