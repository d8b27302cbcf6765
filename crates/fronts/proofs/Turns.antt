-- One turn of the loop over digits, the value of digits, and a name's bytes one by one.
use mathlib.Core.Path.{◌≡◌, refl, sym, ◌∙◌}
use mathlib.Core.Bool.{Bool, true, false, cond, ◌&&◌}
use mathlib.Core.List.{[], ◌∷◌}
use Prim.Native.Nat.{ℕ, zero, suc, ◌+◌, ◌*◌, ◌-◌, ◌≤◌, ◌<◌, min}
use native.Mathlib.Nat.{zero-min, min-zero, suc-min-suc}
use native.Mathlib.Omega.{arith}
use native.Mathlib.Numerals.{add-one}
use lib.Dec.{leb}
use lib.ListN.{length, get_or, take, drop, drop_of_length-le}
use lib.Seq.{drop-cons}
use borrow.Author.Tests.{leb-true, le-leb, lt-leb}
use Rattle.std.specs.List.{prefix_len}
use Rattle.std.proofs.lemmas.List.{take_all}
use Rattle.notation.specs.Words.{Word, every, value_from, is_letter, is_digit, name_byte, is_count}
use Rattle.decide.proofs.Picks.{not-both, both}
use Rattle.fronts.specs.Fronts.{run, name_front, count_front}

one-more : (c : Bool) (n : ℕ) → cond c (1 + n) 0 ≡ cond c (suc n) 0
one-more true n = omega arith
one-more false n = refl

pub run_none : (f : ℕ → Bool) → run f [] ≡ 0
unfolding run
run_none f = refl

pub run_cons : (f : ℕ → Bool) (b : ℕ) (w : Word) → run f (b ∷ w) ≡ cond (f b) (suc (run f w)) 0
unfolding run
run_cons f b w = one-more (f b) (prefix_len f w)

-- no more than n of the bytes are looked at
pub run-first : (f : ℕ → Bool) (w : Word) (n : ℕ) → run f (take (min (length w) n) w) ≡ min n (run f w)
run-first f [] n = rw (zero-min n, run_none) (sym (min-zero n))
run-first f (b ∷ w) zero = rw (min-zero, run_none) (sym (zero-min (run f (b ∷ w))))
run-first f (b ∷ w) (suc n) = rw (suc-min-suc, run_cons f b (take (min (length w) n) w), run_cons f b w) (go (f b) (run-first f w n))
  where
    go : (a : Bool) → run f (take (min (length w) n) w) ≡ min n (run f w) → cond a (suc (run f (take (min (length w) n) w))) 0 ≡ min (suc n) (cond a (suc (run f w)) 0)
    go true e = rw (e, suc-min-suc) refl
    go false e = sym (min-zero (suc n))

pub name-bounded : (w : Word) → 1 ≤ length w → is_letter (get_or w 0 0) ≡ true
    → 1 + run name_byte (take (min (length (take (length w - 1) (drop 1 w))) 15) (take (length w - 1) (drop 1 w))) ≡ name_front w
unfolding name_front
name-bounded [] h l = absurd (omega arith)
name-bounded (b ∷ v) h l =
    let e : take (length (b ∷ v) - 1) v ≡ v = take_all (length (b ∷ v) - 1) v (omega arith) in
    rw (e, run-first name_byte v 15, l) (omega arith)

-- ---- digits, while their value is in range
pub digit-range : (d : ℕ) → is_digit d ≡ true → (48 ≤ d) × (d ≤ 57)
unfolding is_digit
digit-range d e = let h = both (leb 48 d) (leb d 57) e in (leb-true 48 d h.0, leb-true d 57 h.1)

-- of the digits of w, those before i have the value n
pub record Counted (w : Word) (n i : ℕ) : Type 0 where
  pub small : n ≤ 2147483647
  pub same : count_front 0 w ≡ i + count_front n (drop i w)

module _ (w : Word) (n i : ℕ) (g : Counted w n i) where
  next-digit : i < length w → count_front 0 w
      ≡ i + cond (is_digit (get_or w i 0) && leb (n * 10 + (get_or w i 0 - 48)) 2147483647) (suc (count_front (n * 10 + (get_or w i 0 - 48)) (drop (i + 1) w))) 0
  unfolding count_front
  next-digit h = g.same ∙ rw (drop-cons w i 0 h, add-one)

  pub counted-again : i < length w → is_digit (get_or w i 0) ≡ true → n * 10 + (get_or w i 0 - 48) ≤ 2147483647 → Counted w (n * 10 + (get_or w i 0 - 48)) (i + 1)
  counted-again h e k = record { small = k; same = next-digit h ∙ rw (e, le-leb (n * 10 + (get_or w i 0 - 48)) 2147483647 k) (omega arith) }

  pub counted-other : i < length w → is_digit (get_or w i 0) ≡ false → i ≡ count_front 0 w
  counted-other h e = sym (next-digit h ∙ rw e (omega arith))

  pub counted-past : i < length w → is_digit (get_or w i 0) ≡ true → 2147483647 < n * 10 + (get_or w i 0 - 48) → i ≡ count_front 0 w
  counted-past h e k = sym (next-digit h ∙ rw (e, lt-leb (n * 10 + (get_or w i 0 - 48)) 2147483647 k) (omega arith))

  pub counted-whole : length w ≤ i → i ≡ count_front 0 w
  unfolding count_front
  counted-whole h = sym (g.same ∙ rw (drop_of_length-le w h) (omega arith))

-- ---- the value of digits
pub value_grows : (x : Word) (n : ℕ) → n ≤ value_from n x
value_grows [] n = omega arith
value_grows (d ∷ x) n = let h = value_grows x (n * 10 + (d - 48)) in omega arith

pub count-parts : (w : Word) → is_count w ≡ true → (every is_digit w ≡ true) × (value_from 0 w ≤ 2147483647)
unfolding is_count
count-parts [] e = not-both (sym e)
count-parts (d ∷ w) e =
    let h = both (every is_digit (d ∷ w)) (leb (value_from 0 (d ∷ w)) 2147483647) e in
    (h.0, leb-true (value_from 0 (d ∷ w)) 2147483647 h.1)
