-- Signed numbers: what the machine reads back, sums, products and quotients of two 32-bit numbers fit 64 bits, and tests. Assumes nothing.
use mathlib.Core.Path.{◌≡◌, refl, sym, ap, ap₂, ◌∙◌}
use mathlib.Core.Bool.{Bool, true, false, cond, true≢false}
use Prim.Native.Nat.{ℕ, zero, suc, ◌+◌, ◌*◌, ◌/◌, ◌^◌, ◌≤◌, ◌<◌}
use native.Mathlib.Nat.{le_trans, le_of_lt, lt_of_le_of_lt, div-le_self, mul-le-mul_left, mul-le-mul_right}
use native.Mathlib.Omega.{arith}
use lib.Dec.{eqb, ltb, lit<}
use lib.IntN.{ℤ, pos, negsuc, neg_ℤ, ◌+ℤ◌, ◌-ℤ◌, ◌*ℤ◌}
use lib.Signed.{mag, lt_z, quot_z}
use mir.Syntax.{Width, w32, w64}
use mir.Val.{SFits, to_z, of_z}
use mir.ValLaws.{to_z-of_z}
use mir.Facts.{sfits_widen}
use borrow.Author.Tests.{ltb-false, eq-eqb, ne_eqb, eqb-true, eqb-false}
use Rattle.number.specs.Number.{eq_z, inf, floor}

-- ---- magnitudes
mag-cond : (t : Bool) (x y : ℤ) (n : ℕ) → mag x ≤ n → mag y ≤ n → mag (cond t x y) ≤ n
mag-cond true x y n p q = p
mag-cond false x y n p q = q

mag-neg : (n : ℕ) → mag (neg_ℤ (pos n)) ≤ n
mag-neg zero = omega arith
mag-neg (suc n) = omega arith

pub mag_sum : (x y : ℤ) → mag (x +ℤ y) ≤ mag x + mag y + 1
mag_sum (pos a) (pos b) = omega arith
mag_sum (pos a) (negsuc b) = mag-cond (ltb a (suc b)) _ _ (a + b + 1) (omega arith) (omega arith)
mag_sum (negsuc a) (pos b) = mag-cond (ltb b (suc a)) _ _ (a + b + 1) (omega arith) (omega arith)
mag_sum (negsuc a) (negsuc b) = omega arith

mag-negℤ : (x : ℤ) → mag (neg_ℤ x) ≤ mag x + 1
mag-negℤ (pos zero) = omega arith
mag-negℤ (pos (suc n)) = omega arith
mag-negℤ (negsuc n) = omega arith

product : (a b m n : ℕ) → a ≤ m → b ≤ n → a * b ≤ m * n
product a b m n p q = le_trans (mul-le-mul_left a q) (mul-le-mul_right n p)

pub mag-product : (x y : ℤ) (m n : ℕ) → mag x < m → mag y < n → mag (x *ℤ y) ≤ m * n
mag-product (pos a) (pos b) m n p q = product a b m n (le_of_lt p) (le_of_lt q)
mag-product (pos a) (negsuc b) m n p q = le_trans (mag-neg (a * suc b)) (product a (suc b) m n (le_of_lt p) q)
mag-product (negsuc a) (pos b) m n p q = le_trans (mag-neg (suc a * b)) (product (suc a) b m n p (le_of_lt q))
mag-product (negsuc a) (negsuc b) m n p q = product (suc a) (suc b) m n p q

pub mag-quot : (x y : ℤ) → mag (quot_z x y) ≤ mag x + 1
mag-quot (pos a) (pos b) = le_trans (div-le_self a b) (omega arith)
mag-quot (pos a) (negsuc b) = le_trans (mag-neg (a / suc b)) (le_trans (div-le_self a (suc b)) (omega arith))
mag-quot (negsuc a) (pos b) = le_trans (mag-neg (suc a / b)) (le_trans (div-le_self (suc a) b) (omega arith))
mag-quot (negsuc a) (negsuc b) = le_trans (div-le_self (suc a) (suc b)) (omega arith)

-- ---- results of two 32-bit numbers fit 64 bits
module _ (x y : ℤ) (f : SFits w32 x) (g : SFits w32 y) where
  pub sum_fits : SFits w64 (x +ℤ y)
  sum_fits = record { sfits = omega (arith, mag_sum x y, f.sfits, g.sfits) }

  pub difference-fits : SFits w64 (x -ℤ y)
  difference-fits = record { sfits = omega (arith, mag_sum x (neg_ℤ y), mag-negℤ y, f.sfits, g.sfits) }

  pub product-fits : SFits w64 (x *ℤ y)
  product-fits = record { sfits = lt_of_le_of_lt (mag-product x y (2 ^ 31) (2 ^ 31) f.sfits g.sfits) (lit< tt) }

  pub quot_fits : SFits w64 (quot_z x y)
  quot_fits = record { sfits = omega (arith, mag-quot x y, f.sfits) }

-- two numbers that were passed on
pub both_read : (f : ℤ → ℤ → ℤ) (x y : ℤ) → SFits w32 x → SFits w32 y → f (to_z w32 (of_z w32 x)) (to_z w32 (of_z w32 y)) ≡ f x y
both_read f x y p q = ap₂ f (to_z-of_z w32 x p) (to_z-of_z w32 y q)

pub eq_z-yes : (x y : ℤ) → x ≡ y → eq_z x y ≡ true
eq_z-yes (pos a) (pos b) e = eq-eqb a b (cc)
eq_z-yes (pos a) (negsuc b) e = cc
eq_z-yes (negsuc a) (pos b) e = cc
eq_z-yes (negsuc a) (negsuc b) e = eq-eqb a b (cc)

pub eq_z-same : (x y : ℤ) → eq_z x y ≡ true → x ≡ y
eq_z-same (pos a) (pos b) q = ap pos (eqb-true a b q)
eq_z-same (pos a) (negsuc b) q = absurd (true≢false (sym q))
eq_z-same (negsuc a) (pos b) q = absurd (true≢false (sym q))
eq_z-same (negsuc a) (negsuc b) q = ap negsuc (eqb-true a b q)

pub eq_z-no : (x y : ℤ) → (x ≡ y → ⊥) → eq_z x y ≡ false
eq_z-no (pos a) (pos b) f = ne_eqb a b (λ e. f (ap pos e))
eq_z-no (pos a) (negsuc b) f = refl
eq_z-no (negsuc a) (pos b) f = refl
eq_z-no (negsuc a) (negsuc b) f = ne_eqb a b (λ e. f (ap negsuc e))

-- a test `x == y` of the machine is one of the bits
pub same_bits : (w : Width) (x y : ℤ) → SFits w x → SFits w y → of_z w x ≡ of_z w y → x ≡ y
same_bits w x y f g e = sym (to_z-of_z w x f) ∙ ap (to_z w) e ∙ to_z-of_z w y g

-- a test `x == y` of the machine is one of the bits
pub bits-eq : (x y : ℤ) → SFits w32 x → SFits w32 y → eqb (of_z w32 x) (of_z w32 y) ≡ eq_z x y
bits-eq x y f g = by (eqb (of_z w32 x) (of_z w32 y)) refl
  where
    by : (t : Bool) → eqb (of_z w32 x) (of_z w32 y) ≡ t → t ≡ eq_z x y
    by true e = sym (eq_z-yes x y (same_bits w32 x y f g (eqb-true _ _ e)))
    by false e = sym (eq_z-no x y (λ q. eqb-false _ _ e (ap (of_z w32) q)))

-- between floor and inf, a number fits 32 bits
pub within : (z : ℤ) → lt_z inf z ≡ false → lt_z z floor ≡ false → SFits w32 z
within (pos n) p q = record { sfits = omega (arith, ltb-false 2147483647 n p) }
within (negsuc n) p q = record { sfits = omega (arith, ltb-false 2147483646 n q) }

-- ---- what `grind` is told of the machine's numbers: they are read back, wide ones too, and a test of their bits is one of them
module _ (x y : ℤ) (f : SFits w32 x) (g : SFits w32 y) where
  pub sum_wide : to_z w64 (of_z w64 (to_z w64 (of_z w64 x) +ℤ to_z w64 (of_z w64 y))) ≡ x +ℤ y
  sum_wide = rw (to_z-of_z w64 x (sfits_widen tt f), to_z-of_z w64 y (sfits_widen tt g)) (to_z-of_z w64 _ (sum_fits x y f g))

  pub difference_wide : to_z w64 (of_z w64 (to_z w64 (of_z w64 x) -ℤ to_z w64 (of_z w64 y))) ≡ x -ℤ y
  difference_wide = rw (to_z-of_z w64 x (sfits_widen tt f), to_z-of_z w64 y (sfits_widen tt g)) (to_z-of_z w64 _ (difference-fits x y f g))

  pub product_wide : to_z w64 (of_z w64 (to_z w64 (of_z w64 x) *ℤ to_z w64 (of_z w64 y))) ≡ x *ℤ y
  product_wide = rw (to_z-of_z w64 x (sfits_widen tt f), to_z-of_z w64 y (sfits_widen tt g)) (to_z-of_z w64 _ (product-fits x y f g))

  pub quotient_wide : to_z w64 (of_z w64 (quot_z (to_z w64 (of_z w64 x)) (to_z w64 (of_z w64 y)))) ≡ quot_z x y
  quotient_wide = rw (to_z-of_z w64 x (sfits_widen tt f), to_z-of_z w64 y (sfits_widen tt g)) (to_z-of_z w64 _ (quot_fits x y f g))

pub is_at : (n : ℕ) → n < 2 ^ 31 → (x : ℤ) → SFits w32 x → of_z w32 x ≡ n → eq_z x (pos n) ≡ true
is_at n h x f e = eq_z-yes x (pos n) (same_bits w32 x (pos n) f (record { sfits = h }) e)

pub is_inf : (x : ℤ) → SFits w32 x → of_z w32 x ≡ 2147483647 → eq_z x (pos 2147483647) ≡ true
is_inf = is_at 2147483647 (lit< tt)

pub not_inf : (x : ℤ) → (of_z w32 x ≡ 2147483647 → ⊥) → eq_z x (pos 2147483647) ≡ false
not_inf x n = eq_z-no x (pos 2147483647) (λ e. n (ap (of_z w32) e))

pub is_zero : (x : ℤ) → SFits w32 x → of_z w32 x ≡ 0 → eq_z x (pos 0) ≡ true
is_zero = is_at 0 (lit< tt)

pub not_zero : (x : ℤ) → (of_z w32 x ≡ 0 → ⊥) → eq_z x (pos 0) ≡ false
not_zero x n = eq_z-no x (pos 0) (λ e. n (ap (of_z w32) e))

pub ruleset reads = (to_z-of_z, bits-eq, is_inf, not_inf, is_zero, not_zero, sum_wide, difference_wide, product_wide, quotient_wide)
