-- A binary digit set, as code computes it. Assumes nothing.
use mathlib.Core.Path.{◌≡◌, refl, sym, ap, ◌∙◌}
use mathlib.Core.Logic.{◌≢◌}
use mathlib.Core.Bool.{true, true≢false}
use Prim.Native.Nat.{ℕ, zero, suc, ◌+◌, ◌*◌, ◌/◌, ◌%◌, ◌^◌, ◌<◌, ◌≤◌}
use native.Mathlib.Decide.{ℕ_discrete}
use native.Mathlib.Omega.{arith}
use native.Mathlib.Nat.{pow-suc}
use lib.Bits.{bit_and}
use lib.Dec.{T}
use lib.IntN.{ℤ, pos, negsuc, nat_abs}
use lib.Signed.{le_z, non_neg, mag}
use mir.Syntax.{w32}
use Rattle.std.specs.Int.{bit_at, bit_not}
use Rattle.std.specs.Int.RustNames.{bit_or}
use Rattle.std.proofs.lemmas.Nat.{and_le_l}
use Rattle.std.proofs.lemmas.Nat.Bits.{bit_at_lowest, bit_at-suc, bit_at_set_same, bit_at_set_other, bit_at_clear_same, bit_at_clear_other, same_from_bits, same_from_bits_below}
use Rattle.event.specs.Step.{digit_set}

-- ---- the digits of the number with its digit s set
digit-same : (s v x : ℕ) → v ≤ 1 → bit_at (digit_set s v x) s ≡ v
unfolding digit_set
digit-same zero v x h = bit_at_lowest (x / 2 * 2 + v % 2) ∙ omega arith
digit-same (suc s) v x h =
    let e : (digit_set s v (x / 2) * 2 + x % 2) / 2 ≡ digit_set s v (x / 2) = omega arith in
    bit_at-suc (digit_set s v (x / 2) * 2 + x % 2) s ∙ rw e (digit-same s v (x / 2) h)

digit-other : (s v x i : ℕ) → i ≢ s → bit_at (digit_set s v x) i ≡ bit_at x i
unfolding digit_set
digit-other zero v x zero n = absurd (n refl)
digit-other zero v x (suc i) n =
    let e : (x / 2 * 2 + v % 2) / 2 ≡ x / 2 = omega arith in
    bit_at-suc (x / 2 * 2 + v % 2) i ∙ rw e (sym (bit_at-suc x i))
digit-other (suc s) v x zero n =
    let e : (digit_set s v (x / 2) * 2 + x % 2) % 2 ≡ x % 2 = omega arith in
    bit_at_lowest (digit_set s v (x / 2) * 2 + x % 2) ∙ e ∙ sym (bit_at_lowest x)
digit-other (suc s) v x (suc i) n =
    let e : (digit_set s v (x / 2) * 2 + x % 2) / 2 ≡ digit_set s v (x / 2) = omega arith in
    bit_at-suc (digit_set s v (x / 2) * 2 + x % 2) i ∙ rw e (digit-other s v (x / 2) i (λ q. n (ap suc q)) ∙ sym (bit_at-suc x i))

pub set_below : (k s v x : ℕ) → s < k → x < 2 ^ k → digit_set s v x < 2 ^ k
unfolding digit_set
set_below zero s v x h l = absurd (omega arith)
set_below (suc k) zero v x h l = omega (arith, pow-suc 2 k)
set_below (suc k) (suc s) v x h l = omega (arith, pow-suc 2 k, set_below k s v (x / 2) (omega arith) (omega (arith, pow-suc 2 k)))

-- ---- as code sets and clears it
module _ (s x : ℕ) (h : s ≤ 15) (k : x < 2 ^ 31) where
  pub set-bit : bit_or x (1 * 2 ^ s % 2 ^ 32) ≡ digit_set s 1 x
  set-bit = same_from_bits _ _ (λ i. go i (ℕ_discrete i s))
    where
      go : (i : ℕ) → Dec (i ≡ s) → bit_at (bit_or x (1 * 2 ^ s % 2 ^ 32)) i ≡ bit_at (digit_set s 1 x) i
      go i (yes e) = rw e (bit_at_set_same w32 x s (omega arith) ∙ sym (digit-same s 1 x (omega arith)))
      go i (no n) = bit_at_set_other w32 x s (omega arith) i n ∙ sym (digit-other s 1 x i n)

  pub clear-bit : bit_and x (bit_not w32 (1 * 2 ^ s % 2 ^ 32)) ≡ digit_set s 0 x
  clear-bit =
      same_from_bits_below 32 _ _ (omega (arith, and_le_l x (bit_not w32 (1 * 2 ^ s % 2 ^ 32)))) (omega (arith, set_below 31 s 0 x (omega arith) k)) (λ i l. go i l (ℕ_discrete i s))
    where
      go : (i : ℕ) → i < 32 → Dec (i ≡ s) → bit_at (bit_and x (bit_not w32 (1 * 2 ^ s % 2 ^ 32))) i ≡ bit_at (digit_set s 0 x) i
      go i l (yes e) = rw e (bit_at_clear_same w32 x s (omega arith) ∙ sym (digit-same s 0 x (omega arith)))
      go i l (no n) = bit_at_clear_other w32 x s (omega arith) i l n ∙ sym (digit-other s 0 x i n)

-- ---- the sensors' cell, which is not negative
pub record Plain (z : ℤ) : Type 0 where
  pub sign : T (non_neg z)
  pub small : nat_abs z < 2147483648

pub plain : (z : ℤ) → le_z (pos 0) z ≡ true → mag z < 2147483648 → Plain z
plain (pos n) p h = record { sign = tt; small = h }
plain (negsuc n) p h = absurd (true≢false (sym p))
