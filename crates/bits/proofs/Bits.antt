-- Bits: of a union, of a power of two, of a number without one of them. Assumes nothing.
use mathlib.Core.Path.{◌≡◌, refl, sym, ap, ◌∙◌}
use mathlib.Core.Logic.{◌⊎◌, inl, inr}
use mathlib.Core.Bool.{Bool, true, false, not, ◌||◌, true≢false}
use Prim.Native.Nat.{ℕ, zero, suc, ◌+◌, ◌-◌, ◌*◌, ◌/◌, ◌%◌, ◌^◌, ◌<◌, ◌≤◌}
use native.Mathlib.Nat.{zero-div}
use native.Mathlib.Omega.{arith}
use lib.Dec.{eqb}
use lib.Bits.{bit_and, bit_or, or_shr, or_mod, and_shr, and_mod}
use lib.Pow.{shr-shr}
use borrow.Author.Tests.{eqb-true, eq-eqb}
use Rattle.decide.proofs.Below.{all_below, all-below}
use Rattle.bits.specs.Bits.{has_bit, all_bits}

-- two tests agree
abbrev pub same : Bool → Bool → Bool
same true b = b
same false b = not b

pub same-eq : (a b : Bool) → same a b ≡ true → a ≡ b
same-eq true b e = sym e
same-eq false true e = absurd (true≢false (sym e))
same-eq false false e = refl

-- ---- a bit
pub no-bit : (v : ℕ) → has_bit v 0 ≡ false
no-bit v = ap (λ (n : ℕ). eqb (n % 2) 1) (zero-div (2 ^ v))

-- of a power of two
agrees : ℕ → ℕ → Bool
agrees i v = same (has_bit v (2 ^ i)) (eqb v i)

pub power-bit : (i v : ℕ) → i < 32 → v < 32 → has_bit v (2 ^ i) ≡ eqb v i
unfolding agrees
power-bit i v h l = same-eq _ _ (all-below (agrees i) 32 (all-below (λ (j : ℕ). all_below (agrees j) 32) 32 refl i h) v l)

pub own-bit : (i : ℕ) → i < 32 → has_bit i (2 ^ i) ≡ true
own-bit i h = power-bit i i h h ∙ eq-eqb i i refl

-- ---- 1 << i in sixteen bits and in 32, and 65536 << i
short : ℕ → Bool
short i = eqb (1 * 2 ^ i % 65536) (2 ^ i)

pub shifted : (i : ℕ) → i < 16 → 1 * 2 ^ i % 65536 ≡ 2 ^ i
unfolding short
shifted i h = eqb-true _ _ (all-below short 16 refl i h)

low : ℕ → Bool
low i = eqb (1 * 2 ^ i % 4294967296) (2 ^ i)

high : ℕ → Bool
high i = eqb (65536 * 2 ^ i % 4294967296) (2 ^ (16 + i))

pub shifted-low : (i : ℕ) → i < 16 → 1 * 2 ^ i % 4294967296 ≡ 2 ^ i
unfolding low
shifted-low i h = eqb-true _ _ (all-below low 16 refl i h)

pub shifted-high : (i : ℕ) → i < 16 → 65536 * 2 ^ i % 4294967296 ≡ 2 ^ (16 + i)
unfolding high
shifted-high i h = eqb-true _ _ (all-below high 16 refl i h)

-- ---- of a union
or-bits : (x y : ℕ) → (x ≡ 0) ⊎ (x ≡ 1) → (y ≡ 0) ⊎ (y ≡ 1) → eqb (bit_or x y) 1 ≡ eqb x 1 || eqb y 1
or-bits x y (inl p) (inl q) = rw (p, q)
or-bits x y (inl p) (inr q) = rw (p, q)
or-bits x y (inr p) (inl q) = rw (p, q)
or-bits x y (inr p) (inr q) = rw (p, q)

pub parity : (x : ℕ) → x < 2 → (x ≡ 0) ⊎ (x ≡ 1)
parity zero h = inl refl
parity (suc zero) h = inr refl
parity (suc (suc x)) h = absurd (omega arith)

pub or-bit : (v a b : ℕ) → has_bit v (bit_or a b) ≡ has_bit v a || has_bit v b
or-bit v a b =
    ap (λ (n : ℕ). eqb (n % 2) 1) (or_shr a b v)
    ∙ ap (λ (n : ℕ). eqb n 1) (or_mod (a / 2 ^ v) (b / 2 ^ v) 1)
    ∙ or-bits (a / 2 ^ v % 2) (b / 2 ^ v % 2) (parity (a / 2 ^ v % 2) (omega arith)) (parity (b / 2 ^ v % 2) (omega arith))

-- ---- without one
-- all bits but one
kept : ℕ → ℕ → Bool
kept k i = eqb i k || has_bit i (all_bits - 2 ^ k)

other-bit : (k i : ℕ) → k < 32 → i < 32 → (i ≡ k → ⊥) → has_bit i (all_bits - 2 ^ k) ≡ true
unfolding kept
other-bit k i h l d = go (eqb i k) refl (all-below (kept k) 32 (all-below (λ (j : ℕ). all_below (kept j) 32) 32 refl k h) i l)
  where
    go : (b : Bool) → eqb i k ≡ b → b || has_bit i (all_bits - 2 ^ k) ≡ true → has_bit i (all_bits - 2 ^ k) ≡ true
    go true e q = absurd (d (eqb-true i k e))
    go false e q = q

-- a bit of two numbers
and-bit : (i a b : ℕ) → has_bit i a ≡ true → has_bit i b ≡ true → has_bit i (bit_and a b) ≡ true
and-bit i a b p q =
    ap (λ (n : ℕ). eqb (n % 2) 1) (and_shr a b i)
    ∙ ap (λ (n : ℕ). eqb n 1) (and_mod (a / 2 ^ i) (b / 2 ^ i) 1)
    ∙ rw (eqb-true (a / 2 ^ i % 2) 1 p, eqb-true (b / 2 ^ i % 2) 1 q)

-- a bit that is not taken out stays
pub bit-stays : (k i m : ℕ) → k < 32 → i < 32 → (i ≡ k → ⊥) → has_bit i m ≡ true → has_bit i (bit_and m (all_bits - 2 ^ k)) ≡ true
bit-stays k i m h l d e = and-bit i m (all_bits - 2 ^ k) e (other-bit k i h l d)

-- a number below 2 ^ c has no bit from c on
pub no-high : (m c i : ℕ) → m / 2 ^ c ≡ 0 → c ≤ i → has_bit i m ≡ true → ⊥
no-high m c i z h e =
    let q : c + (i - c) ≡ i = omega arith in
    let n : m / 2 ^ i ≡ 0 = ap (λ (k : ℕ). m / 2 ^ k) (sym q) ∙ sym (shr-shr m c (i - c)) ∙ ap (λ (k : ℕ). k / 2 ^ (i - c)) z ∙ zero-div (2 ^ (i - c)) in
    true≢false (sym e ∙ ap (λ (k : ℕ). eqb (k % 2) 1) n)
