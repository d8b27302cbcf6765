-- What a loop joins: tests given as numbers, by `|`, and what holds of all below its counter. Assumes nothing.
use mathlib.Core.Path.{◌≡◌, refl}
use mathlib.Core.Bool.{Bool, true, false, ◌&&◌}
use Prim.Native.Nat.{ℕ, ◌+◌, ◌<◌}
use native.Mathlib.Omega.{arith}
use lib.Bits.{bit_or, or_add_and, and_le_l, and_le_r}
use lib.Dec.{eqb, ltb}
use borrow.Author.Tests.{eq-eqb, ne_eqb, eqb-true, eqb-false, ltb-true, ltb-false}

pub or-zero : (s p : ℕ) → eqb (bit_or s p) 0 ≡ eqb s 0 && eqb p 0
or-zero s p = go (eqb s 0) (eqb p 0) refl refl
  where
    go : (t u : Bool) → eqb s 0 ≡ t → eqb p 0 ≡ u → eqb (bit_or s p) 0 ≡ t && u
    go true true e f = eq-eqb (bit_or s p) 0 (omega (arith, or_add_and s p, eqb-true s 0 e, eqb-true p 0 f))
    go true false e f = let q = eqb-false p 0 f in ne_eqb (bit_or s p) 0 (λ z. q (omega (arith, or_add_and s p, and_le_l s p, and_le_r s p)))
    go false u e f = let q = eqb-false s 0 e in ne_eqb (bit_or s p) 0 (λ z. q (omega (arith, or_add_and s p, and_le_l s p, and_le_r s p)))

-- one more of what holds of those below b
pub one_more : (P : ℕ → Type 0) (b k : ℕ) → k ≡ b + 1 → ((c : ℕ) → c < b → P c) → P b → (c : ℕ) → c < k → P c
one_more P b k e u p c h = by (ltb c b) refl
  where
    by : (t : Bool) → ltb c b ≡ t → P c
    by true q = u c (ltb-true c b q)
    by false q =
        let g = ltb-false c b q in
        let z : c ≡ b = omega arith in
        rw z p
