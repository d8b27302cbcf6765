-- What a test says of each number below n, by computing it. Assumes nothing.
use mathlib.Core.Path.{◌≡◌, refl, ap, ◌∙◌}
use mathlib.Core.Bool.{Bool, true, false, ◌&&◌}
use Prim.Native.Nat.{ℕ, zero, suc, ◌<◌}
use native.Mathlib.Omega.{arith}
use lib.Dec.{eqb}
use borrow.Author.Tests.{eqb-true, eqb-false}
use Rattle.decide.proofs.Picks.{both}

abbrev pub all_below : (ℕ → Bool) → ℕ → Bool
all_below p zero = true
all_below p (suc n) = p n && all_below p n

pub all-below : (p : ℕ → Bool) (n : ℕ) → all_below p n ≡ true → (k : ℕ) → k < n → p k ≡ true
all-below p zero e k h = absurd (omega arith)
all-below p (suc n) e k h = let q = both (p n) (all_below p n) e in go (eqb k n) refl q.0 (all-below p n q.1 k)
  where
    go : (c : Bool) → eqb k n ≡ c → p n ≡ true → (k < n → p k ≡ true) → p k ≡ true
    go true g q all = ap p (eqb-true k n g) ∙ q
    go false g q all = let d = eqb-false k n g in all (omega arith)
