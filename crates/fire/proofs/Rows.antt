-- A row's first cell stored again. Assumes nothing.
use mathlib.Core.Path.{◌≡◌, refl, ap}
use mathlib.Core.List.{List, [], ◌∷◌}
use Prim.Native.Nat.{ℕ, zero, suc, ◌≤◌}
use native.Mathlib.Omega.{arith}
use lib.ListN.{length, drop, set}
use Rattle.network.specs.Cells.{store}

module _ {A : Type 0} where
  pub first-again : (l : List A) (at : ℕ) (vs : List A) (v : A) → 1 ≤ length vs → set (store l at vs) at v ≡ store l at (v ∷ drop 1 vs)
  first-again [] at vs v h = refl
  first-again (x ∷ l) zero [] v h = absurd (omega arith)
  first-again (x ∷ l) zero (w ∷ vs) v h = refl
  first-again (x ∷ l) (suc at) vs v h = ap (x ∷◌) (first-again l at vs v h)
