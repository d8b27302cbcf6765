-- A row copied within its slice, as a row stored. Assumes nothing.
use mathlib.Core.Path.{◌≡◌, ap}
use mathlib.Core.List.{List, [], ◌∷◌, ◌++◌}
use Prim.Native.Nat.{ℕ, zero, suc, ◌+◌, ◌-◌, ◌≤◌}
use native.Mathlib.Omega.{arith}
use lib.ListN.{length, take, drop, length-take, length-drop}
use Rattle.std.specs.List.{copy_within}
use Rattle.network.specs.Cells.{row, store}

module _ {A : Type 0} where
  cut : (l : List A) (to n : ℕ) (vs : List A) → length vs ≡ n → to + n ≤ length l → take to l ++ vs ++ drop (to + n) l ≡ store l to vs
  cut [] zero n [] e h = let q : zero + n ≡ zero = omega arith in rw q
  cut [] zero n (v ∷ vs) e h = absurd (omega arith)
  cut [] (suc to) n vs e h = absurd (omega arith)
  cut (x ∷ l) zero n [] e h = let q : zero + n ≡ zero = omega arith in rw q
  cut (x ∷ l) zero zero (v ∷ vs) e h = absurd (omega arith)
  cut (x ∷ l) zero (suc n) (v ∷ vs) e h = let q : zero + suc n ≡ suc (zero + n) = omega arith in rw q (ap (v ∷◌) (cut l zero n vs (omega arith) (omega arith)))
  cut (x ∷ l) (suc to) n vs e h = let q : suc to + n ≡ suc (to + n) = omega arith in rw q (ap (x ∷◌) (cut l to n vs (omega arith) (omega arith)))

  pub copied : (l : List A) (from end to n : ℕ) → end ≡ from + n → end ≤ length l → to + n ≤ length l → copy_within l from end to ≡ store l to (row l from n)
  copied l from end to n e h k = let q : end - from ≡ n = omega arith in rw q (cut l to n (row l from n) (simp (length-take, length-drop) (omega arith)) k)
