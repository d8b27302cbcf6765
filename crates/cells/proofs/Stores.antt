-- What a write to a part of a slice leaves, as the definitions have it. Assumes nothing.
use Rattle.std.proofs.Common.{◌≡◌, refl, ap, ℕ, zero, suc, ◌+◌, ◌≤◌, List, [], ◌∷◌, ◌++◌, length, drop, arith}
use borrow.Rule.Slice.PartMut.{put_mid}
use Rattle.network.specs.Cells.{store}

module _ {A : Type 0} where
  at_front : (l ys : List A) (k : ℕ) → length ys ≡ k → k ≤ length l → ys ++ drop k l ≡ store l zero ys
  at_front [] [] zero e h = refl
  at_front (x ∷ l) [] zero e h = refl
  at_front l [] (suc k) e h = absurd (omega arith)
  at_front l (y ∷ ys) zero e h = absurd (omega arith)
  at_front [] (y ∷ ys) (suc k) e h = absurd (omega arith)
  at_front (x ∷ l) (y ∷ ys) (suc k) e h = ap (y ∷◌) (at_front l ys k (omega arith) (omega arith))

  -- the k elements from `at` on became ys
  pub overwritten : (at k : ℕ) (l ys : List A) → length ys ≡ k → at + k ≤ length l → put_mid at k l ys ≡ store l at ys
  overwritten zero k l ys e h = at_front l ys k e (omega arith)
  overwritten (suc at) k [] ys e h = absurd (omega arith)
  overwritten (suc at) k (x ∷ l) ys e h = ap (x ∷◌) (overwritten at k l ys e (omega arith))
