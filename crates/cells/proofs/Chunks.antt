-- Rows of a list, cut one behind another. Assumes nothing.
use Rattle.std.proofs.Common.{◌≡◌, ap, ◌∙◌, ℕ, zero, suc, ◌+◌, ◌*◌, ◌<◌, List, get_or, take, drop, arith}
use Rattle.std.specs.Simd.{first_chunks}
use lib.Seq.{drop-drop}
use Rattle.network.specs.Cells.{row}

module _ {A : Type 0} where
  -- row i of those of n cells
  pub chunk_at : (n k i : ℕ) (xs : List A) (d : List A) → i < k → get_or (first_chunks n k xs) i d ≡ row xs (i * n) n
  chunk_at n zero i xs d h = absurd (omega arith)
  chunk_at n (suc k) zero xs d h = let e : 0 ≡ 0 * n = omega arith in ap (λ (m : ℕ). row xs m n) e
  chunk_at n (suc k) (suc i) xs d h =
      let e : n + i * n ≡ suc i * n = omega arith in
      chunk_at n k i (drop n xs) d (omega arith) ∙ ap (take n) (drop-drop (i * n) n xs ∙ ap (λ (m : ℕ). drop m xs) e)
