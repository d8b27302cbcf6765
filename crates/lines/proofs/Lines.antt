-- The lines that are still to be put, one less with each. Assumes nothing.
use Rattle.std.proofs.Common.{◌≡◌, ℕ, suc, ◌+◌, ◌-◌, ◌*◌, ◌<◌, ◌≤◌, List, ◌++◌, ℤ, pos, get_or, append_assoc, append-nil, add-one, arith}
use Rattle.event.specs.Calls.{answer_width}
use Rattle.lines.specs.Text.{line, lines}

-- of the n lines of these cells the next, and none
module _ (n : ℕ) (cells : List ℤ) where
  abbrev pub Left : List ℕ → ℕ → List ℕ → Type 0
  Left t i whole = t ++ lines i (n - i) cells ≡ whole

  pub next_line : (t u whole : List ℕ) (i : ℕ) → i < n → u ≡ t ++ line i (get_or cells (answer_width * i) (pos 0)) (get_or cells (answer_width * i + 1) (pos 0))
      → Left t i whole → Left u (i + 1) whole
  unfolding lines
  next_line t u whole i h e l =
      let s : n - i ≡ suc (n - suc i) = omega arith in
      let r = rw s at l in
      rw (e, add-one i, append_assoc) r

  pub last_line : (t whole : List ℕ) (i : ℕ) → n ≤ i → Left t i whole → t ≡ whole
  unfolding lines
  last_line t whole i h l = let z : n - i ≡ 0 = omega arith in let r = rw (z, append-nil t) at l in r
