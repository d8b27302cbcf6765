-- `domain::each` keeps this in its loop.
use Rattle.std.proofs.Common.{ℕ, ◌<◌, ◌≡◌, length, get_or, pos}
use Rattle.domain.proofs.each.Given as goal

abbrev pub invariant-loop-k : goal.invariant-loop-k
invariant-loop-k g l = (length l.out ≡ 16) × ((j : ℕ) → j < l.k → goal.F-post g l.of (get_or l.xs j (pos 0)) (get_or l.ys j (pos 0)) (get_or l.out j (pos 0)))
