-- `parse::parse` keeps this in its loop: d is the deepest level.
use Rattle.std.proofs.Common.{◌≡◌, ℕ, ◌*◌, ◌/◌}
use Rattle.parse.proofs.Windows.{CoveredBy}
use Rattle.parse.proofs.parse.Given as goal

abbrev pub invariant-loop-window : goal.invariant-loop-window
invariant-loop-window l = (d : ℕ) × ((l.window-end ≡ d / 4096) × CoveredBy l.s (l.window * 4096) l.end d)
