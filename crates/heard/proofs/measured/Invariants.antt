-- `heard::measured` keeps this in its loop.
use Rattle.std.proofs.Common.{ℕ, ◌<◌, ◌≡◌, length, get_or, pos}
use Rattle.heard.proofs.Fields.{measured_at}
use Rattle.heard.proofs.measured.Given as goal

abbrev pub invariant-loop-b : goal.invariant-loop-b
invariant-loop-b l = (length l.cells ≡ 16) × ((k : ℕ) → k < l.b → get_or l.cells k (pos 0) ≡ measured_at l.here l.slot l.measure.from l.measure.by k)
