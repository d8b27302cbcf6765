-- `heard::heard_of` keeps this in its loop.
use Rattle.std.proofs.Common.{ℕ, ◌<◌, ◌≡◌, length, get_or, pos}
use Rattle.heard.proofs.Fields.{cell_at}
use Rattle.heard.proofs.heard_of.Given as goal

abbrev pub invariant-loop-b : goal.invariant-loop-b
invariant-loop-b l = (length l.cells ≡ 16) × ((k : ℕ) → k < l.b → get_or l.cells k (pos 0) ≡ cell_at l.here l.slot k)
