-- `scan::first_unsound` keeps this in its loops.
use Rattle.std.proofs.Common.{◌≡◌, ◌+◌, ◌*◌, None}
use Rattle.network.specs.Network.{heard_at}
use Rattle.scan.proofs.First.{Upto}
use Rattle.scan.proofs.first_unsound.Given as goal

abbrev pub invariant-loop-slot : goal.invariant-loop-slot
invariant-loop-slot l = (l.bad ≡ None) × Upto l.net l.device (heard_at 1 + l.row * 16 + l.slot)

abbrev pub invariant-loop-row : goal.invariant-loop-row
invariant-loop-row l = (l.bad ≡ None) × Upto l.net l.device (heard_at 1 + l.row * 16)

abbrev pub invariant-search : goal.invariant-search
invariant-search l = (l.bad ≡ None) × Upto l.net l.device 0
