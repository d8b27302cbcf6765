-- `heard::present` keeps this in its loop.
use Rattle.std.proofs.Common.{◌≡◌, ◌<◌}
use Rattle.domain.specs.Members.{built}
use Rattle.heard.proofs.Fields.{there}
use Rattle.heard.proofs.present.Given as goal

abbrev pub invariant-loop-v : goal.invariant-loop-v
invariant-loop-v l = (l.bits ≡ built (there l.cells) l.v-index) × (l.bits < 65536)
