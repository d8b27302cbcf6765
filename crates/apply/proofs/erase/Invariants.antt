-- `apply::erase` keeps this in its loop.
use Rattle.std.proofs.Common.{◌≡◌}
use Rattle.domain.specs.Members.{members}
use Rattle.apply.proofs.Erasing.{wiped}
use Rattle.apply.proofs.erase.Given as goal

abbrev pub invariant-loop-v : goal.invariant-loop-v
invariant-loop-v l = wiped (members l.v-iterator.bits) l.st ≡ wiped (members l.mask) l.initial.st
