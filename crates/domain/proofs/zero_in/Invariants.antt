-- `domain::zero_in` keeps this in its loop.
use Rattle.std.proofs.Common.{◌≡◌}
use Rattle.domain.specs.Members.{members, any_zero}
use Rattle.domain.proofs.Laws.{Turned}
use Rattle.domain.proofs.zero_in.Given as goal

abbrev pub invariant-loop : goal.invariant-loop
invariant-loop l = Turned l.fn.dom.bits l.left.bits l.counter × (any_zero (members l.left.bits) l.ys ≡ any_zero (members l.fn.dom.bits) l.ys)
