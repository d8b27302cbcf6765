-- `domain::each_div` keeps this in its loop.
use Rattle.std.proofs.Common.{◌≡◌, false}
use Rattle.domain.specs.Members.{members, any_zero}
use Rattle.domain.proofs.Fields.{quotient, Walked}
use Rattle.domain.proofs.each_div.Given as goal

abbrev pub invariant-loop-k : goal.invariant-loop-k
invariant-loop-k l = (any_zero (members l.k-iterator.bits) l.ys ≡ false) × Walked (quotient l.xs l.ys) l.fn.dom.bits l.k-iterator.bits l.out
