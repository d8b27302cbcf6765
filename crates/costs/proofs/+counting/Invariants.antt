-- `costs::body`, `costs::cost`, `costs::noted` and `costs::part` end: each call goes to a lower node, or to a lower one of the four.
use Rattle.std.proofs.Common.{◌+◌, ◌*◌}
use Rattle.costs.proofs.+counting.Given as goal

abbrev pub decreases-body : goal.decreases-body
decreases-body l = l.n * 3

abbrev pub decreases-cost : goal.decreases-cost
decreases-cost l = l.n * 3 + 1

abbrev pub decreases-noted : goal.decreases-noted
decreases-noted l = l.b * 3 + 2

abbrev pub decreases-part : goal.decreases-part
decreases-part l = l.n * 3
