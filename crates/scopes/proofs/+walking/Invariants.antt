-- `scopes::part` and `scopes::walk` end: each call goes to a lower node, or from `walk` to `part`.
use Rattle.std.proofs.Common.{◌+◌, ◌*◌}
use Rattle.scopes.proofs.+walking.Given as goal

abbrev pub decreases-part : goal.decreases-part
decreases-part l = l.n * 2

abbrev pub decreases-walk : goal.decreases-walk
decreases-walk l = l.n * 2 + 1
