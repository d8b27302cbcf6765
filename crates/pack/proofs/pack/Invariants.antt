-- `pack::pack` keeps this in its loop.
use Rattle.pack.proofs.Pass.{Going}
use Rattle.sorts.specs.Sorts.{node_or_none}
use Rattle.pack.specs.Packs.{kind_of, item_of, Column}
use Rattle.pack.proofs.pack.Given as goal

abbrev pub invariant-loop-i : goal.invariant-loop-i
invariant-loop-i l = Going l.t l.ws (node_or_none l.lowest) l.i × Column kind_of l.t l.kinds l.i × Column item_of l.t l.items l.i
