-- `perform::perform` keeps this in its loop.
use Rattle.words.specs.Trees.{tree_at}
use Rattle.perform.proofs.Laws.{Doing}
use Rattle.perform.proofs.perform.Given as goal

abbrev pub invariant-loop-k : goal.invariant-loop-k
invariant-loop-k l = Doing (tree_at l.program.words.now l.program.main) l.list l.initial.net l.initial.space l.net l.space l.rest l.k
