-- A new window holds numbers of levels. Assumes nothing.
use Rattle.levels.proofs.Laws.{numbered-zeros}
use Rattle.levels.proofs.Window.new.Goals as goal

pub invariant_of-result : goal.invariant_of-result
invariant_of-result c = record { numbered = numbered-zeros 4096 }
