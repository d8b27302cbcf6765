-- `compile::definition_done` meets its contract. Assumes nothing.
use Rattle.std.proofs.Common.{rules}
use Rattle.compile.proofs.Adding.{definition-adds}
use Rattle.compile.proofs.definition_done.Goals as goal

pub returns : goal.returns
returns c =
    rw c.saturating_sub-waiting.ensures
    (definition-adds _ _ c.args.waiting.now _ c.names_in-count.result _ _ c.requires.2 c.names_in-count.ensures c.byte_of.ensures (search rules) c.definition.ensures)
