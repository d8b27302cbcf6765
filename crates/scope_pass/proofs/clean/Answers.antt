-- `scope_pass::clean` meets its contract. Assumes nothing.
use Rattle.std.proofs.Common.{below_more}
use Rattle.scope_pass.proofs.Notes.{body_clean}
use Rattle.scope_pass.proofs.clean.Goals as goal

pub loop-d-preserved : goal.loop-d-preserved
loop-d-preserved c = below_more _ c.loop-d.d c.loop-d.invariant (body_clean c.args.main c.note.ensures (c.within.ensures c.if-not-within.false))
