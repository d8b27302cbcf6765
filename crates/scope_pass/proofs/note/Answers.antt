-- `scope_pass::note` meets its contract. Assumes nothing.
use Rattle.std.proofs.Common.{◌≡◌, arith}
use Rattle.scope_pass.proofs.Notes.{notes-none, notes-more}
use Rattle.scope_pass.proofs.note.Goals as goal

pub loop-n-init : goal.loop-n-init
loop-n-init c = notes-none (omega arith)

pub loop-n-preserved : goal.loop-n-preserved
loop-n-preserved c =
    notes-more (omega arith) (c.args.ws.formed.node c.loop-n.n (omega arith)) c.loop-n.invariant c.reads_of.ensures

pub returns : goal.returns
returns c = let e : c.loop-n.n ≡ c.args.count = omega arith in rw e at c.loop-n.invariant
