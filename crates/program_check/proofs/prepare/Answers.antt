-- `program_check::prepare` meets its contract. Assumes nothing.
use Rattle.program_check.proofs.Verdicts.{readied}
use Rattle.program_check.proofs.prepare.Goals as goal

pub returns : goal.returns
returns c = (c.in_ok-main.ensures.0, readied c.in_ok-main.ensures.1 c.make_masks.ensures c.quicken.ensures)
