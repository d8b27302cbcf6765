-- `both::run_both` meets its contract. Assumes nothing.
use Rattle.calls.proofs.Laws.{shown}
use Rattle.both.proofs.Laws.{both}
use Rattle.both.proofs.run_both.Goals as goal

pub returns : goal.returns
returns c = both (shown _ _ _ _ _ c.from-first.ensures c.run.ensures) (shown _ _ _ _ _ c.from-second.ensures c.run-2.ensures)
