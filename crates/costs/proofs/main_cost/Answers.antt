-- `costs::main_cost` meets its contract. Assumes nothing.
use Rattle.costs.proofs.Laws.{none_noted}
use Rattle.costs.proofs.main_cost.Goals as goal

pub cost-requires-clause-noted : goal.cost-requires-clause-noted
cost-requires-clause-noted c = none_noted c.args.ws.all.now 256
