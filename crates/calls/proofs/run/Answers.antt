-- `calls::run` meets its contract. Assumes nothing.
use borrow.Author.Rules.{rules}
use Rattle.event.specs.Event.{read_list}
use Rattle.event.specs.Calls.{run}
use Rattle.calls.proofs.run.Goals as goal

pub carry_out-requires-clause-counts : goal.carry_out-requires-clause-counts
carry_out-requires-clause-counts c = (read_list c.args.list.now, record { count = λ r p. search rules; list = λ l e. e })

pub returns : goal.returns
unfolding run
returns c = c.carry_out.ensures (read_list c.args.list.now) (record { count = λ r p. search rules; list = λ l e. e })
