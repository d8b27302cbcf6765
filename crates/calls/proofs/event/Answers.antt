-- `calls::event` meets its contract. Assumes nothing.
use borrow.Author.Rules.{rules}
use Rattle.wire.specs.Wire.{fields_of}
use Rattle.event.specs.Event.{read_one}
use Rattle.event.specs.Calls.{one_event}
use Rattle.lists.proofs.Turns.{one-is-list}
use Rattle.calls.proofs.event.Goals as goal

pub carry_out-requires-clause-counts : goal.carry_out-requires-clause-counts
carry_out-requires-clause-counts c = (read_one (fields_of c.args.list.now), record { count = λ r p. search rules; list = one-is-list c.args.list.now })

pub returns : goal.returns
unfolding one_event
returns c = c.carry_out.ensures (read_one (fields_of c.args.list.now)) (record { count = λ r p. search rules; list = one-is-list c.args.list.now })
