-- `fire::put_messages` keeps this in its loop.
use Rattle.field.specs.Field.{from}
use Rattle.round.specs.Round.{message, joined}
use Rattle.apply.specs.State.{state_of}
use Rattle.cells.proofs.Rows.{Stored}
use Rattle.fire.proofs.put_messages.Given as goal

abbrev pub invariant-loop-b : goal.invariant-loop-b
invariant-loop-b l = Stored l.initial.net l.at (joined (from 1 l.b (message l.here (state_of l.st)))) l.net
