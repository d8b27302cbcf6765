-- `fading::fade_rows` keeps this in its loop.
use Rattle.field.specs.Field.{from}
use Rattle.round.specs.Round.{joined}
use Rattle.cells.proofs.Rows.{Stored}
use Rattle.fading.proofs.Rows.{row_of}
use Rattle.fading.proofs.fade_rows.Given as goal

abbrev pub invariant-loop-b : goal.invariant-loop-b
invariant-loop-b l = Stored l.initial.net l.at (joined (from 1 l.b (row_of l.initial.net l.at l.ages))) l.net
