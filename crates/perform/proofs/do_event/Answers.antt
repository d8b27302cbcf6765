-- `perform::do_event` meets its contract. Assumes nothing.
use mathlib.Core.Path.{ap}
use mir.Syntax.{w32}
use mir.Facts.{to_z-of_z}
use borrow.Author.Rules.{sfits_of}
use Rattle.lists.specs.Listed.{event_in}
use Rattle.perform.proofs.Laws.{acts, acts-fire}
use Rattle.perform.proofs.do_event.Goals as goal

pub signal-requires : goal.signal-requires
signal-requires c = c.requires.1 _

pub returns-in-Fire : goal.returns-in-Fire
returns-in-Fire c = acts-fire _ (ap event_in c.in-Fire.is) c.fire.ensures

pub returns-in-Deliver : goal.returns-in-Deliver
returns-in-Deliver c = acts _ _ (ap event_in c.in-Deliver.is) c.from.ensures c.deliver.ensures

pub returns-in-Lose : goal.returns-in-Lose
returns-in-Lose c = acts _ _ (ap event_in c.in-Lose.is) c.from-in-Lose.ensures c.lose.ensures

pub returns-in-Link : goal.returns-in-Link
returns-in-Link c = acts _ _ (ap event_in c.in-Link.is) c.from-in-Link.ensures (rw (to_z-of_z {w = w32} (sfits_of c.in-Link.known_told-in-Link-1-own.given.1.1.0.1)) at c.link.ensures)

pub returns-in-Signal : goal.returns-in-Signal
returns-in-Signal c = acts _ _ (ap event_in c.in-Signal.is) c.from-in-Signal.ensures c.signal.ensures
