-- 01's example of what the replay prints, by computation. Assumes nothing.
use mathlib.Core.Path.{refl, ap}
use mathlib.Core.List.{[]}
use Rattle.network.specs.Network.{fresh}
use Rattle.event.specs.Calls.{run, first_refusal, tests, carried_out}
use Rattle.event.proofs.Passed.{run-performed}
use Rattle.paper.specs.Programs.{counter_hex}
use Rattle.paper.proofs.Computed.{computed}
use Rattle.paper.proofs.Fresh.{fresh-sound}
use Rattle.lines.specs.Text.{spelt, decimal, signed_text, line, lines, refused_line}
use Rattle.shift.specs.Replayed.{blank, outcome, printed, replayed}
use Rattle.shift.specs.Example.{events, Example}

pub shown : Example
unfolding computed run carried_out tests first_refusal outcome replayed spelt decimal signed_text line lines refused_line
shown =
    record {
      prints = ap (printed 4) (run-performed counter_hex fresh events blank _ refl fresh-sound refl refl);
      no_main = refl;
      none = ap (printed 0) (run-performed counter_hex fresh [] blank _ refl fresh-sound refl refl);
    }
