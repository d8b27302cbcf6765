-- `lines::put_refused` meets its contract. Assumes nothing.
use Rattle.std.proofs.Common.{arith, append_assoc}
use Rattle.std.proofs.lemmas.Grind.{common_steps}
use Rattle.lines.specs.Text.{refused_line}
use Rattle.lines.proofs.Digits.{as_decimal}
use Rattle.lines.proofs.put_refused.Goals as goal

pub returns : goal.returns
unfolding refused_line
returns g c = grind (arith, common_steps, append_assoc, as_decimal)
