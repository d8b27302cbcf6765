-- `lines::put_line` meets its contract. Assumes nothing.
use Rattle.std.proofs.Common.{arith, append_assoc}
use Rattle.std.proofs.lemmas.Grind.{common_steps}
use Rattle.std.proofs.lemmas.Int.{to_z-of_z}
use Rattle.lines.specs.Text.{line}
use Rattle.lines.proofs.Digits.{as_decimal, as_signed}
use Rattle.lines.proofs.put_line.Goals as goal

pub returns-clause-bytes : goal.returns-clause-bytes
unfolding line
returns-clause-bytes g c = grind (arith, common_steps, to_z-of_z, append_assoc, as_decimal, as_signed)
