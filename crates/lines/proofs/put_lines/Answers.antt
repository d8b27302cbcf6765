-- `lines::put_lines` meets its contract. Assumes nothing.
use Rattle.std.proofs.Common.{◌≡◌, ◌++◌, ◌+◌, ◌*◌, get_or, pos, arith}
use Rattle.std.proofs.lemmas.Grind.{common_steps}
use Rattle.std.proofs.lemmas.Int.{to_z-of_z}
use Rattle.event.specs.Calls.{answer_width}
use Rattle.lines.specs.Text.{line}
use Rattle.lines.proofs.Lines.{next_line, last_line}
use Rattle.lines.proofs.put_lines.Goals as goal

pub loop-i-preserved : goal.loop-i-preserved
loop-i-preserved g c =
    let i = c.loop-i.i in
    let cells = c.args.cells.now in
    let put : c.put_line.new.text.bytes ≡ c.loop-i.text.bytes ++ line i (get_or cells (answer_width * i) (pos 0)) (get_or cells (answer_width * i + 1) (pos 0)) = grind (arith, common_steps, to_z-of_z) in
    record { room = omega arith; put = next_line c.args.n _ _ _ _ _ (omega arith) put c.loop-i.invariant.put }

pub returns : goal.returns
returns g c = last_line c.args.n _ _ _ _ (omega arith) c.loop-i.invariant.put
