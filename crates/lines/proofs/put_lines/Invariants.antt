-- `lines::put_lines` keeps this in its loop: what is put, with the lines that are left, is the whole.
use Rattle.std.proofs.Common.{◌≡◌, ◌++◌, ◌+◌, ◌*◌, ◌-◌, ◌≤◌}
use Rattle.arrayvec.specs.ArrayString.{array_string_len}
use Rattle.lines.specs.Text.{line_room, lines}
use Rattle.lines.proofs.put_lines.Given as goal

abbrev pub invariant-loop-i : goal.invariant-loop-i
invariant-loop-i g l = record {
  room : array_string_len l.text ≤ array_string_len l.initial.text + line_room * l.i;
  put : l.text.bytes ++ lines l.i (l.n - l.i) l.cells ≡ l.initial.text.bytes ++ lines 0 l.n l.cells;
}
