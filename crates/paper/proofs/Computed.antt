-- What a run computes with: a proof that says `unfolding computed` opens all of it, but for the soundness of networks, which takes seconds.
use mathlib.Core.List.{List}
use Prim.Native.Nat.{ℕ}
use Rattle.number.specs.Number.{operator_of, brought, plus, minus, times, over, operation_result, faults}
use Rattle.wire.specs.Wire.{big_from, fields_in, fields_of}
use Rattle.field.specs.Field.{from, pointwise, faults_in}
use Rattle.program.specs.Table.{first_of, among, size, values_in, picked, all_numbers, bodies, beyond, taken_by, outside, unnamed, entry_of, load_from, load}
use Rattle.program.specs.Tree.{tree_of, grown, trees, is_field, sort_broken, misread, spatial, cost}
use Rattle.program.specs.Check.{lowest, offending, sort_offends, misread_in, called, use_offends, tree_rows, check}
use Rattle.program.specs.Conditions.{items_bytes, program_bytes}
use Rattle.network.specs.Network.{copies, fresh}
use Rattle.round.specs.Round.{operated, folded, sensed, heard_in, measured, reps, erased, eval, round, message, joined, fades, older, faded, after, fired}
use Rattle.event.specs.Event.{read_as, read_from, read_list, read_one}
use Rattle.event.specs.Step.{digit_set, refusal, plan}
use Rattle.event.specs.Calls.{performed}

unfoldable pub computed : List ℕ → List ℕ
unfolding operator_of brought plus minus times over operation_result faults big_from fields_in fields_of from pointwise faults_in first_of among size values_in picked all_numbers bodies beyond taken_by
    outside unnamed entry_of load_from load tree_of grown trees is_field sort_broken misread spatial cost lowest offending sort_offends misread_in called use_offends tree_rows check items_bytes
    program_bytes copies fresh operated folded sensed heard_in measured reps erased eval round message joined fades older faded after fired read_as read_from read_list
    read_one digit_set refusal plan performed
computed s = s
