-- What the examples of events compute with, and fields as bytes. Assumes nothing.
use mathlib.Core.List.{List, ◌∷◌}
use Prim.Native.Nat.{ℕ}
use lib.ListN.{length}
use lib.IntN.{ℤ, pos, neg_ℤ}
use Rattle.number.specs.Number.{operator_of, brought, plus, minus, times, over, operation_result, faults}
use Rattle.wire.specs.Wire.{big_from, fields_in, fields_of}
use Rattle.field.specs.Field.{from, pointwise, faults_in}
use Rattle.program.specs.Table.{first_of, among, size, values_in, picked, all_numbers, bodies, beyond, taken_by, outside, unnamed, entry_of, load_from, load}
use Rattle.program.specs.Tree.{tree_of, grown, trees, is_field, sort_broken, misread, spatial, cost}
use Rattle.program.specs.Check.{lowest, offending, sort_offends, misread_in, called, use_offends, tree_rows, check}
use Rattle.network.specs.Network.{copies, fresh}
use Rattle.round.specs.Round.{operated, folded, sensed, heard_in, measured, reps, erased, eval, round, message, joined, fades, older, faded, after, fired}
use Rattle.event.specs.Event.{Entry, read_as, read_from, read_list, read_one}
use Rattle.event.specs.Step.{digit_set, refusal, plan}
use Rattle.event.specs.Calls.{first_refusal, tests, performed, carried_out, one_event, run}

-- a list read
unfoldable pub reading : ℕ → ℕ
unfolding big_from fields_in fields_of read_as read_from read_list read_one
reading n = n

-- a round
unfoldable firing : ℕ → ℕ
unfolding brought plus minus times over operation_result faults from pointwise faults_in copies fresh operated folded sensed heard_in measured reps erased eval round message joined fades older faded after fired
firing n = n

-- an event done
unfoldable pub doing : ℕ → ℕ
unfolding firing first_of digit_set refusal plan
doing n = n

-- a program loaded, and checked
unfoldable loading : ℕ → ℕ
unfolding big_from fields_in fields_of first_of among size values_in picked all_numbers bodies beyond taken_by outside unnamed entry_of load_from load
loading n = n

unfoldable checking : ℕ → ℕ
unfolding loading operator_of tree_of grown trees is_field sort_broken misread spatial cost lowest offending sort_offends misread_in called use_offends tree_rows check
checking n = n

-- a call
unfoldable pub calling : ℕ → ℕ
unfolding reading doing checking first_refusal tests performed carried_out one_event run
calling n = n

abbrev pub neg : ℕ → ℤ
neg n = neg_ℤ (pos n)

-- a field, as an entry and as bytes
abbrev pub entry : ℕ → List ℕ → Entry
entry tag body = record { tag = tag; body = body }

abbrev pub bytes : ℕ → List ℕ → List ℕ
bytes tag body = tag ∷ 0 ∷ length body ∷ body
