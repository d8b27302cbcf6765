-- The loader's steps, near the code. Internal: `proofs/State.antt` and `proofs/Turns.antt` prove that they are those of program's `load`.
use Rattle.std.specs.Prelude.{Bool, false, not, cond, ◌||◌, Result, Ok, Err, List, ℕ, ◌+◌, get_or, drop, set, replicate, eqb}
use Rattle.program.specs.Table.{node_limit}
use Rattle.shapes.specs.Shapes.{byte_values}
use Rattle.nodes.specs.declared.Node.{Node}
use Rattle.nodes.specs.Body.{no_node, node_in}
use Rattle.taken.specs.Taken.{untaken}
use Rattle.kinds.specs.Taken.{Taken, taken_of}
use Rattle.refusal_rows.specs.Numbers.{field_number}
use Rattle.load.specs.declared.Table.{Table}
use Rattle.verdict.specs.declared.Reason.{Reason}
use Rattle.verdict.specs.declared.Reason.TheVariants.{BadEnd}
use Rattle.verdict.specs.declared.Refusal.{Refusal}

abbrev pub table_in : List Node → List ℕ → List ℕ → ℕ → ℕ → ℕ → Table
table_in nodes counts bodies n defs main = record { nodes = nodes; counts = counts; bodies = bodies; n = n; defs = defs; main = main }

abbrev pub empty_table : Table
empty_table = table_in (replicate node_limit no_node) (replicate byte_values 0) (replicate byte_values 0) 0 0 0

abbrev pub none_taken : Taken
none_taken = taken_of (replicate node_limit false) (replicate byte_values false) (replicate byte_values false)

abbrev pub refusal : Reason → ℕ → Result Table Refusal
refusal reason place = Err (record { reason = reason; place = place })

abbrev pub number_in : Table → Taken → ℕ → List ℕ → ℕ
number_in t m tag b = field_number tag b t.n t.defs t.counts m

unfoldable pub put : Table → Node → Table
put t x = table_in (set t.nodes t.n x) t.counts t.bodies (t.n + 1) t.defs t.main

-- a node of a kind, from what follows the kind
abbrev pub add_kind : Table → ℕ → List ℕ → Table
add_kind t kind s = put t (node_in kind (get_or t.counts (get_or s 0 0) 0) s)

unfoldable pub add_node : Table → List ℕ → Table
add_node t b = add_kind t (get_or b 0 0) (drop 1 b)

unfoldable pub define : Table → List ℕ → Table
define t b = table_in t.nodes (set t.counts t.defs (get_or b 0 0)) (set t.bodies t.defs (get_or b 1 0)) t.n (t.defs + 1) t.main

-- behind a main node, which is taken: bytes are left, or a node has no name
abbrev pub bad_end : ℕ → ℕ → List Bool → Bool
bad_end left n named = not (eqb left 0) || untaken n named

abbrev pub ended_with : Bool → Table → Result Table Refusal
ended_with bad t = cond bad (refusal BadEnd 0) (Ok t)

abbrev pub with_main : Table → ℕ → Table
with_main t main = table_in t.nodes t.counts t.bodies t.n t.defs main
