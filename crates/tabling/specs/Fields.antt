-- The fields of parts, without a main node; and as they are written, a node's numbers one byte each but a constant's. `proofs/Flat.antt` proves that they are the same for the parts of a program.
use Rattle.std.specs.Prelude.{cond, ◌⊎◌, List, [], ◌∷◌, ◌++◌, ℕ, ◌<◌, eqb, length, get_or}
use Rattle.program.specs.Table.{constant, node_limit, definition_limit}
use Rattle.program.specs.Conditions.{Part, node, define, field_bytes, item_bytes, part_bytes, nodes_of, definitions_of}

unfoldable pub fields_bytes : List Part → List ℕ
fields_bytes [] = []
fields_bytes (p ∷ ps) = part_bytes p ++ fields_bytes ps

abbrev pub flat_bytes : Part → List ℕ
flat_bytes (node x) = field_bytes 1 (x.kind ∷ cond (eqb x.kind 0) (item_bytes constant (get_or x.values 0 0)) x.values)
flat_bytes (define d) = field_bytes 2 (d.count ∷ d.body ∷ [])

unfoldable pub flat_fields : List Part → List ℕ
flat_fields [] = []
flat_fields (p ∷ ps) = flat_bytes p ++ flat_fields ps

-- more nodes or definitions than a table holds
abbrev pub Overfull : List Part → Type 0
Overfull ps = (node_limit < length (nodes_of ps)) ⊎ (definition_limit < length (definitions_of ps))
