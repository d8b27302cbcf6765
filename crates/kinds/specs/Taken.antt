-- What is taken already: nodes, slots, variables that a rep keeps.
use Rattle.std.specs.Prelude.{Bool, true, List, ℕ, set, eqb}
use Rattle.nodes.specs.declared.Node.{Node}
use Rattle.shapes.specs.Kinds.{number_of}
use Rattle.shapes.specs.Shapes.{lead_of, kept_item, slot_item}
use Rattle.nodes.specs.Values.{children_of}
use Rattle.taken.specs.Taken.{with_taken, take_if}

pub record Taken : Type 0 where
  pub named : List Bool
  pub slots : List Bool
  pub kept : List Bool

abbrev pub taken_of : List Bool → List Bool → List Bool → Taken
taken_of named slots kept = record { named = named; slots = slots; kept = kept }

-- with what a node names
abbrev pub with_node : Node → Taken → Taken
with_node x m =
    record {
      named = with_taken m.named (children_of x);
      slots = take_if (eqb (lead_of (number_of x.kind)) slot_item) x.item m.slots;
      kept = take_if (eqb (lead_of (number_of x.kind)) kept_item) x.item m.kept;
    }

-- with a body, or main
abbrev pub with_root : ℕ → Taken → Taken
with_root k m = record { named = set m.named k true; slots = m.slots; kept = m.kept }
