-- The node of program that a loaded node stands for: its constant or its item, where its kind has one, and then its children.
use Rattle.std.specs.Prelude.{List, [], ◌∷◌, ◌++◌, ℕ, get_or, take}
use Rattle.program.specs.Table as program
use Rattle.shapes.specs.Kinds.{number_of}
use Rattle.shapes.specs.Shapes.{lead_of}
use Rattle.nodes.specs.declared.Node.{Node}

-- what stands before the children, by what stands first
abbrev pub head_of : ℕ → ℕ → ℕ → List ℕ
head_of lead item constant =
    get_or (
    []  -- none
    ∷ (item ∷ [])  -- operator
    ∷ (item ∷ [])  -- parameter
    ∷ (item ∷ [])  -- variable
    ∷ (item ∷ [])  -- variable that a rep keeps
    ∷ (item ∷ [])  -- slot
    ∷ (constant ∷ [])  -- constant
    ∷ (item ∷ [])  -- definition
    ∷ [])
    lead
    []

abbrev pub children_of : Node → List ℕ
children_of x = take x.kids x.children

unfoldable pub node_of : Node → program.Node
node_of x = record { kind = number_of x.kind; values = head_of (lead_of (number_of x.kind)) x.item x.constant ++ children_of x }
