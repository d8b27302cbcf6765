-- What a node's body holds, near the code. Internal: `proofs/Items.antt` proves that it says what program's table of kinds says.
use Rattle.std.specs.Prelude.{cond, List, [], ◌∷◌, ℕ, get_or, take, drop, eqb}
use Rattle.wire.specs.Wire.{big}
use Rattle.shapes.specs.declared.Kind.TheVariants.{Constant}
use Rattle.shapes.specs.Kinds.{kind_at}
use Rattle.shapes.specs.Shapes.{no_item, constant_item, lead_of, width_of, kids_of}
use Rattle.nodes.specs.declared.Node.{Node}

abbrev pub no_node : Node
no_node = record { kind = Constant; item = 0; kids = 0; children = 0 ∷ 0 ∷ 0 ∷ 0 ∷ []; constant = 0 }

unfoldable pub item_of : ℕ → List ℕ → ℕ
item_of lead s = cond (eqb lead no_item) 0 (cond (eqb lead constant_item) 0 (get_or s 0 0))

unfoldable pub constant_of : ℕ → List ℕ → ℕ
constant_of lead s = cond (eqb lead constant_item) (big (take 4 s)) 0

-- the first four numbers, 0 for one that is not there
abbrev pub four_of : List ℕ → List ℕ
four_of ks = get_or ks 0 0 ∷ get_or ks 1 0 ∷ get_or ks 2 0 ∷ get_or ks 3 0 ∷ []

unfoldable pub made : ℕ → ℕ → ℕ → List ℕ → List ℕ → Node
made kind lead kids s ks =
    record {
      kind = kind_at kind;
      item = item_of lead s;
      kids = kids;
      children = four_of ks;
      constant = constant_of lead s;
    }

-- the node of a kind, from what follows the kind
unfoldable pub node_in : ℕ → ℕ → List ℕ → Node
node_in kind count s = made kind (lead_of kind) (kids_of kind count) s (drop (width_of kind) s)
