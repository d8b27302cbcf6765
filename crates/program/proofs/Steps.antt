-- A table as it grows, part by part: what each part must meet at the table before it.
use mathlib.Core.Path.{◌≡◌, sym, ◌∙◌, ap}
use mathlib.Core.List.{List, [], ◌∷◌, ◌++◌, append_assoc, append-nil}
use Prim.Native.Nat.{ℕ, ◌+◌, ◌≤◌, ◌<◌}
use lib.ListN.{length, get_or}
use Rattle.program.specs.Table.{node_limit, Item, slot, keeps, child, kind_count, items, Node, Definition, Table, numbers, all_numbers, named, definition_at, with_node}
use Rattle.program.specs.Conditions.{Part, node, define, nodes_of, definitions_of, GivenBefore, InRange, how_often}
use Rattle.program.proofs.Names.{Fresh}

abbrev pub grow : Table → Part → Table
grow t (node x) = with_node t x
grow t (define d) = record { nodes = t.nodes; definitions = t.definitions ++ d ∷ [] }

-- the table with all parts
abbrev pub joined : Table → List Part → Table
joined t ps = record { nodes = t.nodes ++ nodes_of ps; definitions = t.definitions ++ definitions_of ps }

pub joined-none : (t : Table) → joined t [] ≡ t
unfolding nodes_of definitions_of
joined-none t = rw (append-nil t.nodes, append-nil t.definitions)

pub joined-grow : (t : Table) (p : Part) (ps : List Part) → joined (grow t p) ps ≡ joined t (p ∷ ps)
unfolding nodes_of definitions_of
joined-grow t (node x) ps = rw (append_assoc t.nodes (x ∷ []) (nodes_of ps))
joined-grow t (define d) ps = rw (append_assoc t.definitions (d ∷ []) (definitions_of ps))

pub joined-append : (t : Table) (ps qs : List Part) → joined (joined t ps) qs ≡ joined t (ps ++ qs)
joined-append t [] qs = ap (λ (u : Table). joined u qs) (joined-none t)
joined-append t (p ∷ ps) qs = ap (λ (u : Table). joined u qs) (sym (joined-grow t p ps)) ∙ joined-append (grow t p) ps qs ∙ joined-grow t p (ps ++ qs)

-- the nodes that a part names; its numbers for one sort of item
abbrev pub children : Part → List ℕ
children (node x) = numbers child x
children (define d) = d.body ∷ []

abbrev pub only : Item → Part → List ℕ
only j (node x) = numbers j x
only j (define d) = []

pub record NodeFits (t : Table) (x : Node) : Type 0 where
  pub room : length t.nodes < node_limit
  pub known : x.kind < kind_count
  pub ranges : InRange (items x) x.values
  pub arguments : x.kind ≡ 12 → length x.values ≡ 1 + (definition_at t (get_or x.values 0 0)).count

pub record DefinitionFits (t : Table) (d : Definition) : Type 0 where
  pub room : length t.definitions < 32
  pub count : d.count ≤ 4

abbrev pub Own : Table → Part → Type 0
Own t (node x) = NodeFits t x
Own t (define d) = DefinitionFits t d

pub record Fits (t : Table) (p : Part) : Type 0 where
  pub own : Own t p
  pub given : GivenBefore t p
  pub fresh : Fresh (named t) (children p)
  pub slots : Fresh (all_numbers slot t.nodes) (only slot p)
  pub kept : Fresh (all_numbers keeps t.nodes) (only keeps p)

-- what the main node must meet at the whole table
pub record Ends (t : Table) (main : ℕ) : Type 0 where
  pub given : main < length t.nodes
  pub fresh : Fresh (named t) (main ∷ [])
  pub all : (k : ℕ) → k < length t.nodes → 0 < how_often k (main ∷ named t)

abbrev pub Steps : Table → List Part → ℕ → Type 0
Steps t [] main = Ends t main
Steps t (p ∷ ps) main = Fits t p × Steps (grow t p) ps main
