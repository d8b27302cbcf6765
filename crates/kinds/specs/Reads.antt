-- What reading a node comes to. Internal: no contract of a C function cites it. Definitions only: nothing is assumed.
use Rattle.std.specs.Prelude.{◌≡◌, Bool, false, List, ◌∷◌, ℕ, ◌<◌, get_or, drop, length, eqb, ltb, Result, IfOk}
use Rattle.program.specs.Table.{node_limit, kind_count}
use Rattle.shapes.specs.Kinds.{call_kind}
use Rattle.shapes.specs.declared.Kind.{Kind}
use Rattle.shapes.specs.Shapes.{lead_of, width_of, kids_of, inside, no_item, constant_item, slot_item, kept_item, definition_item}
use Rattle.verdict.specs.declared.Reason.{Reason}
use Rattle.taken.specs.Taken.{code}
use Rattle.nodes.specs.declared.Node.{Node}
use Rattle.nodes.specs.Body.{node_in, four_of}
use Rattle.kinds.specs.Taken.{Taken, with_node, taken_of}
use Rattle.kinds.specs.Numbers.{read_number}

-- the node that a field's body gives
abbrev pub node_from : List ℕ → List ℕ → Node
node_from counts b = node_in (get_or b 0 0) (get_or counts (get_or (drop 1 b) 0 0) 0) (drop 1 b)

-- what a kind that is no call asks for: the item that stands first, how many bytes it has, how many children follow
pub record Form (kind l w k : ℕ) : Type 0 where
  pub known : kind < kind_count
  pub plain : eqb kind call_kind ≡ false
  pub lead : lead_of kind ≡ l
  pub width : width_of kind ≡ w
  pub kids : kids_of kind 0 ≡ k

-- a kind with one byte behind it that is no slot and kept nowhere, below the limit
pub record Limited (kind limit : ℕ) : Type 0 where
  pub form : Form kind (lead_of kind) 1 0
  pub read : eqb (lead_of kind) no_item ≡ false
  pub whole : eqb (lead_of kind) constant_item ≡ false
  pub slot : eqb (lead_of kind) slot_item ≡ false
  pub kept : eqb (lead_of kind) kept_item ≡ false
  pub definition : eqb (lead_of kind) definition_item ≡ false
  pub range : (i : ℕ) → inside (lead_of kind) i 0 ≡ ltb i limit

-- a node without a constant
abbrev pub node_with : Kind → ℕ → List ℕ → Node
node_with kind item ks = record { kind = kind; item = item; kids = length ks; children = four_of ks; constant = 0 }

-- the refusal, or the node and what is taken after it
pub record ReadsNode (b : List ℕ) (n defs : ℕ) (counts : List ℕ) (m : Taken) (r : Result Node Reason) (m' : Taken) : Type 0 where
  pub number : code r ≡ read_number b n defs counts m
  pub node : IfOk r (λ x. x ≡ node_from counts b)
  pub after : code r ≡ 0 → m' ≡ with_node (node_from counts b) m

-- of a kind, from what stands behind it: a node that names nothing; one that names other nodes only
abbrev pub ReadsLeaf : ℕ → List ℕ → Result Node Reason → Type 0
ReadsLeaf kind s r = (n defs : ℕ) (counts : List ℕ) (m : Taken) → n < node_limit → ReadsNode (kind ∷ s) n defs counts m r m

abbrev pub ReadsKids : ℕ → List ℕ → ℕ → List Bool → Result Node Reason → List Bool → Type 0
ReadsKids kind s n named r named' =
    (defs : ℕ) (counts : List ℕ) (slots kept : List Bool) → ReadsNode (kind ∷ s) n defs counts (taken_of named slots kept) r (taken_of named' slots kept)

-- one that has a slot; a slot and nothing else; that keeps a variable
abbrev pub ReadsSlot : ℕ → List ℕ → ℕ → List Bool → List Bool → Result Node Reason → List Bool → List Bool → Type 0
ReadsSlot kind s n named slots r named' slots' =
    (defs : ℕ) (counts : List ℕ) (kept : List Bool) → ReadsNode (kind ∷ s) n defs counts (taken_of named slots kept) r (taken_of named' slots' kept)

abbrev pub ReadsSlotOnly : ℕ → List ℕ → List Bool → Result Node Reason → List Bool → Type 0
ReadsSlotOnly kind s slots r slots' =
    (n defs : ℕ) (counts : List ℕ) (named kept : List Bool) → n < node_limit → ReadsNode (kind ∷ s) n defs counts (taken_of named slots kept) r (taken_of named slots' kept)

abbrev pub ReadsKept : ℕ → List ℕ → ℕ → List Bool → List Bool → Result Node Reason → List Bool → List Bool → Type 0
ReadsKept kind s n named kept r named' kept' =
    (defs : ℕ) (counts : List ℕ) (slots : List Bool) → ReadsNode (kind ∷ s) n defs counts (taken_of named slots kept) r (taken_of named' slots kept')
