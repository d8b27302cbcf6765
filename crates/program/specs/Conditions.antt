-- What a table must meet to be accepted, each condition a statement of its own. Definitions only: nothing is assumed.
-- `proofs/Exact.antt` proves that the check accepts exactly these tables.
use Rattle.std.specs.Prelude.{◌≡◌, cond, ℕ, suc, ◌+◌, ◌/◌, ◌%◌, ◌≤◌, ◌<◌, length, get_or, eqb}
use mathlib.Core.List.{List, [], ◌∷◌, ◌++◌, Memᴰ}
use Rattle.program.specs.Table.{Item, constant, operator, parameter, variable, keeps, slot, child, definition, kind_count, node_limit, definition_limit, items, Node}
use Rattle.program.specs.Table.{Definition, Table, numbers, all_numbers, named, definition_at}
use Rattle.program.specs.Tree.{tree, cost}
use Rattle.program.specs.Check.{node_at}
use Rattle.program.specs.Sorts.{Sort, a_number, HasSort}
use Rattle.program.specs.Scope.{Scoped}
use Rattle.program.specs.Spatial.{Spatial}

-- The table in the order of its fields. The main node is the last field and stands apart
pub data Part : Type 0 where
  node : Node → Part
  define : Definition → Part

-- "one-byte tag, two-byte length (high byte first), body"
abbrev pub field_bytes : ℕ → List ℕ → List ℕ
field_bytes tag body = tag ∷ length body / 256 ∷ length body % 256 ∷ body

abbrev pub item_bytes : Item → ℕ → List ℕ
item_bytes constant w = w / 16777216 ∷ w / 65536 % 256 ∷ w / 256 % 256 ∷ w % 256 ∷ []
item_bytes operator v = v ∷ []
item_bytes parameter v = v ∷ []
item_bytes variable v = v ∷ []
item_bytes keeps v = v ∷ []
item_bytes slot v = v ∷ []
item_bytes child v = v ∷ []
item_bytes definition v = v ∷ []

unfoldable pub items_bytes : List Item → List ℕ → List ℕ
items_bytes [] vs = []
items_bytes (i ∷ is) [] = []
items_bytes (i ∷ is) (v ∷ vs) = item_bytes i v ++ items_bytes is vs

abbrev pub part_bytes : Part → List ℕ
part_bytes (node x) = field_bytes 1 (x.kind ∷ items_bytes (items x) x.values)
part_bytes (define d) = field_bytes 2 (d.count ∷ d.body ∷ [])

unfoldable pub program_bytes : List Part → ℕ → List ℕ
program_bytes [] main = field_bytes 3 (main ∷ [])
program_bytes (p ∷ ps) main = part_bytes p ++ program_bytes ps main

-- "numbered from 0 by appearance"
unfoldable pub nodes_of : List Part → List Node
nodes_of [] = []
nodes_of (node x ∷ ps) = x ∷ nodes_of ps
nodes_of (define d ∷ ps) = nodes_of ps

unfoldable pub definitions_of : List Part → List Definition
definitions_of [] = []
definitions_of (node x ∷ ps) = definitions_of ps
definitions_of (define d ∷ ps) = d ∷ definitions_of ps

abbrev pub table_of : List Part → Table
table_of ps = record { nodes = nodes_of ps; definitions = definitions_of ps }

-- how often k stands there
unfoldable pub how_often : ℕ → List ℕ → ℕ
how_often k [] = 0
how_often k (n ∷ ns) = cond (eqb k n) (suc (how_often k ns)) (how_often k ns)

-- the range of each item: "not the mark", "Operators 0–8", "parameter p (0–3)", "variable v (0–15)", "slot 1–15"; "node and definition numbers have none"
abbrev pub Ranged : Item → ℕ → Type 0
Ranged constant w = w ≡ 0x80000000 → ⊥
Ranged operator o = o < 9
Ranged parameter p = p < 4
Ranged variable v = v < 16
Ranged keeps v = v < 16
Ranged slot i = (0 < i) × (i < 16)
Ranged child k = Unit {0}
Ranged definition d = Unit {0}

-- each number stands for its item and is in its range
pub data InRange : List Item → List ℕ → Type 0 where
  none : InRange [] []
  more : {i : Item} {is : List Item} {v : ℕ} {vs : List ℕ} → Ranged i v → InRange is vs → InRange (i ∷ is) (v ∷ vs)

-- "A node or definition must be given before it is named": by a part that stands behind the table t
abbrev pub GivenBefore : Table → Part → Type 0
GivenBefore t (node x) =
    ((k : ℕ) → Memᴰ k (numbers child x) → k < length t.nodes)
    × ((d : ℕ) → Memᴰ d (numbers definition x) → d < length t.definitions)
GivenBefore t (define d) = d.body < length t.nodes

-- node n calls definition d; folds by it
abbrev pub Calls : Table → ℕ → ℕ → Type 0
Calls t n d = ((node_at t n).kind ≡ 12) × (get_or (node_at t n).values 0 0 ≡ d)

abbrev pub FoldsBy : Table → ℕ → ℕ → Type 0
FoldsBy t n d = ((node_at t n).kind ≡ 11) × (get_or (node_at t n).values 0 0 ≡ d)

pub record Meets (ps : List Part) (main : ℕ) : Type 0 where
  -- "at most 256"; "at most 32"
  pub few_nodes : length (nodes_of ps) ≤ node_limit
  pub few_definitions : length (definitions_of ps) ≤ definition_limit
  -- a node has one of the fourteen kinds, and the kind's items, each in its range
  pub known : (x : Node) → Memᴰ x (nodes_of ps) → x.kind < kind_count
  pub ranges : (x : Node) → Memᴰ x (nodes_of ps) → InRange (items x) x.values
  -- "parameter count (0–4)"
  pub counts : (d : Definition) → Memᴰ d (definitions_of ps) → d.count ≤ 4
  -- a call gives each parameter of its definition an argument
  pub arguments : (x : Node) → Memᴰ x (nodes_of ps) → x.kind ≡ 12 → length x.values ≡ 1 + (definition_at (table_of ps) (get_or x.values 0 0)).count
  -- "A node or definition must be given before it is named."
  pub given : (before after : List Part) (p : Part) → ps ≡ before ++ p ∷ after → GivenBefore (table_of before) p
  pub main_given : main < length (nodes_of ps)
  -- "Each node is named exactly once"
  pub named_once : (k : ℕ) → k < length (nodes_of ps) → how_often k (main ∷ named (table_of ps)) ≡ 1
  -- "each slot by one nbr or nbr-range", L2: or nbr-lag
  pub slot_once : (i : ℕ) → how_often i (all_numbers slot (nodes_of ps)) ≤ 1
  -- "each variable by one rep"
  pub rep_once : (v : ℕ) → how_often v (all_numbers keeps (nodes_of ps)) ≤ 1
  -- every node has a sort; "Main and definition bodies are numbers."
  pub sorts : (n : ℕ) → n < length (nodes_of ps) → (k : Sort) × HasSort (tree (table_of ps) n) k
  pub main_sort : HasSort (tree (table_of ps) main) a_number
  pub body_sorts : (d : Definition) → Memᴰ d (definitions_of ps) → HasSort (tree (table_of ps) d.body) a_number
  -- parameters and variables
  pub main_scope : Scoped 0 [] (tree (table_of ps) main)
  pub body_scopes : (d : Definition) → Memᴰ d (definitions_of ps) → Scoped d.count [] (tree (table_of ps) d.body)
  -- a spatial definition "may be called from one node and may not fold"
  pub called_once : (m n d : ℕ) → m < length (nodes_of ps) → n < length (nodes_of ps) → Calls (table_of ps) m d → Calls (table_of ps) n d
      → Spatial (tree (table_of ps) (definition_at (table_of ps) d).body) → m ≡ n
  pub folds : (n d : ℕ) → n < length (nodes_of ps) → FoldsBy (table_of ps) n d
      → (Spatial (tree (table_of ps) (definition_at (table_of ps) d).body) → ⊥) × ((definition_at (table_of ps) d).count ≡ 2)
  -- "Main may cost 1,000,000."
  pub cheap : cost (tree (table_of ps) main) ≤ 1000000

-- what the check accepts, exactly: of a list of bytes
abbrev pub Bytes : List ℕ → Type 0
Bytes s = (i : ℕ) → get_or s i 0 < 256

abbrev pub Acceptable : List ℕ → Type 0
Acceptable s = (ps : List Part) × (main : ℕ) × (s ≡ program_bytes ps main) × Meets ps main
