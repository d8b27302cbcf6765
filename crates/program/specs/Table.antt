-- The program table: what a node, a definition and the main node may hold, and the refusals 1 to 6. Definitions only: nothing is assumed.
use Rattle.std.specs.Prelude.{Bool, true, false, not, cond, ◌&&◌, ◌||◌, List, [], ◌∷◌, ◌++◌, ℕ, zero, suc, ◌+◌, ◌-◌, length, get_or, take, drop, replicate, eqb, leb, ltb}
use Rattle.wire.specs.Wire.{Fields, end, cut, whole, big, fields_of}

-- the number of the first row that holds, 0 where none does
abbrev pub RefusalRows : Type 0
RefusalRows = List (Bool × ℕ)

unfoldable pub first_of : RefusalRows → ℕ
first_of [] = 0
first_of (row ∷ rows) = cond row.0 row.1 (first_of rows)

-- whether k is among them
unfoldable pub among : ℕ → List ℕ → Bool
among k [] = false
among k (n ∷ ns) = eqb k n || among k ns

-- What a node's body may hold behind its kind: a constant, an operator, a parameter, a variable that is read, a variable that a rep keeps, a slot,
-- the number of a node, the number of a definition
pub data Item : Type 0 where
  constant operator parameter variable keeps slot child definition : Item

-- "Node bodies begin with a kind byte, then one byte each except the constant": the items of each kind, where the definition called has count parameters
abbrev pub kinds : ℕ → List (List Item)
kinds count =
    (constant ∷ [])  -- 0 constant
    ∷ (parameter ∷ [])  -- 1 parameter
    ∷ (variable ∷ [])  -- 2 variable
    ∷ (operator ∷ child ∷ child ∷ [])  -- 3 operator
    ∷ (child ∷ [])  -- 4 sense
    ∷ (keeps ∷ child ∷ child ∷ [])  -- 5 rep
    ∷ (child ∷ child ∷ child ∷ [])  -- 6 if
    ∷ (child ∷ child ∷ child ∷ [])  -- 7 mux
    ∷ (slot ∷ child ∷ [])  -- 8 nbr
    ∷ (slot ∷ [])  -- 9 nbr-range
    ∷ (operator ∷ child ∷ child ∷ [])  -- 10 fold by operator
    ∷ (definition ∷ child ∷ child ∷ [])  -- 11 fold by definition
    ∷ (definition ∷ replicate count child)  -- 12 call
    ∷ (slot ∷ [])  -- 13 nbr-lag, L2: "Node kind 13 carries a slot"
    ∷ []

abbrev pub kind_count : ℕ
kind_count = 14

-- "numbered from 0 by appearance, at most 256"; "numbered from 0, at most 32"
abbrev pub node_limit : ℕ
node_limit = 256

abbrev pub definition_limit : ℕ
definition_limit = 32

abbrev pub items_of : ℕ → ℕ → List Item
items_of kind count = get_or (kinds count) kind []

-- how many bytes an item has
abbrev pub width : Item → ℕ
width constant = 4
width operator = 1
width parameter = 1
width variable = 1
width keeps = 1
width slot = 1
width child = 1
width definition = 1

unfoldable pub size : List Item → ℕ
size [] = 0
size (i ∷ is) = width i + size is

-- the items' numbers, high byte first
unfoldable pub values_in : List Item → List ℕ → List ℕ
values_in [] s = []
values_in (i ∷ is) s = big (take (width i) s) ∷ values_in is (drop (width i) s)

-- "a byte or constant out of its range (node and definition numbers have none)"
abbrev pub in_range : Item → ℕ → Bool
in_range constant w = not (eqb w 0x80000000)
in_range operator o = ltb o 9
in_range parameter p = ltb p 4
in_range variable v = ltb v 16
in_range keeps v = ltb v 16
in_range slot i = ltb 0 i && ltb i 16
in_range child k = true
in_range definition d = true

pub record Node : Type 0 where
  pub kind : ℕ
  pub values : List ℕ

pub record Definition : Type 0 where
  pub count : ℕ
  pub body : ℕ

pub record Table : Type 0 where
  pub nodes : List Node
  pub definitions : List Definition

-- a node's items: a call has as many children as arguments
abbrev pub items : Node → List Item
items x = items_of x.kind (length x.values - 1)

-- a node's numbers for one sort of item, as its children
abbrev pub code : Item → ℕ
code constant = 0
code operator = 1
code parameter = 2
code variable = 3
code keeps = 4
code slot = 5
code child = 6
code definition = 7

unfoldable pub picked : Item → List Item → List ℕ → List ℕ
picked j [] vs = []
picked j (i ∷ is) [] = []
picked j (i ∷ is) (v ∷ vs) = cond (eqb (code i) (code j)) (v ∷ picked j is vs) (picked j is vs)

abbrev pub numbers : Item → Node → List ℕ
numbers j x = picked j (items x) x.values

-- the same of all nodes, first to last
unfoldable pub all_numbers : Item → List Node → List ℕ
all_numbers j [] = []
all_numbers j (x ∷ xs) = numbers j x ++ all_numbers j xs

unfoldable pub bodies : List Definition → List ℕ
bodies [] = []
bodies (d ∷ ds) = d.body ∷ bodies ds

-- the nodes that the table names
abbrev pub named : Table → List ℕ
named t = all_numbers child t.nodes ++ bodies t.definitions

-- some number is not below the bound; is among those taken or stands twice
unfoldable pub beyond : ℕ → List ℕ → Bool
beyond bound [] = false
beyond bound (k ∷ ks) = leb bound k || beyond bound ks

unfoldable pub taken_by : List ℕ → List ℕ → Bool
taken_by taken [] = false
taken_by taken (k ∷ ks) = among k taken || taken_by (k ∷ taken) ks

unfoldable pub outside : List Item → List ℕ → Bool
outside [] vs = false
outside (i ∷ is) [] = false
outside (i ∷ is) (v ∷ vs) = not (in_range i v) || outside is vs

abbrev pub no_definition : Definition
no_definition = record { count = 0; body = 0 }

abbrev pub definition_at : Table → ℕ → Definition
definition_at t d = get_or t.definitions d no_definition

abbrev pub is_call : ℕ → Bool
is_call kind = eqb kind 12

-- the node that a body makes: its kind, and the bytes behind it
abbrev pub node_of : Table → ℕ → List ℕ → Node
node_of t kind s = record { kind = kind; values = values_in (items_of kind (definition_at t (get_or s 0 0)).count) s }

-- the field rows of the refusal table, in order, for a node's body
abbrev pub node_rows : Table → ℕ → List ℕ → RefusalRows
node_rows t kind s =
    let is : List Item = items_of kind (definition_at t (get_or s 0 0)).count in
    let x : Node = node_of t kind s in
    -- "257th node"
    (leb node_limit (length t.nodes), 2)
    -- "unknown kind"
    ∷ (leb kind_count kind, 3)
    -- "wrong length (a call: under 2 bytes 1, unknown definition 4, then 2 + count)"
    ∷ (is_call kind && eqb (length s) 0, 1)
    ∷ (is_call kind && leb (length t.definitions) (get_or s 0 0), 4)
    ∷ (not (eqb (length s) (size is)), 1)
    -- "a byte or constant out of its range"
    ∷ (outside is x.values, 3)
    -- "names what is not yet given"
    ∷ (beyond (length t.nodes) (numbers child x) || beyond (length t.definitions) (numbers definition x), 4)
    -- "node, slot or variable taken already"
    ∷ (taken_by (named t) (numbers child x) || taken_by (all_numbers slot t.nodes) (numbers slot x) || taken_by (all_numbers keeps t.nodes) (numbers keeps x), 5)
    ∷ []

-- for a definition's body: parameter count, body node
abbrev pub definition_rows : Table → List ℕ → RefusalRows
definition_rows t s =
    -- "33rd definition"
    (leb definition_limit (length t.definitions), 2)
    ∷ (not (eqb (length s) 2), 1)
    ∷ (ltb 4 (get_or s 0 0), 3)
    ∷ (leb (length t.nodes) (get_or s 1 0), 4)
    ∷ (among (get_or s 1 0) (named t), 5)
    ∷ []

-- for the main node
abbrev pub main_rows : Table → List ℕ → RefusalRows
main_rows t s =
    (not (eqb (length s) 1), 1)
    ∷ (leb (length t.nodes) (get_or s 0 0), 4)
    ∷ (among (get_or s 0 0) (named t), 5)
    ∷ []

-- what loading comes to: a refusal with its place, or the table and its main node
pub record Loaded : Type 0 where
  pub number : ℕ
  pub place : ℕ
  pub table : Table
  pub main : ℕ

abbrev pub refused : ℕ → ℕ → Loaded
refused number place = record { number = number; place = place; table = record { nodes = []; definitions = [] }; main = 0 }

-- go on where no row holds, else the refusal at its place
abbrev pub unless : RefusalRows → ℕ → Loaded → Loaded
unless rows place next = cond (eqb (first_of rows) 0) next (refused (first_of rows) place)

-- some node below k is not among those named
unfoldable pub unnamed : ℕ → List ℕ → Bool
unnamed zero names = false
unnamed (suc k) names = not (among k names) || unnamed k names

abbrev pub is_end : Fields → Bool
is_end end = true
is_end cut = false
is_end (whole tag s rest) = false

-- "table end: no main, bytes after it, node unnamed"
abbrev pub ended : Table → ℕ → Fields → Loaded
ended t main rest =
    unless ((not (is_end rest), 6) ∷ (unnamed (length t.nodes) (main ∷ named t), 6) ∷ []) 0
    (record { number = 0; place = 0; table = t; main = main })

abbrev pub with_node : Table → Node → Table
with_node t x = record { nodes = t.nodes ++ x ∷ []; definitions = t.definitions }

abbrev pub with_definition : Table → List ℕ → Table
with_definition t s = record { nodes = t.nodes; definitions = t.definitions ++ record { count = get_or s 0 0; body = get_or s 1 0 } ∷ [] }

-- what a field's tag and body begin with
pub data TableEntry : Type 0 where
  a_node : ℕ → List ℕ → TableEntry
  a_definition : List ℕ → TableEntry
  a_main : List ℕ → TableEntry
  unknown : TableEntry

-- "Tag 1 is a node", with a kind byte; "Tag 2 is a definition"; "Tag 3, one node byte, is the main node"
unfoldable pub entry_of : ℕ → List ℕ → TableEntry
entry_of tag [] = cond (eqb tag 2) (a_definition []) (cond (eqb tag 3) (a_main []) unknown)
entry_of tag (b ∷ s) = cond (eqb tag 1) (a_node b s) (cond (eqb tag 2) (a_definition (b ∷ s)) (cond (eqb tag 3) (a_main (b ∷ s)) unknown))

-- the fields one after the other; place counts the whole fields before
abbrev pub on_entry : ℕ → Table → TableEntry → Fields → (Table → Loaded) → Loaded
on_entry place t (a_node kind s) rest go = unless (node_rows t kind s) place (go (with_node t (node_of t kind s)))
on_entry place t (a_definition s) rest go = unless (definition_rows t s) place (go (with_definition t s))
on_entry place t (a_main s) rest go = unless (main_rows t s) place (ended t (get_or s 0 0) rest)
on_entry place t unknown rest go = refused 1 place

unfoldable pub load_from : ℕ → Table → Fields → Loaded
load_from place t end = refused 6 0
load_from place t cut = refused 1 place
load_from place t (whole tag s rest) = on_entry place t (entry_of tag s) rest (λ u. load_from (suc place) u rest)

unfoldable pub load : List ℕ → Loaded
load s = load_from 0 (record { nodes = []; definitions = [] }) (fields_of s)
