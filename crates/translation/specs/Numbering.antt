-- The table of a program: its parts in their order, with the numbers of nodes, slots and variables. Definitions only: nothing is assumed.
use Rattle.std.specs.Prelude.{Bool, true, false, cond, List, [], ◌∷◌, ◌++◌, ℕ, suc, ◌+◌, ◌-◌, min, length}
use Rattle.notation.specs.Words.{Word, lookup, index_of, is_number, bits_of, operators, operator, Head, plain, slotted, operation, rep, fold, define, call, nothing, head_of}
use Rattle.notation.specs.Grammar.{Tree, leaf, form, Items, nil, expr, bare, Def, Program}
use Rattle.program.specs.Conditions.{Part, node as a_node, define as a_definition, program_bytes}
use Rattle.translation.specs.Names.{is_rep, binding}

-- a number as a byte: "one past 15 is out of range, also past a byte"
abbrev pub byte : ℕ → ℕ
byte k = min k 255

-- how many slots, variables and nodes were given out
pub record Given : Type 0 where
  pub slots : ℕ
  pub variables : ℕ
  pub nodes : ℕ

abbrev pub none : Given
none = record { slots = 0; variables = 0; nodes = 0 }

abbrev pub has_slot : Head → Bool
has_slot (plain kind n) = false
has_slot (slotted kind n) = true
has_slot operation = false
has_slot rep = false
has_slot fold = false
has_slot define = false
has_slot call = false
has_slot nothing = false

-- "Slots and variables are given out from 1 and 0 in reading order": what a head takes, before its operands
abbrev pub entered : Head → Given → Given
entered h g = record { slots = cond (has_slot h) (suc g.slots) g.slots; variables = cond (is_rep h) (suc g.variables) g.variables; nodes = g.nodes }

-- "nodes with operands first, left to right": a node's own number comes last
abbrev pub one_more : Given → Given
one_more g = record { slots = g.slots; variables = g.variables; nodes = suc g.nodes }

unfoldable mutual
  pub after : Tree → Given → Given
  after (leaf w) g = one_more g
  after (form h is) g = one_more (after_items is (entered (head_of h) g))

  pub after_items : Items → Given → Given
  after_items nil g = g
  after_items (expr t is) g = after_items is (after t g)
  after_items (bare w is) g = after_items is g

-- what a name stands for: a parameter or a variable, by its number
pub data Meaning : Type 0 where
  parameter variable : ℕ → Meaning

-- the names bound around an expression, the nearest first
abbrev pub Scope : Type 0
Scope = List (Word × Meaning)

abbrev pub of_kind : ℕ → List ℕ → Part
of_kind kind values = a_node (record { kind = kind; values = values })

-- 01: "1 parameter p (0–3) · 2 variable v (0–15)"
abbrev pub meant_by : Meaning → Part
meant_by (parameter p) = of_kind 1 (byte p ∷ [])
meant_by (variable v) = of_kind 2 (byte v ∷ [])

-- a number (01: "0 constant"), or what the nearest binder of a name gives it; a name that is not in scope is refused before
abbrev pub leaf_part : Scope → Word → Part
leaf_part sc w = cond (is_number w) (of_kind 0 (bits_of w ∷ [])) (meant_by (lookup w sc (parameter 0)))

-- the numbers of a form's operands
unfoldable pub operands : Items → Given → List ℕ
operands nil g = []
operands (expr t is) g = byte ((after t g).nodes - 1) ∷ operands is (after t g)
operands (bare w is) g = operands is g

-- the function of a fold: "10 fold by operator: o", "11 fold by definition: d"
abbrev pub fold_part : List Word → Word → List ℕ → Part
fold_part ds w ns = cond (operator w) (of_kind 10 (index_of w operators ∷ ns)) (of_kind 11 (byte (index_of w ds) ∷ ns))

abbrev pub fold_by : List Word → Items → List ℕ → Part
fold_by ds nil ns = of_kind 10 ns
fold_by ds (expr t is) ns = of_kind 10 ns
fold_by ds (bare w is) ns = fold_part ds w ns

-- the node of a form: its kind, then what it leads with, then its operands; slots from 1, variables from 0
abbrev pub form_part : List Word → Given → Word → Items → List ℕ → Head → Part
form_part ds g h is ns (plain kind n) = of_kind kind ns
form_part ds g h is ns (slotted kind n) = of_kind kind (byte (suc g.slots) ∷ ns)
form_part ds g h is ns operation = of_kind 3 (index_of h operators ∷ ns)
form_part ds g h is ns rep = of_kind 5 (byte g.variables ∷ ns)
form_part ds g h is ns fold = fold_by ds is ns
form_part ds g h is ns define = of_kind 12 ns
form_part ds g h is ns call = of_kind 12 (byte (index_of h ds) ∷ ns)
form_part ds g h is ns nothing = of_kind 12 ns

-- the parts of an expression, g given out before it
unfoldable mutual
  pub parts : List Word → Scope → Tree → Given → List Part
  parts ds sc (leaf w) g = leaf_part sc w ∷ []
  parts ds sc (form h is) g =
      let inner : Given = entered (head_of h) g in
      items_parts ds sc (binding (head_of h) is (λ x. (x, variable g.variables)) sc) is inner ++ form_part ds g h is (operands is inner) (head_of h) ∷ []

  pub items_parts : List Word → Scope → Scope → Items → Given → List Part
  items_parts ds sc later nil g = []
  items_parts ds sc later (expr t is) g = parts ds sc t g ++ items_parts ds later later is (after t g)
  items_parts ds sc later (bare w is) g = items_parts ds sc later is g

unfoldable pub parameters : ℕ → List Word → Scope
parameters k [] = []
parameters k (x ∷ xs) = (x, parameter k) ∷ parameters (suc k) xs

-- "a definition right after its body"
unfoldable pub program_parts : List Word → List Def → Tree → Given → List Part
program_parts ds [] main g = parts ds [] main g
program_parts ds (d ∷ more) main g =
    let g' : Given = after d.body g in
    parts ds (parameters 0 d.params) d.body g
    ++ a_definition (record { count = byte (length d.params); body = byte (g'.nodes - 1) })
    ∷ program_parts (ds ++ d.name ∷ []) more main g'

unfoldable pub program_after : List Def → Tree → Given → Given
program_after [] main g = after main g
program_after (d ∷ more) main g = program_after more main (after d.body g)

-- the table's bytes; the main node is the last
unfoldable pub table : Program → List ℕ
table p = program_bytes (program_parts [] p.defs p.main none) (byte ((program_after p.defs p.main none).nodes - 1))
