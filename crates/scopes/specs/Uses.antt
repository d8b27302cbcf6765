-- What the search for a wrong use of a definition goes by. Internal: no contract of a C function cites it. Definitions only: nothing is assumed.
use Rattle.std.specs.Prelude.{◌≡◌, Bool, false, not, ◌&&◌, ◌||◌, List, ℕ, zero, suc, ◌<◌, length, get_or, eqb, Option}
use Rattle.program.specs.Table.{Table, is_call, node_limit}
use Rattle.program.specs.Tree.{tree, spatial}
use Rattle.program.specs.Check.{node_at, use_offends, lowest, offending}
use Rattle.shapes.specs.Kinds.{fold_by_kind, call_kind}
use Rattle.operands.specs.Found.{place}
use Rattle.scopes.specs.Places.{Defined}

-- the table that the columns tell: kinds of nodes, the definitions that calls and folds name, parameter counts and bodies of definitions, and which
-- nodes are spatial
pub record Columns (t : Table) (kinds items counts bodies : List ℕ) (sp : List Bool) (count : ℕ) : Type 0 where
  pub all : length t.nodes ≡ count
  pub defined : Defined t counts bodies (length t.definitions)
  pub kind : (n : ℕ) → n < count → (node_at t n).kind ≡ get_or kinds n 0
  pub folds : (n : ℕ) → n < count → get_or kinds n 0 ≡ fold_by_kind → (get_or (node_at t n).values 0 0 ≡ get_or items n 0) × (get_or items n 0 < length t.definitions)
  pub calls : (n : ℕ) → n < count → get_or kinds n 0 ≡ call_kind → (get_or (node_at t n).values 0 0 ≡ get_or items n 0) × (get_or items n 0 < length t.definitions)
  pub spatials : (d : ℕ) → d < length t.definitions → get_or sp (get_or bodies d 0) false ≡ spatial (tree t (get_or bodies d 0))

-- a node below n calls d
unfoldable pub called_below : List ℕ → List ℕ → ℕ → ℕ → Bool
called_below kinds items d zero = false
called_below kinds items d (suc n) = called_below kinds items d n || is_call (get_or kinds n 0) && eqb (get_or items n 0) d

-- which definitions nodes below n call
pub record Flags (kinds items : List ℕ) (called : List Bool) (n : ℕ) : Type 0 where
  pub long : length called ≡ node_limit
  pub flag : (d : ℕ) → d < node_limit → get_or called d false ≡ called_below kinds items d n

-- a node of a kind offends by its use of definition d, given that d is spatial, called before, and its count
unfoldable pub offends : ℕ → Bool → Bool → ℕ → Bool
offends kind far called count = is_call kind && (far && called) || eqb kind fold_by_kind && (far || not (eqb count 2))

-- no node below n offends, in any table that the columns tell
pub record CleanBelow (kinds items counts bodies : List ℕ) (sp : List Bool) (count n : ℕ) : Type 0 where
  pub none : (t : Table) → Columns t kinds items counts bodies sp count → (k : ℕ) → k < n → use_offends t k ≡ false

-- r is the lowest node that offends, in any table that the columns tell
abbrev pub LowestUse : List ℕ → List ℕ → List ℕ → List ℕ → List Bool → ℕ → Option ℕ → Type 0
LowestUse kinds items counts bodies sp count r =
    (t : Table) → Columns t kinds items counts bodies sp count → lowest (offending (use_offends t) (length t.nodes)) ≡ place r
