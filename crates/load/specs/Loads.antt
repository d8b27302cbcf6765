-- What loading comes to: the table that a loaded one stands for, what is known of a loaded one, and the loader's contract.
use Rattle.std.specs.Prelude.{◌≡◌, List, [], ◌∷◌, map, ℕ, ◌≤◌, ◌<◌, length, get_or, take, Result, Ok, Err, IfOk}
use Rattle.program.specs.Table.{node_limit, definition_limit}
use Rattle.program.specs.Table as program
use Rattle.verdict.specs.declared.Refusal.{Refusal}
use Rattle.verdict.specs.Outcome.{refusal_at}
use Rattle.nodes.specs.declared.Node.{Node}
use Rattle.shapes.specs.Kinds.{number_of}
use Rattle.shapes.specs.Shapes.{lead_of, kids_of, byte_values, definition_item}
use Rattle.shapes.specs.declared.Kind.TheVariants.{Constant}
use Rattle.nodes.specs.Ranges.{Ranges}
use Rattle.nodes.specs.Values.{node_of}
use Rattle.load.specs.declared.Table.{Table}

-- definitions from their counts of parameters and their bodies
unfoldable pub paired : List ℕ → List ℕ → List program.Definition
paired [] bs = []
paired (c ∷ cs) [] = []
paired (c ∷ cs) (b ∷ bs) = record { count = c; body = b } ∷ paired cs bs

unfoldable pub table_of : Table → program.Table
table_of t =
    record {
      nodes = map node_of (take t.n t.nodes);
      definitions = paired (take t.defs t.counts) (take t.defs t.bodies);
    }

-- what reading past a table's nodes would give, which no code does
abbrev pub blank : Node
blank = record { kind = Constant; item = 0; kids = 0; children = []; constant = 0 }

abbrev pub node_at : Table → ℕ → Node
node_at t i = get_or t.nodes i blank

-- node i: the number of its children, its item in its range, and what it names stands before it
pub record GoodNode (t : Table) (i : ℕ) (x : Node) : Type 0 where
  pub long : length x.children ≡ 4
  -- as many children as the kind has; a call has those of its definition
  pub kids : x.kids ≡ kids_of (number_of x.kind) (get_or t.counts x.item 0)
  pub few : x.kids ≤ 4
  pub range : Ranges (lead_of (number_of x.kind)) x.item x.constant
  pub children : (j : ℕ) → j < x.kids → get_or x.children j 0 < i
  -- a fold by definition, a call
  pub definition : lead_of (number_of x.kind) ≡ definition_item → (x.item < t.defs) × (get_or t.bodies x.item 0 < i)

pub record Good (t : Table) : Type 0 where
  pub long_nodes : length t.nodes ≡ node_limit
  pub long_counts : length t.counts ≡ byte_values
  pub long_bodies : length t.bodies ≡ byte_values
  pub n : t.n ≤ node_limit
  pub defs : t.defs ≤ definition_limit
  pub nodes : (i : ℕ) → i < t.n → GoodNode t i (node_at t i)
  pub counts : (d : ℕ) → d < t.defs → get_or t.counts d 0 ≤ 4
  pub bodies : (d : ℕ) → d < t.defs → get_or t.bodies d 0 < t.n

-- a table that was loaded
pub record IsLoaded (s : List ℕ) (t : Table) : Type 0 where
  pub table : table_of t ≡ (program.load s).table
  pub main : t.main ≡ (program.load s).main
  pub main_given : t.main < t.n
  pub good : Good t

-- 0 and 0, or the refusal
abbrev pub outcome_of : Result Table Refusal → ℕ × ℕ
outcome_of (Ok t) = (0, 0)
outcome_of (Err r) = refusal_at r

pub record Loads (s : List ℕ) (r : Result Table Refusal) : Type 0 where
  pub number : (outcome_of r).0 ≡ (program.load s).number
  pub place : (outcome_of r).1 ≡ (program.load s).place
  pub loaded : IfOk r (IsLoaded s)
