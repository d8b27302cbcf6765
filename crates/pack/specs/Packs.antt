-- What packing comes to. Internal: no contract of a C function cites it. Definitions only: nothing is assumed.
use Rattle.std.specs.Prelude.{◌≡◌, List, ℕ, ◌<◌, ◌≤◌, length, get_or, leb}
use Rattle.operands.specs.Found.{found}
use Rattle.program.specs.Table.{node_limit}
use Rattle.words.specs.Form.{parameter_form, field_forms}
use Rattle.program.specs.Tree.{tree, is_field}
use Rattle.program.specs.Check.{lowest, offending, sort_offends}
use Rattle.words.specs.Word.{form, item, word}
use Rattle.words.specs.Trees.{tree_at}
use Rattle.words.specs.Sound.{AllSorted}
use Rattle.operands.specs.Formed.{AllFormed}
use Rattle.load.specs.declared.Table.{Table}
use Rattle.shapes.specs.Kinds.{number_of}
use Rattle.nodes.specs.declared.Node.{Node}
use Rattle.load.specs.Loads.{table_of, node_at}

abbrev pub kind_of : Node → ℕ
kind_of x = number_of x.kind

abbrev pub item_of : Node → ℕ
item_of x = x.item

-- xs has what f takes of each node below n
pub record Column (f : Node → ℕ) (t : Table) (xs : List ℕ) (n : ℕ) : Type 0 where
  pub long : length xs ≡ node_limit
  pub each : (k : ℕ) → k < n → get_or xs k 0 ≡ f (node_at t k)

pub record Packs (t : Table) (ws : List ℕ) (r : ℕ) : Type 0 where
  pub long : length ws ≡ node_limit
  pub trees : (n : ℕ) → n < t.n → tree_at ws n ≡ tree (table_of t) n
  pub fields : (n : ℕ) → n < t.n → leb field_forms (form (word ws n)) ≡ is_field (tree (table_of t) n)
  pub rest : (n : ℕ) → t.n ≤ n → word ws n ≡ 0
  pub formed : AllFormed ws
  pub params : (n : ℕ) → n < node_limit → form (word ws n) ≡ parameter_form → item (word ws n) < 4
  pub place : lowest (offending (sort_offends (table_of t) t.main) (length (table_of t).nodes)) ≡ found r
  pub most : r ≤ node_limit
  pub sorted : r ≡ node_limit → AllSorted ws
