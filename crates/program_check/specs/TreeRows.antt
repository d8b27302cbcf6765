-- What the rows over all nodes go by. Internal: no contract of a C function cites it. Definitions only: nothing is assumed.
use Rattle.std.specs.Prelude.{◌≡◌, List, [], ◌++◌, ℕ, ◌<◌, ◌≤◌, length, get_or, Option, Result, Ok, Err}
use Rattle.program.specs.Table.{node_limit}
use Rattle.words.specs.Form.{number_forms}
use Rattle.program.specs.Table as program
use Rattle.program.specs.Tree.{tree, misread}
use Rattle.program.specs.Check.{lowest, offending, use_offends, misread_in, tree_rows}
use Rattle.words.specs.Word.{form, word}
use Rattle.words.specs.Trees.{tree_at}
use Rattle.words.specs.Sound.{AllSorted}
use Rattle.verdict.specs.declared.Reason.{Reason}
use Rattle.verdict.specs.declared.Refusal.{Refusal}
use Rattle.verdict.specs.Outcome.{refusal_at}
use Rattle.operands.specs.Formed.{AllFormed, Empty}
use Rattle.operands.specs.Found.{place}
use Rattle.load.specs.declared.Table.{Table}
use Rattle.load.specs.Loads.{table_of, Good}
use Rattle.pack.specs.Packs.{kind_of, item_of, Column}

-- every body is below top
pub record Above (bodies : List ℕ) (defs top : ℕ) : Type 0 where
  pub few : top ≤ node_limit
  pub below : (d : ℕ) → d < defs → get_or bodies d 0 < top

-- a loaded table and its words
pub record Packed (t : Table) (ws : List ℕ) : Type 0 where
  pub good : Good t
  pub given : t.main < t.n
  pub long : length ws ≡ node_limit
  pub formed : AllFormed ws
  pub trees : (n : ℕ) → n < t.n → tree_at ws n ≡ tree (table_of t) n
  pub empty : Empty ws t.n

-- a loaded table, its words and its columns
pub record InColumns (t : Table) (ws kinds items counts bodies : List ℕ) (defs n : ℕ) : Type 0 where
  pub packed : Packed t ws
  pub is_kinds : Column kind_of t kinds t.n
  pub is_items : Column item_of t items t.n
  pub is_counts : counts ≡ t.counts
  pub is_bodies : bodies ≡ t.bodies
  pub is_defs : defs ≡ t.defs
  pub is_n : n ≡ t.n

-- the nodes that misread, in main's tree and in those of the definitions
abbrev pub misreads : program.Table → ℕ → List ℕ
misreads t main = misread 0 [] (tree t main) ++ misread_in t t.definitions

-- what the evaluator requires of a table's words, but for the masks
pub record Runs (t : Table) (ws : List ℕ) : Type 0 where
  pub packed : Packed t ws
  pub sorted : AllSorted ws
  pub number : form (word ws t.main) < number_forms

abbrev pub refused : Reason → ℕ → Result Unit Refusal
refused reason place = Err record { reason = reason; place = place }

-- r is what the rows over all nodes come to
abbrev pub TreeRows : Table → List ℕ → Result Unit Refusal → Type 0
TreeRows t ws (Ok u) = (tree_rows (table_of t) t.main ≡ (0, 0)) × Runs t ws
TreeRows t ws (Err e) = tree_rows (table_of t) t.main ≡ refusal_at e

-- r is the lowest node of the table with these columns that offends by its use of a definition
abbrev pub LowestMisuse : List ℕ → List ℕ → List ℕ → List ℕ → List ℕ → ℕ → ℕ → Option ℕ → Type 0
LowestMisuse ws kinds items counts bodies defs n r =
    (t : Table) → InColumns t ws kinds items counts bodies defs n → lowest (offending (use_offends (table_of t)) (length (table_of t).nodes)) ≡ place r
