-- What the walk that looks for misread parameters and variables goes by. Internal: no contract of a C function cites it. Definitions only: nothing is assumed.
use Rattle.std.specs.Prelude.{◌≡◌, Bool, not, cond, ◌&&◌, List, [], ◌++◌, ℕ, ◌^◌, ◌<◌, length, eqb, ltb, Option as Answer}
use Rattle.std.proofs.Math.Option.{Option, none, some}
use Rattle.std.specs.Int.Bits.{bit_or}
use Rattle.program.specs.Table.{Table, among}
use Rattle.program.specs.Tree.{Expr, tree, misread}
use Rattle.bits.specs.Bits.{has_bit}
use Rattle.words.specs.Form.{parameter_form}
use Rattle.words.specs.Word.{form, item}
use Rattle.words.specs.Trees.{tree_at}
use Rattle.program.specs.Check.{lowest, misread_in}
use Rattle.operands.specs.Found.{place}
use Rattle.operands.specs.Formed.{binds, reads}
use Rattle.scopes.specs.Places.{lower, Defined}

-- the bits of scope are the variables of kept
pub record InScope (scope : ℕ) (kept : List ℕ) : Type 0 where
  pub bit : (v : ℕ) → v < 16 → has_bit v scope ≡ among v kept

-- r is the lower of best and the lowest node that misreads in the tree e, whose definition has count parameters, under the reps of scope
pub record Lowest (count scope : ℕ) (e : Expr) (best r : Answer ℕ) : Type 0 where
  pub is : (kept : List ℕ) → InScope scope kept → place r ≡ lower (lowest (misread count kept e)) (place best)

-- whether a word misreads, and node n itself where its word does
unfoldable pub misreads : ℕ → ℕ → ℕ → Bool
misreads w count scope = cond (eqb (form w) parameter_form) (not (ltb (item w) count)) (reads w && not (has_bit (item w) scope))

abbrev pub own_place : ℕ → ℕ → ℕ → ℕ → Option ℕ
own_place n w count scope = cond (misreads w count scope) (some n) none

-- the scope of operand 1, with the variable that the node binds
unfoldable pub inner : ℕ → ℕ → ℕ
inner w scope = cond (binds w) (bit_or scope (2 ^ item w)) scope

-- the table that the words and columns tell
pub record Told (t : Table) (ws counts bodies : List ℕ) (definitions main : ℕ) : Type 0 where
  pub trees : (n : ℕ) → n < length t.nodes → tree_at ws n ≡ tree t n
  pub defined : Defined t counts bodies definitions
  pub given : main < length t.nodes

-- r is the lowest node that misreads, in main's tree and in those of the definitions, of any table that the words and columns tell
abbrev pub LowestMisread : List ℕ → List ℕ → List ℕ → ℕ → ℕ → Answer ℕ → Type 0
LowestMisread ws counts bodies definitions main r =
    (t : Table) → Told t ws counts bodies definitions main → lowest (misread 0 [] (tree t main) ++ misread_in t t.definitions) ≡ place r
