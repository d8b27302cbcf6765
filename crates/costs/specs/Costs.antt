-- What the costs noted so far say, and what a node's cost comes from. Internal: no contract of a C function cites it. Definitions only: nothing is assumed.
use Rattle.std.specs.Prelude.{◌≡◌, cond, List, ℕ, min, ◌*◌, get_or, eqb, Option, Some, None}
use Rattle.program.specs.Tree.{cost}
use Rattle.words.specs.Form.{fold_by_form}
use Rattle.words.specs.Word.{form}
use Rattle.words.specs.Trees.{tree_at}
use Rattle.operands.specs.Formed.{body_at, operand, has_body}

-- costs are counted up to one above "1,000,000"
abbrev pub cap : ℕ
cap = 1000001

abbrev pub capped : ℕ → ℕ
capped c = min c cap

-- what a word's body adds: "plus the body's for a call, plus 15 times the body's for kind 11"
unfoldable pub body_cost : List ℕ → ℕ → ℕ
body_cost ws w =
    cond (has_body w) (cond (eqb (form w) fold_by_form) (15 * cost (tree_at ws (operand w body_at))) (cost (tree_at ws (operand w body_at)))) 0

-- what is noted of a node is its cost
pub record Noted (ws : List ℕ) (notes : List (Option ℕ)) : Type 0 where
  pub note : (k c : ℕ) → get_or notes k None ≡ Some c → c ≡ capped (cost (tree_at ws k))

-- the result r is the cost c, and the notes are right
pub record Gives (ws : List ℕ) (notes : List (Option ℕ)) (r c : ℕ) : Type 0 where
  pub value : r ≡ capped c
  pub noted : Noted ws notes
