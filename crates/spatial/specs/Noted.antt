-- Whether a node is spatial, from the notes of the nodes below it. Internal: no contract of a C function cites it. Definitions only: nothing is assumed.
use Rattle.std.specs.Prelude.{◌≡◌, Bool, false, ◌&&◌, ◌||◌, List, ℕ, ◌<◌, length, get_or, eqb}
use Rattle.program.specs.Table.{node_limit}
use Rattle.program.specs.Tree.{spatial}
use Rattle.words.specs.Form.{call_form}
use Rattle.words.specs.Word.{form}
use Rattle.words.specs.Trees.{tree_at}
use Rattle.operands.specs.Formed.{is_spatial, part_note, body_note}

-- the notes of the nodes below n say whether they are spatial
pub record Spatials (ws : List ℕ) (sp : List Bool) (n : ℕ) : Type 0 where
  pub long : length sp ≡ node_limit
  pub note : (k : ℕ) → k < n → get_or sp k false ≡ spatial (tree_at ws k)

-- whether a word is spatial by its form, by its body, which only a call passes on, or by any operand
unfoldable pub spatial_of : List Bool → ℕ → Bool
spatial_of sp w =
    is_spatial w
    || (eqb (form w) call_form && body_note false sp w
    || (part_note false sp w 0 || (part_note false sp w 1 || (part_note false sp w 2 || part_note false sp w 3))))
