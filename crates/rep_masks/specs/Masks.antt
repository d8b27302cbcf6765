-- The variables of the reps under a node, from those of the nodes below it. Internal: no contract of a C function cites it. Definitions only: nothing is assumed.
use Rattle.std.specs.Prelude.{◌≡◌, cond, List, ℕ, ◌^◌, ◌<◌, length, get_or}
use Rattle.std.specs.Int.Bits.{bit_or}
use Rattle.program.specs.Table.{among, node_limit}
use Rattle.round.specs.Round.{reps}
use Rattle.bits.specs.Bits.{has_bit}
use Rattle.words.specs.Word.{item}
use Rattle.words.specs.Trees.{tree_at}
use Rattle.operands.specs.Formed.{binds, part_note, body_note}

-- m's bits are the variables of the reps under node n, in called definitions too
abbrev pub Mask : List ℕ → ℕ → ℕ → Type 0
Mask ws n m = (v : ℕ) → v < 16 → has_bit v m ≡ among v (reps (tree_at ws n))

-- that of each node below n
pub record Masks (ws us : List ℕ) (n : ℕ) : Type 0 where
  pub long : length us ≡ node_limit
  pub mask : (k : ℕ) → k < n → Mask ws k (get_or us k 0)

-- the variable that a word binds, and those of all that it names
abbrev pub own_mask : ℕ → ℕ
own_mask w = cond (binds w) (2 ^ item w) 0

unfoldable pub mask_of : List ℕ → ℕ → ℕ
mask_of us w = bit_or (bit_or (bit_or (bit_or (own_mask w) (body_note 0 us w)) (bit_or (part_note 0 us w 0) (part_note 0 us w 1))) (part_note 0 us w 2)) (part_note 0 us w 3)
