-- What a node's tree reads, in 32 bits: parameters in the low sixteen, in the high sixteen variables that no rep of the tree binds. Internal: no contract of a C function
-- cites it. Definitions only: nothing is assumed.
use Rattle.std.specs.Prelude.{◌≡◌, true, cond, List, [], ℕ, ◌+◌, ◌-◌, ◌/◌, ◌^◌, ◌<◌, ◌≤◌, length, get_or, eqb}
use Rattle.std.specs.Int.Bits.{bit_and, bit_or}
use Rattle.program.specs.Table.{among, node_limit}
use Rattle.program.specs.Tree.{Expr, misread}
use Rattle.bits.specs.Bits.{has_bit, all_bits}
use Rattle.words.specs.Form.{parameter_form}
use Rattle.words.specs.Word.{form, item}
use Rattle.words.specs.Trees.{tree_at}
use Rattle.operands.specs.Formed.{read_set, binds, part_note}

-- the bit of variable 0
abbrev pub variables_at : ℕ
variables_at = 16

-- what m reads may be read: with count parameters, under the updates of the reps of kept
pub record Allowed (count : ℕ) (kept : List ℕ) (m : ℕ) : Type 0 where
  pub parameter : (p : ℕ) → p < 16 → has_bit p m ≡ true → p < count
  pub variable : (v : ℕ) → v < 16 → has_bit (variables_at + v) m ≡ true → among v kept ≡ true

-- wherever m may be read, the tree e misreads nothing
pub record Tells (e : Expr) (m : ℕ) : Type 0 where
  pub none : (count : ℕ) (kept : List ℕ) → Allowed count kept m → misread count kept e ≡ []

-- noted for each node below n
pub record Notes (ws us : List ℕ) (n : ℕ) : Type 0 where
  pub long : length us ≡ node_limit
  pub told : (k : ℕ) → k < n → Tells (tree_at ws k) (get_or us k 0)

-- a body that is noted reads only parameters below a count
pub record Within (us : List ℕ) (last body count : ℕ) : Type 0 where
  pub noted : body ≤ last
  pub few : count < 16
  pub low : get_or us body 0 / 2 ^ count ≡ 0

-- main's tree and those of the definitions misread nothing
pub record Clean (ws counts bodies : List ℕ) (definitions main : ℕ) : Type 0 where
  pub root : misread 0 [] (tree_at ws main) ≡ []
  pub body : (d : ℕ) → d < definitions → misread (get_or counts d 0) [] (tree_at ws (get_or bodies d 0)) ≡ []

-- the forms that read something of themselves: of a parameter, else of a variable
abbrev pub own_set : ℕ
own_set = 2 ^ parameter_form + read_set

abbrev pub own_reads : ℕ → ℕ
own_reads w = cond (eqb (form w) parameter_form) (2 ^ item w) (2 ^ (variables_at + item w))

-- of operand 1, in which the node's variable may be read where it binds one
abbrev pub inner_reads : ℕ → ℕ → ℕ
inner_reads w m = cond (binds w) (bit_and m (all_bits - 2 ^ (variables_at + item w))) m

abbrev pub parts_of : List ℕ → ℕ → ℕ
parts_of us w = bit_or (bit_or (bit_or (part_note 0 us w 0) (inner_reads w (part_note 0 us w 1))) (part_note 0 us w 2)) (part_note 0 us w 3)

unfoldable pub reads_of : List ℕ → ℕ → ℕ
reads_of us w = cond (has_bit (form w) own_set) (own_reads w) (parts_of us w)
