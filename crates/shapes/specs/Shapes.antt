-- What a kind asks for, near the code. Internal: `proofs/Items.antt` of nodes proves that it says what program's table of kinds says. Definitions only: nothing is
-- assumed.
use Rattle.std.specs.Prelude.{Bool, true, false, not, cond, List, [], ◌∷◌, map, ℕ, get_or, eqb, ltb}

-- how many numbers a byte can be: the length of what any byte may index
abbrev pub byte_values : ℕ
byte_values = 256

-- what may stand first in a node's body, before its children
abbrev pub no_item : ℕ
no_item = 0

abbrev pub operator_item : ℕ
operator_item = 1

abbrev pub parameter_item : ℕ
parameter_item = 2

abbrev pub variable_item : ℕ
variable_item = 3

-- a variable that a rep keeps
abbrev pub kept_item : ℕ
kept_item = 4

abbrev pub slot_item : ℕ
slot_item = 5

abbrev pub constant_item : ℕ
constant_item = 6

abbrev pub definition_item : ℕ
definition_item = 7

-- from here on there is none
abbrev pub item_count : ℕ
item_count = 8

-- how many bytes it has
abbrev pub item_width : ℕ → ℕ
item_width lead = get_or (0 ∷ 1 ∷ 1 ∷ 1 ∷ 1 ∷ 1 ∷ 4 ∷ 1 ∷ []) lead 0

-- the table of kinds: what stands first, how many children follow; a call has those of its definition
abbrev pub shapes : ℕ → List (ℕ × ℕ)
shapes count =
    (constant_item, 0)  -- constant
    ∷ (parameter_item, 0)  -- parameter
    ∷ (variable_item, 0)  -- variable
    ∷ (operator_item, 2)  -- operator
    ∷ (no_item, 1)  -- sense
    ∷ (kept_item, 2)  -- rep
    ∷ (no_item, 3)  -- if
    ∷ (no_item, 3)  -- mux
    ∷ (slot_item, 1)  -- nbr
    ∷ (slot_item, 0)  -- nbr-range
    ∷ (operator_item, 2)  -- fold by operator
    ∷ (definition_item, 2)  -- fold by definition
    ∷ (definition_item, count)  -- call
    ∷ (slot_item, 0)  -- nbr-lag
    ∷ []

abbrev pub leads : List ℕ
leads = map (λ (p : ℕ × ℕ). p.0) (shapes 0)

abbrev pub kid_counts : ℕ → List ℕ
kid_counts count = map (λ (p : ℕ × ℕ). p.1) (shapes count)

-- by kind: what stands first, how many bytes that has, how many children follow
abbrev pub lead_of : ℕ → ℕ
lead_of kind = get_or leads kind no_item

abbrev pub width_of : ℕ → ℕ
width_of kind = item_width (lead_of kind)

abbrev pub kids_of : ℕ → ℕ → ℕ
kids_of kind count = get_or (kid_counts count) kind 0

-- whether an item, or a constant, is in its range
unfoldable pub inside : ℕ → ℕ → ℕ → Bool
inside lead item constant =
    cond (eqb lead operator_item) (ltb item 9)
    (cond (eqb lead parameter_item) (ltb item 4)
    (cond (eqb lead variable_item) (ltb item 16)
    (cond (eqb lead kept_item) (ltb item 16)
    (cond (eqb lead slot_item) (cond (eqb item 0) false (ltb item 16))
    (cond (eqb lead constant_item) (not (eqb constant 0x80000000)) true)))))
