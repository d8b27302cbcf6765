-- The sorts of a node's children, by their words, and whether they are what the node's kind asks for. Internal: no contract of a C function cites it.
-- Definitions only: nothing is assumed.
use Rattle.std.specs.Prelude.{Bool, false, not, cond, ◌&&◌, ◌||◌, List, [], ◌∷◌, ℕ, get_or, leb, ltb, Option, Some, None}
use Rattle.program.specs.Table.{node_limit}
use Rattle.words.specs.Form.{field_forms}
use Rattle.words.specs.Word.{form, word}
use Rattle.nodes.specs.declared.Node.{Node}

abbrev pub differs : Bool → Bool → Bool
differs x y = cond x (not y) y

-- node k is a field
abbrev pub is_field_at : List ℕ → ℕ → Bool
is_field_at ws k = leb field_forms (form (word ws k))

-- child j, of so many, is a field
abbrev pub part_field : List ℕ → ℕ → ℕ → ℕ → Bool
part_field ws kids j k = cond (ltb j kids) (is_field_at ws k) false

abbrev pub flags_in : List ℕ → Node → List Bool
flags_in ws x =
    part_field ws x.kids 0 (get_or x.children 0 0)
    ∷ part_field ws x.kids 1 (get_or x.children 1 0)
    ∷ part_field ws x.kids 2 (get_or x.children 2 0)
    ∷ part_field ws x.kids 3 (get_or x.children 3 0)
    ∷ []

-- by kind, from which of the children are fields
abbrev pub broken_by : ℕ → List Bool → Bool
broken_by kind flags =
    let a : Bool = get_or flags 0 false in
    let b : Bool = get_or flags 1 false in
    let c : Bool = get_or flags 2 false in
    let d : Bool = get_or flags 3 false in
    let fold : Bool = a || not b in
    get_or (
    false  -- constant
    ∷ false  -- parameter
    ∷ false  -- variable
    ∷ false  -- operator
    ∷ a  -- sense
    ∷ (a || b)  -- rep
    ∷ (a || differs b c)  -- if
    ∷ ((a || b) || c)  -- mux
    ∷ a  -- nbr
    ∷ false  -- nbr-range
    ∷ fold  -- fold by operator
    ∷ fold  -- fold by definition
    ∷ (((a || b) || c) || d)  -- call
    ∷ false  -- nbr-lag
    ∷ [])
    kind
    false

-- a node, or the number past them all where there is none
abbrev pub node_or_none : Option ℕ → ℕ
node_or_none None = node_limit
node_or_none (Some n) = n

-- the lowest that offends, where r was that before node n
abbrev pub first_bad : ℕ → ℕ → Bool → ℕ
first_bad r n bad = cond (ltb r node_limit) r (cond bad n node_limit)

-- the lower of r and node k, where that is a field; the lowest of r and of those among ks that are fields
abbrev pub lower_field : List ℕ → ℕ → ℕ → ℕ
lower_field ws k r = cond (is_field_at ws k && ltb k r) k r

unfoldable pub lowest_field : List ℕ → List ℕ → ℕ → ℕ
lowest_field ws [] r = r
lowest_field ws (k ∷ ks) r = lowest_field ws ks (lower_field ws k r)
