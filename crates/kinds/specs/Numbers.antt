-- The refusals of a field that is a node, near the code. Internal: `proofs/RefusalRows.antt` of refusal_rows proves that they are those of program's rows.
use Rattle.std.specs.Prelude.{Bool, false, cond, ◌&&◌, ◌||◌, List, ℕ, ◌+◌, length, get_or, drop, eqb, leb}
use Rattle.shapes.specs.Kinds.{call_kind}
use Rattle.program.specs.Table.{beyond, node_limit, kind_count}
use Rattle.shapes.specs.Shapes.{lead_of, width_of, kids_of, inside, kept_item, slot_item, definition_item}
use Rattle.nodes.specs.Body.{item_of, constant_of}
use Rattle.taken.specs.Taken.{taken_in}
use Rattle.kinds.specs.Taken.{Taken}

unfoldable pub call_number : ℕ → List ℕ → ℕ → ℕ
call_number kind s defs = cond (eqb kind call_kind) (cond (eqb (length s) 0) 1 (cond (leb defs (get_or s 0 0)) 4 0)) 0

unfoldable pub item_taken : ℕ → ℕ → List Bool → List Bool → Bool
item_taken lead item slots kept = eqb lead slot_item && get_or slots item false || eqb lead kept_item && get_or kept item false

-- the rows of a node of the right length: its first item, its constant, its children
unfoldable pub body_number : ℕ → ℕ → ℕ → List ℕ → ℕ → ℕ → Taken → ℕ
body_number lead item constant ks n defs m =
    cond (inside lead item constant)
    (cond (beyond n ks) 4
    (cond (eqb lead definition_item && leb defs item) 4
    (cond (taken_in m.named ks) 5
    (cond (item_taken lead item m.slots m.kept) 5 0))))
    3

abbrev pub or_else : ℕ → ℕ → ℕ
or_else a b = cond (eqb a 0) b a

-- the rows before the body's
unfoldable pub shape_number : ℕ → List ℕ → ℕ → ℕ → ℕ → ℕ
shape_number kind s n defs count =
    cond (leb node_limit n) 2
    (cond (leb kind_count kind) 3
    (or_else (call_number kind s defs)
    (cond (eqb (length s) (width_of kind + kids_of kind count)) 0 1)))

unfoldable pub node_number : ℕ → List ℕ → ℕ → ℕ → ℕ → Taken → ℕ
node_number kind s n defs count m =
    or_else (shape_number kind s n defs count)
    (body_number (lead_of kind) (item_of (lead_of kind) s) (constant_of (lead_of kind) s) (drop (width_of kind) s) n defs m)

-- the rows of a body, which begins with its kind
abbrev pub read_number : List ℕ → ℕ → ℕ → List ℕ → Taken → ℕ
read_number b n defs counts m =
    cond (eqb (length b) 0) 1 (node_number (get_or b 0 0) (drop 1 b) n defs (get_or counts (get_or (drop 1 b) 0 0) 0) m)
