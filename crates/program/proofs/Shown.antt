-- What the examples of this crate compute with, and fields as bytes to try them on. Assumes nothing.
use mathlib.Core.Path.{◌≡◌, refl}
use mathlib.Core.List.{List, [], ◌∷◌, ◌++◌}
use Prim.Native.Nat.{ℕ}
use lib.ListN.{length}
use Rattle.number.specs.Number.{operator_of}
use Rattle.wire.specs.Wire.{big_from, fields_in, fields_of}
use Rattle.program.specs.Table.{first_of, among, size, values_in, picked, all_numbers, bodies, beyond, taken_by, outside, unnamed, entry_of, load_from, load}
use Rattle.program.specs.Tree.{tree_of, grown, trees, is_field, sort_broken, misread, spatial, cost}
use Rattle.program.specs.Check.{lowest, offending, sort_offends, misread_in, called, use_offends, tree_rows, Verdict, check}
use Rattle.program.specs.Conditions.{items_bytes, program_bytes, nodes_of, definitions_of, how_often}

unfoldable pub opened : ℕ → ℕ
unfolding operator_of big_from fields_in fields_of first_of among size values_in picked all_numbers bodies beyond taken_by outside unnamed entry_of load_from load tree_of grown trees is_field
    sort_broken misread spatial cost lowest offending sort_offends misread_in called use_offends tree_rows check items_bytes program_bytes nodes_of definitions_of how_often
opened n = n

-- "one-byte tag, two-byte length (high byte first), body", of a body below 256 bytes
abbrev pub field : ℕ → List ℕ → List ℕ
field tag body = tag ∷ 0 ∷ length body ∷ body

-- a node by its body; a definition by its parameter count and body node; the main node
abbrev pub node : List ℕ → List ℕ
node body = field 1 body

abbrev pub define : ℕ → ℕ → List ℕ
define count body = field 2 (count ∷ body ∷ [])

abbrev pub main : ℕ → List ℕ
main n = field 3 (n ∷ [])

-- the constant n, below 256
abbrev pub number : ℕ → List ℕ
number n = node (0 ∷ 0 ∷ 0 ∷ 0 ∷ n ∷ [])

-- seven parameters, nodes 0 to 6, and three definitions with the bodies 0 to 2: 0 with two parameters, 1 with none, 2 with four. Ten fields; nodes 3 to 6 are free
abbrev leaf : List ℕ
leaf = node (1 ∷ 0 ∷ [])

abbrev pub given : List ℕ
given = leaf ++ leaf ++ leaf ++ leaf ++ leaf ++ leaf ++ leaf ++ define 2 0 ++ define 0 1 ++ define 4 2

-- what the check says of these and more fields. Without a main node that is 6 and 0 where the fields pass
abbrev pub behind : List ℕ → Verdict
behind s = check (given ++ s)

abbrev pub pass : Verdict
pass = (6, 0)

-- "Program (i), in hex: `01 0005 00 00000000 01 0002 02 00 01 0005 00 00000001 01 0004 03 00 01 02 01 0004 05 00 00 03 03 0001 04`": accepted
program-i : check (
    0x01 ∷ 0x00 ∷ 0x05 ∷ 0x00 ∷ 0x00 ∷ 0x00 ∷ 0x00 ∷ 0x00
    ∷ 0x01 ∷ 0x00 ∷ 0x02 ∷ 0x02 ∷ 0x00
    ∷ 0x01 ∷ 0x00 ∷ 0x05 ∷ 0x00 ∷ 0x00 ∷ 0x00 ∷ 0x00 ∷ 0x01
    ∷ 0x01 ∷ 0x00 ∷ 0x04 ∷ 0x03 ∷ 0x00 ∷ 0x01 ∷ 0x02
    ∷ 0x01 ∷ 0x00 ∷ 0x04 ∷ 0x05 ∷ 0x00 ∷ 0x00 ∷ 0x03
    ∷ 0x03 ∷ 0x00 ∷ 0x01 ∷ 0x04 ∷ [])
    ≡ (0, 0)
unfolding opened
program-i = refl
