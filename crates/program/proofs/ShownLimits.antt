-- The limits of the table, 256 nodes and 32 definitions, by computation. Assumes nothing.
use mathlib.Core.Path.{◌≡◌, refl}
use mathlib.Core.List.{List, [], ◌∷◌, ◌++◌, map}
use Prim.Native.Nat.{ℕ, zero, suc}
use lib.ListN.{replicate}
use Rattle.wire.specs.Wire.{fields_of}
use Rattle.program.specs.Table.{Table, first_of, node_rows, definition_rows, main_rows, load_from}
use Rattle.program.specs.Check.{check}
use Rattle.program.proofs.Shown.{opened, field, node, define, pass}

-- k parameters
abbrev parameters : ℕ → List ℕ
parameters zero = []
parameters (suc k) = node (1 ∷ 0 ∷ []) ++ parameters k

-- k definitions, of the nodes k - 1 down to 0
abbrev definitions : ℕ → List ℕ
definitions zero = []
definitions (suc k) = define 0 k ++ definitions k

-- "numbered from 0 by appearance, at most 256": the 256th passes, the 257th does not
node-257 : check (parameters 257) ≡ (2, 256)
unfolding opened
node-257 = refl

-- it is 2 before its kind, its length, its range and its names; in a table of 255 nodes the same bodies get what they deserve
unfoldable pub holding : ℕ → Table
holding n = record { nodes = replicate n (record { kind = 1; values = 0 ∷ [] }); definitions = [] }

abbrev rows : ℕ → List ℕ
rows n = map first_of (node_rows (holding n) 1 (0 ∷ []) ∷ node_rows (holding n) 14 [] ∷ node_rows (holding n) 1 [] ∷ node_rows (holding n) 1 (4 ∷ []) ∷ node_rows (holding n) 12 (0 ∷ []) ∷ [])

two-comes-first : (rows 256 ≡ replicate 5 2) × (rows 255 ≡ 0 ∷ 3 ∷ 1 ∷ 3 ∷ 4 ∷ [])
unfolding opened holding
two-comes-first = (refl, refl)

-- without a kind byte it is 1, whatever the table (D8)
node-257-empty : (load_from 256 (holding 256) (fields_of (node []))).number ≡ 1
unfolding opened holding
node-257-empty = refl

-- "numbered from 0, at most 32": the 32nd passes, the 33rd does not
definition-33 : (check (parameters 33 ++ definitions 32) ≡ pass) × (check (parameters 33 ++ definitions 33) ≡ (2, 65))
unfolding opened
definition-33 = (refl, refl)

-- it is 2 before its length, count and body, also without a byte (D8)
defining : ℕ → Table
defining n = record { nodes = replicate 40 (record { kind = 1; values = 0 ∷ [] }); definitions = replicate n (record { count = 0; body = 0 }) }

abbrev definition-row : ℕ → List ℕ
definition-row n = map first_of (definition_rows (defining n) (0 ∷ 32 ∷ []) ∷ definition_rows (defining n) [] ∷ definition_rows (defining n) (5 ∷ 32 ∷ [])
    ∷ definition_rows (defining n) (0 ∷ 40 ∷ []) ∷ definition_rows (defining n) (0 ∷ 0 ∷ []) ∷ [])

two-comes-first-there : (definition-row 32 ≡ replicate 5 2) × (definition-row 31 ≡ 0 ∷ 1 ∷ 3 ∷ 4 ∷ 5 ∷ [])
unfolding opened defining
two-comes-first-there = (refl, refl)

-- other fields without a byte are 1 there
without-a-byte : map (λ tag. (load_from 65 (defining 32) (fields_of (field tag []))).number) (0 ∷ 1 ∷ 2 ∷ 3 ∷ 4 ∷ []) ≡ 1 ∷ 1 ∷ 2 ∷ 1 ∷ 1 ∷ []
unfolding opened defining
without-a-byte = refl

-- "node and definition numbers have none" (no range): definition 31 is called and folds, 32 is not given
definition-31 : (first_of (node_rows (defining 32) 12 (31 ∷ [])) ≡ 0) × (first_of (node_rows (defining 32) 11 (31 ∷ 1 ∷ 2 ∷ [])) ≡ 0) × (first_of (node_rows (defining 32) 12 (32 ∷ [])) ≡ 4)
unfolding opened defining
definition-31 = (refl, refl, refl)

-- the limits are of nodes and of definitions each by themselves: the 256th node behind 32 definitions, the 32nd definition and the main node behind 256 nodes; any of them may be named
abbrev holds : ℕ → ℕ → Table
holds n d = record { nodes = replicate n (record { kind = 1; values = 0 ∷ [] }); definitions = replicate d (record { count = 0; body = 0 }) }

at-the-limits : map first_of (node_rows (holds 255 32) 1 (0 ∷ []) ∷ node_rows (holds 255 32) 4 (254 ∷ []) ∷ definition_rows (holds 256 31) (0 ∷ 254 ∷ []) ∷ main_rows (holds 256 32) (255 ∷ [])
    ∷ node_rows (holds 255 32) 4 (255 ∷ []) ∷ main_rows (holds 255 32) (255 ∷ []) ∷ []) ≡ 0 ∷ 0 ∷ 0 ∷ 0 ∷ 4 ∷ 4 ∷ []
unfolding opened
at-the-limits = refl
