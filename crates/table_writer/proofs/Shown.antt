-- The bytes of fields at examples, by computation. Assumes nothing.
use mathlib.Core.Path.{◌≡◌, refl}
use mathlib.Core.List.{[], ◌∷◌}
use lib.ListN.{take, replicate}
use Rattle.program.specs.Table.{constant}
use Rattle.program.specs.Conditions.{field_bytes, item_bytes}

-- the constant 0x00010203
a_constant : field_bytes 1 (0 ∷ item_bytes constant 0x00010203) ≡ 1 ∷ 0 ∷ 5 ∷ 0 ∷ 0 ∷ 1 ∷ 2 ∷ 3 ∷ []
a_constant = refl

-- a node with two operands; a node with 257 has a length above a byte
a_node : field_bytes 1 (6 ∷ 8 ∷ 9 ∷ []) ≡ 1 ∷ 0 ∷ 3 ∷ 6 ∷ 8 ∷ 9 ∷ []
a_node = refl

long : take 5 (field_bytes 1 (6 ∷ replicate 257 4)) ≡ 1 ∷ 1 ∷ 2 ∷ 6 ∷ 4 ∷ []
long = refl
