-- The range of a node's first item, by what it is.
use Rattle.std.specs.Prelude.{◌≡◌, ℕ, ◌<◌}
use Rattle.shapes.specs.Shapes.{operator_item, parameter_item, variable_item, kept_item, slot_item, constant_item}

-- none and a definition have no range
pub record Ranges (lead item word : ℕ) : Type 0 where
  pub operator : lead ≡ operator_item → item < 9
  pub parameter : lead ≡ parameter_item → item < 4
  pub variable : lead ≡ variable_item → item < 16
  pub kept : lead ≡ kept_item → item < 16
  pub slot : lead ≡ slot_item → (0 < item) × (item < 16)
  -- not the mark
  pub constant : lead ≡ constant_item → word ≡ 0x80000000 → ⊥
