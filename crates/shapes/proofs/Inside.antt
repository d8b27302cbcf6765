-- The range of each first item: whether an item, or a constant, is in it.
use mathlib.Core.Path.{◌≡◌, refl}
use mathlib.Core.Bool.{Bool, true, false}
use Prim.Native.Nat.{ℕ, ◌≤◌, ◌<◌}
use borrow.Author.Tests.{lt-ltb, le-ltb, eq-eqb, ne_eqb}
use Rattle.shapes.specs.Shapes.{no_item, operator_item, parameter_item, variable_item, kept_item, slot_item, constant_item, definition_item, inside}

pub record Inside (l i c : ℕ) (t : Bool) : Type 0 where
  pub is : inside l i c ≡ t

module _ {i c : ℕ} where
  pub operator-out : 9 ≤ i → Inside operator_item i c false
  unfolding inside
  operator-out h = record { is = le-ltb i 9 h }

  pub operator-in : i < 9 → Inside operator_item i c true
  unfolding inside
  operator-in h = record { is = lt-ltb i 9 h }

  pub parameter-out : 4 ≤ i → Inside parameter_item i c false
  unfolding inside
  parameter-out h = record { is = le-ltb i 4 h }

  pub parameter-in : i < 4 → Inside parameter_item i c true
  unfolding inside
  parameter-in h = record { is = lt-ltb i 4 h }

  pub variable-out : 16 ≤ i → Inside variable_item i c false
  unfolding inside
  variable-out h = record { is = le-ltb i 16 h }

  pub variable-in : i < 16 → Inside variable_item i c true
  unfolding inside
  variable-in h = record { is = lt-ltb i 16 h }

  pub kept_out : 16 ≤ i → Inside kept_item i c false
  unfolding inside
  kept_out h = record { is = le-ltb i 16 h }

  pub kept_in : i < 16 → Inside kept_item i c true
  unfolding inside
  kept_in h = record { is = lt-ltb i 16 h }

  pub slot-none : i ≡ 0 → Inside slot_item i c false
  unfolding inside
  slot-none e = record { is = rw e }

  pub slot-out : (i ≡ 0 → ⊥) → 16 ≤ i → Inside slot_item i c false
  unfolding inside
  slot-out z h = record { is = rw (ne_eqb i 0 z) (le-ltb i 16 h) }

  pub slot-in : (i ≡ 0 → ⊥) → i < 16 → Inside slot_item i c true
  unfolding inside
  slot-in z h = record { is = rw (ne_eqb i 0 z) (lt-ltb i 16 h) }

  pub constant-out : c ≡ 0x80000000 → Inside constant_item i c false
  unfolding inside
  constant-out e = record { is = rw (eq-eqb c 0x80000000 e) }

  pub constant-in : (c ≡ 0x80000000 → ⊥) → Inside constant_item i c true
  unfolding inside
  constant-in z = record { is = rw (ne_eqb c 0x80000000 z) }

  pub no-item : Inside no_item i c true
  unfolding inside
  no-item = record { is = refl }

  pub definition-in : Inside definition_item i c true
  unfolding inside
  definition-in = record { is = refl }
