-- What is known of a form and an item by the kind. Assumes nothing.
use mathlib.Core.Path.{◌≡◌, refl}
use mathlib.Core.Bool.{Bool, true, false, cond, ◌&&◌, ◌||◌}
use Prim.Native.Nat.{ℕ, zero, suc, ◌<◌, ◌≤◌}
use native.Mathlib.Omega.{arith}
use lib.ListN.{get_or}
use lib.Dec.{eqb, leb, ltb}
use borrow.Author.Tests.{ltb-true}
use Rattle.shapes.proofs.ByKind.{by_kind, by-item}
use Rattle.program.specs.Table.{kind_count}
use Rattle.shapes.specs.Kinds.{operator_kind, if_kind, number_of}
use Rattle.words.specs.Word.{form}
use Rattle.operands.specs.Formed.{widths, checked_forms}
use Rattle.nodes.specs.declared.Node.{Node}
use Rattle.shapes.specs.Shapes.{lead_of, kids_of, parameter_item, definition_item}
use Rattle.nodes.proofs.Items.{lead-below}
use Rattle.words.specs.Form.{forms, parameter_form, operator_form, if_form, fold_by_form, call_form, field_if_form, field_operator_form, field_forms}
use Rattle.nodes.specs.Ranges.{Ranges}
use Rattle.encode.specs.Parts.{form_by, item_in, item_by, IsWord}

-- ---- by kind: a form is known, a number's or a field's; it has as many operands as the kind has children, a body where the kind has one
abbrev pub width_by : ℕ → ℕ → ℕ
width_by f count = cond (eqb f call_form) count (get_or widths f 0)

pub record Shape (kind count f : ℕ) : Type 0 where
  pub known : ltb f forms ≡ true
  pub number : ltb f field_forms && leb checked_forms f ≡ false
  pub width : width_by f count ≡ kids_of kind count
  pub bodied : eqb f fold_by_form || eqb f call_form ≡ eqb (lead_of kind) definition_item
  pub parameter : eqb f parameter_form ≡ eqb (lead_of kind) parameter_item

pub shape : (kind count : ℕ) (s t : Bool) → kind < kind_count → Shape kind count (form_by kind s t)
shape kind count s t =
    by_kind {P = λ k. Shape k count (form_by k s t)}
    record {
      constant = record { known = refl; number = refl; width = refl; bodied = refl; parameter = refl };
      parameter = record { known = refl; number = refl; width = refl; bodied = refl; parameter = refl };
      variable = record { known = refl; number = refl; width = refl; bodied = refl; parameter = refl };
      operator = sides s;
      sense = record { known = refl; number = refl; width = refl; bodied = refl; parameter = refl };
      rep = record { known = refl; number = refl; width = refl; bodied = refl; parameter = refl };
      if_then = branches t;
      mux = record { known = refl; number = refl; width = refl; bodied = refl; parameter = refl };
      nbr = record { known = refl; number = refl; width = refl; bodied = refl; parameter = refl };
      range = record { known = refl; number = refl; width = refl; bodied = refl; parameter = refl };
      fold = record { known = refl; number = refl; width = refl; bodied = refl; parameter = refl };
      fold_by = record { known = refl; number = refl; width = refl; bodied = refl; parameter = refl };
      call = record { known = refl; number = refl; width = refl; bodied = refl; parameter = refl };
      lag = record { known = refl; number = refl; width = refl; bodied = refl; parameter = refl };
    }
    kind
  where
    sides : (s : Bool) → Shape operator_kind count (cond s field_operator_form operator_form)
    sides true = record { known = refl; number = refl; width = refl; bodied = refl; parameter = refl }
    sides false = record { known = refl; number = refl; width = refl; bodied = refl; parameter = refl }

    branches : (t : Bool) → Shape if_kind count (cond t field_if_form if_form)
    branches true = record { known = refl; number = refl; width = refl; bodied = refl; parameter = refl }
    branches false = record { known = refl; number = refl; width = refl; bodied = refl; parameter = refl }

-- ---- an item fits, and is at most the node's
pub item-fits : (kind i w : ℕ) → Ranges (lead_of kind) i w → (item_by kind i < 16) × (item_by kind i ≤ i)
item-fits kind i w =
    by-item {P = λ l. Ranges l i w → (item_in l i < 16) × (item_in l i ≤ i)}
    record {
      none = λ r. (omega arith, omega arith);
      operator = λ r. (omega (arith, r.operator refl), omega arith);
      parameter = λ r. (omega (arith, r.parameter refl), omega arith);
      variable = λ r. (r.variable refl, omega arith);
      kept = λ r. (r.kept refl, omega arith);
      slot = λ r. ((r.slot refl).1, omega arith);
      constant = λ r. (omega arith, omega arith);
      definition = λ r. (omega arith, omega arith);
    }
    (lead_of kind) (lead-below kind)

-- ---- a word's form, whatever the kind
pub form-is : {x : Node} {b w : ℕ} {s t : Bool} → IsWord x b s t w → form w ≡ form_by (number_of x.kind) s t
form-is {x} {b} {w} {s} {t} r = go (number_of x.kind) refl
  where
    go : (k : ℕ) → (number_of x.kind) ≡ k → form w ≡ form_by (number_of x.kind) s t
    go zero e = rw e (r.is_constant e).is_form
    go (suc k) e = (r.is_parts (λ z. omega arith)).is_form

pub form-fits : (kind : ℕ) (s t : Bool) → kind < kind_count → form_by kind s t < 32
form-fits kind s t h = omega (arith, ltb-true (form_by kind s t) forms (shape kind 0 s t h).known)
