-- A node without children is not broken. Assumes nothing.
use mathlib.Core.Path.{◌≡◌, refl}
use mathlib.Core.Bool.{false}
use Prim.Native.Nat.{ℕ, ◌<◌}
use native.Mathlib.Omega.{arith}
use Rattle.program.specs.Table.{kind_count}
use Rattle.shapes.specs.Shapes.{kids_of}
use Rattle.shapes.proofs.ByKind.{by_kind}
use mathlib.Core.List.{[], ◌∷◌}
use Rattle.sorts.specs.Sorts.{broken_by}

pub no_fields : (kind count : ℕ) → kind < kind_count → kids_of kind count ≡ 0 → broken_by kind (false ∷ false ∷ false ∷ false ∷ []) ≡ false
no_fields kind count =
    by_kind {P = λ k. kids_of k count ≡ 0 → broken_by k (false ∷ false ∷ false ∷ false ∷ []) ≡ false}
    record {
      constant = λ e. refl;
      parameter = λ e. refl;
      variable = λ e. refl;
      operator = λ e. refl;
      sense = λ e. refl;
      rep = λ e. refl;
      if_then = λ e. refl;
      mux = λ e. refl;
      nbr = λ e. refl;
      range = λ e. refl;
      fold = λ e. absurd (omega arith);
      fold_by = λ e. absurd (omega arith);
      call = λ e. refl;
      lag = λ e. refl;
    }
    kind
