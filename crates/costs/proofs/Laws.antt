-- The cost of a node, from those of the nodes that it names, counted up to the cap. Assumes nothing.
use mathlib.Core.Path.{◌≡◌, refl, sym, ◌∙◌}
use mathlib.Core.Bool.{true, false}
use mathlib.Core.List.{List}
use Prim.Native.Nat.{ℕ, zero, suc, ◌+◌, ◌*◌, ◌≤◌}
use native.Mathlib.Nat.{add-zero}
use Rattle.std.proofs.Common.{Option, None}
use Rattle.std.proofs.lemmas.Option.{none-some}
use Rattle.std.proofs.Math.ListN.{get_or, replicate}
use borrow.Author.Tests.{ne_eqb, lt-ltb, le-ltb}
use Rattle.program.specs.Tree.{cost}
use Rattle.words.specs.Form.{operator_form, fold_by_form}
use Rattle.words.specs.Word.{form, word}
use Rattle.words.specs.Trees.{tree_at}
use Rattle.operands.specs.Formed.{width, is_alone, has_body, part, Formed, Operand, Body}
use Rattle.operands.proofs.Views.{View, is-constant, is-parameter, is-variable, is-operator, is-sense, is-rep, is-if, is-mux, is-fold-by, is_call, is-fold, is-nbr, is-range, is-lag, is-field-if}
use Rattle.operands.proofs.Views.{is-field-operator, view}
use Rattle.operands.proofs.Alone.{alone_of}
use Rattle.costs.specs.Costs.{body_cost, Noted}

all-cost : {ws : List ℕ} {n w : ℕ} → View ws n w
    → cost (tree_at ws n) ≡ 1 + cost (part ws w 0) + cost (part ws w 1) + cost (part ws w 2) + cost (part ws w 3) + body_cost ws w
unfolding cost width body_cost
all-cost (is-constant h e) = rw (e, h)
all-cost (is-parameter h e) = rw (e, h)
all-cost (is-variable h e) = rw (e, h)
all-cost (is-operator h e) = rw (e, h) (simp add-zero)
all-cost (is-sense h e) = rw (e, h) (simp add-zero)
all-cost (is-rep h e) = rw (e, h) (simp add-zero)
all-cost (is-if h e) = rw (e, h) (simp add-zero)
all-cost (is-mux h e) = rw (e, h) (simp add-zero)
all-cost (is-fold-by h e) = rw (e, h) (simp add-zero)
all-cost (is_call h e) = rw (e, h)
all-cost (is-fold h e) = rw (e, h) (simp add-zero)
all-cost (is-nbr h e) = rw (e, h) (simp add-zero)
all-cost (is-range h e) = rw (e, h)
all-cost (is-lag h e) = rw (e, h)
all-cost (is-field-if h e) = rw (e, h) (simp add-zero)
all-cost (is-field-operator h e) = rw (e, h) (simp add-zero)

-- ---- what a body adds
module _ (ws : List ℕ) (n : ℕ) where
  pub body_none : has_body (word ws n) ≡ false → body_cost ws (word ws n) ≡ 0
  unfolding body_cost
  body_none h = rw h

  pub body_fold : {b : ℕ} → Body ws n b → form (word ws n) ≡ fold_by_form → body_cost ws (word ws n) ≡ 15 * cost (tree_at ws b)
  unfolding body_cost
  body_fold {b} m h = rw (m.has, h, ← m.is)

  pub body_call : {b : ℕ} → Body ws n b → (form (word ws n) ≡ fold_by_form → ⊥) → body_cost ws (word ws n) ≡ cost (tree_at ws b)
  unfolding body_cost
  body_call {b} m h = rw (m.has, ne_eqb (form (word ws n)) fold_by_form h, ← m.is)

-- ---- an operand
module _ (ws : List ℕ) (n j : ℕ) where
  pub part_none : width (word ws n) ≤ j → cost (part ws (word ws n) j) ≡ 0
  unfolding cost
  part_none h = rw (le-ltb j (width (word ws n)) h)

  pub part_some : {m : ℕ} → Operand ws n j m → part ws (word ws n) j ≡ tree_at ws m
  part_some m = rw (lt-ltb j (width (word ws n)) m.has, ← m.is)

-- ---- a node
module _ {ws : List ℕ} {n : ℕ} (f : Formed ws n) where
  pub node_cost : cost (tree_at ws n)
      ≡ 1 + cost (part ws (word ws n) 0) + cost (part ws (word ws n) 1) + cost (part ws (word ws n) 2) + cost (part ws (word ws n) 3) + body_cost ws (word ws n)
  node_cost = all-cost (view f)

  pub operator_cost : form (word ws n) ≡ operator_form → cost (tree_at ws n) ≡ 1 + cost (part ws (word ws n) 0) + cost (part ws (word ws n) 1)
  unfolding cost width body_cost
  operator_cost h = node_cost ∙ rw h (simp add-zero)

  -- one that names none
  pub alone_cost : is_alone (word ws n) ≡ true → cost (tree_at ws n) ≡ 1
  unfolding cost body_cost
  alone_cost h = let l = alone_of (word ws n) h in node_cost ∙ rw (l.narrow, l.bodiless)

-- ---- nothing is noted yet
nones : (n k : ℕ) → get_or {A = Option ℕ} (replicate n None) k None ≡ None
nones zero k = refl
nones (suc n) zero = refl
nones (suc n) (suc k) = nones n k

pub none_noted : (ws : List ℕ) (n : ℕ) → Noted ws (replicate n None)
none_noted ws n = record { note = λ k c e. absurd (none-some c (sym (nones n k) ∙ e)) }
