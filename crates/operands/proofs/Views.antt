-- The tree of a formed node, one case for each form, with the operands as parts; and how a node is shown to be formed. Assumes nothing.
use mathlib.Core.Path.{◌≡◌, refl, sym, ◌∙◌}
use mathlib.Core.Bool.{Bool, true, false, not, ◌&&◌, true≢false}
use mathlib.Core.List.{List}
use Prim.Native.Nat.{ℕ, zero, suc, ◌≤◌, ◌<◌}
use native.Mathlib.Omega.{arith}
use lib.ListN.{get_or}
use lib.Dec.{eqb, ltb}
use borrow.Author.Tests.{eqb-true, eqb-false, ltb-true, ltb-false}
use Rattle.number.specs.Number.{operator_of}
use Rattle.program.specs.Tree.{constant, parameter, variable, operator, sense, rep, branch, mux, nbr, range, lag, fold_op, fold_def, call}
use Rattle.words.specs.Form.{constant_form, parameter_form, variable_form, operator_form, sense_form, rep_form, if_form, mux_form, fold_by_form, call_form, fold_form, nbr_form, range_form, lag_form, field_if_form}
use Rattle.words.specs.Form.{field_operator_form, field_forms, forms}
use Rattle.words.specs.Word.{form, item, p1, p2, p3, p4, body, count, constant_of, word}
use Rattle.words.specs.Trees.{tree_at}
use Rattle.words.proofs.Trees.{tree-lit, tree-param, tree-var, tree-oper, tree-sense, tree-rep, tree-if, tree-mux, tree-fold, tree-call, tree-foldop, tree-nbr, tree-range, tree-lag}
use Rattle.words.proofs.Trees.{tree-iff, tree-operf}
use Rattle.operands.specs.Formed.{checked_forms, widths, width, operand, part, Formed}

-- ---- of a formed node: one case for each form, with the operands as parts
pub data View (ws : List ℕ) (n w : ℕ) : Type 0 where
  is-constant : form w ≡ constant_form → tree_at ws n ≡ constant (constant_of w) → View ws n w
  is-parameter : form w ≡ parameter_form → tree_at ws n ≡ parameter n (item w) → View ws n w
  is-variable : form w ≡ variable_form → tree_at ws n ≡ variable n (item w) → View ws n w
  is-operator : form w ≡ operator_form → tree_at ws n ≡ operator n (operator_of (item w)) (tree_at ws (operand w 0)) (tree_at ws (operand w 1)) → View ws n w
  is-sense : form w ≡ sense_form → tree_at ws n ≡ sense (tree_at ws (operand w 0)) → View ws n w
  is-rep : form w ≡ rep_form → tree_at ws n ≡ rep (item w) (tree_at ws (operand w 0)) (tree_at ws (operand w 1)) → View ws n w
  is-if : form w ≡ if_form → tree_at ws n ≡ branch (tree_at ws (operand w 0)) (tree_at ws (operand w 1)) (tree_at ws (operand w 2)) → View ws n w
  is-mux : form w ≡ mux_form → tree_at ws n ≡ mux (tree_at ws (operand w 0)) (tree_at ws (operand w 1)) (tree_at ws (operand w 2)) → View ws n w
  is-fold-by : form w ≡ fold_by_form → tree_at ws n ≡ fold_def (tree_at ws (operand w 4)) (tree_at ws (operand w 0)) (tree_at ws (operand w 1)) → View ws n w
  is_call : form w ≡ call_form → tree_at ws n ≡ call (tree_at ws (operand w 4)) (part ws w 0) (part ws w 1) (part ws w 2) (part ws w 3) → View ws n w
  is-fold : form w ≡ fold_form → tree_at ws n ≡ fold_op n (operator_of (item w)) (tree_at ws (operand w 0)) (tree_at ws (operand w 1)) → View ws n w
  is-nbr : form w ≡ nbr_form → tree_at ws n ≡ nbr (item w) (tree_at ws (operand w 0)) → View ws n w
  is-range : form w ≡ range_form → tree_at ws n ≡ range (item w) → View ws n w
  is-lag : form w ≡ lag_form → tree_at ws n ≡ lag (item w) → View ws n w
  is-field-if : form w ≡ field_if_form → tree_at ws n ≡ branch (tree_at ws (operand w 0)) (tree_at ws (operand w 1)) (tree_at ws (operand w 2)) → View ws n w
  is-field-operator : form w ≡ field_operator_form → tree_at ws n ≡ operator n (operator_of (item w)) (tree_at ws (operand w 0)) (tree_at ws (operand w 1)) → View ws n w

pub width_of : (w k : ℕ) → form w ≡ k → eqb k call_form ≡ false → width w ≡ get_or widths k 0
unfolding width
width_of w k h e = rw (h, e)

pub width-call : (w : ℕ) → form w ≡ call_form → width w ≡ count w
unfolding width
width-call w h = rw h

-- where form k is no call and has an operand j
abbrev has : ℕ → ℕ → Bool
has k j = not (eqb k call_form) && (ltb j 4 && ltb j (get_or widths k 0))

module _ {ws : List ℕ} {n : ℕ} (f : Formed ws n) where
  op : (j k : ℕ) → form (word ws n) ≡ k → has k j ≡ true → operand (word ws n) j < n
  op j k h e = go (eqb k call_form) (ltb j 4) (ltb j (get_or widths k 0)) refl refl refl e
    where
      go : (a b c : Bool) → eqb k call_form ≡ a → ltb j 4 ≡ b → ltb j (get_or widths k 0) ≡ c → not a && (b && c) ≡ true → operand (word ws n) j < n
      go false true true p q r z = f.operands j (ltb-true j 4 q) (rw (width_of (word ws n) k h p) (ltb-true j (get_or widths k 0) r))
      go false true false p q r z = absurd (true≢false (sym z))
      go false false c p q r z = absurd (true≢false (sym z))
      go true b c p q r z = absurd (true≢false (sym z))

  arg : (j : ℕ) → j < 4 → form (word ws n) ≡ call_form → j < count (word ws n) → operand (word ws n) j < n
  arg j l h c = f.operands j l (rw (width-call (word ws n) h) c)

  -- the form is k, or above
  step : (k : ℕ) → k ≤ form (word ws n) → (form (word ws n) ≡ k → View ws n (word ws n)) → (k < form (word ws n) → View ws n (word ws n)) → View ws n (word ws n)
  step k l here above = go (eqb (form (word ws n)) k) refl
    where
      go : (b : Bool) → eqb (form (word ws n)) k ≡ b → View ws n (word ws n)
      go true e = here (eqb-true (form (word ws n)) k e)
      go false e = let d = eqb-false (form (word ws n)) k e in above (omega arith)

  field : fold_form < form (word ws n) → field_forms ≤ form (word ws n)
  field l = go (ltb (form (word ws n)) field_forms) refl
    where
      go : (b : Bool) → ltb (form (word ws n)) field_forms ≡ b → field_forms ≤ form (word ws n)
      go true e = absurd (omega (arith, f.number (ltb-true (form (word ws n)) field_forms e)))
      go false e = ltb-false (form (word ws n)) field_forms e

  pub view : View ws n (word ws n)
  view =
      step constant_form (omega arith) (λ h. is-constant h (tree-lit ws n h)) λ l.
      step parameter_form l (λ h. is-parameter h (tree-param ws n h)) λ l.
      step variable_form l (λ h. is-variable h (tree-var ws n h)) λ l.
      step operator_form l (λ h. is-operator h (tree-oper ws n h (op 0 operator_form h refl) (op 1 operator_form h refl))) λ l.
      step sense_form l (λ h. is-sense h (tree-sense ws n h (op 0 sense_form h refl))) λ l.
      step rep_form l (λ h. is-rep h (tree-rep ws n h (op 0 rep_form h refl) (op 1 rep_form h refl))) λ l.
      step if_form l (λ h. is-if h (tree-if ws n h (op 0 if_form h refl) (op 1 if_form h refl) (op 2 if_form h refl))) λ l.
      step mux_form l (λ h. is-mux h (tree-mux ws n h (op 0 mux_form h refl) (op 1 mux_form h refl) (op 2 mux_form h refl))) λ l.
      step fold_by_form l (λ h. is-fold-by h (tree-fold ws n h (f.folds h) (op 0 fold_by_form h refl) (op 1 fold_by_form h refl))) λ l.
      step call_form l
      (λ h. is_call h
      (tree-call ws n h (f.calls h) (arg 0 (omega arith) h) (arg 1 (omega arith) h) (arg 2 (omega arith) h) (arg 3 (omega arith) h) ∙ simp (width-call (word ws n) h)))
      λ l.
      step fold_form l (λ h. is-fold h (tree-foldop ws n h (op 0 fold_form h refl) (op 1 fold_form h refl))) λ l.
      step nbr_form (field l) (λ h. is-nbr h (tree-nbr ws n h (op 0 nbr_form h refl))) λ l.
      step range_form l (λ h. is-range h (tree-range ws n h)) λ l.
      step lag_form l (λ h. is-lag h (tree-lag ws n h)) λ l.
      step field_if_form l (λ h. is-field-if h (tree-iff ws n h (op 0 field_if_form h refl) (op 1 field_if_form h refl) (op 2 field_if_form h refl))) λ l.
      let h : form (word ws n) ≡ field_operator_form = omega (arith, f.known) in
      is-field-operator h (tree-operf ws n h (op 0 field_operator_form h refl) (op 1 field_operator_form h refl))

-- a node is formed, from its operands one by one
pub formed : {ws : List ℕ} {n : ℕ} → form (word ws n) < forms → (form (word ws n) < field_forms → form (word ws n) < checked_forms)
    → (0 < width (word ws n) → p1 (word ws n) < n) → (1 < width (word ws n) → p2 (word ws n) < n)
    → (2 < width (word ws n) → p3 (word ws n) < n) → (3 < width (word ws n) → p4 (word ws n) < n)
    → (form (word ws n) ≡ fold_by_form → body (word ws n) < n) → (form (word ws n) ≡ call_form → body (word ws n) < n) → Formed ws n
formed {ws} {n} known number h1 h2 h3 h4 folds calls =
    record { known = known; number = number; operands = go; folds = folds; calls = calls }
  where
    go : (j : ℕ) → j < 4 → j < width (word ws n) → operand (word ws n) j < n
    go zero l h = h1 h
    go (suc zero) l h = h2 h
    go (suc (suc zero)) l h = h3 h
    go (suc (suc (suc zero))) l h = h4 h
    go (suc (suc (suc (suc j)))) l h = absurd (omega arith)
