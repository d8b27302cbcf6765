-- Where no sort is broken, the words are as the evaluator requires. Assumes nothing.
use mathlib.Core.Path.{◌≡◌, refl, sym, ap, ◌∙◌}
use mathlib.Core.Bool.{Bool, true, false, not, cond, ◌||◌, true≢false}
use mathlib.Core.List.{List}
use Prim.Native.Nat.{ℕ, ◌≤◌, ◌<◌}
use native.Mathlib.Omega.{arith}
use lib.ListN.{get_or}
use lib.Dec.{eqb, leb, ltb}
use borrow.Author.Tests.{leb-true, leb-false, lt-leb, not-false}
use Rattle.program.specs.Table.{node_limit}
use Rattle.program.specs.Tree.{is_field, sort_broken}
use Rattle.decide.proofs.Picks.{neither}
use Rattle.words.specs.Form.{parameter_form, operator_form, sense_form, rep_form, if_form, mux_form, fold_by_form, call_form, fold_form, nbr_form, field_if_form, field_operator_form, field_forms}
use Rattle.words.specs.Word.{form, item, p1, p2, p3, p4, body, count, word}
use Rattle.words.specs.Trees.{arg_of, tree_at}
use Rattle.words.specs.Sound.{Num, Fld, Arg, Sorted}
use Rattle.words.proofs.Trees.{tree-oper, tree-sense, tree-rep, tree-if, tree-mux, tree-fold, tree-call, tree-foldop, tree-nbr, tree-iff, tree-operf}
use Rattle.operands.specs.Formed.{widths, operand, AllFormed}
use Rattle.operands.proofs.Views.{width_of}

-- an if's branches have one sort
one-sort : (a b : Bool) → not (cond a b (not b)) ≡ false → b ≡ a
one-sort true true e = refl
one-sort true false e = absurd (true≢false e)
one-sort false true e = absurd (true≢false e)
one-sort false false e = refl

-- of an or that holds with its first side false, the second holds
other : (a b : Bool) → a || b ≡ true → a ≡ false → b ≡ true
other true b e f = absurd (true≢false f)
other false b e f = e

-- the sorts of a node's operands, and of its body, are known by their words
pub record Known (ws : List ℕ) (n : ℕ) : Type 0 where
  pub fields : (k : ℕ) → k < node_limit → leb field_forms (form (word ws k)) ≡ is_field (tree_at ws k)
  pub whole : sort_broken (tree_at ws n) ≡ false
  pub folds : form (word ws n) ≡ fold_by_form → is_field (tree_at ws (body (word ws n))) ≡ false
  pub calls : form (word ws n) ≡ call_form → is_field (tree_at ws (body (word ws n))) ≡ false
  -- an argument that is not there is some node before n all the same
  pub absent : form (word ws n) ≡ call_form → (p1 (word ws n) < n) × (p2 (word ws n) < n) × (p3 (word ws n) < n) × (p4 (word ws n) < n)

module _ (ws : List ℕ) (n : ℕ) (l : n < node_limit) (all : AllFormed ws) (s : Known ws n) where
  num : (k : ℕ) → k < n → is_field (tree_at ws k) ≡ false → Num ws n k
  num k h e =
      let m : k < node_limit = omega arith in
      (h, omega (arith, (all.node k m).number (leb-false field_forms (form (word ws k)) (s.fields k m ∙ e))))

  fld : (k : ℕ) → k < n → is_field (tree_at ws k) ≡ true → Fld ws n k
  fld k h e = (h, leb-true field_forms (form (word ws k)) (s.fields k (omega arith) ∙ e))

  op : (j m : ℕ) → form (word ws n) ≡ m → eqb m call_form ≡ false → j < 4 → j < get_or widths m 0 → operand (word ws n) j < n
  op j m h e a b = (all.node n l).operands j a (rw (width_of (word ws n) m h e) b)

  -- the node's own sort
  own : (m : ℕ) → form (word ws n) ≡ m → is_field (tree_at ws n) ≡ leb field_forms m
  own m h = sym (s.fields n l) ∙ ap (leb field_forms) h

  oper : form (word ws n) ≡ operator_form → Num ws n (p1 (word ws n)) × Num ws n (p2 (word ws n))
  unfolding is_field
  oper h =
      let a : p1 (word ws n) < n = op 0 operator_form h refl (omega arith) (omega arith) in
      let b : p2 (word ws n) < n = op 1 operator_form h refl (omega arith) (omega arith) in
      let q = neither _ _ (sym (ap is_field (tree-oper ws n h a b)) ∙ own operator_form h) in
      (num _ a q.0, num _ b q.1)

  sense : form (word ws n) ≡ sense_form → Num ws n (p1 (word ws n))
  unfolding sort_broken
  sense h =
      let a : p1 (word ws n) < n = op 0 sense_form h refl (omega arith) (omega arith) in
      num _ a (sym (ap sort_broken (tree-sense ws n h a)) ∙ s.whole)

  rep : form (word ws n) ≡ rep_form → Num ws n (p1 (word ws n)) × Num ws n (p2 (word ws n))
  unfolding sort_broken
  rep h =
      let a : p1 (word ws n) < n = op 0 rep_form h refl (omega arith) (omega arith) in
      let b : p2 (word ws n) < n = op 1 rep_form h refl (omega arith) (omega arith) in
      let q = neither _ _ (sym (ap sort_broken (tree-rep ws n h a b)) ∙ s.whole) in
      (num _ a q.0, num _ b q.1)

  if_n : form (word ws n) ≡ if_form → Num ws n (p1 (word ws n)) × Num ws n (p2 (word ws n)) × Num ws n (p3 (word ws n))
  unfolding is_field sort_broken
  if_n h =
      let a : p1 (word ws n) < n = op 0 if_form h refl (omega arith) (omega arith) in
      let b : p2 (word ws n) < n = op 1 if_form h refl (omega arith) (omega arith) in
      let c : p3 (word ws n) < n = op 2 if_form h refl (omega arith) (omega arith) in
      let e = tree-if ws n h a b c in
      let q = neither _ _ (sym (ap sort_broken e) ∙ s.whole) in
      let f : is_field (tree_at ws (p2 (word ws n))) ≡ false = sym (ap is_field e) ∙ own if_form h in
      (num _ a q.0, num _ b f, num _ c (one-sort (is_field (tree_at ws (p2 (word ws n)))) (is_field (tree_at ws (p3 (word ws n)))) q.1 ∙ f))

  mux : form (word ws n) ≡ mux_form → Num ws n (p1 (word ws n)) × Num ws n (p2 (word ws n)) × Num ws n (p3 (word ws n))
  unfolding sort_broken
  mux h =
      let a : p1 (word ws n) < n = op 0 mux_form h refl (omega arith) (omega arith) in
      let b : p2 (word ws n) < n = op 1 mux_form h refl (omega arith) (omega arith) in
      let c : p3 (word ws n) < n = op 2 mux_form h refl (omega arith) (omega arith) in
      let q = neither _ _ (sym (ap sort_broken (tree-mux ws n h a b c)) ∙ s.whole) in
      let r = neither _ _ q.0 in
      (num _ a r.0, num _ b r.1, num _ c q.1)

  fold_by : form (word ws n) ≡ fold_by_form → Num ws n (body (word ws n)) × Num ws n (p1 (word ws n)) × Fld ws n (p2 (word ws n))
  unfolding sort_broken
  fold_by h =
      let o : body (word ws n) < n = (all.node n l).folds h in
      let a : p1 (word ws n) < n = op 0 fold_by_form h refl (omega arith) (omega arith) in
      let b : p2 (word ws n) < n = op 1 fold_by_form h refl (omega arith) (omega arith) in
      let q = neither _ _ (sym (ap sort_broken (tree-fold ws n h o a b)) ∙ s.whole) in
      (num _ o (s.folds h), num _ a q.0, fld _ b (not-false _ q.1))

  argument : (j k : ℕ) → k < n → is_field (arg_of ws (ltb j (count (word ws n))) k) ≡ false → Arg ws n j k
  argument j k h e = (h, λ t. (num k h (rw t at e)).1)

  call : form (word ws n) ≡ call_form
      → Num ws n (body (word ws n))
      × Arg ws n 0 (p1 (word ws n)) × Arg ws n 1 (p2 (word ws n)) × Arg ws n 2 (p3 (word ws n)) × Arg ws n 3 (p4 (word ws n))
  unfolding sort_broken
  call h =
      let o : body (word ws n) < n = (all.node n l).calls h in
      let a = s.absent h in
      let q = neither _ _ (sym (ap sort_broken (tree-call ws n h o (λ _. a.0) (λ _. a.1) (λ _. a.2) (λ _. a.3))) ∙ s.whole) in
      let r = neither _ _ q.0 in
      let t = neither _ _ r.0 in
      (num _ o (s.calls h), argument 0 _ a.0 t.0, argument 1 _ a.1 t.1, argument 2 _ a.2 r.1, argument 3 _ a.3 q.1)

  fold_op : form (word ws n) ≡ fold_form → Num ws n (p1 (word ws n)) × Fld ws n (p2 (word ws n))
  unfolding sort_broken
  fold_op h =
      let a : p1 (word ws n) < n = op 0 fold_form h refl (omega arith) (omega arith) in
      let b : p2 (word ws n) < n = op 1 fold_form h refl (omega arith) (omega arith) in
      let q = neither _ _ (sym (ap sort_broken (tree-foldop ws n h a b)) ∙ s.whole) in
      (num _ a q.0, fld _ b (not-false _ q.1))

  nbr : form (word ws n) ≡ nbr_form → Num ws n (p1 (word ws n))
  unfolding sort_broken
  nbr h =
      let a : p1 (word ws n) < n = op 0 nbr_form h refl (omega arith) (omega arith) in
      num _ a (sym (ap sort_broken (tree-nbr ws n h a)) ∙ s.whole)

  if_f : form (word ws n) ≡ field_if_form → Num ws n (p1 (word ws n)) × Fld ws n (p2 (word ws n)) × Fld ws n (p3 (word ws n))
  unfolding is_field sort_broken
  if_f h =
      let a : p1 (word ws n) < n = op 0 field_if_form h refl (omega arith) (omega arith) in
      let b : p2 (word ws n) < n = op 1 field_if_form h refl (omega arith) (omega arith) in
      let c : p3 (word ws n) < n = op 2 field_if_form h refl (omega arith) (omega arith) in
      let e = tree-iff ws n h a b c in
      let q = neither _ _ (sym (ap sort_broken e) ∙ s.whole) in
      let f : is_field (tree_at ws (p2 (word ws n))) ≡ true = sym (ap is_field e) ∙ own field_if_form h in
      (num _ a q.0, fld _ b f, fld _ c (one-sort (is_field (tree_at ws (p2 (word ws n)))) (is_field (tree_at ws (p3 (word ws n)))) q.1 ∙ f))

  oper_f : form (word ws n) ≡ field_operator_form → (p1 (word ws n) < n) × (p2 (word ws n) < n)
  oper_f h = (op 0 field_operator_form h refl (omega arith) (omega arith), op 1 field_operator_form h refl (omega arith) (omega arith))

  side : form (word ws n) ≡ field_operator_form → form (word ws (p1 (word ws n))) < field_forms → field_forms ≤ form (word ws (p2 (word ws n)))
  unfolding is_field
  side h g =
      let a : p1 (word ws n) < n = (oper_f h).0 in
      let b : p2 (word ws n) < n = (oper_f h).1 in
      let m : p1 (word ws n) < node_limit = omega arith in
      (fld _ b
      (other (is_field (tree_at ws (p1 (word ws n)))) (is_field (tree_at ws (p2 (word ws n)))) (sym (ap is_field (tree-operf ws n h a b)) ∙ own field_operator_form h)
      (sym (s.fields (p1 (word ws n)) m) ∙ lt-leb field_forms (form (word ws (p1 (word ws n)))) g))
      ).1

  pub sorted : (form (word ws n) ≡ parameter_form → item (word ws n) < 4) → Sorted ws n
  sorted p =
      record {
        known = (all.node n l).known;
        number = λ h. omega (arith, (all.node n l).number h);
        param = p;
        oper = oper;
        sense = sense;
        rep = rep;
        if_n = if_n;
        mux = mux;
        fold_by = fold_by;
        call = call;
        fold_op = fold_op;
        least = λ h. absurd (omega (arith, (all.node n l).number (omega arith)));
        pair = λ h. absurd (omega (arith, (all.node n l).number (omega arith)));
        nbr = nbr;
        if_f = if_f;
        oper_f = oper_f;
        side = side;
      }
