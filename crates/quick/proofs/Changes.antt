-- A node's word with its quick form: its tree, and that of every other, is what it was, and every node is sorted. Assumes nothing.
use mathlib.Core.Path.{◌≡◌, refl, sym, ◌∙◌}
use mathlib.Core.Bool.{Bool, true, false}
use mathlib.Core.List.{List}
use Prim.Native.Nat.{ℕ, ◌+◌, ◌<◌, ◌≤◌}
use native.Mathlib.Omega.{arith}
use lib.ListN.{length, set}
use lib.Seq.{get_or-set_same, get_or-set_other, set-get_or}
use lib.Dec.{eqb, ltb}
use borrow.Author.Tests.{eqb-true, eqb-false}
use Rattle.program.specs.Table.{node_limit}
use Rattle.program.specs.Tree.{Expr}
use Rattle.words.specs.Form.{operator_form, fold_by_form, least_form, pair_form, leaf_forms, number_forms, field_forms, forms}
use Rattle.words.specs.Word.{form, item, p1, p2, body, count, word}
use Rattle.words.specs.Trees.{made, tree_at}
use Rattle.words.specs.Sound.{Leaf, Num, Fld, Least, Sorted}
use Rattle.words.proofs.Trees.{made-oper, made-fold, made-least, made_pair, same-trees}
use Rattle.quick.specs.Quick.{to_pair, to_least, Quick, stays, to-pair, to-least, Quickened}

-- ---- a word of form f, grown by d, has form f + d, and its other parts are as they were
module _ (w f d : ℕ) (h : form w ≡ f) (few : f + d < forms) where
  grown-form : form (w + d) ≡ f + d
  grown-form = omega arith

  grown-item : item (w + d) ≡ item w
  grown-item = omega arith

  grown-first : p1 (w + d) ≡ p1 w
  grown-first = omega arith

  grown-second : p2 (w + d) ≡ p2 w
  grown-second = omega arith

  grown-body : body (w + d) ≡ body w
  grown-body = omega arith

-- ---- every node's tree and sort are what they were
record Alike (ws us : List ℕ) : Type 0 where
  trees : (n : ℕ) → tree_at us n ≡ tree_at ws n
  leaf : (n : ℕ) → form (word ws n) < leaf_forms → form (word us n) < leaf_forms
  number : (n : ℕ) → form (word ws n) < number_forms → form (word us n) < number_forms
  field : (n : ℕ) → field_forms ≤ form (word ws n) → field_forms ≤ form (word us n)
  back : (n : ℕ) → form (word us n) < field_forms → form (word ws n) < field_forms

module _ {ws us : List ℕ} {n : ℕ} (a : Alike ws us) where
  leaf-too : {k : ℕ} → Leaf ws n k → Leaf us n k
  leaf-too {k} (h, l) = (h, a.leaf k l)

  num-too : {k : ℕ} → Num ws n k → Num us n k
  num-too {k} (h, l) = (h, a.number k l)

  fld-too : {k : ℕ} → Fld ws n k → Fld us n k
  fld-too {k} (h, l) = (h, a.field k l)

  -- a node whose word stays
  sorted-too : word us n ≡ word ws n → Sorted ws n → Sorted us n
  sorted-too e s =
      record {
        known = rw e s.known;
        number = rw e s.number;
        param = rw e s.param;
        oper = rw e (λ h. (num-too (s.oper h).0, num-too (s.oper h).1));
        sense = rw e (λ h. num-too (s.sense h));
        rep = rw e (λ h. (num-too (s.rep h).0, num-too (s.rep h).1));
        if_n = rw e (λ h. (num-too (s.if_n h).0, num-too (s.if_n h).1, num-too (s.if_n h).2));
        mux = rw e (λ h. (num-too (s.mux h).0, num-too (s.mux h).1, num-too (s.mux h).2));
        fold_by = rw e (λ h. (num-too (s.fold_by h).0, num-too (s.fold_by h).1, fld-too (s.fold_by h).2));
        call = rw e (λ h. let (b, x, y, z, w) = s.call h in (num-too b, arg 0 x, arg 1 y, arg 2 z, arg 3 w));
        fold_op = rw e (λ h. (num-too (s.fold_op h).0, fld-too (s.fold_op h).1));
        least = rw e (λ h. let (b, x, y, l) = s.least h in (b, num-too x, fld-too y, rw (a.trees (body (word ws n))) l));
        pair = rw e (λ h. (leaf-too (s.pair h).0, leaf-too (s.pair h).1));
        nbr = rw e (λ h. num-too (s.nbr h));
        if_f = rw e (λ h. (num-too (s.if_f h).0, fld-too (s.if_f h).1, fld-too (s.if_f h).2));
        oper_f = rw e s.oper_f;
        side = rw e (λ h l. a.field (p2 (word ws n)) (s.side h (a.back (p1 (word ws n)) l)));
      }
    where
      arg : (j : ℕ) {k : ℕ} → (k < n) × (ltb j (count (word ws n)) ≡ true → form (word ws k) < number_forms)
          → (k < n) × (ltb j (count (word ws n)) ≡ true → form (word us k) < number_forms)
      arg j {k} (h, l) = (h, λ t. a.number k (l t))

-- a node with a quick form, w
sorted-quick : (us : List ℕ) (n w : ℕ) → word us n ≡ w → least_form ≤ form w → form w ≤ pair_form
    → (form w ≡ least_form → (body w < n) × Num us n (p1 w) × Fld us n (p2 w) × Least (tree_at us (body w)))
    → (form w ≡ pair_form → Leaf us n (p1 w) × Leaf us n (p2 w)) → Sorted us n
sorted-quick us n w e low high least pair =
    record {
      known = rw e (omega arith);
      number = λ _. rw e (omega arith);
      param = rw e (λ h. absurd (omega arith));
      oper = rw e (λ h. absurd (omega arith));
      sense = rw e (λ h. absurd (omega arith));
      rep = rw e (λ h. absurd (omega arith));
      if_n = rw e (λ h. absurd (omega arith));
      mux = rw e (λ h. absurd (omega arith));
      fold_by = rw e (λ h. absurd (omega arith));
      call = rw e (λ h. absurd (omega arith));
      fold_op = rw e (λ h. absurd (omega arith));
      least = rw e least;
      pair = rw e pair;
      nbr = rw e (λ h. absurd (omega arith));
      if_f = rw e (λ h. absurd (omega arith));
      oper_f = rw e (λ h. absurd (omega arith));
      side = rw e (λ h. absurd (omega arith));
    }

-- ---- one word changed
module _ (ws : List ℕ) (i r : ℕ) (l : i < length ws) where
  -- what holds of word i and the new one, and of all others and themselves
  each : (P : ℕ → ℕ → ℕ → Type 0) → P i (word ws i) r → ((n w : ℕ) → P n w w) → (n : ℕ) → P n (word ws n) (word (set ws i r) n)
  each P here other n = go (eqb n i) refl
    where
      go : (b : Bool) → eqb n i ≡ b → P n (word ws n) (word (set ws i r) n)
      go true e = rw (eqb-true n i e, get_or-set_same ws i r 0 l) here
      go false e = rw (get_or-set_other ws i n r 0 (eqb-false n i e)) (other n (word ws n))

  alike : leaf_forms ≤ form (word ws i) → form (word ws i) < number_forms → form r < number_forms
      → ((es : List Expr) → made i es r ≡ made i es (word ws i)) → Alike ws (set ws i r)
  alike a b c m =
      record {
        trees = same-trees ws (set ws i r) (each (λ n w w'. (es : List Expr) → made n es w' ≡ made n es w) m (λ n w es. refl));
        leaf = each (λ n w w'. form w < leaf_forms → form w' < leaf_forms) (λ h. absurd (omega arith)) (λ n w h. h);
        number = each (λ n w w'. form w < number_forms → form w' < number_forms) (λ h. c) (λ n w h. h);
        field = each (λ n w w'. field_forms ≤ form w → field_forms ≤ form w') (λ h. absurd (omega arith)) (λ n w h. h);
        back = each (λ n w w'. form w' < field_forms → form w < field_forms) (λ h. omega arith) (λ n w h. h);
      }

  more : {ws₀ : List ℕ} → Quickened ws₀ ws → Alike ws (set ws i r) → Sorted (set ws i r) i → Quickened ws₀ (set ws i r)
  more q a s =
      record {
        trees = λ n h. a.trees n ∙ q.trees n h;
        sorted = record { node = λ n h. go n h (eqb n i) refl };
        number = λ n h k. a.number n (q.number n h k);
      }
    where
      go : (n : ℕ) → n < node_limit → (b : Bool) → eqb n i ≡ b → Sorted (set ws i r) n
      go n h true e = rw (eqb-true n i e) s
      go n h false e = sorted-too a (get_or-set_other ws i n r 0 (eqb-false n i e)) (q.sorted.node n h)

-- ---- the step of the loop
pub step : {ws₀ ws : List ℕ} {i r : ℕ} → i < node_limit → length ws ≡ node_limit → Quickened ws₀ ws → Quick ws i r → Quickened ws₀ (set ws i r)
step {ws₀} {ws} {i} l long q (stays e) = rw (e, set-get_or ws i 0) q
step {ws₀} {ws} {i} {r} l long q (to-pair h x y e) =
    let w : ℕ = word ws i in
    let o : i < length ws = omega arith in
    let f : form r ≡ pair_form = rw e (grown-form w operator_form to_pair h (omega arith)) in
    let g1 : p1 r ≡ p1 w = rw e (grown-first w operator_form to_pair h (omega arith)) in
    let g2 : p2 r ≡ p2 w = rw e (grown-second w operator_form to_pair h (omega arith)) in
    let gi : item r ≡ item w = rw e (grown-item w operator_form to_pair h (omega arith)) in
    let a = alike ws i r o (omega arith) (omega arith) (omega arith) (λ es. made_pair i es r f ∙ rw (g1, g2, gi) (sym (made-oper i es w h))) in
    let (m, n) = (q.sorted.node i l).oper h in
    more ws i r o q a
    (sorted-quick (set ws i r) i r (get_or-set_same ws i r 0 o) (omega arith) (omega arith) (λ z. absurd (omega arith))
    (λ _. rw (g1, g2) (leaf-too a (m.0, x), leaf-too a (n.0, y))))
step {ws₀} {ws} {i} {r} l long q (to-least h x e) =
    let w : ℕ = word ws i in
    let o : i < length ws = omega arith in
    let f : form r ≡ least_form = rw e (grown-form w fold_by_form to_least h (omega arith)) in
    let g1 : p1 r ≡ p1 w = rw e (grown-first w fold_by_form to_least h (omega arith)) in
    let g2 : p2 r ≡ p2 w = rw e (grown-second w fold_by_form to_least h (omega arith)) in
    let gb : body r ≡ body w = rw e (grown-body w fold_by_form to_least h (omega arith)) in
    let a = alike ws i r o (omega arith) (omega arith) (omega arith) (λ es. made-least i es r f ∙ rw (g1, g2, gb) (sym (made-fold i es w h))) in
    let (b, m, n) = (q.sorted.node i l).fold_by h in
    more ws i r o q a
    (sorted-quick (set ws i r) i r (get_or-set_same ws i r 0 o) (omega arith) (omega arith)
    (λ _. rw (g1, g2, gb) (b.0, num-too a m, fld-too a n, rw (a.trees (body w)) x)) (λ z. absurd (omega arith)))
