-- What the calls of the evaluator ask: that the measure falls, and that the node is of the sort that is wanted. Assumes nothing.
use mathlib.Core.Path.{◌≡◌, refl, ◌∙◌}
use mathlib.Core.Bool.{Bool, true, false}
use mathlib.Core.List.{List}
use mathlib.Core.Logic.{◌⊎◌, inl, inr, ⊎_elim}
use Prim.Native.Nat.{ℕ, ◌+◌, ◌*◌, ◌%◌, ◌≤◌, ◌<◌}
use native.Mathlib.Omega.{arith}
use lib.ListN.{get_or}
use lib.Dec.{eqb, ltb}
use lib.IntN.{ℤ, pos}
use borrow.Author.Tests.{eqb-true, eqb-false, ltb-true, ltb-false}
use Rattle.program.specs.Table.{node_limit}
use Rattle.round.specs.Round.{reps}
use Rattle.words.specs.Form.{operator_form, sense_form, rep_form, if_form, call_form, mux_form, fold_by_form, fold_form, least_form, pair_form}
use Rattle.words.specs.Form.{leaf_forms, number_forms, field_forms}
use Rattle.words.specs.Word.{form, p1, p2, count, word}
use Rattle.words.specs.Trees.{tree_at}
use Rattle.words.specs.Sound.{Num, Fld, Arg, Sorted, Sound}
use Rattle.apply.specs.State.{fault_of, Mask}
use Rattle.leaf.specs.Asked.{Number, IsField, Argument, Inside, IsLeaf, IsPair, Folding}
use Rattle.leaf.proofs.Evaluates.{right}

-- ---- what a call asks: the measure falls, and the node is one of a number, or of a field
module _ {ws us : List ℕ} {st : List ℤ} {n a b t : ℕ} (m : ℕ) (e : n * 8 + m ≡ t) (sd : Sound ws us) (h : n < node_limit) (q : a ≡ b) (z : fault_of st ≡ pos 0) where
  pub asks : Num ws n b → (a * 8 + 5 < t) × Number ws us st a
  asks r = rw q (omega (arith, e, r.0), record { sound = sd; inside = omega (arith, r.0); sort = r.1; clear = z })

  pub asks-field : Fld ws n b → (a * 8 + 4 < t) × IsField ws us st a
  asks-field r = rw q (omega (arith, e, r.0), record { sound = sd; inside = omega (arith, r.0); sort = r.1; clear = z })

  pub asks-side : b < n → (a * 8 + 6 < t) × Inside ws us st a
  asks-side r = rw q (omega (arith, e, r), record { sound = sd; inside = omega (arith, r); clear = z })

  pub asks-arg : (j c : ℕ) → c ≡ count (word ws n) → Arg ws n j b → (a * 8 + 6 < t) × Argument ws us st (ltb j c) a
  asks-arg j c ec r = rw (q, ec) (omega (arith, e, r.0), record { sound = sd; inside = omega (arith, r.0); sort = r.1; clear = z })

  pub asks-call : 0 < m → Num ws n b → (n * 8 < t) × (Number ws us st a × (a < n))
  asks-call l r = rw q (omega (arith, e), (record { sound = sd; inside = omega (arith, r.0); sort = r.1; clear = z }, r.0))

  pub asks-fold : 1 < m → Num ws n b → (n * 8 + 1 < t) × (Number ws us st a × (a < n))
  asks-fold l r = rw q (omega (arith, e), (record { sound = sd; inside = omega (arith, r.0); sort = r.1; clear = z }, r.0))

-- the mask of node j, as the code has read its number
pub mask-of : (ws us : List ℕ) (n : ℕ) {j b : ℕ} → Sound ws us → n < node_limit → j ≡ b → b < n → Mask (get_or us j 0) (reps (tree_at ws j))
mask-of ws us n {j} {b} sd h q l = let i : j < node_limit = rw q (omega (arith, l, h)) in (right {n = j} sd i).mask

-- one of two sides is a field
split : (f : ℕ) (t : Bool) → ltb f field_forms ≡ t → (f < field_forms) ⊎ (field_forms ≤ f)
split f true e = inl (ltb-true f field_forms e)
split f false e = inr (ltb-false f field_forms e)

pub either : {A B : Type 0} (ws : List ℕ) {a b c d : ℕ} → a ≡ c → b ≡ d → (form (word ws c) < field_forms → field_forms ≤ form (word ws d))
    → (field_forms ≤ form (word ws a) → A) → (field_forms ≤ form (word ws b) → B) → A ⊎ B
either ws {c = c} p q t f g = ⊎_elim (λ h. inr (g (rw q (t h)))) (λ h. inl (f (rw p h))) (split (form (word ws c)) _ refl)

-- ---- a leaf, an operator on two leaves
pub asks-leaf : {ws : List ℕ} {st : List ℤ} {n : ℕ} → Sorted ws n → n < node_limit → form (word ws n) < leaf_forms → fault_of st ≡ pos 0 → IsLeaf ws st n
asks-leaf r h l z = record { inside = h; leaf = l; param = r.param; clear = z }

pub asks-pair : (us : List ℕ) {ws : List ℕ} {st : List ℤ} {n : ℕ} → Sound ws us → n < node_limit → form (word ws n) ≡ pair_form → fault_of st ≡ pos 0 → IsPair ws st n
asks-pair us {ws} {st} {n} sd h e z =
    let r = (right {us = us} sd h).sorted.pair e in
    let a : p1 (word ws n) < node_limit = omega (arith, r.0.0) in
    let b : p2 (word ws n) < node_limit = omega (arith, r.1.0) in
    record {
      inside = h;
      pair = e;
      below = (r.0.0, r.1.0);
      left = asks-leaf (right {us = us} sd a).sorted a r.0.1 z;
      right = asks-leaf (right {us = us} sd b).sorted b r.1.1 z;
    }

-- ---- forms that an arm is left with
pub fold-parts : {ws : List ℕ} {n : ℕ} → Sorted ws n → Folding (form (word ws n)) → Num ws n (p1 (word ws n)) × Fld ws n (p2 (word ws n))
fold-parts r (inl z) = let q = r.least z in (q.1, q.2)
fold-parts r (inr (inl z)) = let q = r.fold_by z in (q.1, q.2)
fold-parts r (inr (inr z)) = r.fold_op z

pub by-operator : {k : ℕ} → Folding k → (k ≡ least_form → ⊥) → (k ≡ fold_by_form → ⊥) → k ≡ fold_form
by-operator (inl z) h g = absurd (h z)
by-operator (inr (inl z)) h g = absurd (g z)
by-operator (inr (inr z)) h g = z

-- what is left of other_at's forms is a fold
pub is-fold : {k f : ℕ} → k ≡ f → f < number_forms → leaf_forms ≤ f → (f % 3 ≡ 0 → ⊥) → (k ≡ sense_form → ⊥) → (k ≡ rep_form → ⊥) → (k ≡ mux_form → ⊥) → Folding f
is-fold {k} {f} e h l m a b c = go (eqb f least_form) (eqb f fold_by_form) refl refl
  where
    left : (f : ℕ) → f < number_forms → leaf_forms ≤ f → (f % 3 ≡ 0 → ⊥) → (f ≡ least_form → ⊥) → (f ≡ fold_by_form → ⊥) → (f ≡ sense_form → ⊥) → (f ≡ rep_form → ⊥) → (f ≡ mux_form → ⊥)
        → f ≡ fold_form
    left f h l m a b c d g = omega arith

    go : (p q : Bool) → eqb f least_form ≡ p → eqb f fold_by_form ≡ q → Folding f
    go true q i j = inl (eqb-true f least_form i)
    go false true i j = inr (inl (eqb-true f fold_by_form j))
    go false false i j = inr (inr (left f h l m (eqb-false f least_form i) (eqb-false f fold_by_form j) (λ q. a (e ∙ q)) (λ q. b (e ∙ q)) (λ q. c (e ∙ q))))
