-- A word of a node makes the tree that the node makes, from the same trees below; and its sort, and whether its operands' sorts are broken, are as the
-- kind and the children's sorts say. Assumes nothing.
use mathlib.Core.Path.{◌≡◌, refl, sym, subst}
use mathlib.Core.Bool.{Bool, true, false, not, cond, ◌||◌}
use mathlib.Core.List.{List, [], ◌∷◌}
use Prim.Native.Nat.{ℕ, zero, suc, ◌<◌, ◌≤◌}
use native.Mathlib.Omega.{arith}
use lib.ListN.{length, get_or}
use lib.Dec.{leb, ltb}
use Rattle.shapes.proofs.ByKind.{by_kind, kind-known, kind-of-number}
use Rattle.words.specs.Form.{operator_form, if_form, field_if_form, field_operator_form, field_forms}
use Rattle.shapes.specs.Kinds.{number_of, kind_at, operator_kind, if_kind, call_kind}
use Rattle.program.specs.Table.{Definition, no_definition, kind_count}
use Rattle.program.specs.Tree.{Expr, tree_of, is_field, sort_broken}
use Rattle.words.specs.Trees.{at, made}
use Rattle.nodes.specs.declared.Node.{Node}
use Rattle.shapes.specs.Shapes.{lead_of, kids_of, definition_item}
use Rattle.nodes.specs.Values.{node_of}
use Rattle.encode.specs.Parts.{form_by, IsWord}
use Rattle.sorts.specs.Sorts.{differs, broken_by}

-- child j, of so many, is a field
abbrev pub flag_in : List Expr → ℕ → ℕ → ℕ → Bool
flag_in es kids j k = cond (ltb j kids) (is_field (at es k)) false

abbrev pub flags_of : List Expr → Node → List Bool
flags_of es x =
    flag_in es x.kids 0 (get_or x.children 0 0)
    ∷ flag_in es x.kids 1 (get_or x.children 1 0)
    ∷ flag_in es x.kids 2 (get_or x.children 2 0)
    ∷ flag_in es x.kids 3 (get_or x.children 3 0)
    ∷ []

field-operator : (z : Bool) → leb field_forms (cond z field_operator_form operator_form) ≡ z
field-operator true = refl
field-operator false = refl

field-branch : (z : Bool) → leb field_forms (cond z field_if_form if_form) ≡ z
field-branch true = refl
field-branch false = refl

differ-sorts : (x y z : Bool) → x || differs y z ≡ x || not (cond y z (not z))
differ-sorts true y z = refl
differ-sorts false true z = refl
differ-sorts false false true = refl
differ-sorts false false false = refl

module _ (ds : List Definition) (es : List Expr) (n item a b c d constant : ℕ) where
  -- a node with as many children as its kind has
  abbrev node : ℕ → ℕ → Node
  node kind count = record { kind = kind_at kind; item = item; kids = kids_of kind count; children = a ∷ b ∷ c ∷ d ∷ []; constant = constant }

  module _ (o w : ℕ) where
    abbrev Body : ℕ → Type 0
    Body kind = lead_of kind ≡ definition_item → (get_or ds item no_definition).body ≡ o

    abbrev Makes : ℕ → ℕ → Bool → Bool → Type 0
    Makes kind count s t = IsWord (node kind count) o s t w → made n es w ≡ tree_of ds es n (node_of (node kind count))

    made-node : (kind count : ℕ) (s t : Bool) → kind < kind_count → kids_of kind count ≤ 4 → Body kind → Makes kind count s t
    unfolding made tree_of node_of
    made-node kind count s t =
        by_kind {P = λ k. kids_of k count ≤ 4 → Body k → Makes k count s t}
        record {
          constant = λ l g r. let q = r.is_constant refl in rw (q.is_form, q.is_number);
          parameter = λ l g r. let q = r.is_parts (λ z. omega arith) in rw (q.is_form, q.is_item);
          variable = λ l g r. let q = r.is_parts (λ z. omega arith) in rw (q.is_form, q.is_item);
          operator = λ l g r. sides s r;
          sense = λ l g r. let q = r.is_parts (λ z. omega arith) in rw (q.is_form, q.is_p1);
          rep = λ l g r. let q = r.is_parts (λ z. omega arith) in rw (q.is_form, q.is_item, q.is_p1, q.is_p2);
          if_then = λ l g r. branches t r;
          mux = λ l g r. let q = r.is_parts (λ z. omega arith) in rw (q.is_form, q.is_p1, q.is_p2, q.is_p3);
          nbr = λ l g r. let q = r.is_parts (λ z. omega arith) in rw (q.is_form, q.is_item, q.is_p1);
          range = λ l g r. let q = r.is_parts (λ z. omega arith) in rw (q.is_form, q.is_item);
          fold = λ l g r. let q = r.is_parts (λ z. omega arith) in rw (q.is_form, q.is_item, q.is_p1, q.is_p2);
          fold_by = λ l g r. let q = r.is_parts (λ z. omega arith) in rw (q.is_form, q.is_body, q.is_p1, q.is_p2, g refl);
          call = λ l g r. calls count l g r;
          lag = λ l g r. let q = r.is_parts (λ z. omega arith) in rw (q.is_form, q.is_item);
        }
        kind
      where
        sides : (s : Bool) → Makes operator_kind count s t
        sides true r = let q = r.is_parts (λ z. omega arith) in rw (q.is_form, q.is_item, q.is_p1, q.is_p2)
        sides false r = let q = r.is_parts (λ z. omega arith) in rw (q.is_form, q.is_item, q.is_p1, q.is_p2)

        branches : (t : Bool) → Makes if_kind count s t
        branches true r = let q = r.is_parts (λ z. omega arith) in rw (q.is_form, q.is_p1, q.is_p2, q.is_p3)
        branches false r = let q = r.is_parts (λ z. omega arith) in rw (q.is_form, q.is_p1, q.is_p2, q.is_p3)

        calls : (m : ℕ) → m ≤ 4 → Body call_kind → Makes call_kind m s t
        calls zero l g r = let q = r.is_parts (λ z. omega arith) in rw (q.is_form, q.is_body, q.is_count, g refl)
        calls (suc zero) l g r = let q = r.is_parts (λ z. omega arith) in rw (q.is_form, q.is_body, q.is_count, q.is_p1, g refl)
        calls (suc (suc zero)) l g r = let q = r.is_parts (λ z. omega arith) in rw (q.is_form, q.is_body, q.is_count, q.is_p1, q.is_p2, g refl)
        calls (suc (suc (suc zero))) l g r = let q = r.is_parts (λ z. omega arith) in rw (q.is_form, q.is_body, q.is_count, q.is_p1, q.is_p2, q.is_p3, g refl)
        calls (suc (suc (suc (suc zero)))) l g r = let q = r.is_parts (λ z. omega arith) in rw (q.is_form, q.is_body, q.is_count, q.is_p1, q.is_p2, q.is_p3, q.is_p4, g refl)
        calls (suc (suc (suc (suc (suc m))))) l g r = absurd (omega arith)

  abbrev Fielded : ℕ → ℕ → Type 0
  Fielded kind count =
      leb field_forms (form_by kind (get_or (flags_of es (node kind count)) 0 false || get_or (flags_of es (node kind count)) 1 false) (get_or (flags_of es (node kind count)) 1 false))
      ≡ is_field (tree_of ds es n (node_of (node kind count)))

  field-node : (kind count : ℕ) → kind < kind_count → Fielded kind count
  unfolding tree_of node_of is_field
  field-node kind count =
      by_kind {P = λ k. Fielded k count}
      record {
        constant = refl;
        parameter = refl;
        variable = refl;
        operator = field-operator (is_field (at es a) || is_field (at es b));
        sense = refl;
        rep = refl;
        if_then = field-branch (is_field (at es b));
        mux = refl;
        nbr = refl;
        range = refl;
        fold = refl;
        fold_by = refl;
        call = refl;
        lag = refl;
      }
      kind

  abbrev Broken : ℕ → ℕ → Type 0
  Broken kind count = broken_by kind (flags_of es (node kind count)) ≡ sort_broken (tree_of ds es n (node_of (node kind count)))

  broken-node : (kind count : ℕ) → kind < kind_count → kids_of kind count ≤ 4 → Broken kind count
  unfolding tree_of node_of is_field sort_broken
  broken-node kind count =
      by_kind {P = λ k. kids_of k count ≤ 4 → Broken k count}
      record {
        constant = λ l. refl;
        parameter = λ l. refl;
        variable = λ l. refl;
        operator = λ l. refl;
        sense = λ l. refl;
        rep = λ l. refl;
        if_then = λ l. differ-sorts (is_field (at es a)) (is_field (at es b)) (is_field (at es c));
        mux = λ l. refl;
        nbr = λ l. refl;
        range = λ l. refl;
        fold = λ l. refl;
        fold_by = λ l. refl;
        call = λ l. calls count l;
        lag = λ l. refl;
      }
      kind
    where
      calls : (m : ℕ) → m ≤ 4 → Broken call_kind m
      calls zero l = refl
      calls (suc zero) l = refl
      calls (suc (suc zero)) l = refl
      calls (suc (suc (suc zero))) l = refl
      calls (suc (suc (suc (suc zero)))) l = refl
      calls (suc (suc (suc (suc (suc m))))) l = absurd (omega arith)

-- ---- the same of a node with its own number of children
four-items : (ks : List ℕ) → length ks ≡ 4 → get_or ks 0 0 ∷ get_or ks 1 0 ∷ get_or ks 2 0 ∷ get_or ks 3 0 ∷ [] ≡ ks
four-items (a ∷ b ∷ c ∷ d ∷ []) h = refl
four-items [] h = absurd (omega arith)
four-items (a ∷ []) h = absurd (omega arith)
four-items (a ∷ b ∷ []) h = absurd (omega arith)
four-items (a ∷ b ∷ c ∷ []) h = absurd (omega arith)
four-items (a ∷ b ∷ c ∷ d ∷ x ∷ xs) h = absurd (omega arith)

module _ (ds : List Definition) (es : List Expr) (n : ℕ) (x : Node) (count : ℕ) (long : length x.children ≡ 4) (few : x.kids ≤ 4) (e : x.kids ≡ kids_of (number_of x.kind) count) where
  abbrev k : ℕ
  k = number_of x.kind

  abbrev kid : ℕ → ℕ
  kid j = get_or x.children j 0

  l : kids_of k count ≤ 4
  l = subst (λ (m : ℕ). m ≤ 4) e few

  with_kids : x ≡ node ds es n x.item (kid 0) (kid 1) (kid 2) (kid 3) x.constant k count
  with_kids = rw (kind-of-number x.kind, ← e, four-items x.children long)

  pub made-is : (o w : ℕ) (s t : Bool) → (lead_of k ≡ definition_item → (get_or ds x.item no_definition).body ≡ o) → IsWord x o s t w
      → made n es w ≡ tree_of ds es n (node_of x)
  made-is o w s t g r =
      subst (λ (y : Node). IsWord y o s t w → made n es w ≡ tree_of ds es n (node_of y)) (sym with_kids)
      (made-node ds es n x.item (kid 0) (kid 1) (kid 2) (kid 3) x.constant o w k count s t (kind-known x.kind) l g) r

  pub field_is : leb field_forms (form_by k (get_or (flags_of es x) 0 false || get_or (flags_of es x) 1 false) (get_or (flags_of es x) 1 false)) ≡ is_field (tree_of ds es n (node_of x))
  field_is =
      subst (λ (y : Node). leb field_forms (form_by k (get_or (flags_of es y) 0 false || get_or (flags_of es y) 1 false) (get_or (flags_of es y) 1 false))
      ≡ is_field (tree_of ds es n (node_of y))) (sym with_kids)
      (field-node ds es n x.item (kid 0) (kid 1) (kid 2) (kid 3) x.constant k count (kind-known x.kind))

  pub broken-is : broken_by k (flags_of es x) ≡ sort_broken (tree_of ds es n (node_of x))
  broken-is =
      subst (λ (y : Node). broken_by k (flags_of es y) ≡ sort_broken (tree_of ds es n (node_of y))) (sym with_kids)
      (broken-node ds es n x.item (kid 0) (kid 1) (kid 2) (kid 3) x.constant k count (kind-known x.kind) l)
