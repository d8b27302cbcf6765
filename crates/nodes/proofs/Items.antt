-- A kind's items are its first item and its children: what program's table of kinds says of a body, said of the first item and the bytes behind it.
use mathlib.Core.Path.{◌≡◌, refl, sym, ◌∙◌, ap}
use mathlib.Core.Bool.{Bool, true, false, not, cond, ◌&&◌, ◌||◌, or-false, true≢false}
use mathlib.Core.List.{List, [], ◌∷◌, ◌++◌}
use Prim.Native.Nat.{ℕ, zero, suc, ◌+◌, ◌*◌, ◌≤◌, ◌<◌}
use native.Mathlib.Omega.{arith}
use lib.ListN.{length, get_or, take, drop, replicate, get_or-map, length-drop}
use lib.Dec.{eqb, leb, ltb}
use borrow.Author.Tests.{ltb-true, lt-ltb, leb-true, ne_eqb, eqb-true, eqb-false}
use Rattle.program.proofs.Items.{same-items}
use Rattle.wire.specs.Wire.{big_from, big}
use Rattle.program.specs.Table.{kind_count, Item, constant, operator, parameter, variable, keeps, slot, child, definition, items_of, width, size, values_in, in_range, outside, picked, code}
use Rattle.nodes.specs.Values.{head_of}
use Rattle.nodes.specs.Ranges.{Ranges}
use Rattle.shapes.specs.Kinds.{call_kind}
use Rattle.shapes.specs.Shapes.{kept_item, slot_item, definition_item, item_count, item_width, shapes, leads, kid_counts, lead_of, width_of, kids_of, inside}
use Rattle.shapes.proofs.ByKind.{by-item}
use Rattle.nodes.specs.Body.{item_of, constant_of}

-- the first item by its number
abbrev firsts : List (List Item)
firsts = [] ∷ (operator ∷ []) ∷ (parameter ∷ []) ∷ (variable ∷ []) ∷ (keeps ∷ []) ∷ (slot ∷ []) ∷ (constant ∷ []) ∷ (definition ∷ []) ∷ []

abbrev pub first : ℕ → List Item
first lead = get_or firsts lead []

-- a kind's items, by its shape
abbrev of_shape : ℕ × ℕ → List Item
of_shape p = first p.0 ++ replicate p.1 child

pub items-are : (kind count : ℕ) → items_of kind count ≡ first (lead_of kind) ++ replicate (kids_of kind count) child
items-are kind count =
    get_or-map of_shape (shapes count) kind (0, 0)
    ∙ cc (get_or-map (λ (p : ℕ × ℕ). p.0) (shapes count) kind (0, 0), get_or-map (λ (p : ℕ × ℕ). p.1) (shapes count) kind (0, 0))

all_true : (n k : ℕ) → get_or (replicate n true) k true ≡ true
all_true zero k = refl
all_true (suc n) zero = refl
all_true (suc n) (suc k) = all_true n k

pub lead-below : (kind : ℕ) → lead_of kind < item_count
lead-below kind = ltb-true (lead_of kind) item_count (sym (get_or-map (λ (l : ℕ). ltb l item_count) leads kind 0) ∙ all_true kind_count kind)

size-append : (is js : List Item) → size (is ++ js) ≡ size is + size js
unfolding size
size-append [] js = omega arith
size-append (i ∷ is) js = omega (arith, size-append is js)

size-children : (k : ℕ) → size (replicate k child) ≡ k
unfolding size
size-children zero = refl
size-children (suc k) = omega (arith, size-children k)

pub width_is : (kind : ℕ) → size (first (lead_of kind)) ≡ width_of kind
unfolding size
width_is kind =
    by-item {P = λ l. size (first l) ≡ item_width l}
    record { none = refl; operator = refl; parameter = refl; variable = refl; kept = refl; slot = refl; constant = refl; definition = refl }
    (lead_of kind) (lead-below kind)

pub size_is : (kind count : ℕ) → size (items_of kind count) ≡ width_of kind + kids_of kind count
size_is kind count =
    ap size (items-are kind count) ∙ size-append (first (lead_of kind)) (replicate (kids_of kind count) child)
    ∙ cc (width_is kind, size-children (kids_of kind count))

-- the children's numbers are their bytes
children-values : (k : ℕ) (s : List ℕ) → length s ≡ k → values_in (replicate k child) s ≡ s
unfolding values_in big_from
children-values zero [] h = refl
children-values zero (b ∷ s) h = absurd (omega arith)
children-values (suc k) [] h = absurd (omega arith)
children-values (suc k) (b ∷ s) h = let e : 0 * 256 + b ≡ b = omega arith in let r = children-values k s (omega arith) in rw (e, r)

values-append : (is js : List Item) (s : List ℕ) → values_in (is ++ js) s ≡ values_in is s ++ values_in js (drop (size is) s)
unfolding values_in size
values-append [] js s = refl
values-append (i ∷ is) js s =
    ap (λ (l : List ℕ). big (take (width i) s) ∷ l)
    (values-append is js (drop (width i) s) ∙ cc (lib.Seq.drop-drop (size is) (width i) s))

-- the numbers of a body of the right length: the first item's, and the bytes behind
pub values-are : (kind count : ℕ) (s : List ℕ) → length s ≡ width_of kind + kids_of kind count
    → values_in (items_of kind count) s ≡ values_in (first (lead_of kind)) s ++ drop (width_of kind) s
values-are kind count s h =
    let l : length (drop (width_of kind) s) ≡ kids_of kind count = length-drop (width_of kind) s ∙ omega arith in
    ap (λ (is : List Item). values_in is s) (items-are kind count)
    ∙ values-append (first (lead_of kind)) (replicate (kids_of kind count) child) s
    ∙ cc (width_is kind, children-values (kids_of kind count) (drop (width_of kind) s) l)

one_byte : (s : List ℕ) → big (take 1 s) ≡ get_or s 0 0
unfolding big_from
one_byte [] = refl
one_byte (b ∷ s) = omega arith

pub first-values : (l : ℕ) (s : List ℕ) → l < item_count → values_in (first l) s ≡ head_of l (item_of l s) (constant_of l s)
unfolding values_in item_of constant_of
first-values l s h =
    let one : big (take 1 s) ∷ [] ≡ get_or s 0 0 ∷ [] = ap (λ (n : ℕ). n ∷ []) (one_byte s) in
    by-item {P = λ l. values_in (first l) s ≡ head_of l (item_of l s) (constant_of l s)}
    record { none = refl; operator = one; parameter = one; variable = one; kept = one; slot = one; constant = refl; definition = one }
    l h

-- its range
pub first-outside : (l i c : ℕ) → l < item_count → outside (first l) (head_of l i c) ≡ not (inside l i c)
unfolding outside inside
first-outside l i c h =
    by-item {P = λ l. outside (first l) (head_of l i c) ≡ not (inside l i c)}
    record {
      none = refl;
      operator = or-false (not (ltb i 9));
      parameter = or-false (not (ltb i 4));
      variable = or-false (not (ltb i 16));
      kept = or-false (not (ltb i 16));
      slot = slots i;
      constant = or-false (not (not (eqb c 0x80000000)));
      definition = refl;
    }
    l h
  where
    slots : (i : ℕ) → (not (ltb 0 i && ltb i 16) || false) ≡ not (cond (eqb i 0) false (ltb i 16))
    slots zero = refl
    slots (suc i) = rw (lt-ltb 0 (suc i) (omega arith), ne_eqb (suc i) 0 (λ e. omega arith)) (or-false (not (ltb (suc i) 16)))

-- what it names
pub first-child : (l i c : ℕ) → l < item_count → picked child (first l) (head_of l i c) ≡ []
unfolding picked
first-child l i c h =
    by-item {P = λ l. picked child (first l) (head_of l i c) ≡ []}
    record { none = refl; operator = refl; parameter = refl; variable = refl; kept = refl; slot = refl; constant = refl; definition = refl }
    l h

pub first-kept : (l i c : ℕ) → l < item_count → picked keeps (first l) (head_of l i c) ≡ cond (eqb l kept_item) (i ∷ []) []
unfolding picked
first-kept l i c h =
    by-item {P = λ l. picked keeps (first l) (head_of l i c) ≡ cond (eqb l kept_item) (i ∷ []) []}
    record { none = refl; operator = refl; parameter = refl; variable = refl; kept = refl; slot = refl; constant = refl; definition = refl }
    l h

pub first_slot : (l i c : ℕ) → l < item_count → picked slot (first l) (head_of l i c) ≡ cond (eqb l slot_item) (i ∷ []) []
unfolding picked
first_slot l i c h =
    by-item {P = λ l. picked slot (first l) (head_of l i c) ≡ cond (eqb l slot_item) (i ∷ []) []}
    record { none = refl; operator = refl; parameter = refl; variable = refl; kept = refl; slot = refl; constant = refl; definition = refl }
    l h

pub first-definition : (l i c : ℕ) → l < item_count → picked definition (first l) (head_of l i c) ≡ cond (eqb l definition_item) (i ∷ []) []
unfolding picked
first-definition l i c h =
    by-item {P = λ l. picked definition (first l) (head_of l i c) ≡ cond (eqb l definition_item) (i ∷ []) []}
    record { none = refl; operator = refl; parameter = refl; variable = refl; kept = refl; slot = refl; constant = refl; definition = refl }
    l h

pub head-length : (l i c : ℕ) → l < item_count → length (first l) ≡ length (head_of l i c)
head-length l i c h =
    by-item {P = λ l. length (first l) ≡ length (head_of l i c)}
    record { none = refl; operator = refl; parameter = refl; variable = refl; kept = refl; slot = refl; constant = refl; definition = refl }
    l h

-- items one behind the other
pub picked-append : (j : Item) (is js : List Item) (vs ws : List ℕ) → length is ≡ length vs → picked j (is ++ js) (vs ++ ws) ≡ picked j is vs ++ picked j js ws
unfolding picked
picked-append j [] js [] ws h = refl
picked-append j [] js (v ∷ vs) ws h = absurd (omega arith)
picked-append j (i ∷ is) js [] ws h = absurd (omega arith)
picked-append j (i ∷ is) js (v ∷ vs) ws h = go (eqb (code i) (code j)) (picked-append j is js vs ws (omega arith))
  where
    go : (b : Bool) → picked j (is ++ js) (vs ++ ws) ≡ picked j is vs ++ picked j js ws
        → cond b (v ∷ picked j (is ++ js) (vs ++ ws)) (picked j (is ++ js) (vs ++ ws)) ≡ cond b (v ∷ picked j is vs) (picked j is vs) ++ picked j js ws
    go true e = ap (λ (l : List ℕ). v ∷ l) e
    go false e = e

pub outside-append : (is js : List Item) (vs ws : List ℕ) → length is ≡ length vs → outside (is ++ js) (vs ++ ws) ≡ (outside is vs || outside js ws)
unfolding outside
outside-append [] js [] ws h = refl
outside-append [] js (v ∷ vs) ws h = absurd (omega arith)
outside-append (i ∷ is) js [] ws h = absurd (omega arith)
outside-append (i ∷ is) js (v ∷ vs) ws h = go (not (in_range i v)) (outside-append is js vs ws (omega arith))
  where
    go : (b : Bool) → outside (is ++ js) (vs ++ ws) ≡ (outside is vs || outside js ws)
        → (b || outside (is ++ js) (vs ++ ws)) ≡ ((b || outside is vs) || outside js ws)
    go true e = refl
    go false e = e

pub children-inside : (k : ℕ) (vs : List ℕ) → outside (replicate k child) vs ≡ false
unfolding outside
children-inside zero vs = refl
children-inside (suc k) [] = refl
children-inside (suc k) (v ∷ vs) = children-inside k vs

pub children-picked : (k : ℕ) (vs : List ℕ) → length vs ≡ k → picked child (replicate k child) vs ≡ vs
unfolding picked
children-picked zero [] h = refl
children-picked zero (v ∷ vs) h = absurd (omega arith)
children-picked (suc k) [] h = absurd (omega arith)
children-picked (suc k) (v ∷ vs) h = ap (λ (l : List ℕ). v ∷ l) (children-picked k vs (omega arith))

pub others-picked : (j : Item) → eqb (code child) (code j) ≡ false → (k : ℕ) (vs : List ℕ) → picked j (replicate k child) vs ≡ []
unfolding picked
others-picked j e zero vs = refl
others-picked j e (suc k) [] = refl
others-picked j e (suc k) (v ∷ vs) = rw e (others-picked j e k vs)

-- only a call's number of children depends on the count, and no other kind has more than 4
pub same-kids : (kind m n : ℕ) → kind < kind_count → (kind ≡ call_kind → m ≡ n) → kids_of kind m ≡ kids_of kind n
same-kids kind m n h f = let e : items_of kind m ≡ items_of kind n = same-items kind m n h f in omega (arith, ap size e, size_is kind m, size_is kind n)

pub few-kids : (kind count : ℕ) → kind < kind_count → (kind ≡ call_kind → count ≤ 4) → kids_of kind count ≤ 4
few-kids kind count h f = go (eqb kind call_kind) refl
  where
    none : kids_of kind 0 ≤ 4
    none = leb-true (kids_of kind 0) 4 (sym (get_or-map (λ (k : ℕ). leb k 4) (kid_counts 0) kind 0) ∙ all_true kind_count kind)

    go : (b : Bool) → eqb kind call_kind ≡ b → kids_of kind count ≤ 4
    go true q = let e : kind ≡ call_kind = eqb-true kind call_kind q in rw e (f e)
    go false q = let d : kids_of kind count ≡ kids_of kind 0 = same-kids kind count 0 h (λ e. absurd (eqb-false kind call_kind q e)) in rw d none

-- an item that passes the code's test is in its range
pub in-ranges : (l i c : ℕ) → inside l i c ≡ true → Ranges l i c
unfolding inside
in-ranges l i c h =
    record {
      operator = λ e. ltb-true i 9 (rw e at h);
      parameter = λ e. ltb-true i 4 (rw e at h);
      variable = λ e. ltb-true i 16 (rw e at h);
      kept = λ e. ltb-true i 16 (rw e at h);
      slot = λ e. slots (eqb i 0) refl (rw e at h);
      constant = λ e q. true≢false (sym (rw (e, q) at h));
    }
  where
    slots : (b : Bool) → eqb i 0 ≡ b → cond b false (ltb i 16) ≡ true → (0 < i) × (i < 16)
    slots true q h = absurd (true≢false (sym h))
    slots false q h = let d : i ≡ 0 → ⊥ = eqb-false i 0 q in (omega arith, ltb-true i 16 h)
