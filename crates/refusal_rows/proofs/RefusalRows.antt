-- The code's numbers are those of program's rows, at any table that the loader's flags and counts show.
use mathlib.Core.Path.{◌≡◌, refl, sym, ◌∙◌, ap}
use mathlib.Core.Bool.{Bool, true, false, not, cond, ◌&&◌, ◌||◌, or-false, or_assoc, true≢false}
use mathlib.Core.List.{List, [], ◌∷◌}
use Prim.Native.Nat.{ℕ, suc, ◌+◌, ◌<◌}
use native.Mathlib.Omega.{arith}
use lib.ListN.{length, get_or, drop}
use lib.Dec.{eqb, leb, ltb}
use borrow.Author.Tests.{leb-false, eqb-true, eq-eqb, ne_eqb}
use Rattle.shapes.specs.Kinds.{call_kind}
use Rattle.program.specs.Table as program
use Rattle.program.specs.Table.{child, slot, keeps, definition, items_of, size, outside, numbers, Table, first_of, among, beyond, taken_by, all_numbers, definition_at}
use Rattle.program.specs.Table.{node_rows, definition_rows, main_rows, TableEntry, a_node, a_definition, a_main, unknown, entry_of, node_limit, definition_limit, kind_count}
use Rattle.decide.proofs.Picks.{neither}
use Rattle.shapes.specs.Shapes.{lead_of, width_of, kids_of, inside, kept_item, slot_item, definition_item}
use Rattle.nodes.specs.Body.{item_of, constant_of}
use Rattle.taken.specs.Taken.{taken_in}
use Rattle.nodes.proofs.Items.{size_is, same-kids, in-ranges}
use Rattle.nodes.proofs.Body.{node-outside, node-children, node-slots, node_kept, node-definitions}
use Rattle.taken.proofs.Agree.{taken_is}
use Rattle.kinds.specs.Taken.{Taken}
use Rattle.kinds.specs.Numbers.{or_else, call_number, item_taken, shape_number, body_number, node_number}
use Rattle.refusal_rows.specs.Numbers.{definition_number, main_number, field_number}
use Rattle.refusal_rows.specs.Shows.{Shows}

-- one row; a row whose test the code turns round; two rows of one number
row : {a b : Bool} (n : ℕ) {x y : ℕ} → a ≡ b → (a ≡ false → x ≡ y) → cond a n x ≡ cond b n y
row {a} {b} n {x} {y} e f = rw (← e) (go a f)
  where
    go : (a : Bool) → (a ≡ false → x ≡ y) → cond a n x ≡ cond a n y
    go true f = refl
    go false f = f refl

turned : {a b : Bool} (n : ℕ) {x y : ℕ} → b ≡ not a → (a ≡ true → x ≡ y) → cond a x n ≡ cond b n y
turned {a} {b} n {x} {y} e f = rw e (go a f)
  where
    go : (a : Bool) → (a ≡ true → x ≡ y) → cond a x n ≡ cond (not a) n y
    go true f = f refl
    go false f = refl

double : (a b : Bool) (n x : ℕ) → cond a n (cond b n x) ≡ cond (a || b) n x
double true b n x = refl
double false b n x = refl

call_rows : (b z d : Bool) {f : Bool} {x y : ℕ} → d ≡ f → ((b ≡ true → d ≡ false) → x ≡ y) → or_else (cond b (cond z 1 (cond d 4 0)) 0) x ≡ cond (b && z) 1 (cond (b && f) 4 y)
call_rows false z d q f = f (λ e. absurd (true≢false (sym e)))
call_rows true true d q f = refl
call_rows true false true q f = rw (← q)
call_rows true false false q f = rw (← q) (f (λ e. refl))

-- the rows of a shape, and then those of a body
shape-first : (a b d : Bool) (c x : ℕ) → or_else (cond a 2 (cond b 3 (or_else c (cond d 0 1)))) x ≡ cond a 2 (cond b 3 (or_else c (cond d x 1)))
shape-first true b d c x = refl
shape-first false true d c x = refl
shape-first false false d c x = go (eqb c 0) refl d
  where
    go : (t : Bool) → eqb c 0 ≡ t → (d : Bool) → or_else (cond t (cond d 0 1) c) x ≡ cond t (cond d x 1) c
    go true q true = refl
    go true q false = refl
    go false q d = rw q

-- of a single number, where there is one
one-beyond : (b : Bool) (n i : ℕ) → beyond n (cond b (i ∷ []) []) ≡ (b && leb n i)
unfolding beyond
one-beyond true n i = or-false (leb n i)
one-beyond false n i = refl

one-taken : (b : Bool) (ns : List ℕ) (i : ℕ) → taken_by ns (cond b (i ∷ []) []) ≡ (b && among i ns)
unfolding taken_by
one-taken true ns i = or-false (among i ns)
one-taken false ns i = refl

module _ (n defs : ℕ) (counts : List ℕ) (m : Taken) (t : Table) (shows : Shows n defs counts m t) where
  item-taken : (l i c : ℕ) → inside l i c ≡ true
      → item_taken l i m.slots m.kept ≡ (taken_by (all_numbers slot t.nodes) (cond (eqb l slot_item) (i ∷ []) []) || taken_by (all_numbers keeps t.nodes) (cond (eqb l kept_item) (i ∷ []) []))
  unfolding item_taken
  item-taken l i c h =
      rw (one-taken (eqb l slot_item) (all_numbers slot t.nodes) i, one-taken (eqb l kept_item) (all_numbers keeps t.nodes) i) (go (eqb l slot_item) (eqb l kept_item) refl refl)
    where
      go : (a b : Bool) → eqb l slot_item ≡ a → eqb l kept_item ≡ b
          → (a && get_or m.slots i false || b && get_or m.kept i false) ≡ (a && among i (all_numbers slot t.nodes) || b && among i (all_numbers keeps t.nodes))
      go true true p q = let e : l ≡ slot_item = eqb-true l slot_item p in let f : l ≡ kept_item = eqb-true l kept_item q in absurd (omega arith)
      go true false p q = let s = (in-ranges l i c h).slot (eqb-true l slot_item p) in ap (λ (b : Bool). b || false) (shows.slots.each i (omega arith))
      go false true p q = let s = (in-ranges l i c h).kept (eqb-true l kept_item q) in shows.kept.each i (omega arith)
      go false false p q = refl

  names-rows : (ks : List ℕ) (l i c : ℕ) (cs ds ss vs : List ℕ) → cs ≡ ks → ds ≡ cond (eqb l definition_item) (i ∷ []) [] → ss ≡ cond (eqb l slot_item) (i ∷ []) []
      → vs ≡ cond (eqb l kept_item) (i ∷ []) [] → inside l i c ≡ true
      → cond {A = ℕ} (beyond n ks) 4 (cond (eqb l definition_item && leb defs i) 4 (cond (taken_in m.named ks) 5 (cond (item_taken l i m.slots m.kept) 5 0)))
      ≡ cond (beyond (length t.nodes) cs || beyond (length t.definitions) ds) 4
      (cond (taken_by (program.named t) cs || taken_by (all_numbers slot t.nodes) ss || taken_by (all_numbers keeps t.nodes) vs) 5 0)
  names-rows ks l i c cs ds ss vs p q u v h =
      rw (p, q, u, v, ← shows.nodes, ← shows.definitions, one-beyond (eqb l definition_item) defs i)
      (double (beyond n ks) (eqb l definition_item && leb defs i) 4 _
      ∙ row 4 refl (λ f. double (taken_in m.named ks) (item_taken l i m.slots m.kept) 5 0 ∙ row 5 (same f) (λ g. refl)))
    where
      same : (beyond n ks || (eqb l definition_item && leb defs i)) ≡ false
          → (taken_in m.named ks || item_taken l i m.slots m.kept)
          ≡ (taken_by (program.named t) ks || taken_by (all_numbers slot t.nodes) (cond (eqb l slot_item) (i ∷ []) []) || taken_by (all_numbers keeps t.nodes) (cond (eqb l kept_item) (i ∷ []) []))
      same f =
          rw (taken_is n ks shows.few (neither (beyond n ks) _ f).0 shows.named, item-taken l i c h)
          (sym (or_assoc (taken_by (program.named t) ks) _ _))

  module _ (kind : ℕ) (s : List ℕ) (known : kind < kind_count) (right : length s ≡ width_of kind + kids_of kind (definition_at t (get_or s 0 0)).count) where
    abbrev l : ℕ
    l = lead_of kind

    abbrev ks : List ℕ
    ks = drop (width_of kind) s

    abbrev x : program.Node
    x = program.node_of t kind s

    abbrev count : ℕ
    count = (definition_at t (get_or s 0 0)).count

    body-rows : body_number l (item_of l s) (constant_of l s) ks n defs m
        ≡ cond (outside (items_of kind count) x.values) 3
        (cond (beyond (length t.nodes) (numbers child x) || beyond (length t.definitions) (numbers definition x)) 4
        (cond (taken_by (program.named t) (numbers child x) || taken_by (all_numbers slot t.nodes) (numbers slot x) || taken_by (all_numbers keeps t.nodes) (numbers keeps x)) 5 0))
    unfolding body_number
    body-rows =
        turned 3 (node-outside kind count s known right)
        (names-rows ks l (item_of l s) (constant_of l s) (numbers child x) (numbers definition x) (numbers slot x) (numbers keeps x)
        (node-children kind count s known right)
        (node-definitions kind count s known right)
        (node-slots kind count s known right)
        (node_kept kind count s known right))

  -- of a call the count is its definition's; no other kind has one
  counted : (kind : ℕ) (s : List ℕ) → kind < kind_count → (eqb kind call_kind ≡ true → leb defs (get_or s 0 0) ≡ false)
      → kids_of kind (get_or counts (get_or s 0 0) 0) ≡ kids_of kind (definition_at t (get_or s 0 0)).count
  counted kind s h f =
      same-kids kind (get_or counts (get_or s 0 0) 0) (definition_at t (get_or s 0 0)).count h
      (λ q. shows.parameters (get_or s 0 0) (leb-false defs (get_or s 0 0) (f (eq-eqb kind call_kind q))))

  pub node-rows : (kind : ℕ) (s : List ℕ) → node_number kind s n defs (get_or counts (get_or s 0 0) 0) m ≡ first_of (node_rows t kind s)
  unfolding node_number shape_number call_number first_of
  node-rows kind s =
      shape-first (leb node_limit n) (leb kind_count kind) (eqb (length s) (width_of kind + kids_of kind (get_or counts (get_or s 0 0) 0))) (call_number kind s defs) _
      ∙ row 2 (ap (leb node_limit) shows.nodes)
      (λ a. row 3 refl
      (λ b. call_rows (eqb kind call_kind) (eqb (length s) 0) (leb defs (get_or s 0 0)) (ap (λ (d : ℕ). leb d (get_or s 0 0)) shows.definitions)
      (sized (leb-false kind_count kind b))))
    where
      sized : kind < kind_count → (eqb kind call_kind ≡ true → leb defs (get_or s 0 0) ≡ false)
          → cond (eqb (length s) (width_of kind + kids_of kind (get_or counts (get_or s 0 0) 0)))
          (body_number (lead_of kind) (item_of (lead_of kind) s) (constant_of (lead_of kind) s) (drop (width_of kind) s) n defs m) 1
          ≡ first_of (drop 4 (node_rows t kind s))
      sized known f =
          let c = counted kind s known f in
          let e : size (items_of kind (definition_at t (get_or s 0 0)).count) ≡ width_of kind + kids_of kind (get_or counts (get_or s 0 0) 0) =
          omega (arith, size_is kind (definition_at t (get_or s 0 0)).count) in
          turned 1 (ap (λ (i : ℕ). not (eqb (length s) i)) e)
          (λ a. body-rows kind s known (eqb-true (length s) _ a ∙ ap (λ (k : ℕ). width_of kind + k) c))

  named-row : (k : ℕ) → leb n k ≡ false → get_or m.named k false ≡ among k (program.named t)
  named-row k h = let a : k < n = leb-false n k h in let b = shows.few in shows.named.each k (omega arith)

  pub definition-rows : (b : List ℕ) → definition_number b n defs m.named ≡ first_of (definition_rows t b)
  unfolding definition_number first_of
  definition-rows b =
      row 2 (ap (leb definition_limit) shows.definitions)
      (λ h. turned {a = eqb (length b) 2} 1 refl
      (λ h. row {a = ltb 4 (get_or b 0 0)} 3 refl (λ h. row 4 (ap (λ (k : ℕ). leb k (get_or b 1 0)) shows.nodes) (λ h. row 5 (named-row (get_or b 1 0) h) (λ h. refl)))))

  pub main-rows : (b : List ℕ) → main_number b n m.named ≡ first_of (main_rows t b)
  unfolding main_number first_of
  main-rows b =
      turned {a = eqb (length b) 1} 1 refl
      (λ h. row 4 (ap (λ (k : ℕ). leb k (get_or b 0 0)) shows.nodes) (λ h. row 5 (named-row (get_or b 0 0) h) (λ h. refl)))

-- the number of what a field's tag and body begin with
abbrev pub entry_number : Table → TableEntry → ℕ
entry_number t (a_node kind s) = first_of (node_rows t kind s)
entry_number t (a_definition s) = first_of (definition_rows t s)
entry_number t (a_main s) = first_of (main_rows t s)
entry_number t unknown = 1

-- the entry by the tag, in the code's order
abbrev pub by_tag : ℕ → List ℕ → TableEntry
by_tag tag b = cond (eqb tag 2) (a_definition b) (cond (eqb tag 3) (a_main b) (cond (eqb tag 1) (cond (eqb (length b) 0) unknown (a_node (get_or b 0 0) (drop 1 b))) unknown))

pub entry-is : (tag : ℕ) (b : List ℕ) → entry_of tag b ≡ by_tag tag b
unfolding entry_of
entry-is tag [] = go (eqb tag 1)
  where
    go : (b : Bool) → cond (eqb tag 2) (a_definition []) (cond (eqb tag 3) (a_main []) unknown) ≡ cond (eqb tag 2) (a_definition []) (cond (eqb tag 3) (a_main []) (cond b unknown unknown))
    go true = refl
    go false = refl
entry-is tag (b ∷ s) = go (eqb tag 1) refl
  where
    go : (f : Bool) → eqb tag 1 ≡ f
        → cond f (a_node b s) (cond (eqb tag 2) (a_definition (b ∷ s)) (cond (eqb tag 3) (a_main (b ∷ s)) unknown))
        ≡ cond (eqb tag 2) (a_definition (b ∷ s)) (cond (eqb tag 3) (a_main (b ∷ s)) (cond f (cond (eqb (suc (length s)) 0) unknown (a_node b s)) unknown))
    go true q = let e : tag ≡ 1 = eqb-true tag 1 q in rw (e, ne_eqb (suc (length s)) 0 (λ z. omega arith))
    go false q = refl

pub field-rows : (n defs : ℕ) (counts : List ℕ) (m : Taken) (t : Table) → Shows n defs counts m t
    → (tag : ℕ) (b : List ℕ) → field_number tag b n defs counts m ≡ entry_number t (entry_of tag b)
unfolding field_number
field-rows n defs counts m t shows tag b = rw (entry-is tag b) (go (eqb tag 2) (eqb tag 3) (eqb tag 1) (eqb (length b) 0))
  where
    go : (f g h i : Bool)
        → cond f (definition_number b n defs m.named) (cond g (main_number b n m.named) (cond h (cond i 1 (node_number (get_or b 0 0) (drop 1 b) n defs (get_or counts (get_or (drop 1 b) 0 0) 0) m)) 1))
        ≡ entry_number t (cond f (a_definition b) (cond g (a_main b) (cond h (cond i unknown (a_node (get_or b 0 0) (drop 1 b))) unknown)))
    go true g h i = definition-rows n defs counts m t shows b
    go false true h i = main-rows n defs counts m t shows b
    go false false true true = refl
    go false false true false = node-rows n defs counts m t shows (get_or b 0 0) (drop 1 b)
    go false false false i = refl
