-- A body of the right length: what program's definitions make of it, said of its first item and the bytes behind.
use mathlib.Core.Path.{◌≡◌, refl, ◌∙◌, ap}
use mathlib.Core.Bool.{Bool, false, not, cond, ◌||◌, or-false}
use mathlib.Core.List.{List, [], ◌∷◌, ◌++◌, append-nil}
use Prim.Native.Nat.{ℕ, ◌+◌, ◌-◌, ◌≤◌, ◌<◌}
use native.Mathlib.Omega.{arith}
use lib.ListN.{length, get_or, take, drop, replicate, length-drop, length-replicate}
use lib.Dec.{eqb}
use Rattle.program.specs.Table as program
use Rattle.program.specs.Table.{kind_count, Item, keeps, slot, child, definition, items, items_of, values_in, outside, picked, code, numbers}
use Rattle.program.proofs.Items.{same-items, length-values}
use Rattle.nodes.specs.Values.{head_of, children_of, node_of}
use Rattle.shapes.specs.Kinds.{call_kind}
use Rattle.shapes.proofs.ByKind.{number-of-kind}
use Rattle.shapes.specs.Shapes.{kept_item, slot_item, definition_item, lead_of, width_of, kids_of, inside}
use Rattle.nodes.specs.Body.{item_of, constant_of, made}
use Rattle.nodes.proofs.Items.{first, items-are, values-are, lead-below, first-values, first-outside, first-child, first-kept, first_slot, first-definition}
use Rattle.nodes.proofs.Items.{head-length, picked-append, outside-append, children-inside, children-picked, others-picked}

-- the node that program's definitions make of a body
abbrev node : ℕ → ℕ → List ℕ → program.Node
node kind count s = record { kind = kind; values = values_in (items_of kind count) s }

-- at most four numbers
pub four : (k : ℕ) (ks : List ℕ) → k ≤ 4 → length ks ≡ k → take k (get_or ks 0 0 ∷ get_or ks 1 0 ∷ get_or ks 2 0 ∷ get_or ks 3 0 ∷ []) ≡ ks
four k [] h e = let z : k ≡ 0 = omega arith in rw z
four k (a ∷ []) h e = let z : k ≡ 1 = omega arith in rw z
four k (a ∷ b ∷ []) h e = let z : k ≡ 2 = omega arith in rw z
four k (a ∷ b ∷ c ∷ []) h e = let z : k ≡ 3 = omega arith in rw z
four k (a ∷ b ∷ c ∷ d ∷ []) h e = let z : k ≡ 4 = omega arith in rw z
four k (a ∷ b ∷ c ∷ d ∷ f ∷ ks) h e = absurd (omega arith)

module _ (kind count : ℕ) (s : List ℕ) (known : kind < kind_count) (right : length s ≡ width_of kind + kids_of kind count) where
  abbrev l : ℕ
  l = lead_of kind

  abbrev ks : List ℕ
  ks = drop (width_of kind) s

  abbrev vs : List ℕ
  vs = head_of l (item_of l s) (constant_of l s)

  pub node-values : values_in (items_of kind count) s ≡ vs ++ ks
  node-values =
      values-are kind count s right
      ∙ ap (λ (v : List ℕ). v ++ ks) (first-values l s (lead-below kind))

  kids-length : length ks ≡ kids_of kind count
  kids-length = length-drop (width_of kind) s ∙ omega arith

  same_length : length (first l) ≡ length vs
  same_length = head-length l (item_of l s) (constant_of l s) (lead-below kind)

  pub node-outside : outside (items_of kind count) (values_in (items_of kind count) s) ≡ not (inside l (item_of l s) (constant_of l s))
  node-outside =
      cc (node-values, items-are kind count)
      ∙ outside-append (first l) (replicate (kids_of kind count) child) vs ks same_length
      ∙ ap (λ (b : Bool). outside (first l) vs || b) (children-inside (kids_of kind count) ks)
      ∙ or-false (outside (first l) vs)
      ∙ first-outside l (item_of l s) (constant_of l s) (lead-below kind)

  node-items : items (node kind count s) ≡ first l ++ replicate (kids_of kind count) child
  node-items = same-items kind (length (values_in (items_of kind count) s) - 1) count known call ∙ items-are kind count
    where
      call : kind ≡ call_kind → length (values_in (items_of kind count) s) - 1 ≡ count
      call e =
          let a : length (values_in (items_of kind count) s) ≡ length (items_of kind count) = length-values (items_of kind count) s in
          let b : length (items_of kind count) ≡ 1 + length (replicate count child) = ap (λ (n : ℕ). length (items_of n count)) e ∙ omega arith in
          omega (arith, length-replicate count child)

  node-numbers : (j : Item) → numbers j (node kind count s) ≡ picked j (first l) vs ++ picked j (replicate (kids_of kind count) child) ks
  node-numbers j = cc (node-items, node-values) ∙ picked-append j (first l) (replicate (kids_of kind count) child) vs ks same_length

  pub node-children : numbers child (node kind count s) ≡ ks
  node-children =
      node-numbers child
      ∙ cc (first-child l (item_of l s) (constant_of l s) (lead-below kind), children-picked (kids_of kind count) ks kids-length)

  node-others : (j : Item) (ns : List ℕ) → eqb (code child) (code j) ≡ false → picked j (first l) vs ≡ ns → numbers j (node kind count s) ≡ ns
  node-others j ns e q = node-numbers j ∙ cc (q, others-picked j e (kids_of kind count) ks) ∙ append-nil ns

  pub node-slots : numbers slot (node kind count s) ≡ cond (eqb l slot_item) (item_of l s ∷ []) []
  node-slots = node-others slot _ refl (first_slot l (item_of l s) (constant_of l s) (lead-below kind))

  pub node_kept : numbers keeps (node kind count s) ≡ cond (eqb l kept_item) (item_of l s ∷ []) []
  node_kept = node-others keeps _ refl (first-kept l (item_of l s) (constant_of l s) (lead-below kind))

  pub node-definitions : numbers definition (node kind count s) ≡ cond (eqb l definition_item) (item_of l s ∷ []) []
  node-definitions = node-others definition _ refl (first-definition l (item_of l s) (constant_of l s) (lead-below kind))

  -- the node that the code makes stands for it
  pub node_made : kids_of kind count ≤ 4 → node_of (made kind l (kids_of kind count) s ks) ≡ node kind count s
  unfolding node_of made
  node_made h =
      let e : take (kids_of kind count) (get_or ks 0 0 ∷ get_or ks 1 0 ∷ get_or ks 2 0 ∷ get_or ks 3 0 ∷ []) ≡ ks = four (kids_of kind count) ks h kids-length in
      rw (number-of-kind kind known) (cc (node-values))

  pub children-made : kids_of kind count ≤ 4 → children_of (made kind l (kids_of kind count) s ks) ≡ ks
  unfolding made
  children-made h = four (kids_of kind count) ks h kids-length
