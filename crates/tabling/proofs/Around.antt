-- The scan back over trees: an expression is one item, and the form around is found with its head.
use mathlib.Core.Path.{◌≡◌, refl, ◌∙◌}
use mathlib.Core.List.{List, [], ◌∷◌, ◌++◌, reverse, reverse_aux, reverse_aux-append}
use mathlib.Core.Option.{some}
use Prim.Native.Nat.{ℕ, suc}
use Rattle.notation.specs.Words.{Word}
use Rattle.notation.specs.Grammar.{Token, opening, closing, word, Tree, leaf, form, Items, nil, expr, bare, tokens, item_tokens}
use Rattle.tabling.specs.Emit.{around}

-- inside brackets a tree goes by
mutual
  unfolding tokens around

  deep-tree : (t : Tree) (n k : ℕ) (u v : Word) (r : List Token) → around (suc n) k u v (reverse_aux (tokens t) r) ≡ around (suc n) k u v r
  deep-tree (leaf w) n k u v r = refl
  deep-tree (form h is) n k u v r =
      rw (reverse_aux-append (item_tokens is) (closing ∷ []) (word h ∷ opening ∷ r)) (deep-items is (suc n) k u v (word h ∷ opening ∷ r))

  deep-items : (is : Items) (n k : ℕ) (u v : Word) (r : List Token) → around (suc n) k u v (reverse_aux (item_tokens is) r) ≡ around (suc n) k u v r
  deep-items nil n k u v r = refl
  deep-items (expr t is) n k u v r =
      rw (reverse_aux-append (tokens t) (item_tokens is) r) (deep-items is n k u v (reverse_aux (tokens t) r) ∙ deep-tree t n k u v r)
  deep-items (bare w is) n k u v r = deep-items is n k u v (word w ∷ r)

-- the last word passed and the one before that, behind an item
abbrev pub tree_last : Tree → Word → Word
tree_last (leaf w) u = w
tree_last (form h is) u = u

abbrev pub tree_next : Tree → Word → Word → Word
tree_next (leaf w) u v = u
tree_next (form h is) u v = v

pub tree-item : (t : Tree) (k : ℕ) (u v : Word) (r : List Token) → around 0 k u v (reverse_aux (tokens t) r) ≡ around 0 (suc k) (tree_last t u) (tree_next t u v) r
unfolding tokens around
tree-item (leaf w) k u v r = refl
tree-item (form h is) k u v r =
    rw (reverse_aux-append (item_tokens is) (closing ∷ []) (word h ∷ opening ∷ r)) (deep-items is 0 (suc k) u v (word h ∷ opening ∷ r))

-- how many items, from k on
unfoldable pub item_count : Items → ℕ → ℕ
item_count nil k = k
item_count (expr t is) k = suc (item_count is k)
item_count (bare w is) k = suc (item_count is k)

unfoldable mutual
  pub items_last : Items → Word → Word
  items_last nil u = u
  items_last (expr t is) u = tree_last t (items_last is u)
  items_last (bare w is) u = w

  pub items_next : Items → Word → Word → Word
  items_next nil u v = v
  items_next (expr t is) u v = tree_next t (items_last is u) (items_next is u v)
  items_next (bare w is) u v = items_last is u

pub items-passed : (is : Items) (k : ℕ) (u v : Word) (r : List Token)
    → around 0 k u v (reverse_aux (item_tokens is) r) ≡ around 0 (item_count is k) (items_last is u) (items_next is u v) r
unfolding item_tokens around item_count items_last
items-passed nil k u v r = refl
items-passed (expr t is) k u v r =
    rw (reverse_aux-append (tokens t) (item_tokens is) r)
    (items-passed is k u v (reverse_aux (tokens t) r) ∙ tree-item t (item_count is k) (items_last is u) (items_next is u v) r)
items-passed (bare w is) k u v r = items-passed is k u v (word w ∷ r)

-- a form is found from its end
pub form-around : (before : List Token) (h : Word) (is : Items)
    → around 0 0 [] [] (reverse (before ++ opening ∷ word h ∷ item_tokens is))
    ≡ some (record { rest = reverse before; items = suc (item_count is 0); head = h; second = items_last is [] })
unfolding around
form-around before h is =
    rw (reverse_aux-append before (opening ∷ word h ∷ item_tokens is) [])
    (items-passed is 0 [] [] (word h ∷ opening ∷ reverse before))
