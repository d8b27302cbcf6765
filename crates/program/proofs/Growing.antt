-- The trees of a table, one after the other: each has a sort where no test of sorts fails.
use mathlib.Core.Path.{◌≡◌, refl, sym, ◌∙◌, ap}
use mathlib.Core.Logic.{inl, inr}
use mathlib.Core.Bool.{Bool, true, false, cond}
use mathlib.Core.List.{List, [], ◌∷◌, ◌++◌, Memᴰ}
use Prim.Native.Nat.{ℕ, zero, suc, ◌+◌, ◌≤◌, ◌<◌}
use native.Mathlib.Omega.{arith}
use lib.ListN.{length, get_or, length-append, get_or-append, get_or-eq_default}
use lib.Seq.{get_or-append_seam}
use lib.Dec.{ltb}
use borrow.Author.Tests.{ltb-true, ltb-false}
use Rattle.number.specs.Number.{operator_of}
use Rattle.program.specs.Table.{Node, Definition, Table, no_definition}
use Rattle.program.specs.Tree.{Expr, nothing, tree_of, grown, trees, tree, is_field, sort_broken}
use Rattle.program.specs.Sorts.{a_number, a_field, HasSort, T-nothing, T-constant, T-parameter, T-variable, T-range, T-lag}
use Rattle.program.proofs.Bodied.{Bodied}
use Rattle.program.proofs.Sorting.{Sorted, as_number, sort-operator, sort-sense, sort-rep, sort-branch, sort-mux, sort-nbr, sort-fold_op, sort-fold_def, sort-call}

-- one node's tree, from trees that have sorts
module _ (ds : List Definition) (es : List Expr) (n : ℕ) (vs : List ℕ) (s : (i : ℕ) → Sorted (get_or es i nothing)) where
  argument : (i : ℕ) → Sorted (cond (ltb i (length vs)) (get_or es (get_or vs i 0) nothing) nothing)
  argument i = go (ltb i (length vs))
    where
      go : (b : Bool) → Sorted (cond b (get_or es (get_or vs i 0) nothing) nothing)
      go true = s (get_or vs i 0)
      go false = (a_number, T-nothing)

  child : (i : ℕ) → Sorted (get_or es (get_or vs i 0) nothing)
  child i = s (get_or vs i 0)

  -- one clause for each of the fourteen kinds, and one for what is none
  sort-tree : (kind : ℕ) → (Bodied kind → HasSort (get_or es (get_or ds (get_or vs 0 0) no_definition).body nothing) a_number)
      → sort_broken (tree_of ds es n (record { kind = kind; values = vs })) ≡ false → Sorted (tree_of ds es n (record { kind = kind; values = vs }))
  unfolding tree_of
  sort-tree zero f q = (a_number, T-constant)
  sort-tree (suc zero) f q = (a_number, T-parameter)
  sort-tree (suc (suc zero)) f q = (a_number, T-variable)
  sort-tree (suc (suc (suc zero))) f q = sort-operator n (operator_of (get_or vs 0 0)) (child 1) (child 2)
  sort-tree (suc (suc (suc (suc zero)))) f q = sort-sense (child 0) q
  sort-tree (suc (suc (suc (suc (suc zero))))) f q = sort-rep (get_or vs 0 0) (child 1) (child 2) q
  sort-tree (suc (suc (suc (suc (suc (suc zero)))))) f q = sort-branch (child 0) (child 1) (child 2) q
  sort-tree (suc (suc (suc (suc (suc (suc (suc zero))))))) f q = sort-mux (child 0) (child 1) (child 2) q
  sort-tree (suc (suc (suc (suc (suc (suc (suc (suc zero)))))))) f q = sort-nbr (get_or vs 0 0) (child 1) q
  sort-tree (suc (suc (suc (suc (suc (suc (suc (suc (suc zero))))))))) f q = (a_field, T-range)
  sort-tree (suc (suc (suc (suc (suc (suc (suc (suc (suc (suc zero)))))))))) f q = sort-fold_op n (operator_of (get_or vs 0 0)) (child 1) (child 2) q
  sort-tree (suc (suc (suc (suc (suc (suc (suc (suc (suc (suc (suc zero))))))))))) f q = sort-fold_def (f (inl refl)) (child 1) (child 2) q
  sort-tree (suc (suc (suc (suc (suc (suc (suc (suc (suc (suc (suc (suc zero)))))))))))) f q =
      sort-call (f (inr refl)) (argument 1) (argument 2) (argument 3) (argument 4) q
  sort-tree (suc (suc (suc (suc (suc (suc (suc (suc (suc (suc (suc (suc (suc zero))))))))))))) f q = (a_field, T-lag)
  sort-tree (suc (suc (suc (suc (suc (suc (suc (suc (suc (suc (suc (suc (suc (suc k)))))))))))))) f q = (a_number, T-nothing)

-- a tree stays what it is while others are built behind it
grown-first : (ds : List Definition) (xs : List Node) (es : List Expr) (i : ℕ) → i < length es → get_or (grown ds es xs) i nothing ≡ get_or es i nothing
unfolding grown
grown-first ds [] es i h = refl
grown-first ds (x ∷ xs) es i h =
    let e : Expr = tree_of ds es (length es) x in
    grown-first ds xs (es ++ e ∷ []) i (omega (arith, length-append es (e ∷ []))) ∙ get_or-append es (e ∷ []) nothing i h

length-grown : (ds : List Definition) (xs : List Node) (es : List Expr) → length (grown ds es xs) ≡ length es + length xs
unfolding grown
length-grown ds [] es = omega arith
length-grown ds (x ∷ xs) es =
    let e : Expr = tree_of ds es (length es) x in
    omega (arith, length-grown ds xs (es ++ e ∷ []), length-append es (e ∷ []))

more-sorted : (es : List Expr) (e : Expr) → ((i : ℕ) → Sorted (get_or es i nothing)) → Sorted e → (i : ℕ) → Sorted (get_or (es ++ e ∷ []) i nothing)
more-sorted [] e f s zero = s
more-sorted [] e f s (suc i) = f 0
more-sorted (a ∷ es) e f s zero = f 0
more-sorted (a ∷ es) e f s (suc i) = more-sorted es e (λ j. f (suc j)) s i

module _ (ds : List Definition) (all : List Expr) (q : (n : ℕ) → sort_broken (get_or all n nothing) ≡ false) where
  -- the tree that a node's definition has for its body
  abbrev body_tree : List Expr → Node → Expr
  body_tree es x = get_or es (get_or ds (get_or x.values 0 0) no_definition).body nothing

  -- the trees es so far have sorts, and so has the next: its test passed, and the body that it may name is no field
  grown-sorted : (xs : List Node) (es : List Expr) → grown ds es xs ≡ all → ((i : ℕ) → Sorted (get_or es i nothing))
      → ((x : Node) → Memᴰ x xs → Bodied x.kind → is_field (body_tree all x) ≡ false) → (i : ℕ) → Sorted (get_or all i nothing)
  unfolding grown is_field
  grown-sorted [] es g s b i = rw (← g) (s i)
  grown-sorted (x ∷ xs) es g s b i =
      grown-sorted xs (es ++ e ∷ []) g (more-sorted es e s here-sorted) (λ y m. b y (Memᴰ.tail m)) i
    where
      e : Expr
      e = tree_of ds es (length es) x

      first : (i : ℕ) → i < length (es ++ e ∷ []) → get_or all i nothing ≡ get_or (es ++ e ∷ []) i nothing
      first i h = ap (λ (l : List Expr). get_or l i nothing) (sym g) ∙ grown-first ds xs (es ++ e ∷ []) i h

      here : get_or all (length es) nothing ≡ e
      here = first (length es) (omega (arith, length-append es (e ∷ []))) ∙ get_or-append_seam es e [] nothing

      early : (k : ℕ) → is_field (get_or all k nothing) ≡ false → is_field (get_or es k nothing) ≡ false
      early k h = go (ltb k (length es)) refl
        where
          go : (c : Bool) → ltb k (length es) ≡ c → is_field (get_or es k nothing) ≡ false
          go true r =
              let l : k < length es = ltb-true k (length es) r in
              rw (← get_or-append es (e ∷ []) nothing k l, ← first k (omega (arith, length-append es (e ∷ [])))) h
          go false r = rw (get_or-eq_default es nothing (ltb-false k (length es) r))

      number : Bodied x.kind → HasSort (body_tree es x) a_number
      number c = as_number (body_tree es x) (s _) (early _ (b x (Memᴰ.head refl) c))

      here-sorted : Sorted e
      here-sorted = sort-tree ds es (length es) x.values s x.kind number (rw here at (q (length es)))

-- a table whose nodes all pass: every number of a node has a tree with a sort
pub tree-sorts : (t : Table) → ((n : ℕ) → n < length t.nodes → sort_broken (tree t n) ≡ false)
    → ((x : Node) → Memᴰ x t.nodes → Bodied x.kind → is_field (tree t (get_or t.definitions (get_or x.values 0 0) no_definition).body) ≡ false)
    → (n : ℕ) → Sorted (tree t n)
unfolding trees sort_broken
tree-sorts t q b = grown-sorted t.definitions (trees t) whole t.nodes [] refl (λ i. (a_number, T-nothing)) b
  where
    whole : (n : ℕ) → sort_broken (tree t n) ≡ false
    whole n = go (ltb n (length t.nodes)) refl
      where
        go : (c : Bool) → ltb n (length t.nodes) ≡ c → sort_broken (tree t n) ≡ false
        go true r = q n (ltb-true n (length t.nodes) r)
        go false r =
            let l : length (trees t) ≤ n = omega (arith, ltb-false n (length t.nodes) r, length-grown t.definitions t.nodes []) in
            rw (get_or-eq_default (trees t) nothing l)
