-- The trees of the first nodes of a table, and of words that make the same trees. Assumes nothing.
use mathlib.Core.Path.{◌≡◌, refl, sym, ap, ◌∙◌}
use mathlib.Core.List.{List, [], ◌∷◌, ◌++◌}
use Prim.Native.Nat.{ℕ, zero, suc, ◌+◌, ◌≤◌, ◌<◌}
use native.Mathlib.Omega.{arith}
use lib.ListN.{length, get_or, take, drop, length-append, length-take, take-append-drop, get_or-append}
use lib.Seq.{take-suc, get_or_at}
use Rattle.program.specs.Table.{Node, Definition}
use Rattle.program.specs.Tree.{Expr, nothing, tree_of, grown}
use Rattle.words.specs.Word.{word}
use Rattle.words.specs.Trees.{made, below, tree_at}
use Rattle.words.proofs.Trees.{at-below}

-- the trees of the first k nodes
abbrev pub firsts : List Definition → List Node → ℕ → List Expr
firsts ds xs k = grown ds [] (take k xs)

module _ (ds : List Definition) where
  grown-append : (xs ys : List Node) (es : List Expr) → grown ds es (xs ++ ys) ≡ grown ds (grown ds es xs) ys
  unfolding grown
  grown-append [] ys es = refl
  grown-append (x ∷ xs) ys es = grown-append xs ys (es ++ tree_of ds es (length es) x ∷ [])

  grown-first : (xs : List Node) (es : List Expr) (i : ℕ) → i < length es → get_or (grown ds es xs) i nothing ≡ get_or es i nothing
  unfolding grown
  grown-first [] es i h = refl
  grown-first (x ∷ xs) es i h =
      let e : Expr = tree_of ds es (length es) x in
      grown-first xs (es ++ e ∷ []) i (omega (arith, length-append es (e ∷ []))) ∙ get_or-append es (e ∷ []) nothing i h

  length-grown : (xs : List Node) (es : List Expr) → length (grown ds es xs) ≡ length es + length xs
  unfolding grown
  length-grown [] es = omega arith
  length-grown (x ∷ xs) es =
      let e : Expr = tree_of ds es (length es) x in
      omega (arith, length-grown xs (es ++ e ∷ []), length-append es (e ∷ []))

module _ (ds : List Definition) (xs : List Node) (d : Node) where
  length-firsts : (k : ℕ) → k ≤ length xs → length (firsts ds xs k) ≡ k
  length-firsts k h = omega (arith, length-grown ds (take k xs) [], length-take k xs)

  firsts-suc : (k : ℕ) → k < length xs → firsts ds xs (suc k) ≡ firsts ds xs k ++ tree_of ds (firsts ds xs k) k (get_or xs k d) ∷ []
  unfolding grown
  firsts-suc k h =
      ap (grown ds []) (take-suc xs k d h) ∙ grown-append ds (take k xs) (get_or xs k d ∷ []) []
      ∙ ap (λ (m : ℕ). firsts ds xs k ++ tree_of ds (firsts ds xs k) m (get_or xs k d) ∷ []) (length-firsts k (omega arith))

  pub first-tree : (k j : ℕ) → j < k → k ≤ length xs → get_or (firsts ds xs k) j nothing ≡ get_or (grown ds [] xs) j nothing
  first-tree k j h l =
      sym (grown-first ds (drop k xs) (firsts ds xs k) j (omega (arith, length-firsts k l)))
      ∙ ap (λ (es : List Expr). get_or es j nothing) (sym (grown-append ds (take k xs) (drop k xs) []) ∙ ap (grown ds []) (take-append-drop k xs))

  -- node k's tree, from those of the node_limit before it
  pub tree_is : (k : ℕ) → k < length xs → get_or (grown ds [] xs) k nothing ≡ tree_of ds (firsts ds xs k) k (get_or xs k d)
  tree_is k h =
      sym (first-tree (suc k) k (omega arith) h) ∙ ap (λ (es : List Expr). get_or es k nothing) (firsts-suc k h)
      ∙ get_or_at (firsts ds xs k) _ [] nothing k (length-firsts k (omega arith))

  -- words that make each node's tree from those before it make all of the first trees
  abbrev Makes : List ℕ → ℕ → Type 0
  Makes ws n = (k : ℕ) → k < n → made k (firsts ds xs k) (word ws k) ≡ tree_of ds (firsts ds xs k) k (get_or xs k d)

  below-is : (ws : List ℕ) (n : ℕ) → n ≤ length xs → Makes ws n → below ws n ≡ firsts ds xs n
  unfolding below grown
  below-is ws zero l m = refl
  below-is ws (suc n) l m = rw (below-is ws n (omega arith) (λ k h. m k (omega arith)), m n (omega arith)) (sym (firsts-suc n l))

  pub tree-at : (ws : List ℕ) (n k : ℕ) → n ≤ length xs → Makes ws n → k < n → tree_at ws k ≡ get_or (grown ds [] xs) k nothing
  tree-at ws n k l m h =
      sym (at-below ws n k h) ∙ ap (λ (es : List Expr). get_or es k nothing) (below-is ws n l m) ∙ first-tree n k h l
