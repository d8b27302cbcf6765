-- The tree of a node, by its form, from the trees of the nodes that it names. Assumes nothing.
use mathlib.Core.Path.{◌≡◌, refl, ◌∙◌}
use mathlib.Core.Bool.{Bool, true, false, cond}
use mathlib.Core.List.{List, []}
use mathlib.Core.Logic.{⊎_elim}
use Prim.Native.Nat.{ℕ, zero, suc, ◌<◌}
use native.Mathlib.Nat.{not-suc-le-zero, le_of_suc-le-suc, eq-or-lt_of_le}
use native.Mathlib.Omega.{arith}
use lib.ListN.{length, length-append, get_or-append}
use lib.Seq.{get_or_at}
use lib.Dec.{ltb}
use borrow.Author.Tests.{ltb-true}
use Rattle.number.specs.Number.{operator_of}
use Rattle.program.specs.Tree.{Expr, nothing, constant, parameter, variable, operator, sense, rep, branch, mux, nbr, range, lag, fold_op, fold_def, call}
use Rattle.words.specs.Form.{constant_form, parameter_form, variable_form, operator_form, sense_form, rep_form, if_form, mux_form, fold_by_form, call_form, fold_form, least_form, pair_form, nbr_form}
use Rattle.words.specs.Form.{range_form, lag_form, field_if_form, field_operator_form}
use Rattle.words.specs.Word.{form, item, p1, p2, p3, p4, body, count, constant_of, word}
use Rattle.words.specs.Trees.{at, arg_at, arg_of, made, below, tree_at}

-- ---- a node below n has its own tree among those below n
length-below : (ws : List ℕ) (n : ℕ) → length (below ws n) ≡ n
unfolding below
length-below ws zero = refl
length-below ws (suc n) = length-append (below ws n) _ ∙ simp (length-below ws n) (omega arith)

pub at-below : (ws : List ℕ) (n k : ℕ) → k < n → at (below ws n) k ≡ tree_at ws k
unfolding below tree_at
at-below ws zero k h = absurd (not-suc-le-zero h)
at-below ws (suc n) k h =
    ⊎_elim
    (λ e. rw e (get_or_at (below ws n) _ [] nothing n (length-below ws n)))
    (λ l. get_or-append (below ws n) _ nothing k (rw (length-below ws n) l) ∙ at-below ws n k l)
    (eq-or-lt_of_le (le_of_suc-le-suc h))

-- the j-th argument of a call, where there is one
arg-below : (ws : List ℕ) (n w j k : ℕ) → (j < count w → k < n) → arg_at (below ws n) w j k ≡ arg_of ws (ltb j (count w)) k
arg-below ws n w j k h = go (ltb j (count w)) (λ e. h (ltb-true j (count w) e))
  where
    go : (b : Bool) → (b ≡ true → k < n) → cond b (at (below ws n) k) nothing ≡ cond b (tree_at ws k) nothing
    go true g = at-below ws n k (g refl)
    go false g = refl

-- ---- what is made of a word, by its form
module _ (n : ℕ) (es : List Expr) (w : ℕ) where
  made_lit : form w ≡ constant_form → made n es w ≡ constant (constant_of w)
  unfolding made
  made_lit h = rw h

  made-param : form w ≡ parameter_form → made n es w ≡ parameter n (item w)
  unfolding made
  made-param h = rw h

  made-var : form w ≡ variable_form → made n es w ≡ variable n (item w)
  unfolding made
  made-var h = rw h

  pub made-oper : form w ≡ operator_form → made n es w ≡ operator n (operator_of (item w)) (at es (p1 w)) (at es (p2 w))
  unfolding made
  made-oper h = rw h

  made-sense : form w ≡ sense_form → made n es w ≡ sense (at es (p1 w))
  unfolding made
  made-sense h = rw h

  made-rep : form w ≡ rep_form → made n es w ≡ rep (item w) (at es (p1 w)) (at es (p2 w))
  unfolding made
  made-rep h = rw h

  made-if : form w ≡ if_form → made n es w ≡ branch (at es (p1 w)) (at es (p2 w)) (at es (p3 w))
  unfolding made
  made-if h = rw h

  made-mux : form w ≡ mux_form → made n es w ≡ mux (at es (p1 w)) (at es (p2 w)) (at es (p3 w))
  unfolding made
  made-mux h = rw h

  pub made-fold : form w ≡ fold_by_form → made n es w ≡ fold_def (at es (body w)) (at es (p1 w)) (at es (p2 w))
  unfolding made
  made-fold h = rw h

  made-call : form w ≡ call_form → made n es w ≡ call (at es (body w)) (arg_at es w 0 (p1 w)) (arg_at es w 1 (p2 w)) (arg_at es w 2 (p3 w)) (arg_at es w 3 (p4 w))
  unfolding made
  made-call h = rw h

  made-foldop : form w ≡ fold_form → made n es w ≡ fold_op n (operator_of (item w)) (at es (p1 w)) (at es (p2 w))
  unfolding made
  made-foldop h = rw h

  pub made-least : form w ≡ least_form → made n es w ≡ fold_def (at es (body w)) (at es (p1 w)) (at es (p2 w))
  unfolding made
  made-least h = rw h

  pub made_pair : form w ≡ pair_form → made n es w ≡ operator n (operator_of (item w)) (at es (p1 w)) (at es (p2 w))
  unfolding made
  made_pair h = rw h

  made-nbr : form w ≡ nbr_form → made n es w ≡ nbr (item w) (at es (p1 w))
  unfolding made
  made-nbr h = rw h

  made_range : form w ≡ range_form → made n es w ≡ range (item w)
  unfolding made
  made_range h = rw h

  made-lag : form w ≡ lag_form → made n es w ≡ lag (item w)
  unfolding made
  made-lag h = rw h

  made-iff : form w ≡ field_if_form → made n es w ≡ branch (at es (p1 w)) (at es (p2 w)) (at es (p3 w))
  unfolding made
  made-iff h = rw h

  made-operf : form w ≡ field_operator_form → made n es w ≡ operator n (operator_of (item w)) (at es (p1 w)) (at es (p2 w))
  unfolding made
  made-operf h = rw h

-- ---- two tables whose words come to the same have the same trees
module _ (ws us : List ℕ) (same : (n : ℕ) (es : List Expr) → made n es (word us n) ≡ made n es (word ws n)) where
  same-below : (n : ℕ) → below us n ≡ below ws n
  unfolding below
  same-below zero = refl
  same-below (suc n) = rw (same-below n, same n (below ws n))

  pub same-trees : (n : ℕ) → tree_at us n ≡ tree_at ws n
  unfolding tree_at
  same-trees n = rw (same-below n) (same n (below ws n))

-- ---- the tree of a node, by its form
module _ (ws : List ℕ) (n : ℕ) where
  pub tree-lit : form (word ws n) ≡ constant_form → tree_at ws n ≡ constant (constant_of (word ws n))
  unfolding tree_at
  tree-lit h = made_lit n (below ws n) (word ws n) h

  pub tree-param : form (word ws n) ≡ parameter_form → tree_at ws n ≡ parameter n (item (word ws n))
  unfolding tree_at
  tree-param h = made-param n (below ws n) (word ws n) h

  pub tree-var : form (word ws n) ≡ variable_form → tree_at ws n ≡ variable n (item (word ws n))
  unfolding tree_at
  tree-var h = made-var n (below ws n) (word ws n) h

  pub tree-oper : form (word ws n) ≡ operator_form → p1 (word ws n) < n → p2 (word ws n) < n
      → tree_at ws n ≡ operator n (operator_of (item (word ws n))) (tree_at ws (p1 (word ws n))) (tree_at ws (p2 (word ws n)))
  unfolding tree_at
  tree-oper h h1 h2 = made-oper n (below ws n) (word ws n) h ∙ simp (at-below ws n (p1 (word ws n)) h1, at-below ws n (p2 (word ws n)) h2)

  pub tree-sense : form (word ws n) ≡ sense_form → p1 (word ws n) < n → tree_at ws n ≡ sense (tree_at ws (p1 (word ws n)))
  unfolding tree_at
  tree-sense h h1 = made-sense n (below ws n) (word ws n) h ∙ simp (at-below ws n (p1 (word ws n)) h1)

  pub tree-rep : form (word ws n) ≡ rep_form → p1 (word ws n) < n → p2 (word ws n) < n
      → tree_at ws n ≡ rep (item (word ws n)) (tree_at ws (p1 (word ws n))) (tree_at ws (p2 (word ws n)))
  unfolding tree_at
  tree-rep h h1 h2 = made-rep n (below ws n) (word ws n) h ∙ simp (at-below ws n (p1 (word ws n)) h1, at-below ws n (p2 (word ws n)) h2)

  pub tree-if : form (word ws n) ≡ if_form → p1 (word ws n) < n → p2 (word ws n) < n → p3 (word ws n) < n
      → tree_at ws n ≡ branch (tree_at ws (p1 (word ws n))) (tree_at ws (p2 (word ws n))) (tree_at ws (p3 (word ws n)))
  unfolding tree_at
  tree-if h h1 h2 h3 = made-if n (below ws n) (word ws n) h
      ∙ simp (at-below ws n (p1 (word ws n)) h1, at-below ws n (p2 (word ws n)) h2, at-below ws n (p3 (word ws n)) h3)

  pub tree-mux : form (word ws n) ≡ mux_form → p1 (word ws n) < n → p2 (word ws n) < n → p3 (word ws n) < n
      → tree_at ws n ≡ mux (tree_at ws (p1 (word ws n))) (tree_at ws (p2 (word ws n))) (tree_at ws (p3 (word ws n)))
  unfolding tree_at
  tree-mux h h1 h2 h3 = made-mux n (below ws n) (word ws n) h
      ∙ simp (at-below ws n (p1 (word ws n)) h1, at-below ws n (p2 (word ws n)) h2, at-below ws n (p3 (word ws n)) h3)

  pub tree-fold : form (word ws n) ≡ fold_by_form → body (word ws n) < n → p1 (word ws n) < n → p2 (word ws n) < n
      → tree_at ws n ≡ fold_def (tree_at ws (body (word ws n))) (tree_at ws (p1 (word ws n))) (tree_at ws (p2 (word ws n)))
  unfolding tree_at
  tree-fold h hb h1 h2 = made-fold n (below ws n) (word ws n) h
      ∙ simp (at-below ws n (body (word ws n)) hb, at-below ws n (p1 (word ws n)) h1, at-below ws n (p2 (word ws n)) h2)

  pub tree-call : form (word ws n) ≡ call_form → body (word ws n) < n
      → (0 < count (word ws n) → p1 (word ws n) < n) → (1 < count (word ws n) → p2 (word ws n) < n)
      → (2 < count (word ws n) → p3 (word ws n) < n) → (3 < count (word ws n) → p4 (word ws n) < n)
      → tree_at ws n ≡ call (tree_at ws (body (word ws n)))
      (arg_of ws (ltb 0 (count (word ws n))) (p1 (word ws n))) (arg_of ws (ltb 1 (count (word ws n))) (p2 (word ws n)))
      (arg_of ws (ltb 2 (count (word ws n))) (p3 (word ws n))) (arg_of ws (ltb 3 (count (word ws n))) (p4 (word ws n)))
  unfolding tree_at
  tree-call h hb h1 h2 h3 h4 = made-call n (below ws n) (word ws n) h
      ∙ simp (
        at-below ws n (body (word ws n)) hb,
        arg-below ws n (word ws n) 0 (p1 (word ws n)) h1,
        arg-below ws n (word ws n) 1 (p2 (word ws n)) h2,
        arg-below ws n (word ws n) 2 (p3 (word ws n)) h3,
        arg-below ws n (word ws n) 3 (p4 (word ws n)) h4,
      )

  pub tree-foldop : form (word ws n) ≡ fold_form → p1 (word ws n) < n → p2 (word ws n) < n
      → tree_at ws n ≡ fold_op n (operator_of (item (word ws n))) (tree_at ws (p1 (word ws n))) (tree_at ws (p2 (word ws n)))
  unfolding tree_at
  tree-foldop h h1 h2 = made-foldop n (below ws n) (word ws n) h ∙ simp (at-below ws n (p1 (word ws n)) h1, at-below ws n (p2 (word ws n)) h2)

  pub tree-least : form (word ws n) ≡ least_form → body (word ws n) < n → p1 (word ws n) < n → p2 (word ws n) < n
      → tree_at ws n ≡ fold_def (tree_at ws (body (word ws n))) (tree_at ws (p1 (word ws n))) (tree_at ws (p2 (word ws n)))
  unfolding tree_at
  tree-least h hb h1 h2 = made-least n (below ws n) (word ws n) h
      ∙ simp (at-below ws n (body (word ws n)) hb, at-below ws n (p1 (word ws n)) h1, at-below ws n (p2 (word ws n)) h2)

  pub tree-pair : form (word ws n) ≡ pair_form → p1 (word ws n) < n → p2 (word ws n) < n
      → tree_at ws n ≡ operator n (operator_of (item (word ws n))) (tree_at ws (p1 (word ws n))) (tree_at ws (p2 (word ws n)))
  unfolding tree_at
  tree-pair h h1 h2 = made_pair n (below ws n) (word ws n) h ∙ simp (at-below ws n (p1 (word ws n)) h1, at-below ws n (p2 (word ws n)) h2)

  pub tree-nbr : form (word ws n) ≡ nbr_form → p1 (word ws n) < n → tree_at ws n ≡ nbr (item (word ws n)) (tree_at ws (p1 (word ws n)))
  unfolding tree_at
  tree-nbr h h1 = made-nbr n (below ws n) (word ws n) h ∙ simp (at-below ws n (p1 (word ws n)) h1)

  pub tree-range : form (word ws n) ≡ range_form → tree_at ws n ≡ range (item (word ws n))
  unfolding tree_at
  tree-range h = made_range n (below ws n) (word ws n) h

  pub tree-lag : form (word ws n) ≡ lag_form → tree_at ws n ≡ lag (item (word ws n))
  unfolding tree_at
  tree-lag h = made-lag n (below ws n) (word ws n) h

  pub tree-iff : form (word ws n) ≡ field_if_form → p1 (word ws n) < n → p2 (word ws n) < n → p3 (word ws n) < n
      → tree_at ws n ≡ branch (tree_at ws (p1 (word ws n))) (tree_at ws (p2 (word ws n))) (tree_at ws (p3 (word ws n)))
  unfolding tree_at
  tree-iff h h1 h2 h3 = made-iff n (below ws n) (word ws n) h
      ∙ simp (at-below ws n (p1 (word ws n)) h1, at-below ws n (p2 (word ws n)) h2, at-below ws n (p3 (word ws n)) h3)

  pub tree-operf : form (word ws n) ≡ field_operator_form → p1 (word ws n) < n → p2 (word ws n) < n
      → tree_at ws n ≡ operator n (operator_of (item (word ws n))) (tree_at ws (p1 (word ws n))) (tree_at ws (p2 (word ws n)))
  unfolding tree_at
  tree-operf h h1 h2 = made-operf n (below ws n) (word ws n) h ∙ simp (at-below ws n (p1 (word ws n)) h1, at-below ws n (p2 (word ws n)) h2)
