-- The rows over all nodes: no refusal exactly when none offends.
use mathlib.Core.Path.{◌≡◌, refl, sym, ◌∙◌, ap}
use mathlib.Core.Bool.{Bool, true, false, cond}
use mathlib.Core.List.{List, [], ◌∷◌, ◌++◌}
use mathlib.Core.Option.{Option, none, some}
use Prim.Native.Nat.{ℕ, zero, suc, min, ◌≤◌, ◌<◌}
use native.Mathlib.Omega.{arith}
use lib.ListN.{length}
use lib.Dec.{eqb, ltb}
use borrow.Author.Tests.{eqb-true, eqb-false, ltb-false, le-ltb}
use Rattle.program.specs.Table.{Table}
use Rattle.program.specs.Tree.{tree, misread, cost}
use Rattle.program.specs.Check.{lowest, offending, sort_offends, misread_in, use_offends, Verdict, or_else, tree_rows}

pub cons-nil : {n : ℕ} {ns : List ℕ} → n ∷ ns ≡ [] → ⊥
cons-nil e = let z : ◌≡◌ {A = ℕ} 0 1 = cc in omega arith

-- two lists in one, of which nothing is left
pub both-nil : (ms ns : List ℕ) → ms ++ ns ≡ [] → (ms ≡ []) × (ns ≡ [])
both-nil [] ns e = (refl, e)
both-nil (m ∷ ms) ns e = absurd (cons-nil e)

pub nil-both : {ms ns : List ℕ} → ms ≡ [] → ns ≡ [] → ms ++ ns ≡ []
nil-both p q = rw (p, q)

none-offends : (p : ℕ → Bool) (n : ℕ) → offending p n ≡ [] → (i : ℕ) → i < n → p i ≡ false
unfolding offending
none-offends p zero e i h = absurd (omega arith)
none-offends p (suc n) e i h = go (p n) refl e (eqb i n) refl (none-offends p n)
  where
    go : (b : Bool) → p n ≡ b → cond b (n ∷ offending p n) (offending p n) ≡ [] → (c : Bool) → eqb i n ≡ c
        → (offending p n ≡ [] → (j : ℕ) → j < n → p j ≡ false) → p i ≡ false
    go true q e c r f = absurd (cons-nil e)
    go false q e true r f = ap p (eqb-true i n r) ∙ q
    go false q e false r f = f e i (let d : i ≡ n → ⊥ = eqb-false i n r in omega arith)

offends-none : (p : ℕ → Bool) (n : ℕ) → ((i : ℕ) → i < n → p i ≡ false) → offending p n ≡ []
unfolding offending
offends-none p zero f = refl
offends-none p (suc n) f = rw (f n (omega arith)) (offends-none p n (λ i h. f i (omega arith)))

-- a row of the verdict whose list is empty is passed by
or_else-next : (ns : List ℕ) (number : ℕ) (next : Verdict) → ns ≡ [] → or_else (lowest ns) number next ≡ next
unfolding lowest
or_else-next ns number next e = rw e

some-lowest : (n : ℕ) (ns : List ℕ) → (m : ℕ) × (lowest (n ∷ ns) ≡ some m)
unfolding lowest
some-lowest n ns = go (lowest ns) refl
  where
    go : (o : Option ℕ) → lowest ns ≡ o → (m : ℕ) × (lowest (n ∷ ns) ≡ some m)
    go none q = (n, rw q)
    go (some m) q = (min n m, rw q)

next-or_else : (ns : List ℕ) (number : ℕ) (next : Verdict) → 0 < number → or_else (lowest ns) number next ≡ (0, 0) → (ns ≡ []) × (next ≡ (0, 0))
unfolding lowest
next-or_else [] number next h e = (refl, e)
next-or_else (n ∷ ns) number next h e =
    let s = some-lowest n ns in
    absurd (omega (arith, ap (λ (v : Verdict). v.0) (ap (λ (o : Option ℕ). or_else o number next) (sym s.1) ∙ e)))

module _ (t : Table) (main : ℕ) where
  -- what the rows say
  pub record Passes : Type 0 where
    pub sorts : (n : ℕ) → n < length t.nodes → sort_offends t main n ≡ false
    pub main_read : misread 0 [] (tree t main) ≡ []
    pub bodies_read : misread_in t t.definitions ≡ []
    pub uses : (n : ℕ) → n < length t.nodes → use_offends t n ≡ false
    pub cheap : cost (tree t main) ≤ 1000000

  pub rows_pass : tree_rows t main ≡ (0, 0) → Passes
  unfolding tree_rows
  rows_pass e =
      let a = next-or_else (offending (sort_offends t main) (length t.nodes)) 7 _ (omega arith) e in
      let b = next-or_else (misread 0 [] (tree t main) ++ misread_in t t.definitions) 8 _ (omega arith) a.1 in
      let c = next-or_else (offending (use_offends t) (length t.nodes)) 9 _ (omega arith) b.1 in
      let d = both-nil (misread 0 [] (tree t main)) (misread_in t t.definitions) b.0 in
      record {
        sorts = none-offends (sort_offends t main) (length t.nodes) a.0;
        main_read = d.0;
        bodies_read = d.1;
        uses = none-offends (use_offends t) (length t.nodes) c.0;
        cheap = ltb-false 1000000 (cost (tree t main)) (low (ltb 1000000 (cost (tree t main))) c.1);
      }
    where
      low : (b : Bool) → cond {A = Verdict} b (10, 0) (0, 0) ≡ (0, 0) → b ≡ false
      low true e = absurd (omega (arith, ap (λ (v : Verdict). v.0) e))
      low false e = refl

  pub passes-rows : Passes → tree_rows t main ≡ (0, 0)
  unfolding tree_rows
  passes-rows p =
      or_else-next (offending (sort_offends t main) (length t.nodes)) 7 _ (offends-none (sort_offends t main) (length t.nodes) p.sorts)
      ∙ or_else-next (misread 0 [] (tree t main) ++ misread_in t t.definitions) 8 _ (nil-both p.main_read p.bodies_read)
      ∙ or_else-next (offending (use_offends t) (length t.nodes)) 9 _ (offends-none (use_offends t) (length t.nodes) p.uses)
      ∙ rw (le-ltb 1000000 (cost (tree t main)) p.cheap)
