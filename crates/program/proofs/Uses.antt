-- A spatial definition is called from one node and folds nowhere, exactly where no node offends by its use.
use mathlib.Core.Path.{◌≡◌, refl, sym, ap, subst}
use mathlib.Core.Logic.{◌⊎◌, inl, inr}
use mathlib.Core.Bool.{Bool, true, false, not, ◌&&◌, ◌||◌, or-true, true≢false}
use mathlib.Core.List.{List, [], ◌∷◌}
use Prim.Native.Nat.{ℕ, zero, suc, ◌<◌}
use native.Mathlib.Omega.{arith}
use lib.ListN.{length, get_or, take}
use lib.Seq.{length-take-le, get_or-take}
use lib.Dec.{eqb, ltb}
use borrow.Author.Tests.{eqb-true, eq-eqb, ltb-true, ltb-false, not-false}
use Rattle.program.specs.Table.{Node, Table, definition_at, is_call}
use Rattle.program.specs.Tree.{tree, spatial}
use Rattle.program.specs.Check.{no_node, node_at, called, use_offends}
use Rattle.program.specs.Conditions.{Calls, FoldsBy}
use Rattle.decide.proofs.Picks.{never, known, neither, or-fails, and_second, and-fails}

-- the number of the definition that a node names, if it does
abbrev value : Node → ℕ
value x = get_or x.values 0 0

-- a definition is called in a list exactly where a node of it calls it
called-true : (d : ℕ) (xs : List Node) (m : ℕ) → m < length xs → (get_or xs m no_node).kind ≡ 12 → value (get_or xs m no_node) ≡ d → called d xs ≡ true
unfolding called
called-true d [] m h p q = absurd (omega arith)
called-true d (x ∷ xs) zero h p q = rw (eq-eqb x.kind 12 p, eq-eqb (value x) d q)
called-true d (x ∷ xs) (suc m) h p q = rw (called-true d xs m (omega arith) p q) (or-true (is_call x.kind && eqb (value x) d))

called-find : (d : ℕ) (xs : List Node) → called d xs ≡ true → (m : ℕ) × (m < length xs) × ((get_or xs m no_node).kind ≡ 12) × (value (get_or xs m no_node) ≡ d)
unfolding called
called-find d [] e = absurd (true≢false (sym e))
called-find d (x ∷ xs) e = go (is_call x.kind) (eqb (value x) d) refl refl e (called-find d xs)
  where
    go : (a b : Bool) → is_call x.kind ≡ a → eqb (value x) d ≡ b → (a && b || called d xs) ≡ true
        → (called d xs ≡ true → (m : ℕ) × (m < length xs) × ((get_or xs m no_node).kind ≡ 12) × (value (get_or xs m no_node) ≡ d))
        → (m : ℕ) × (m < suc (length xs)) × ((get_or (x ∷ xs) m no_node).kind ≡ 12) × (value (get_or (x ∷ xs) m no_node) ≡ d)
    go true true p q e f = (0, omega arith, eqb-true x.kind 12 p, eqb-true (value x) d q)
    go true false p q e f = let r = f e in (suc r.0, omega arith, r.2, r.3)
    go false b p q e f = let r = f e in (suc r.0, omega arith, r.2, r.3)

module _ (t : Table) where
  abbrev is_spatial : ℕ → Bool
  is_spatial d = spatial (tree t (definition_at t d).body)

  -- the two tests of a node's use
  abbrev repeats : Node → ℕ → Bool
  repeats x n = is_call x.kind && (is_spatial (value x) && called (value x) (take n t.nodes))

  abbrev misfolds : Node → Bool
  misfolds x = eqb x.kind 11 && (is_spatial (value x) || not (eqb (definition_at t (value x)).count 2))

  uses : (n : ℕ) → use_offends t n ≡ false → (repeats (node_at t n) n ≡ false) × (misfolds (node_at t n) ≡ false)
  unfolding use_offends
  uses n q = neither (repeats (node_at t n) n) (misfolds (node_at t n)) q

  -- a node that passes calls no spatial definition that one before it calls
  no-earlier : (m n d : ℕ) → m < n → n < length t.nodes → use_offends t n ≡ false → Calls t m d → Calls t n d → is_spatial d ≡ true → ⊥
  no-earlier m n d h l q a b s =
      let x : Node = node_at t n in
      let g = get_or-take n t.nodes m no_node h in
      let c : called d (take n t.nodes) ≡ true =
      called-true d (take n t.nodes) m (omega (arith, length-take-le n t.nodes (omega arith))) (rw g a.0) (rw g a.1) in
      let o = and_second (is_call x.kind) (is_spatial (value x) && called (value x) (take n t.nodes)) (uses n q).0 (eq-eqb _ 12 b.0) in
      let r : called (value x) (take n t.nodes) ≡ false = and_second _ _ o (subst (λ (k : ℕ). is_spatial k ≡ true) (sym b.1) s) in
      never c (subst (λ (k : ℕ). called k (take n t.nodes) ≡ false) b.1 r)

  pub called-once : ((n : ℕ) → n < length t.nodes → use_offends t n ≡ false)
      → (m n d : ℕ) → m < length t.nodes → n < length t.nodes → Calls t m d → Calls t n d → is_spatial d ≡ true → m ≡ n
  called-once q m n d h l a b s = go (ltb m n) (ltb n m) refl refl
    where
      go : (x y : Bool) → ltb m n ≡ x → ltb n m ≡ y → m ≡ n
      go true y e f = absurd (no-earlier m n d (ltb-true m n e) l (q n l) a b s)
      go false true e f = absurd (no-earlier n m d (ltb-true n m f) h (q m h) b a s)
      go false false e f = omega (arith, ltb-false m n e, ltb-false n m f)

  pub fold-plain : (n d : ℕ) → use_offends t n ≡ false → FoldsBy t n d → (is_spatial d ≡ false) × ((definition_at t d).count ≡ 2)
  fold-plain n d q (k, e) =
      let c : ℕ = value (node_at t n) in
      let o = and_second (eqb (node_at t n).kind 11) (is_spatial c || not (eqb (definition_at t c).count 2)) (uses n q).1 (eq-eqb _ 11 k) in
      let r = neither (is_spatial c) (not (eqb (definition_at t c).count 2)) o in
      subst (λ (i : ℕ). (is_spatial i ≡ false) × ((definition_at t i).count ≡ 2)) e (r.0, eqb-true _ 2 (not-false _ r.1))

  pub no-offence : ((m n d : ℕ) → m < length t.nodes → n < length t.nodes → Calls t m d → Calls t n d → is_spatial d ≡ true → m ≡ n)
      → ((n d : ℕ) → n < length t.nodes → FoldsBy t n d → (is_spatial d ≡ false) × ((definition_at t d).count ≡ 2))
      → (n : ℕ) → n < length t.nodes → use_offends t n ≡ false
  unfolding use_offends
  no-offence once fold n h =
      let d : ℕ = value (node_at t n) in
      or-fails (and-fails (is_call (node_at t n).kind) _ (λ k. and-fails (is_spatial d) _ (λ s. go k s (known (called d (take n t.nodes))))))
      (and-fails (eqb (node_at t n).kind 11) _ (λ k. let f = fold n d h (eqb-true _ 11 k, refl) in or-fails f.0 (ap not (eq-eqb _ 2 f.1))))
    where
      go : is_call (node_at t n).kind ≡ true → is_spatial (value (node_at t n)) ≡ true
          → (called (value (node_at t n)) (take n t.nodes) ≡ true) ⊎ (called (value (node_at t n)) (take n t.nodes) ≡ false)
          → called (value (node_at t n)) (take n t.nodes) ≡ false
      go k s (inr e) = e
      go k s (inl e) =
          let r = called-find (value (node_at t n)) (take n t.nodes) e in
          let l : r.0 < n = omega (arith, length-take-le n t.nodes (omega arith)) in
          let g = get_or-take n t.nodes r.0 no_node l in
          let o = once r.0 n (value (node_at t n)) (omega arith) h (rw g at r.2, rw g at r.3) (eqb-true (node_at t n).kind 12 k, refl) s in
          absurd (omega arith)
