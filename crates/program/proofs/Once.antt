-- What parts name while the table grows: nothing twice, from part to part and in the whole.
use mathlib.Core.Path.{◌≡◌, refl, sym, ap, subst}
use mathlib.Core.List.{List, [], ◌∷◌, ◌++◌, append_assoc, append-nil}
use Prim.Native.Nat.{ℕ, zero, suc, ◌+◌, ◌≤◌, ◌<◌}
use native.Mathlib.Omega.{arith}
use Rattle.program.specs.Table.{Item, child, Node, Definition, Table, numbers, all_numbers, bodies, named}
use Rattle.program.specs.Conditions.{Part, node, define, how_often}
use Rattle.program.proofs.Names.{Fresh, how_often-append}
use Rattle.program.proofs.Steps.{grow, joined, joined-none, joined-grow, children, only, Fits, Steps}

-- what each part that fits passes on holds of the whole table
pub carried : (I : Table → Type 0) → ((t : Table) (p : Part) → Fits t p → I t → I (grow t p))
    → (ps : List Part) (main : ℕ) (t : Table) → Steps t ps main → I t → I (joined t ps)
carried I f [] main t st i = subst I (sym (joined-none t)) i
carried I f (p ∷ ps) main t st i = subst I (joined-grow t p ps) (carried I f ps main (grow t p) st.1 (f t p st.0 i))

-- a table's names f, to which each part adds its own, g
module _ (f : Table → List ℕ) (g : Part → List ℕ) (adds : (k : ℕ) (t : Table) (p : Part) → how_often k (f (grow t p)) ≡ how_often k (f t) + how_often k (g p)) where
  pub once : ((t : Table) (p : Part) → Fits t p → Fresh (f t) (g p))
      → (ps : List Part) (main : ℕ) (t : Table) → Steps t ps main → ((k : ℕ) → how_often k (f t) ≤ 1) → (k : ℕ) → how_often k (f (joined t ps)) ≤ 1
  once fresh = carried (λ t. (k : ℕ) → how_often k (f t) ≤ 1) (λ t p h i k. go t p (fresh t p h) i k (how_often k (g p)) refl)
    where
      go : (t : Table) (p : Part) → Fresh (f t) (g p) → ((k : ℕ) → how_often k (f t) ≤ 1) → (k n : ℕ) → how_often k (g p) ≡ n → how_often k (f (grow t p)) ≤ 1
      go t p h i k zero q = omega (arith, adds k t p, i k)
      go t p h i k (suc n) q = omega (arith, adds k t p, h k (omega arith))

  more : (k : ℕ) (ps : List Part) (t : Table) → how_often k (f t) ≤ how_often k (f (joined t ps))
  more k [] t = rw (joined-none t) (omega arith)
  more k (p ∷ ps) t = rw (← joined-grow t p ps) (omega (arith, adds k t p, more k ps (grow t p)))

  pub fresh-once : (t : Table) (p : Part) (ps : List Part) → ((k : ℕ) → 0 < how_often k (g p) → how_often k (f (joined t (p ∷ ps))) ≤ 1) → Fresh (f t) (g p)
  fresh-once t p ps h k l = omega (arith, h k l, adds k t p, rw (joined-grow t p ps) at (more k ps (grow t p)))

numbers-append : (j : Item) (xs ys : List Node) → all_numbers j (xs ++ ys) ≡ all_numbers j xs ++ all_numbers j ys
unfolding all_numbers
numbers-append j [] ys = refl
numbers-append j (x ∷ xs) ys = rw (numbers-append j xs ys) (sym (append_assoc (numbers j x) (all_numbers j xs) (all_numbers j ys)))

bodies-append : (ds es : List Definition) → bodies (ds ++ es) ≡ bodies ds ++ bodies es
unfolding bodies
bodies-append [] es = refl
bodies-append (d ∷ ds) es = ap (λ (ks : List ℕ). d.body ∷ ks) (bodies-append ds es)

-- what a part adds to the table's slots and kept variables, and to the nodes that the table names
pub adds-numbers : (j : Item) (k : ℕ) (t : Table) (p : Part)
    → how_often k (all_numbers j (grow t p).nodes) ≡ how_often k (all_numbers j t.nodes) + how_often k (only j p)
unfolding all_numbers how_often
adds-numbers j k t (node x) = rw (numbers-append j t.nodes (x ∷ []), append-nil (numbers j x)) (how_often-append k (all_numbers j t.nodes) (numbers j x))
adds-numbers j k t (define d) = omega arith

pub adds-names : (k : ℕ) (t : Table) (p : Part) → how_often k (named (grow t p)) ≡ how_often k (named t) + how_often k (children p)
unfolding bodies
adds-names k t (node x) =
    omega (
      arith,
      how_often-append k (all_numbers child (t.nodes ++ x ∷ [])) (bodies t.definitions),
      how_often-append k (all_numbers child t.nodes) (bodies t.definitions),
      adds-numbers child k t (node x),
    )
adds-names k t (define d) =
    rw (bodies-append t.definitions (d ∷ []))
    (omega (
      arith,
      how_often-append k (all_numbers child t.nodes) (bodies t.definitions ++ d.body ∷ []),
      how_often-append k (bodies t.definitions) (d.body ∷ []),
      how_often-append k (all_numbers child t.nodes) (bodies t.definitions),
    ))
