-- Parts that fit one after the other make a table that meets its conditions, but for the trees.
use mathlib.Core.Path.{◌≡◌, refl, subst}
use mathlib.Core.Logic.{inr}
use mathlib.Core.List.{List, [], ◌∷◌, ◌++◌, Memᴰ}
use Prim.Native.Nat.{ℕ, zero, suc, ◌+◌, ◌≤◌, ◌<◌}
use native.Mathlib.Omega.{arith}
use lib.ListN.{length, get_or, length-append}
use Rattle.program.specs.Table.{Item, kind_count, node_limit, definition_limit, items, Node, Definition, Table, all_numbers, named, bodies, definition_at}
use Rattle.program.specs.Conditions.{Part, node, define, nodes_of, definitions_of, table_of, GivenBefore, InRange, how_often}
use Rattle.program.proofs.Names.{Fresh, how_often-append}
use Rattle.program.proofs.Steps.{grow, children, only, Fits, Ends, Steps}
use Rattle.program.proofs.Bodied.{Bodied, bodied-leads}
use Rattle.program.proofs.Once.{carried, once, adds-names, adds-numbers}
use Rattle.program.proofs.Splits.{Splits, splits, node-part, definition-part, same-definition, whole_length, fits-at, ends_at}

few-nodes : (t : Table) (p : Part) → Fits t p → length t.nodes ≤ node_limit → length (grow t p).nodes ≤ node_limit
few-nodes t (node x) f h = omega (arith, f.own.room, length-append t.nodes (x ∷ []))
few-nodes t (define d) f h = h

few-definitions : (t : Table) (p : Part) → Fits t p → length t.definitions ≤ definition_limit → length (grow t p).definitions ≤ definition_limit
few-definitions t (node x) f h = h
few-definitions t (define d) f h = omega (arith, f.own.room, length-append t.definitions (d ∷ []))

-- each lemma is a condition of the table, from the steps that built it
module _ (ps : List Part) (main : ℕ) (st : Steps (table_of []) ps main) where
  fits : (before after : List Part) (p : Part) → ps ≡ before ++ p ∷ after → Fits (table_of before) p
  unfolding nodes_of definitions_of
  fits before after p e = fits-at before p after main (table_of []) (subst (λ (qs : List Part). Steps (table_of []) qs main) e st)

  end : Ends (table_of ps) main
  unfolding nodes_of definitions_of
  end = ends_at ps main (table_of []) st

  -- a node's part, with its split
  node-split : (x : Node) → Memᴰ x (nodes_of ps) → Splits ps (node x)
  node-split x m = splits (node-part ps x m)

  node-own : (x : Node) (m : Memᴰ x (nodes_of ps)) → Fits (table_of (node-split x m).before) (node x)
  node-own x m = let r = node-split x m in fits r.before r.after (node x) r.same

  pub built-few : length (nodes_of ps) ≤ node_limit
  unfolding nodes_of definitions_of
  built-few = carried (λ t. length t.nodes ≤ node_limit) few-nodes ps main (table_of []) st (omega arith)

  pub built-few-definitions : length (definitions_of ps) ≤ definition_limit
  unfolding nodes_of definitions_of
  built-few-definitions = carried (λ t. length t.definitions ≤ definition_limit) few-definitions ps main (table_of []) st (omega arith)

  pub built-known : (x : Node) → Memᴰ x (nodes_of ps) → x.kind < kind_count
  built-known x m = (node-own x m).own.known

  pub built-ranges : (x : Node) → Memᴰ x (nodes_of ps) → InRange (items x) x.values
  built-ranges x m = (node-own x m).own.ranges

  pub built-counts : (d : Definition) → Memᴰ d (definitions_of ps) → d.count ≤ 4
  built-counts d m = let r = splits (definition-part ps d m) in (fits r.before r.after (define d) r.same).own.count

  pub built-arguments : (x : Node) → Memᴰ x (nodes_of ps) → x.kind ≡ 12
      → length x.values ≡ 1 + (definition_at (table_of ps) (get_or x.values 0 0)).count
  built-arguments x m e =
      let r = node-split x m in
      let f = node-own x m in
      let named = f.given.1 _ (bodied-leads x f.own.ranges (inr e)).names in
      rw (same-definition r.before (node x ∷ r.after) r.same (get_or x.values 0 0) named) (f.own.arguments e)

  pub built-given : (before after : List Part) (p : Part) → ps ≡ before ++ p ∷ after → GivenBefore (table_of before) p
  built-given before after p e = (fits before after p e).given

  pub built-bodied : (x : Node) → Memᴰ x (nodes_of ps) → Bodied x.kind → get_or x.values 0 0 < length (definitions_of ps)
  built-bodied x m b =
      let r = node-split x m in
      let f = node-own x m in
      omega (arith, whole_length r.before (node x ∷ r.after) r.same, f.given.1 _ (bodied-leads x f.own.ranges b).names)

  pub built-body : (d : Definition) → Memᴰ d (definitions_of ps) → d.body < length (nodes_of ps)
  built-body d m =
      let r = splits (definition-part ps d m) in
      omega (arith, whole_length r.before (define d ∷ r.after) r.same, (fits r.before r.after (define d) r.same).given)

  pub built-main : main < length (nodes_of ps)
  built-main = end.given

  -- each node is named at least once at the end, and at most once since no step named it again
  pub built-named : (k : ℕ) → k < length (nodes_of ps) → how_often k (main ∷ named (table_of ps)) ≡ 1
  unfolding nodes_of definitions_of all_numbers bodies how_often
  built-named k h = go (how_often k (main ∷ [])) refl
    where
      few : how_often k (named (table_of ps)) ≤ 1
      few = once named children adds-names (λ t p f. f.fresh) ps main (table_of []) st (λ j. omega arith) k

      go : (n : ℕ) → how_often k (main ∷ []) ≡ n → how_often k (main ∷ named (table_of ps)) ≡ 1
      go zero q = omega (arith, end.all k h, few, how_often-append k (main ∷ []) (named (table_of ps)))
      go (suc n) q = omega (arith, end.all k h, end.fresh k (omega arith), how_often-append k (main ∷ []) (named (table_of ps)))

  -- the same of slots and of variables that reps keep
  pub built-numbers : (j : Item) → ((t : Table) (p : Part) → Fits t p → Fresh (all_numbers j t.nodes) (only j p))
      → (i : ℕ) → how_often i (all_numbers j (nodes_of ps)) ≤ 1
  unfolding nodes_of definitions_of all_numbers how_often
  built-numbers j f = once (λ t. all_numbers j t.nodes) (only j) (adds-numbers j) f ps main (table_of []) st (λ k. omega arith)
