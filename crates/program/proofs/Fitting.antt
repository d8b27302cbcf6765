-- The parts of a table that meets its conditions fit one after the other.
use mathlib.Core.Path.{◌≡◌, refl, sym, ◌∙◌, ap, subst}
use mathlib.Core.Logic.{◌⊎◌, inl, inr}
use mathlib.Core.List.{List, [], ◌∷◌, ◌++◌, append_assoc, Memᴰ}
use Prim.Native.Nat.{ℕ, ◌+◌, ◌≤◌, ◌<◌}
use native.Mathlib.Omega.{arith}
use lib.ListN.{length, get_or, length-append}
use Rattle.program.specs.Table.{Item, slot, keeps, child, Node, Definition, Table, numbers, all_numbers, named}
use Rattle.program.specs.Conditions.{Part, node, define, nodes_of, definitions_of, table_of, GivenBefore, Meets, how_often}
use Rattle.program.proofs.Names.{Fresh, how_often-append, how_often-among, among-mem, one}
use Rattle.program.proofs.Steps.{grow, joined, joined-none, joined-grow, children, only, NodeFits, DefinitionFits, Own, Fits, Ends, Steps}
use Rattle.program.proofs.Bodied.{bodied-leads}
use Rattle.program.proofs.Once.{fresh-once, adds-names, adds-numbers}
use Rattle.program.proofs.Splits.{split-table, same-definition}

table-grow : (before : List Part) (p : Part) → table_of (before ++ p ∷ []) ≡ grow (table_of before) p
table-grow before p = split-table before (p ∷ []) refl ∙ sym (joined-grow (table_of before) p []) ∙ joined-none (grow (table_of before) p)

-- a part names only nodes that are given
children-given : (t : Table) (p : Part) → GivenBefore t p → (k : ℕ) → 0 < how_often k (children p) → k < length t.nodes
children-given t (node x) g k h = g.0 k (among-mem k (numbers child x) (how_often-among k (numbers child x) h))
children-given t (define d) g k h = go (one k d.body)
  where
    go : (how_often k (d.body ∷ []) ≡ 0) ⊎ (k ≡ d.body) → k < length t.nodes
    go (inl z) = absurd (omega arith)
    go (inr z) = omega arith

module _ (ps : List Part) (main : ℕ) (m : Meets ps main) where
  -- at a part p, with those before and after it
  module _ (before after : List Part) (p : Part) (e : ps ≡ before ++ p ∷ after) where
    whole-nodes : nodes_of ps ≡ nodes_of before ++ nodes_of (p ∷ after)
    whole-nodes = ap (λ (t : Table). t.nodes) (split-table before (p ∷ after) e)

    whole-definitions : definitions_of ps ≡ definitions_of before ++ definitions_of (p ∷ after)
    whole-definitions = ap (λ (t : Table). t.definitions) (split-table before (p ∷ after) e)

    named-once : (k : ℕ) → 0 < how_often k (children p) → how_often k (named (joined (table_of before) (p ∷ after))) ≤ 1
    named-once k h =
        let l : k < length (nodes_of ps) = omega (
          arith,
          children-given (table_of before) p (m.given before after p e) k h,
          ap length whole-nodes,
          length-append (nodes_of before) (nodes_of (p ∷ after)),
        ) in
        subst (λ (t : Table). how_often k (named t) ≤ 1) (split-table before (p ∷ after) e)
        (omega (arith, m.named_once k l, how_often-append k (main ∷ []) (named (table_of ps))))

    fresh-numbers : (j : Item) → ((i : ℕ) → how_often i (all_numbers j (nodes_of ps)) ≤ 1) → Fresh (all_numbers j (nodes_of before)) (only j p)
    fresh-numbers j f = fresh-once (λ t. all_numbers j t.nodes) (only j) (adds-numbers j) (table_of before) p after (λ k h. rw whole-nodes at (f k))

    fits-here : Own (table_of before) p → Fits (table_of before) p
    fits-here o = record {
      own = o;
      given = m.given before after p e;
      fresh = fresh-once named children adds-names (table_of before) p after named-once;
      slots = fresh-numbers slot m.slot_once;
      kept = fresh-numbers keeps m.rep_once;
    }

  node-here : (before after : List Part) (x : Node) → ps ≡ before ++ node x ∷ after → NodeFits (table_of before) x
  unfolding nodes_of
  node-here before after x e =
      let w = whole-nodes before after (node x) e in
      let i : Memᴰ x (nodes_of ps) = rw w (mathlib.Core.List.Memᴰ.append_right (nodes_of before) (mathlib.Core.List.Memᴰ.head refl)) in
      record {
        room = omega (arith, m.few_nodes, ap length w, length-append (nodes_of before) (x ∷ nodes_of after));
        known = m.known x i;
        ranges = m.ranges x i;
        arguments = λ c.
            let named = (m.given before after (node x) e).1 _ (bodied-leads x (m.ranges x i) (inr c)).names in
            rw (← same-definition before (node x ∷ after) e (get_or x.values 0 0) named) (m.arguments x i c);
      }

  definition-here : (before after : List Part) (d : Definition) → ps ≡ before ++ define d ∷ after → DefinitionFits (table_of before) d
  unfolding definitions_of
  definition-here before after d e =
      let w = whole-definitions before after (define d) e in
      let i : Memᴰ d (definitions_of ps) = rw w (mathlib.Core.List.Memᴰ.append_right (definitions_of before) (mathlib.Core.List.Memᴰ.head refl)) in
      record {
        room = omega (arith, m.few_definitions, ap length w, length-append (definitions_of before) (d ∷ definitions_of after));
        count = m.counts d i;
      }

  main-here : Ends (table_of ps) main
  main-here = record {
    given = m.main_given;
    fresh = λ k h. go k h (one k main);
    all = λ k h. omega (arith, m.named_once k h);
  }
    where
      go : (k : ℕ) → 0 < how_often k (main ∷ []) → (how_often k (main ∷ []) ≡ 0) ⊎ (k ≡ main) → how_often k (named (table_of ps)) + how_often k (main ∷ []) ≤ 1
      go k h (inl z) = absurd (omega arith)
      go k h (inr z) = let g = m.main_given in omega (arith, m.named_once k (omega arith), how_often-append k (main ∷ []) (named (table_of ps)))

  own-here : (before after : List Part) (p : Part) → ps ≡ before ++ p ∷ after → Own (table_of before) p
  own-here before after (node x) e = node-here before after x e
  own-here before after (define d) e = definition-here before after d e

  pub steps-from : (before after : List Part) → ps ≡ before ++ after → Steps (table_of before) after main
  steps-from before [] e = subst (λ (t : Table). Ends t main) (split-table before [] e ∙ joined-none (table_of before)) main-here
  steps-from before (p ∷ after) e = (
    fits-here before after p e (own-here before after p e),
    subst (λ (t : Table). Steps t after main) (table-grow before p) (steps-from (before ++ p ∷ []) after (e ∙ sym (append_assoc before (p ∷ []) after))),
  )
