-- What holds of the table from field to field: it is good, and its flags say what the table that it stands for names.
use mathlib.Core.Path.{◌≡◌, refl, sym, ◌∙◌, ap}
use mathlib.Core.Logic.{◌⊎◌, inl, inr}
use mathlib.Core.Bool.{Bool, true, false, cond, ◌||◌, or_assoc}
use mathlib.Core.List.{List, [], ◌∷◌, ◌++◌}
use Prim.Native.Nat.{ℕ, zero, suc, ◌+◌, ◌≤◌, ◌<◌}
use native.Mathlib.Omega.{arith}
use lib.ListN.{length, get_or, drop, set, replicate, length-set, length-drop, length-replicate, get_or-replicate}
use lib.Seq.{get_or-set_same, get_or-set_other}
use lib.Dec.{eqb, leb}
use borrow.Author.Tests.{eqb-true, eqb-false, eq-eqb, leb-false}
use Rattle.shapes.specs.Kinds.{call_kind, number_of}
use Rattle.shapes.proofs.ByKind.{kind-known, number-of-kind}
use Rattle.program.specs.Table as program
use Rattle.program.specs.Table.{Item, child, slot, keeps, among, beyond, numbers, all_numbers, bodies, values_in, definition_at, with_node, with_definition, node_limit}
use Rattle.program.proofs.Items.{same-items}
use Rattle.decide.proofs.Picks.{neither, and_second}
use Rattle.nodes.specs.declared.Node.{Node}
use Rattle.taken.specs.Agrees.{Agree}
use Rattle.shapes.specs.Shapes.{lead_of, width_of, kids_of, byte_values, kept_item, slot_item, definition_item}
use Rattle.nodes.specs.Body.{no_node, item_of, constant_of, made, node_in}
use Rattle.taken.specs.Taken.{with_taken, take_if}
use Rattle.nodes.specs.Ranges.{Ranges}
use Rattle.nodes.specs.Values.{children_of}
use Rattle.nodes.proofs.Items.{same-kids, few-kids, in-ranges}
use Rattle.nodes.proofs.Body.{children-made, node_made, node-children, node-slots, node_kept}
use Rattle.program.proofs.Names.{among-append}
use Rattle.taken.proofs.Agree.{same, set_agrees, if-agrees, with-agrees}
use Rattle.kinds.specs.Taken.{Taken, with_root}
use Rattle.kinds.specs.Taken.{with_node as takenAfter}
use Rattle.refusal_rows.specs.Shows.{Shows}
use Rattle.kinds.proofs.Clear.{NodeClear}
use Rattle.refusal_rows.proofs.Clear.{DefinitionClear}
use Rattle.load.specs.declared.Table.{Table}
use Rattle.load.specs.Loads.{paired, table_of, blank, node_at, GoodNode, Good}
use Rattle.load.specs.Steps.{empty_table, none_taken, put, add_kind, define}
use Rattle.load.proofs.Shown.{shown-nodes, shown-put, shown-definitions, shown-definition, shown-define, among-numbers, among-bodies}

pub record State (t : Table) (m : Taken) : Type 0 where
  pub good : Good t
  pub named : Agree node_limit m.named (program.named (table_of t))
  pub slots : Agree byte_values m.slots (all_numbers slot (table_of t).nodes)
  pub kept : Agree byte_values m.kept (all_numbers keeps (table_of t).nodes)

pub shows-of : (t : Table) (m : Taken) → State t m → Shows t.n t.defs t.counts m (table_of t)
shows-of t m st =
    record {
      nodes = shown-nodes t st.good;
      few = st.good.n;
      definitions = shown-definitions t st.good;
      parameters = λ i h. sym (ap (λ (x : program.Definition). x.count) (shown-definition t st.good i program.no_definition h));
      named = st.named;
      slots = st.slots;
      kept = st.kept;
    }

-- the table before any field
nothing-taken : (bound : ℕ) → Agree bound (replicate bound false) []
unfolding among
nothing-taken bound = record { long = length-replicate bound false; each = λ k h. get_or-replicate bound k false false h }

pub beginning : State empty_table none_taken
unfolding table_of paired all_numbers bodies
beginning =
    record {
      good = record {
        long_nodes = length-replicate node_limit no_node;
        long_counts = length-replicate {A = ℕ} byte_values 0;
        long_bodies = length-replicate {A = ℕ} byte_values 0;
        n = omega arith;
        defs = omega arith;
        nodes = λ i h. absurd (omega arith);
        counts = λ d h. absurd (omega arith);
        bodies = λ d h. absurd (omega arith);
      };
      named = nothing-taken node_limit;
      slots = nothing-taken byte_values;
      kept = nothing-taken byte_values;
    }

pub empty-shown : table_of empty_table ≡ record { nodes = []; definitions = [] }
unfolding table_of paired
empty-shown = refl

-- a number of a list whose numbers are all below a bound
below_at : (n : ℕ) (ks : List ℕ) (j : ℕ) → beyond n ks ≡ false → j < length ks → get_or ks j 0 < n
unfolding beyond
below_at n [] j e h = absurd (omega arith)
below_at n (k ∷ ks) zero e h = leb-false n k (neither (leb n k) _ e).0
below_at n (k ∷ ks) (suc j) e h = below_at n ks j (neither (leb n k) _ e).1 (omega arith)

first-four : (ks : List ℕ) (j : ℕ) → j < 4 → get_or (get_or ks 0 0 ∷ get_or ks 1 0 ∷ get_or ks 2 0 ∷ get_or ks 3 0 ∷ []) j 0 ≡ get_or ks j 0
first-four ks zero h = refl
first-four ks (suc zero) h = refl
first-four ks (suc (suc zero)) h = refl
first-four ks (suc (suc (suc zero))) h = refl
first-four ks (suc (suc (suc (suc j)))) h = absurd (omega arith)

-- a call's item is its definition
call-item : (kind : ℕ) (s : List ℕ) → kind ≡ call_kind → item_of (lead_of kind) s ≡ get_or s 0 0
unfolding item_of
call-item kind s e = rw e

module _ (t : Table) (m : Taken) (st : State t m) (kind : ℕ) (s : List ℕ) (cl : NodeClear kind s t.n t.defs (get_or t.counts (get_or s 0 0) 0) m) where
  abbrev l : ℕ
  l = lead_of kind

  abbrev ks : List ℕ
  ks = drop (width_of kind) s

  -- the parameters of the definition called, in the loaded table and in the one that it stands for
  abbrev count : ℕ
  count = get_or t.counts (get_or s 0 0) 0

  abbrev count' : ℕ
  count' = (definition_at (table_of t) (get_or s 0 0)).count

  abbrev x : Node
  x = node_in kind count s

  abbrev y : program.Node
  y = program.node_of (table_of t) kind s

  same_count : kind ≡ call_kind → count ≡ count'
  same_count q = (shows-of t m st).parameters (get_or s 0 0) (cl.defined q)

  few : kids_of kind count ≤ 4
  few = few-kids kind count cl.known (λ q. st.good.counts (get_or s 0 0) (cl.defined q))

  right' : length s ≡ width_of kind + kids_of kind count'
  right' = cl.right ∙ ap (λ (k : ℕ). width_of kind + k) (same-kids kind count count' cl.known same_count)

  -- the node that is put is the one that program puts
  pub put-shown : table_of (add_kind t kind s) ≡ with_node (table_of t) y
  unfolding node_in
  put-shown =
      shown-put t st.good x cl.room
      ∙ ap (with_node (table_of t))
      (node_made kind count s cl.known cl.right few
      ∙ ap (λ (is : List Item). record { kind = kind; values = values_in is s }) (same-items kind count count' cl.known same_count))

  children : children_of x ≡ ks
  unfolding node_in
  children = children-made kind count s cl.known cl.right few

  bound : t.n ≤ node_limit
  bound = st.good.n

  put-named : Agree node_limit (with_taken m.named ks) (program.named (with_node (table_of t) y))
  put-named = same (program.named (with_node (table_of t) y)) (with-agrees t.n ks bound cl.given st.named) of
    where
      of : (k : ℕ) → among k (ks ++ program.named (table_of t)) ≡ among k (program.named (with_node (table_of t) y))
      of k =
          among-append k ks (program.named (table_of t))
          ∙ ap (λ (b : Bool). among k ks || b) (among-append k (all_numbers child (table_of t).nodes) (bodies (table_of t).definitions))
          ∙ sym (or_assoc (among k ks) (among k (all_numbers child (table_of t).nodes)) (among k (bodies (table_of t).definitions)))
          ∙ sym (among-append k (all_numbers child ((table_of t).nodes ++ y ∷ [])) (bodies (table_of t).definitions)
          ∙ ap (λ (b : Bool). b || among k (bodies (table_of t).definitions))
          (among-numbers k child (table_of t).nodes y
          ∙ ap (λ (ns : List ℕ). among k ns || among k (all_numbers child (table_of t).nodes)) (node-children kind count' s cl.known right')))

  put_item : {ms : List Bool} (j : Item) (c : ℕ) → (l ≡ c → item_of l s < byte_values) → numbers j y ≡ cond (eqb l c) (item_of l s ∷ []) []
      → Agree byte_values ms (all_numbers j (table_of t).nodes) → Agree byte_values (take_if (eqb l c) (item_of l s) ms) (all_numbers j ((table_of t).nodes ++ y ∷ []))
  put_item {ms} j c h e a =
      same (all_numbers j ((table_of t).nodes ++ y ∷ [])) (if-agrees (eqb l c) (item_of l s) (λ q. h (eqb-true l c q)) a)
      (λ k. among-append k (cond (eqb l c) (item_of l s ∷ []) []) (all_numbers j (table_of t).nodes)
      ∙ ap (λ (ns : List ℕ). among k ns || among k (all_numbers j (table_of t).nodes)) (sym e)
      ∙ sym (among-numbers k j (table_of t).nodes y))

  range : Ranges l (item_of l s) (constant_of l s)
  range = in-ranges l (item_of l s) (constant_of l s) cl.range

  low : (l ≡ slot_item) ⊎ (l ≡ kept_item) → item_of l s < byte_values
  low (inl q) = let h = range.slot q in omega arith
  low (inr q) = let h = range.kept q in omega arith

  new-node : GoodNode (add_kind t kind s) t.n x
  unfolding put node_in made
  new-node =
      record {
        long = refl;
        kids = rw (number-of-kind kind cl.known) (same-kids kind count (get_or t.counts (item_of l s) 0) cl.known (λ q. ap (λ (d : ℕ). get_or t.counts d 0) (sym (call-item kind s q))));
        few = few;
        range = rw (number-of-kind kind cl.known) range;
        children = λ j h. rw (first-four ks j (let f = few in omega arith))
            (below_at t.n ks j cl.given (let r = cl.right in omega (arith, length-drop (width_of kind) s)));
        definition = λ p. let q : l ≡ definition_item = rw (number-of-kind kind cl.known) at p in
            let d : item_of l s < t.defs = leb-false t.defs (item_of l s) (and_second (eqb l definition_item) _ cl.definition (eq-eqb l definition_item q)) in
            (d, st.good.bodies (item_of l s) d);
      }

  put-nodes : (i : ℕ) → i < t.n + 1 → GoodNode (add_kind t kind s) i (node_at (add_kind t kind s) i)
  unfolding put
  put-nodes i h = go (eqb i t.n) refl
    where
      go : (b : Bool) → eqb i t.n ≡ b → GoodNode (add_kind t kind s) i (node_at (add_kind t kind s) i)
      go true q =
          let e : i ≡ t.n = eqb-true i t.n q in
          let room = cl.room in
          rw (e, get_or-set_same t.nodes t.n x blank (omega (arith, st.good.long_nodes))) new-node
      go false q =
          let d : i ≡ t.n → ⊥ = eqb-false i t.n q in
          let g = st.good.nodes i (omega arith) in
          rw (get_or-set_other t.nodes t.n i x blank d)
          (record { long = g.long; kids = g.kids; few = g.few; range = g.range; children = g.children; definition = g.definition })

  pub put-state : State (add_kind t kind s) (takenAfter x m)
  unfolding put node_in made
  put-state =
      let room = cl.room in
      record {
        good = record {
          long_nodes = length-set t.nodes t.n x ∙ st.good.long_nodes;
          long_counts = st.good.long_counts;
          long_bodies = st.good.long_bodies;
          n = omega arith;
          defs = st.good.defs;
          nodes = put-nodes;
          counts = st.good.counts;
          bodies = λ d h. let b = st.good.bodies d h in omega arith;
        };
        named = rw (put-shown, children) put-named;
        slots = rw (put-shown, number-of-kind kind cl.known) (put_item slot slot_item (λ q. low (inl q)) (node-slots kind count' s cl.known right') st.slots);
        kept = rw (put-shown, number-of-kind kind cl.known) (put_item keeps kept_item (λ q. low (inr q)) (node_kept kind count' s cl.known right') st.kept);
      }

-- one definition more
module _ (t : Table) (m : Taken) (st : State t m) (b : List ℕ) (cl : DefinitionClear b t.n t.defs) where
  abbrev c : ℕ
  c = get_or b 0 0

  abbrev body : ℕ
  body = get_or b 1 0

  pub define-shown : table_of (define t b) ≡ with_definition (table_of t) b
  define-shown = shown-define t st.good b cl.room

  define-named : Agree node_limit (set m.named body true) (program.named (with_definition (table_of t) b))
  unfolding among
  define-named =
      let given = cl.given in
      let bound = st.good.n in
      same (program.named (with_definition (table_of t) b)) (set_agrees body (omega arith) st.named) of
    where
      order : (p a d : Bool) → (p || (a || d)) ≡ (a || (d || (p || false)))
      order true true d = refl
      order true false true = refl
      order true false false = refl
      order false true d = refl
      order false false true = refl
      order false false false = refl

      of : (k : ℕ) → among k (body ∷ program.named (table_of t)) ≡ among k (program.named (with_definition (table_of t) b))
      of k =
          ap (λ (d : Bool). eqb k body || d) (among-append k (all_numbers child (table_of t).nodes) (bodies (table_of t).definitions))
          ∙ order (eqb k body) (among k (all_numbers child (table_of t).nodes)) (among k (bodies (table_of t).definitions))
          ∙ sym (among-append k (all_numbers child (table_of t).nodes) (bodies ((table_of t).definitions ++ record { count = c; body = body } ∷ []))
          ∙ ap (λ (d : Bool). among k (all_numbers child (table_of t).nodes) || d) (among-bodies k (table_of t).definitions (record { count = c; body = body })))

  -- what holds of the new definition and of each old one holds of each
  each : (P : ℕ → ℕ → Type 0) (xs : List ℕ) (v : ℕ) → t.defs < length xs → P t.defs v → ((d : ℕ) → d < t.defs → P d (get_or xs d 0))
      → (d : ℕ) → d < t.defs + 1 → P d (get_or (set xs t.defs v) d 0)
  each P xs v r p f d h = go (eqb d t.defs) refl
    where
      go : (q : Bool) → eqb d t.defs ≡ q → P d (get_or (set xs t.defs v) d 0)
      go true q = let e : d ≡ t.defs = eqb-true d t.defs q in rw (e, get_or-set_same xs t.defs v 0 r) p
      go false q = let e : d ≡ t.defs → ⊥ = eqb-false d t.defs q in rw (get_or-set_other xs t.defs d v 0 e) (f d (omega arith))

  old-node : (i : ℕ) (x : Node) → GoodNode t i x → GoodNode (define t b) i x
  unfolding define
  old-node i x g =
      record {
        long = g.long;
        kids = g.kids ∙ same-kids (number_of x.kind) (get_or t.counts x.item 0) (get_or (set t.counts t.defs c) x.item 0) (kind-known x.kind) call;
        few = g.few;
        range = g.range;
        children = g.children;
        definition = λ q.
            let d = (g.definition q).0 in
            (omega arith, rw (get_or-set_other t.bodies t.defs x.item body 0 (λ e. omega arith)) (g.definition q).1);
      }
    where
      call : number_of x.kind ≡ call_kind → get_or t.counts x.item 0 ≡ get_or (set t.counts t.defs c) x.item 0
      call q =
          let l : lead_of (number_of x.kind) ≡ definition_item = ap lead_of q in
          let d = (g.definition l).0 in
          sym (get_or-set_other t.counts t.defs x.item c 0 (λ e. omega arith))

  pub define-state : State (define t b) (with_root body m)
  unfolding define
  define-state =
      let r = cl.room in
      record {
        good = record {
          long_nodes = st.good.long_nodes;
          long_counts = length-set t.counts t.defs c ∙ st.good.long_counts;
          long_bodies = length-set t.bodies t.defs body ∙ st.good.long_bodies;
          n = st.good.n;
          defs = omega arith;
          nodes = λ i h. old-node i (node_at t i) (st.good.nodes i h);
          counts = each (λ d v. v ≤ 4) t.counts c (omega (arith, st.good.long_counts)) cl.count st.good.counts;
          bodies = each (λ d v. v < t.n) t.bodies body (omega (arith, st.good.long_bodies)) cl.given st.good.bodies;
        };
        named = rw define-shown define-named;
        slots = rw define-shown st.slots;
        kept = rw define-shown st.kept;
      }
