-- A loaded table as columns, which the searches over words go by. Assumes nothing.
use mathlib.Core.Path.{◌≡◌, refl, sym, ap, subst, ◌∙◌}
use mathlib.Core.Bool.{Bool}
use mathlib.Core.List.{List, ◌++◌}
use Prim.Native.Nat.{ℕ, max, ◌+◌, ◌<◌}
use native.Mathlib.Omega.{arith}
use lib.ListN.{length, get_or}
use borrow.Author.Count.{below_more}
use Rattle.program.specs.Table.{node_limit}
use Rattle.shapes.specs.Kinds.{fold_by_kind, call_kind, number_of}
use Rattle.program.specs.Table as program
use Rattle.program.specs.Tree.{spatial}
use Rattle.program.specs.Check as checked
use Rattle.spatial.specs.Noted.{Spatials}
use Rattle.scopes.specs.Places.{Defined}
use Rattle.scopes.specs.Scope.{Told}
use Rattle.scopes.specs.Uses.{Columns}
use Rattle.nodes.specs.declared.Node.{Node}
use Rattle.shapes.specs.Shapes.{lead_of, definition_item}
use Rattle.nodes.specs.Values.{head_of, children_of, node_of}
use Rattle.load.specs.declared.Table.{Table}
use Rattle.load.specs.Loads.{table_of, node_at}
use Rattle.load.proofs.Shown.{shown-nodes, shown-node, shown-definitions, shown-definition}
use Rattle.pack.specs.Packs.{kind_of, item_of, Column}
use Rattle.program_check.specs.TreeRows.{Above, Packed, InColumns}

-- the first value of a node of a kind that has an item first
value_of : (x : Node) (m : ℕ) → number_of x.kind ≡ m → get_or (head_of (lead_of m) x.item x.constant ++ children_of x) 0 0 ≡ x.item → get_or (node_of x).values 0 0 ≡ x.item
unfolding node_of
value_of x m e q = rw e q

module _ {t : Table} {ws : List ℕ} (p : Packed t ws) where
  nodes-shown : t.n ≡ length (table_of t).nodes
  nodes-shown = shown-nodes t p.good

  definitions-shown : t.defs ≡ length (table_of t).definitions
  definitions-shown = shown-definitions t p.good

  defined : Defined (table_of t) t.counts t.bodies t.defs
  defined =
      record {
        all = sym definitions-shown;
        count = λ d l. ap (λ (x : program.Definition). x.count) (shown-definition t p.good d program.no_definition l);
        body = λ d l. ap (λ (x : program.Definition). x.body) (shown-definition t p.good d program.no_definition l);
        given = λ d l. omega (arith, p.good.bodies d l, nodes-shown);
      }

  pub told : Told (table_of t) ws t.counts t.bodies t.defs t.main
  told =
      record {
        trees = λ n l. p.trees n (omega (arith, nodes-shown));
        defined = defined;
        given = omega (arith, p.given, nodes-shown);
      }

  module _ {kinds items : List ℕ} (k : Column kind_of t kinds t.n) (i : Column item_of t items t.n) where
    kind-is : (n : ℕ) → n < t.n → (checked.node_at (table_of t) n).kind ≡ get_or kinds n 0
    unfolding node_of
    kind-is n l = ap (λ (x : program.Node). x.kind) (shown-node t p.good n checked.no_node l) ∙ sym (k.each n l)

    -- a node by a definition: its definition, and that it is given
    named : (m n : ℕ) → n < t.n → get_or kinds n 0 ≡ m → lead_of m ≡ definition_item
        → get_or (head_of (lead_of m) (node_at t n).item (node_at t n).constant ++ children_of (node_at t n)) 0 0 ≡ (node_at t n).item
        → (get_or (checked.node_at (table_of t) n).values 0 0 ≡ get_or items n 0) × (get_or items n 0 < length (table_of t).definitions)
    named m n l e lead v =
        let x : number_of (node_at t n).kind ≡ m = sym (k.each n l) ∙ e in
        let low : (node_at t n).item < t.defs = ((p.good.nodes n l).definition (ap lead_of x ∙ lead)).0 in (
          ap (λ (x : program.Node). get_or x.values 0 0) (shown-node t p.good n checked.no_node l) ∙ value_of (node_at t n) m x v ∙ sym (i.each n l),
          omega (arith, i.each n l, definitions-shown),
        )

    columns : {sp : List Bool} {top : ℕ} → Spatials ws sp top → Above t.bodies t.defs top → Columns (table_of t) kinds items t.counts t.bodies sp t.n
    columns s a =
        record {
          all = sym nodes-shown;
          defined = subst (λ (m : ℕ). Defined (table_of t) t.counts t.bodies m) definitions-shown defined;
          kind = kind-is;
          folds = λ n l e. named fold_by_kind n l e refl refl;
          calls = λ n l e. named call_kind n l e refl refl;
          spatials = λ d l.
              let h : d < t.defs = omega (arith, definitions-shown) in
              let b : get_or t.bodies d 0 < t.n = p.good.bodies d h in
              s.note (get_or t.bodies d 0) (a.below d h) ∙ ap spatial (p.trees (get_or t.bodies d 0) b);
        }

pub in-columns : {t : Table} {ws kinds items : List ℕ} → Packed t ws → Column kind_of t kinds t.n → Column item_of t items t.n
    → InColumns t ws kinds items t.counts t.bodies t.defs t.n
in-columns p k i = record { packed = p; is_kinds = k; is_items = i; is_counts = refl; is_bodies = refl; is_defs = refl; is_n = refl }

pub columns_of : {t : Table} {ws kinds items counts bodies : List ℕ} {defs n top : ℕ} {sp : List Bool} → InColumns t ws kinds items counts bodies defs n
    → Spatials ws sp top → Above bodies defs top → Columns (table_of t) kinds items counts bodies sp n
columns_of c s a =
    rw (c.is_counts, c.is_bodies, c.is_n) (columns c.packed c.is_kinds c.is_items s (rw (c.is_bodies, c.is_defs) at a))

-- one body more
pub above_none : {bodies : List ℕ} → Above bodies 0 0
above_none = record { few = omega arith; below = λ d h. absurd (omega arith) }

pub above_more : {bodies : List ℕ} {d top r : ℕ} → Above bodies d top → get_or bodies d 0 < node_limit → r ≡ max top (get_or bodies d 0 + 1) → Above bodies (d + 1) r
above_more {bodies} {d} {top} {r} a l e =
    record {
      few = let f = a.few in omega arith;
      below = below_more (λ (k : ℕ). get_or bodies k 0 < r) d (λ k h. let z = a.below k h in omega arith) (omega arith);
    }
