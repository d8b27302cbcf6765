-- The rows of a node, against what its part must meet.
use mathlib.Core.Path.{◌≡◌, refl, sym, ◌∙◌, ap, subst}
use mathlib.Core.Logic.{inr}
use mathlib.Core.Bool.{Bool, true, false, not, ◌||◌}
use mathlib.Core.List.{List, [], ◌∷◌}
use Prim.Native.Nat.{ℕ, suc, ◌-◌, ◌<◌}
use native.Mathlib.Omega.{arith}
use lib.ListN.{length, get_or, length-replicate}
use borrow.Author.Tests.{eqb-true, eq-eqb, ne_eqb, leb-false, lt-leb, not-false}
use Rattle.wire.specs.Wire.{big_from}
use Rattle.program.specs.Table.{kind_count, Item, node_limit, slot, keeps, child, definition, items_of, size, values_in, outside, items, Node, Table, numbers, all_numbers, named}
use Rattle.program.specs.Table.{beyond, taken_by, definition_at, is_call, node_of, node_rows}
use Rattle.program.specs.Conditions.{node, items_bytes, Bytes}
use Rattle.decide.proofs.Picks.{neither, or-fails, and-fails}
use Rattle.program.proofs.RefusalRows.{Clear, done, ◌&◌, test}
use Rattle.program.proofs.Names.{taken-fresh, fresh-taken, beyond-mem, mem-beyond}
use Rattle.program.proofs.Items.{length-items, values_of, bytes_of, length-values, inside-range, range_inside, same-items}
use Rattle.program.proofs.Bodied.{Leads, bodied-leads}
use Rattle.program.proofs.Steps.{Fits}

abbrev pub body_of : Node → List ℕ
body_of x = items_bytes (items x) x.values

-- the tests of a node's last two rows
abbrev misplaced : Table → Node → Bool
misplaced t x = beyond (length t.nodes) (numbers child x) || beyond (length t.definitions) (numbers definition x)

abbrev retaken : Table → Node → Bool
retaken t x =
    taken_by (named t) (numbers child x) || taken_by (all_numbers slot t.nodes) (numbers slot x) || taken_by (all_numbers keeps t.nodes) (numbers keeps x)

-- a call's first number, read from its bytes
first-value : (kind n : ℕ) (s : List ℕ) → kind ≡ 12 → get_or (values_in (items_of kind n) s) 0 0 ≡ get_or s 0 0
unfolding values_in big_from
first-value kind n s e = ap (λ (k : ℕ). get_or (values_in (items_of k n) s) 0 0) e ∙ go s
  where
    go : (s : List ℕ) → get_or (values_in (items_of 12 n) s) 0 0 ≡ get_or s 0 0
    go [] = refl
    go (d ∷ s) = omega arith

length-call : (kind n : ℕ) → kind ≡ 12 → length (items_of kind n) ≡ suc n
length-call kind n e = ap (λ (k : ℕ). length (items_of k n)) e ∙ ap suc (length-replicate n child)

-- a body that no row refuses: the node read from it fits, and its bytes are the body
module _ (t : Table) (kind : ℕ) (s : List ℕ) (b : Bytes s) (c : Clear (node_rows t kind s)) where
  abbrev count : ℕ
  count = (definition_at t (get_or s 0 0)).count

  abbrev is : List Item
  is = items_of kind count

  abbrev x : Node
  x = node_of t kind s

  node-known : kind < kind_count
  node-known = leb-false kind_count kind (test c 1)

  node-items : items x ≡ is
  node-items = same-items kind (length x.values - 1) count node-known (λ e. omega (arith, length-values is s, length-call kind count e))

  pub node-bytes : body_of (node_of t kind s) ≡ s
  node-bytes = rw node-items (bytes_of is s b (eqb-true (length s) (size is) (not-false _ (test c 4))))

  pub node-fits : Fits t (node (node_of t kind s))
  node-fits =
      let child-taken = taken_by (named t) (numbers child x) in
      let slot-taken = taken_by (all_numbers slot t.nodes) (numbers slot x) in
      let w = neither (child-taken || slot-taken) _ (test c 7) in
      let v = neither child-taken slot-taken w.0 in
      let far = neither (beyond (length t.nodes) (numbers child x)) _ (test c 6) in
      record {
        own = record {
          room = leb-false node_limit (length t.nodes) (test c 0);
          known = node-known;
          ranges = rw node-items (inside-range is s (test c 5));
          arguments = λ e. rw (first-value kind count s e) (omega (arith, length-values is s, length-call kind count e));
        };
        given = (λ k m. beyond-mem far.0 m, λ k m. beyond-mem far.1 m);
        fresh = taken-fresh _ _ v.0;
        slots = taken-fresh _ _ v.1;
        kept = taken-fresh _ _ w.1;
      }

-- a node that fits: it is read from its bytes, and no row refuses them
module _ (t : Table) (y : Node) (f : Fits t (node y)) where
  read-items : items_of y.kind (definition_at t (get_or (body_of y) 0 0)).count ≡ items y
  read-items =
      same-items y.kind (definition_at t (get_or (body_of y) 0 0)).count (length y.values - 1) f.own.known
      (λ e. rw (bodied-leads y f.own.ranges (inr e)).first (omega (arith, f.own.arguments e)))

  pub node-read : node_of t y.kind (body_of y) ≡ y
  node-read = ap {B = Node} (λ (vs : List ℕ). record { kind = y.kind; values = vs }) (rw read-items (values_of f.own.ranges))

  pub fits-node : Clear (node_rows t y.kind (body_of y))
  fits-node =
      lt-leb node_limit (length t.nodes) f.own.room
      & lt-leb kind_count y.kind f.own.known
      & and-fails (is_call y.kind) _ (λ c. ne_eqb (length (body_of y)) 0 (λ z. omega (arith, (call c).some)))
      & and-fails (is_call y.kind) _ (λ c. lt-leb (length t.definitions) (get_or (body_of y) 0 0) (rw (call c).first (f.given.1 _ (call c).names)))
      & ap not (eq-eqb (length (body_of y)) _ (length-items f.own.ranges ∙ ap size (sym read-items)))
      & subst (λ (js : List Item). outside js (values_in js (body_of y)) ≡ false) (sym read-items)
      (rw (values_of f.own.ranges) (range_inside f.own.ranges))
      & subst (λ (z : Node). misplaced t z ≡ false) (sym node-read) (or-fails (mem-beyond _ _ f.given.0) (mem-beyond _ _ f.given.1))
      & subst (λ (z : Node). retaken t z ≡ false) (sym node-read)
      (or-fails (or-fails (fresh-taken _ _ f.fresh) (fresh-taken _ _ f.slots)) (fresh-taken _ _ f.kept))
      & done
    where
      call : is_call y.kind ≡ true → Leads (items y) y.values
      call c = bodied-leads y f.own.ranges (inr (eqb-true y.kind 12 c))
