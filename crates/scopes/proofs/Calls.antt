-- A node offends by its use as the columns say, and the flags of called definitions go on. Assumes nothing.
use mathlib.Core.Path.{◌≡◌, refl, sym, ap, subst, ◌∙◌}
use mathlib.Core.Bool.{Bool, true, false, not, ◌&&◌, ◌||◌, or_assoc, or-false, and-true, and-false}
use mathlib.Core.List.{List, [], ◌∷◌, ◌++◌}
use Rattle.std.proofs.Common.{Some, None}
use Prim.Native.Nat.{ℕ, zero, suc, ◌+◌, ◌≤◌, ◌<◌}
use native.Mathlib.Numerals.{add-one}
use native.Mathlib.Omega.{arith}
use lib.ListN.{length, get_or, set, take, replicate, length-set, length-replicate, get_or-replicate}
use lib.Seq.{take-suc, get_or-set_same, get_or-set_other}
use lib.Dec.{eqb}
use borrow.Author.Count.{below_more}
use borrow.Author.Tests.{eqb-true, eqb-false, eq-eqb, ne_eqb}
use Rattle.program.specs.Table.{Node, Table, definition_at, is_call, node_limit}
use Rattle.program.specs.Tree.{tree, spatial}
use Rattle.program.specs.Check.{no_node, node_at, called, use_offends}
use Rattle.operands.proofs.Found.{none-offends, one-offends}
use Rattle.shapes.specs.Kinds.{fold_by_kind, call_kind}
use Rattle.scopes.specs.Uses.{Columns, called_below, Flags, offends, CleanBelow, LowestUse}

called-append : (d : ℕ) (a b : List Node) → called d (a ++ b) ≡ called d a || called d b
unfolding called
called-append d [] b = refl
called-append d (x ∷ a) b = rw (called-append d a b) (sym (or_assoc (is_call x.kind && eqb (get_or x.values 0 0) d) (called d a) (called d b)))

module _ {kinds items counts bodies : List ℕ} {sp : List Bool} {count : ℕ} (t : Table) (s : Columns t kinds items counts bodies sp count) where
  -- a node calls d
  calls_same : (d n : ℕ) → n < count → is_call (node_at t n).kind && eqb (get_or (node_at t n).values 0 0) d ≡ is_call (get_or kinds n 0) && eqb (get_or items n 0) d
  calls_same d n h = rw (s.kind n h) (go (eqb (get_or kinds n 0) call_kind) refl)
    where
      go : (b : Bool) → eqb (get_or kinds n 0) call_kind ≡ b → b && eqb (get_or (node_at t n).values 0 0) d ≡ b && eqb (get_or items n 0) d
      go true e = rw (s.calls n h (eqb-true (get_or kinds n 0) call_kind e)).0
      go false e = refl

  called_same : (d n : ℕ) → n ≤ count → called d (take n t.nodes) ≡ called_below kinds items d n
  unfolding called called_below
  called_same d zero h = refl
  called_same d (suc n) h =
      ap (called d) (take-suc t.nodes n no_node (omega (arith, s.all)))
      ∙ called-append d (take n t.nodes) (node_at t n ∷ [])
      ∙ rw (called_same d n (omega arith), or-false (is_call (node_at t n).kind && eqb (get_or (node_at t n).values 0 0) d), calls_same d n (omega arith))

  pub same-use : (n d : ℕ) → n < count → d ≡ get_or items n 0
      → use_offends t n ≡ offends (get_or kinds n 0) (get_or sp (get_or bodies d 0) false) (called_below kinds items d n) (get_or counts d 0)
  unfolding use_offends offends
  same-use n d h e = rw (s.kind n h, e) (go (eqb (get_or kinds n 0) call_kind) (eqb (get_or kinds n 0) fold_by_kind) refl refl)
    where
      v : ℕ
      v = get_or (node_at t n).values 0 0

      i : ℕ
      i = get_or items n 0

      wide : v ≡ i → i < length t.definitions → spatial (tree t (definition_at t v).body) ≡ get_or sp (get_or bodies i 0) false
      wide p l = rw (p, s.defined.body i l) (sym (s.spatials i l))

      go : (a b : Bool) → eqb (get_or kinds n 0) call_kind ≡ a → eqb (get_or kinds n 0) fold_by_kind ≡ b
          → a && (spatial (tree t (definition_at t v).body) && called v (take n t.nodes))
          || b && (spatial (tree t (definition_at t v).body) || not (eqb (definition_at t v).count 2))
          ≡ a && (get_or sp (get_or bodies i 0) false && called_below kinds items i n)
          || b && (get_or sp (get_or bodies i 0) false || not (eqb (get_or counts i 0) 2))
      go true true f g = absurd (omega (arith, eqb-true (get_or kinds n 0) call_kind f, eqb-true (get_or kinds n 0) fold_by_kind g))
      go true false f g =
          let c = s.calls n h (eqb-true (get_or kinds n 0) call_kind f) in
          rw (wide c.0 c.1, c.0, called_same i n (omega arith))
      go false true f g =
          let c = s.folds n h (eqb-true (get_or kinds n 0) fold_by_kind g) in
          rw (wide c.0 c.1, c.0, s.defined.count i c.1)
      go false false f g = refl

-- ---- the flags
pub no-flags : (kinds items : List ℕ) → Flags kinds items (replicate node_limit false) 0
unfolding called_below
no-flags kinds items = record { long = length-replicate node_limit false; flag = λ d l. get_or-replicate node_limit d false false l }

pub more-flags : {kinds items : List ℕ} {called : List Bool} {n d : ℕ} {b : Bool} → Flags kinds items called n → d < node_limit → d ≡ get_or items n 0
    → b ≡ get_or called d false || is_call (get_or kinds n 0) → Flags kinds items (set called d b) (n + 1)
unfolding called_below
more-flags {kinds} {items} {called} {n} {d} {b} m l e q =
    record { long = length-set called d b ∙ m.long; flag = λ k h. rw (add-one n) (go k h (eqb k d) refl) }
  where
    go : (k : ℕ) → k < node_limit → (x : Bool) → eqb k d ≡ x → get_or (set called d b) k false ≡ called_below kinds items k (suc n)
    go k h true f =
        subst (λ (i : ℕ). get_or (set called d b) i false ≡ called_below kinds items i (suc n)) (sym (eqb-true k d f))
        (get_or-set_same called d b false (omega (arith, m.long)) ∙ q
        ∙ rw (m.flag d l, eq-eqb (get_or items n 0) d (sym e)) (ap (λ (x : Bool). called_below kinds items d n || x) (sym (and-true (is_call (get_or kinds n 0))))))
    go k h false f =
        get_or-set_other called d k b false (eqb-false k d f) ∙ m.flag k h
        ∙ rw (ne_eqb (get_or items n 0) k (λ z. eqb-false k d f (sym z ∙ sym e)), and-false (is_call (get_or kinds n 0))) (sym (or-false (called_below kinds items k n)))

-- a node of a lower kind calls nothing and folds by no definition
other-kind : (k m : ℕ) → k < fold_by_kind → fold_by_kind ≤ m → eqb k m ≡ false
other-kind k m h l = ne_eqb k m (λ e. omega arith)

pub same_flags : {kinds items : List ℕ} {called : List Bool} {n : ℕ} → Flags kinds items called n → get_or kinds n 0 < fold_by_kind → Flags kinds items called (n + 1)
unfolding called_below
same_flags {kinds} {items} {called} {n} m h =
    record {
      long = m.long;
      flag = λ k l. rw (add-one n) (m.flag k l ∙ rw (other-kind (get_or kinds n 0) call_kind h (omega arith)) (sym (or-false (called_below kinds items k n))));
    }

pub passes_over : {kinds items counts bodies : List ℕ} {sp : List Bool} {count n : ℕ} → CleanBelow kinds items counts bodies sp count n → n < count
    → get_or kinds n 0 < fold_by_kind → CleanBelow kinds items counts bodies sp count (n + 1)
unfolding offends
passes_over {kinds} {items} {counts} {bodies} {sp} {count} {n} p l h =
    record {
      none = λ t s. below_more (λ (k : ℕ). use_offends t k ≡ false) n (p.none t s)
          (same-use t s n (get_or items n 0) l refl ∙ rw (other-kind (get_or kinds n 0) call_kind h (omega arith), other-kind (get_or kinds n 0) fold_by_kind h (omega arith)));
    }

-- ---- what the search answers, where the test of node n, as the code makes it, is r
module _ {kinds items counts bodies : List ℕ} {sp : List Bool} {called : List Bool} {count n d b : ℕ} {r : Bool}
    (m : Flags kinds items called n) (p : CleanBelow kinds items counts bodies sp count n) (h : n < count) (l : d < node_limit) (e : d ≡ get_or items n 0)
    (f : b ≡ get_or bodies d 0) (q : r ≡ offends (get_or kinds n 0) (get_or sp b false) (get_or called d false) (get_or counts d 0)) where
  tested : (t : Table) → Columns t kinds items counts bodies sp count → use_offends t n ≡ r
  tested t s = same-use t s n d h e ∙ sym (rw (← m.flag d l, ← f) q)

  pub passes : r ≡ false → CleanBelow kinds items counts bodies sp count (n + 1)
  passes z = record { none = λ t s. below_more (λ (k : ℕ). use_offends t k ≡ false) n (p.none t s) (tested t s ∙ z) }

  pub stops : r ≡ true → LowestUse kinds items counts bodies sp count (Some n)
  stops z t s = one-offends (use_offends t) (length t.nodes) n (omega (arith, s.all)) (p.none t s) (tested t s ∙ z)

pub ends : {kinds items counts bodies : List ℕ} {sp : List Bool} {count n : ℕ} → CleanBelow kinds items counts bodies sp count n → count ≤ n
    → LowestUse kinds items counts bodies sp count None
ends p h t s = none-offends (use_offends t) (length t.nodes) (λ k l. p.none t s k (omega (arith, s.all)))
