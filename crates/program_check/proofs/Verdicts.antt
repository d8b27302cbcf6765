-- The rows over all nodes, one after the other, and what an accepted program is. Assumes nothing.
use mathlib.Core.Path.{◌≡◌, refl, sym, ap, ◌∙◌}
use mathlib.Core.Bool.{false, cond}
use mathlib.Core.List.{List, ◌∷◌}
use mathlib.Core.Option.{none, some}
use Prim.Native.Nat.{ℕ, ◌≤◌, ◌<◌}
use native.Mathlib.Omega.{arith}
use native.Mathlib.Nat.{min-le_left}
use lib.ListN.{length}
use lib.Dec.{eqb, ltb}
use borrow.Author.Tests.{lt-ltb, le-ltb, eq-eqb, ne_eqb, leb-false}
use Rattle.std.proofs.Common.{Ok, Err}
use Rattle.words.specs.Form.{field_forms}
use Rattle.program.specs.Table as program
use Rattle.program.specs.Table.{among, bodies, node_limit}
use Rattle.program.specs.Tree.{Expr, tree, is_field, sort_broken, cost}
use Rattle.program.specs.Check.{lowest, offending, sort_offends, use_offends, tree_rows, check}
use Rattle.decide.proofs.Picks.{neither, and_second}
use Rattle.program.proofs.Offending.{rows_pass}
use Rattle.round.specs.Round.{reps}
use Rattle.words.specs.Word.{form, word}
use Rattle.words.specs.Trees.{tree_at}
use Rattle.words.specs.Sound.{Sound}
use Rattle.verdict.specs.declared.Reason.{Reason}
use Rattle.verdict.specs.declared.Reason.TheVariants.{BadField, TooMany, OutOfRange, NotGiven, Taken, BadEnd, WrongSort, Misread, Misused, TooCostly, Unsound, BadList}
use Rattle.verdict.specs.declared.Reason.TheVariants.{ShortSpace, BadItem, Itself, NothingPending, DividedByZero, BadFile, Outside, BadName}
use Rattle.verdict.specs.declared.Refusal.{Refusal}
use Rattle.verdict.specs.Outcome.{number_of, refusal_at}
use Rattle.rep_masks.specs.Masks.{Masks}
use Rattle.quick.specs.Quick.{Quickened}
use Rattle.costs.specs.Costs.{capped}
use Rattle.load.specs.declared.Table.{Table}
use Rattle.load.specs.Loads.{table_of, Good, Loads}
use Rattle.load.proofs.Shown.{shown-nodes}
use Rattle.pack.specs.Packs.{Packs}
use Rattle.program_check.specs.TreeRows.{misreads, Packed, Runs}
use Rattle.program_check.specs.Prepares.{Accepted, Ready}

-- main is a number, where it does not offend
main-number : (t : program.Table) (main : ℕ) → sort_offends t main main ≡ false → is_field (tree t main) ≡ false
unfolding sort_offends among
main-number t main e =
    and_second (among main (main ∷ bodies t.definitions)) (is_field (tree t main)) (neither (sort_broken (tree t main)) _ e).1
    (rw (eq-eqb main main refl))

module _ {t : Table} {ws : List ℕ} (g : Good t) (given : t.main < t.n) where
  pub packed : {r : ℕ} → Packs t ws r → Packed t ws
  packed p = record { good = g; given = given; long = p.long; formed = p.formed; trees = p.trees; empty = record { rest = p.rest } }

  pub sort_row : {n : ℕ} → Packs t ws n → n < node_limit → tree_rows (table_of t) t.main ≡ (7, n)
  unfolding tree_rows
  sort_row {n} p l = rw (p.place, lt-ltb n node_limit l)

  module _ (p : Packs t ws node_limit) where
    pub scope_row : {n : ℕ} → lowest (misreads (table_of t) t.main) ≡ some n → tree_rows (table_of t) t.main ≡ (8, n)
    unfolding tree_rows
    scope_row a = rw (p.place, a)

    module _ (a : lowest (misreads (table_of t) t.main) ≡ none) where
      pub use_row : {n : ℕ} → lowest (offending (use_offends (table_of t)) (length (table_of t).nodes)) ≡ some n → tree_rows (table_of t) t.main ≡ (9, n)
      unfolding tree_rows
      use_row b = rw (p.place, a, b)

      module _ (b : lowest (offending (use_offends (table_of t)) (length (table_of t).nodes)) ≡ none) {c : ℕ} (d : c ≡ capped (cost (tree_at ws t.main))) where
        same-cost : c ≡ capped (cost (tree (table_of t) t.main))
        same-cost = d ∙ ap (λ x. capped (cost x)) (p.trees t.main given)

        rest : tree_rows (table_of t) t.main ≡ cond (ltb 1000000 (cost (tree (table_of t) t.main))) (10, 0) (0, 0)
        unfolding tree_rows
        rest = rw (p.place, a, b)

        pub cost_row : 1000000 < c → tree_rows (table_of t) t.main ≡ (10, 0)
        cost_row q =
            let z : 1000000 < cost (tree (table_of t) t.main) = omega (arith, same-cost, min-le_left (cost (tree (table_of t) t.main)) 1000001) in
            rest ∙ rw (lt-ltb 1000000 (cost (tree (table_of t) t.main)) z)

        pub accepts : c ≤ 1000000 → (tree_rows (table_of t) t.main ≡ (0, 0)) × Runs t ws
        accepts q =
            let z : cost (tree (table_of t) t.main) ≤ 1000000 = omega (arith, same-cost) in
            let e : tree_rows (table_of t) t.main ≡ (0, 0) = rest ∙ rw (le-ltb 1000000 (cost (tree (table_of t) t.main)) z) in
            let inside : t.main < length (table_of t).nodes = omega (arith, shown-nodes t g, given) in
            let no = main-number (table_of t) t.main ((rows_pass (table_of t) t.main e).sorts t.main inside) in
            let low : form (word ws t.main) < field_forms = leb-false field_forms (form (word ws t.main)) (p.fields t.main given ∙ no) in
            let sorted = p.sorted refl in
            (e, record { packed = packed p; sorted = sorted; number = (sorted.node t.main (omega (arith, g.n))).number low })

-- a refusal's number is not 0
numbered : (r : Reason) → number_of r ≡ 0 → ⊥
numbered BadField e = absurd (omega arith)
numbered TooMany e = absurd (omega arith)
numbered OutOfRange e = absurd (omega arith)
numbered NotGiven e = absurd (omega arith)
numbered Taken e = absurd (omega arith)
numbered BadEnd e = absurd (omega arith)
numbered WrongSort e = absurd (omega arith)
numbered Misread e = absurd (omega arith)
numbered Misused e = absurd (omega arith)
numbered TooCostly e = absurd (omega arith)
numbered Unsound e = absurd (omega arith)
numbered BadList e = absurd (omega arith)
numbered ShortSpace e = absurd (omega arith)
numbered BadItem e = absurd (omega arith)
numbered Itself e = absurd (omega arith)
numbered NothingPending e = absurd (omega arith)
numbered DividedByZero e = absurd (omega arith)
numbered BadFile e = absurd (omega arith)
numbered Outside e = absurd (omega arith)
numbered BadName e = absurd (omega arith)

-- ---- a program from its bytes
module _ {s : List ℕ} where
  pub unloaded : {e : Refusal} → Loads s (Err e) → check s ≡ refusal_at e
  unfolding check
  unloaded {e} l =
      let q : eqb (program.load s).number 0 ≡ false = ne_eqb (program.load s).number 0 (λ z. numbered e.reason (l.number ∙ z)) in
      rw (q, ← l.number, ← l.place)

  module _ {t : Table} (l : Loads s (Ok t)) where
    pub same_check : check s ≡ tree_rows (table_of t) t.main
    unfolding check
    same_check =
        let q : check s ≡ tree_rows (program.load s).table (program.load s).main = rw (eq-eqb (program.load s).number 0 (sym l.number)) in
        q
        ∙ ap (λ (x : program.Table). tree_rows x (program.load s).main) (sym l.loaded.table)
        ∙ ap (tree_rows (table_of t)) (sym l.loaded.main)

    pub accepted : {ws : List ℕ} → Runs t ws → Accepted s ws t.n t.main
    accepted a =
        record {
          few = a.packed.good.n;
          long = a.packed.long;
          formed = a.packed.formed;
          empty = a.packed.empty;
          sorted = a.sorted;
          inside = omega (arith, a.packed.given, a.packed.good.n);
          number = a.number;
          tree = a.packed.trees t.main a.packed.given ∙ ap (λ (x : program.Table). tree x t.main) l.loaded.table ∙ ap (tree (program.load s).table) l.loaded.main;
        }

-- what passed the check, with its masks and in quick forms, is what a round requires
pub readied : {s ws quick us : List ℕ} {n main : ℕ} → Accepted s ws n main → Masks ws us node_limit → Quickened ws quick → Ready s quick us main
unfolding Sound
readied {us = us} {main = main} p m q =
    record {
      sound = λ k h. record {
        sorted = q.sorted.node k h;
        mask = λ v l. m.mask k h v l ∙ ap (λ (x : Expr). among v (reps x)) (sym (q.trees k h));
      };
      inside = p.inside;
      number = q.number main p.inside p.number;
      tree = q.trees main p.inside ∙ p.tree;
    }
