-- A column of a table, one node after the other. Assumes nothing.
use mathlib.Core.Path.{◌≡◌, ◌∙◌}
use mathlib.Core.List.{List}
use Prim.Native.Nat.{ℕ, ◌+◌, ◌<◌}
use native.Mathlib.Omega.{arith}
use lib.ListN.{length, get_or, set, length-set}
use lib.Seq.{get_or-set_same, get_or-set_other}
use borrow.Author.Count.{below_none, below_more}
use Rattle.program.specs.Table.{node_limit}
use Rattle.nodes.specs.declared.Node.{Node}
use Rattle.load.specs.declared.Table.{Table}
use Rattle.load.specs.Loads.{node_at}
use Rattle.pack.specs.Packs.{Column}

module _ (f : Node → ℕ) (t : Table) where
  pub column-none : {xs : List ℕ} → length xs ≡ node_limit → Column f t xs 0
  column-none h = record { long = h; each = below_none _ }

  pub column-more : {xs : List ℕ} {n : ℕ} → n < node_limit → Column f t xs n → Column f t (set xs n (f (node_at t n))) (n + 1)
  column-more {xs} {n} h c =
      record {
        long = length-set xs n (f (node_at t n)) ∙ c.long;
        each = below_more (λ (k : ℕ). get_or (set xs n (f (node_at t n))) k 0 ≡ f (node_at t k)) n
            (λ k l. get_or-set_other xs n k (f (node_at t n)) 0 (λ m. omega arith) ∙ c.each k l)
            (get_or-set_same xs n (f (node_at t n)) 0 (omega (arith, c.long)));
      }
