-- A field's body and what stands behind its first byte; the kind of a number; a number that is named.
use mathlib.Core.Path.{◌≡◌, refl, sym, ◌∙◌, ap}
use mathlib.Core.Bool.{Bool, true, false, cond, or-false}
use mathlib.Core.List.{List, [], ◌∷◌}
use Prim.Native.Nat.{ℕ, ◌-◌, ◌≤◌}
use native.Mathlib.Omega.{arith}
use lib.ListN.{length, get_or, take, drop, set}
use lib.Dec.{leb, ltb}
use borrow.Author.Tests.{ltb-true, ltb-false}
use Rattle.std.specs.Prelude.{Some, None, Result}
use Rattle.program.specs.Table.{beyond, kind_count}
use Rattle.verdict.specs.declared.Reason.{Reason}
use Rattle.shapes.specs.declared.Kind.{Kind}
use Rattle.shapes.specs.Kinds.{parameter_kind, variable_kind, number_of, kind_at, named}
use Rattle.shapes.specs.Shapes.{inside}
use Rattle.shapes.proofs.ByKind.{number-of-kind}
use Rattle.nodes.specs.declared.Node.{Node}
use Rattle.taken.specs.Taken.{code, taken_in, with_taken, TakesKids}
use Rattle.kinds.specs.Taken.{Taken}
use Rattle.kinds.specs.Reads.{Limited, ReadsNode}
use Rattle.kinds.proofs.Fields.{behind, form}

pub as-read : (b : List ℕ) {kind n defs : ℕ} {counts : List ℕ} {m m' : Taken} {r : Result Node Reason} → 1 ≤ length b → kind ≡ get_or b 0 0
    → ReadsNode (kind ∷ take (length b - 1) (drop 1 b)) n defs counts m r m' → ReadsNode b n defs counts m r m'
as-read [] h e t = absurd (omega arith)
as-read (a ∷ s) h e t = rw (behind (a ∷ s), e) at t

pub named-is : (k : ℕ) {o : Kind} → named k ≡ Some o → number_of o ≡ k
named-is k {o} e = go (ltb k kind_count) refl e
  where
    go : (b : Bool) → ltb k kind_count ≡ b → cond b (Some (kind_at k)) None ≡ Some o → number_of o ≡ k
    go true q e = let z : kind_at k ≡ o = cc in ap number_of (sym z) ∙ number-of-kind k (ltb-true k kind_count q)
    go false q e = cc

pub unnamed : (k : ℕ) → named k ≡ None → kind_count ≤ k
unnamed k e = go (ltb k kind_count) refl e
  where
    go : (b : Bool) → ltb k kind_count ≡ b → cond b (Some (kind_at k)) None ≡ None → kind_count ≤ k
    go true q e = cc
    go false q e = ltb-false k kind_count q

pub parameters-limited : Limited parameter_kind 4
unfolding inside
parameters-limited = record { form = form parameter_kind (omega arith); read = refl; whole = refl; slot = refl; kept = refl; definition = refl; range = λ i. refl }

pub variables-limited : Limited variable_kind 16
unfolding inside
variables-limited = record { form = form variable_kind (omega arith); read = refl; whole = refl; slot = refl; kept = refl; definition = refl; range = λ i. refl }

-- a body or the main node, which is named
module _ {k n : ℕ} {named named' : List Bool} {r : Result Unit Reason} (t : TakesKids (k ∷ []) n named r named') where
  pub name-number : code r ≡ cond (leb n k) 4 (cond (get_or named k false) 5 0)
  unfolding beyond taken_in
  name-number = rw (or-false (leb n k), or-false (get_or named k false)) at t.number

  pub name-after : code r ≡ 0 → named' ≡ set named k true
  unfolding with_taken
  name-after z = t.after z
