-- A call that meets Reads answers 0 exactly to the texts that are accepted and whose table has room. Assumes nothing.
use mathlib.Core.Path.{◌≡◌, refl, sym, ap, ◌∙◌}
use mathlib.Core.Bool.{Bool, true, false, not, cond}
use mathlib.Core.List.{List, ◌++◌}
use mathlib.Core.Logic.{◌⊎◌, inl, inr, ◌↔◌}
use mathlib.Core.Option.{some}
use Prim.Native.Nat.{ℕ, ◌≤◌}
use native.Mathlib.Omega.{arith}
use lib.Dec.{eqb, ltb}
use lib.ListN.{length, drop}
use borrow.Author.Tests.{eqb-true, eqb-false, eq-eqb, ltb-false, le-ltb}
use Rattle.notation.specs.Grammar.{Program}
use Rattle.notation.specs.Text.{Text}
use Rattle.program.specs.Check.{Verdict, check}
use Rattle.translation.specs.Names.{names_good}
use Rattle.translation.specs.Numbering.{table}
use Rattle.translation.specs.Reads.{compiled, Reads}
use Rattle.translation.specs.Accepted.{Accepted}
use Rattle.translation.proofs.Answered.{text-or-none}

-- what number 0 says of a program's answer
by_zero : (p : Program) (out : List ℕ) (r : Verdict) (out' : List ℕ) → (r, out') ≡ compiled p out → r.0 ≡ 0
    → (names_good p ≡ true) × ((check (table p)).0 ≡ 0) × (length (table p) ≤ length out)
unfolding compiled
by_zero p out r out' e z = go (names_good p) (eqb (check (table p)).0 0) (ltb (length out) (length (table p))) refl refl refl (sym (ap (λ (q : Verdict × List ℕ). q.0.0) e) ∙ z)
  where
    go : (a b c : Bool) → names_good p ≡ a → eqb (check (table p)).0 0 ≡ b → ltb (length out) (length (table p)) ≡ c
        → ◌≡◌ {A = ℕ} (cond {A = Verdict × List ℕ} (not a) ((20, 0), out) (cond (not b) (check (table p), out)
        (cond c ((13, 0), out) ((0, length (table p)), table p ++ drop (length (table p)) out)))).0.0 0
        → (names_good p ≡ true) × ((check (table p)).0 ≡ 0) × (length (table p) ≤ length out)
    go false b c x y w q = absurd (omega arith)
    go true false c x y w q = (x, q, absurd (eqb-false (check (table p)).0 0 y q))
    go true true true x y w q = absurd (omega arith)
    go true true false x y w q = (x, eqb-true (check (table p)).0 0 y, ltb-false (length out) (length (table p)) w)

pub accepted-exactly : (s out : List ℕ) (r : Verdict) (out' : List ℕ) → Reads s out r out' → (r.0 ≡ 0) ↔ ((a : Accepted s) × (length (table a.program) ≤ length out))
unfolding compiled
accepted-exactly s out r out' h = (λ z. there z (text-or-none s), back)
  where
    there : r.0 ≡ 0 → Text s ⊎ (Text s → ⊥) → (a : Accepted s) × (length (table a.program) ≤ length out)
    there z (inl t) =
        let k = by_zero t.program out r out' (h.spelt t.program t.fine t.laid) z in
        (record { program = t.program; fine = t.fine; laid = t.laid; names = k.0; passes = k.1 }, k.2)
    there z (inr n) = let k = (h.unspelt n).0 in absurd (omega (arith, k, z))

    back : (a : Accepted s) × (length (table a.program) ≤ length out) → r.0 ≡ 0
    back (a, l) =
        let e = h.spelt a.program a.fine a.laid in
        ap (λ (q : Verdict × List ℕ). q.0.0) e
        ∙ rw (a.names, eq-eqb (check (table a.program)).0 0 a.passes, le-ltb (length out) (length (table a.program)) l)
