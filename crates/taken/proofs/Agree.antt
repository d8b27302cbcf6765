-- Flags that agree with a list of numbers tell what the list tells.
use mathlib.Core.Path.{◌≡◌, refl, sym, ◌∙◌}
use mathlib.Core.Bool.{Bool, true, false, cond, ◌||◌}
use mathlib.Core.List.{List, [], ◌∷◌, ◌++◌}
use Prim.Native.Nat.{ℕ, zero, suc, ◌≤◌, ◌<◌}
use native.Mathlib.Omega.{arith}
use lib.ListN.{get_or, set, length-set}
use lib.Seq.{get_or-set_same, get_or-set_other}
use lib.Dec.{eqb, leb}
use borrow.Author.Tests.{eqb-true, eqb-false, leb-false}
use Rattle.program.specs.Table.{among, beyond, taken_by, unnamed}
use Rattle.decide.proofs.Picks.{neither}
use Rattle.program.proofs.Names.{among-append}
use Rattle.taken.specs.Taken.{taken_in, with_taken, take_if, untaken}
use Rattle.taken.specs.Agrees.{Agree}

-- the same numbers in another order
pub same : {bound : ℕ} {m : List Bool} {taken : List ℕ} (other : List ℕ) → Agree bound m taken → ((k : ℕ) → among k taken ≡ among k other) → Agree bound m other
same other a e = record { long = a.long; each = λ k h. a.each k h ∙ e k }

pub set_agrees : {bound : ℕ} {m : List Bool} {taken : List ℕ} (k : ℕ) → k < bound → Agree bound m taken → Agree bound (set m k true) (k ∷ taken)
unfolding among
set_agrees {bound} {m} {taken} k h a =
    record { long = length-set m k true ∙ a.long; each = λ j l. go j l (eqb j k) refl }
  where
    go : (j : ℕ) → j < bound → (b : Bool) → eqb j k ≡ b → get_or (set m k true) j false ≡ (b || among j taken)
    go j l true q = let e : j ≡ k = eqb-true j k q in rw e (get_or-set_same m k true false (omega (arith, a.long)))
    go j l false q = get_or-set_other m k j true false (eqb-false j k q) ∙ a.each j l

pub if-agrees : {bound : ℕ} {m : List Bool} {taken : List ℕ} (on : Bool) (k : ℕ) → (on ≡ true → k < bound) → Agree bound m taken → Agree bound (take_if on k m) (cond on (k ∷ []) [] ++ taken)
if-agrees true k h a = set_agrees k (h refl) a
if-agrees false k h a = a

-- a number below the bound, and the others
below : (n k : ℕ) (ks : List ℕ) → beyond n (k ∷ ks) ≡ false → (k < n) × (beyond n ks ≡ false)
unfolding beyond
below n k ks e = let p = neither (leb n k) (beyond n ks) e in (leb-false n k p.0, p.1)

pub taken_is : {bound : ℕ} {m : List Bool} {taken : List ℕ} (n : ℕ) (ks : List ℕ) → n ≤ bound → beyond n ks ≡ false → Agree bound m taken → taken_in m ks ≡ taken_by taken ks
unfolding taken_in taken_by
taken_is n [] h e a = refl
taken_is {bound} {m} {taken} n (k ∷ ks) h e a =
    let p : (k < n) × (beyond n ks ≡ false) = below n k ks e in
    let l : k < bound = omega arith in
    rw (a.each k l, taken_is n ks h p.1 (set_agrees k l a))

swap : (a b c : Bool) → (a || (b || c)) ≡ ((b || a) || c)
swap true true c = refl
swap true false c = refl
swap false true c = refl
swap false false c = refl

pub with-agrees : {bound : ℕ} {m : List Bool} {taken : List ℕ} (n : ℕ) (ks : List ℕ) → n ≤ bound → beyond n ks ≡ false → Agree bound m taken → Agree bound (with_taken m ks) (ks ++ taken)
unfolding with_taken among
with-agrees n [] h e a = a
with-agrees {bound} {m} {taken} n (k ∷ ks) h e a =
    let p : (k < n) × (beyond n ks ≡ false) = below n k ks e in
    let r = with-agrees n ks h p.1 (set_agrees k (omega arith) a) in
    same (k ∷ ks ++ taken) r (λ j. among-append j ks (k ∷ taken) ∙ swap (among j ks) (eqb j k) (among j taken) ∙ sym (among-append j (k ∷ ks) taken))

pub untaken-is : {bound : ℕ} {m : List Bool} {names : List ℕ} (n : ℕ) → n ≤ bound → Agree bound m names → untaken n m ≡ unnamed n names
unfolding untaken unnamed
untaken-is zero h a = refl
untaken-is (suc n) h a = rw (a.each n (omega arith), untaken-is n (omega arith) a)
