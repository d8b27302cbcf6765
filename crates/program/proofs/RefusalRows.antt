-- RefusalRows of the refusal table: no refusal exactly when each row's test fails.
use mathlib.Core.Path.{◌≡◌, refl}
use mathlib.Core.Bool.{Bool, true, false, cond, ◌&&◌}
use mathlib.Core.List.{[], ◌∷◌}
use Prim.Native.Nat.{ℕ, zero, suc, ◌<◌}
use native.Mathlib.Omega.{arith}
use lib.ListN.{get_or}
use lib.Dec.{eqb, ltb}
use borrow.Author.Tests.{ltb-true, eqb-true, eqb-false, eq-eqb}
use Rattle.program.specs.Table.{RefusalRows, first_of, Loaded, refused, unless}
use Rattle.decide.proofs.Picks.{both}

-- each row has a number above 0, so that 0 says that no row held
abbrev pub numbered : RefusalRows → Bool
numbered [] = true
numbered (row ∷ rows) = ltb 0 row.1 && numbered rows

-- each row's test fails
infixr 5 ◌&◌
pub data Clear : RefusalRows → Type 0 where
  done : Clear []
  ◌&◌ : {row : Bool × ℕ} {rows : RefusalRows} → row.0 ≡ false → Clear rows → Clear (row ∷ rows)

-- the row at a place
pub test : {rows : RefusalRows} → Clear rows → (k : ℕ) → (get_or rows k (false, 0)).0 ≡ false
test done k = refl
test (h & c) zero = h
test (h & c) (suc k) = test c k

clear_none : {rows : RefusalRows} → Clear rows → first_of rows ≡ 0
unfolding first_of
clear_none done = refl
clear_none (h & c) = rw h (clear_none c)

row-clear : (b : Bool) (n m : ℕ) → 0 < n → cond b n m ≡ 0 → (b ≡ false) × (m ≡ 0)
row-clear true n m h e = absurd (omega arith)
row-clear false n m h e = (refl, e)

none-clear : (rows : RefusalRows) → numbered rows ≡ true → first_of rows ≡ 0 → Clear rows
unfolding first_of
none-clear [] h e = done
none-clear (row ∷ rows) h e =
    let w = both (ltb 0 row.1) (numbered rows) h in
    let r = row-clear row.0 row.1 (first_of rows) (ltb-true 0 row.1 w.0) e in
    r.0 & none-clear rows w.1 r.1

pub clear_next : (rows : RefusalRows) (place : ℕ) (next : Loaded) → Clear rows → unless rows place next ≡ next
clear_next rows place next c = rw (eq-eqb (first_of rows) 0 (clear_none c))

-- a loading that goes on: no row held, and it is the loading of what follows
pub next-clear : (rows : RefusalRows) (place : ℕ) (next : Loaded) → numbered rows ≡ true → (unless rows place next).number ≡ 0
    → Clear rows × (unless rows place next ≡ next)
next-clear rows place next h e = go (eqb (first_of rows) 0) refl e
  where
    go : (b : Bool) → eqb (first_of rows) 0 ≡ b → (cond b next (refused (first_of rows) place)).number ≡ 0 → Clear rows × (unless rows place next ≡ next)
    go true q e = let c : Clear rows = none-clear rows h (eqb-true (first_of rows) 0 q) in (c, clear_next rows place next c)
    go false q e = absurd (eqb-false (first_of rows) 0 q e)
