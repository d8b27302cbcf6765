-- What no refusal of a definition or of the main node tells.
use mathlib.Core.Path.{◌≡◌}
use mathlib.Core.Bool.{Bool}
use mathlib.Core.List.{List}
use Prim.Native.Nat.{ℕ, ◌≤◌, ◌<◌}
use lib.ListN.{length, get_or}
use lib.Dec.{eqb, leb, ltb}
use borrow.Author.Tests.{leb-false, ltb-false}
use Rattle.program.specs.Table.{definition_limit}
use Rattle.kinds.proofs.Clear.{passed, held}
use Rattle.refusal_rows.specs.Numbers.{definition_number, main_number}

pub record DefinitionClear (b : List ℕ) (n defs : ℕ) : Type 0 where
  pub room : defs < definition_limit
  pub count : get_or b 0 0 ≤ 4
  pub given : get_or b 1 0 < n

pub definition-clear : (b : List ℕ) (n defs : ℕ) (named : List Bool) → definition_number b n defs named ≡ 0 → DefinitionClear b n defs
unfolding definition_number
definition-clear b n defs named e =
    let a = passed (leb definition_limit defs) 1 e in
    let c = held (eqb (length b) 2) 0 a.1 in
    let d = passed (ltb 4 (get_or b 0 0)) 2 c.1 in
    let f = passed (leb n (get_or b 1 0)) 3 d.1 in
    record { room = leb-false definition_limit defs a.0; count = ltb-false 4 (get_or b 0 0) d.0; given = leb-false n (get_or b 1 0) f.0 }

pub main-clear : (b : List ℕ) (n : ℕ) (named : List Bool) → main_number b n named ≡ 0 → get_or b 0 0 < n
unfolding main_number
main-clear b n named e = leb-false n (get_or b 0 0) (passed (leb n (get_or b 0 0)) 3 (held (eqb (length b) 1) 0 e).1).0
