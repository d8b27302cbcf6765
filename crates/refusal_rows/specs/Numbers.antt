-- The refusals of one field, near the code. Internal: `proofs/RefusalRows.antt` proves that they are those of program's rows.
use Rattle.std.specs.Prelude.{Bool, false, cond, List, ℕ, length, get_or, eqb, leb, ltb}
use Rattle.program.specs.Table.{definition_limit}
use Rattle.kinds.specs.Taken.{Taken}
use Rattle.kinds.specs.Numbers.{read_number}

unfoldable pub definition_number : List ℕ → ℕ → ℕ → List Bool → ℕ
definition_number b n defs named =
    cond (leb definition_limit defs) 2
    (cond (eqb (length b) 2)
    (cond (ltb 4 (get_or b 0 0)) 3 (cond (leb n (get_or b 1 0)) 4 (cond (get_or named (get_or b 1 0) false) 5 0)))
    1)

unfoldable pub main_number : List ℕ → ℕ → List Bool → ℕ
main_number b n named = cond (eqb (length b) 1) (cond (leb n (get_or b 0 0)) 4 (cond (get_or named (get_or b 0 0) false) 5 0)) 1

unfoldable pub field_number : ℕ → List ℕ → ℕ → ℕ → List ℕ → Taken → ℕ
field_number tag b n defs counts m =
    cond (eqb tag 2) (definition_number b n defs m.named)
    (cond (eqb tag 3) (main_number b n m.named)
    (cond (eqb tag 1) (read_number b n defs counts m) 1))
