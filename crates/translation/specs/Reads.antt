-- What reading a text answers and leaves in the lent slice. Definitions only: nothing is assumed.
use Rattle.std.specs.Prelude.{◌≡◌, not, cond, List, ◌++◌, ℕ, eqb, ltb, length, drop}
use Rattle.notation.specs.Grammar.{Program, program_tokens, FineProgram}
use Rattle.notation.specs.Text.{Spaced, Text, Longest}
use Rattle.program.specs.Check.{Verdict, check}
use Rattle.translation.specs.Names.{names_good}
use Rattle.translation.specs.Numbering.{table}

-- The answer to a text of the program p, and the slice afterwards: 20, "then table refusals with theirs", 13 "last"; else "the table starts a lent slice, its length is the place, the rest
-- stays". "No refusal writes."
unfoldable pub compiled : Program → List ℕ → Verdict × List ℕ
compiled p out =
    cond (not (names_good p)) ((20, 0), out)
    (cond (not (eqb (check (table p)).0 0)) (check (table p), out)
    (cond (ltb (length out) (length (table p))) ((13, 0), out)
    ((0, length (table p)), table p ++ drop (length (table p)) out)))

-- the answer r and the slice out' behind a call with the text s and the slice out
pub record Reads (s out : List ℕ) (r : Verdict) (out' : List ℕ) : Type 0 where
  -- for every program that spells the text
  pub spelt : (p : Program) → FineProgram p → Spaced (program_tokens p) s → (r, out') ≡ compiled p out
  -- "Text outside the grammar gets 19 with the length of the longest beginning it shares with a text of the grammar"
  pub unspelt : (Text s → ⊥) → (r.0 ≡ 19) × Longest s r.1 × (out' ≡ out)
