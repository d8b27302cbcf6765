-- Which texts are accepted, whatever room there is. A theorem of translation's proofs holds the contract, Reads, to it. Definitions only: nothing is assumed.
use Rattle.std.specs.Prelude.{◌≡◌, true, List, ℕ}
use Rattle.notation.specs.Grammar.{Program, program_tokens, FineProgram}
use Rattle.notation.specs.Text.{Spaced}
use Rattle.program.specs.Check.{check}
use Rattle.translation.specs.Names.{names_good}
use Rattle.translation.specs.Numbering.{table}

-- "Text is accepted exactly when it is in the grammar, its names resolve .., none is repeated or reserved, .. and the resulting table passes the check"
pub record Accepted (s : List ℕ) : Type 0 where
  pub program : Program
  pub fine : FineProgram program
  pub laid : Spaced (program_tokens program) s
  pub names : names_good program ≡ true
  pub passes : (check (table program)).0 ≡ 0
