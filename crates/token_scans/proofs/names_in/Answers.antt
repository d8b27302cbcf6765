-- `token_scans::names_in` meets its contract. Assumes nothing.
use Rattle.std.specs.Prelude.{◌&&◌, eqb, ltb}
use Rattle.std.proofs.Common.{◌∙◌, rules}
use Rattle.token_scans.specs.Sought.{number_of}
use Rattle.token_scans.proofs.Counts.{words-counted}
use Rattle.token_scans.proofs.names_in.Goals as goal

pub returns : goal.returns
returns c = c.count.ensures.passed (λ m k. eqb m (number_of c.args.mode) && ltb k 22) (λ m k r p. search rules) ∙ words-counted (number_of c.args.mode) 0 _
