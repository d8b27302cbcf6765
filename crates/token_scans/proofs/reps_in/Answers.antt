-- `token_scans::reps_in` meets its contract. Assumes nothing.
use Rattle.std.specs.Prelude.{◌&&◌, eqb}
use Rattle.std.proofs.Common.{◌∙◌, rules}
use Rattle.token_scans.proofs.Counts.{heads-counted}
use Rattle.token_scans.proofs.reps_in.Goals as goal

pub returns-clause-number : goal.returns-clause-number
returns-clause-number c = c.count.ensures.passed (λ m k. eqb m 1 && eqb k 11) (λ m k r p. search rules) ∙ heads-counted (λ k. eqb k 11) 0 _
