-- `rep_around::meaning_of` meets its contract. Assumes nothing.
use Rattle.std.specs.Prelude.{unwrap_or}
use Rattle.std.proofs.Common.{ap, ◌∙◌}
use Rattle.rep_around.proofs.Answers.{meant-variable, meant-parameter}
use Rattle.rep_around.proofs.meaning_of.Goals as goal

pub returns-in-Some : goal.returns-in-Some
returns-in-Some c =
    rw c.reps_in.ensures.number
    (meant-variable c.args.form.now c.args.w.now _ c.in-Some.rep c.in-Some.ensures c.reps_in-in-Some.result c.reps_in-in-Some.ensures.number)

pub returns-in-None : goal.returns-in-None
returns-in-None c =
    meant-parameter c.args.form.now c.args.w.now _ c.in-None.ensures c.unwrap_or.result (c.unwrap_or.ensures ∙ ap (λ o. unwrap_or o 0) c.name_in.ensures)
