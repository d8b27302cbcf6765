-- `shift::carry_out` meets its contract. Assumes nothing.
use Rattle.std.proofs.Common.{◌∙◌, length, ap, refl}
use Rattle.std.proofs.lemmas.Result.{err_from_is_err_and}
use Rattle.shift.proofs.Laws.{refusal, answers, room_for, no_refusal}
use Rattle.shift.proofs.carry_out.Goals as goal

pub returns-in_err-run-clause-refusal : goal.returns-in_err-run-clause-refusal
returns-in_err-run-clause-refusal c =
    let failed = rw c.requires at c.in_err-run.ensures in
    let p = err_from_is_err_and c.from_residual.result c.from_residual.ensures.1 in
    rw (p.1, p.2) (refusal c.args.program.now c.args.list.now c.fresh.ensures failed _ refl)

pub returns-clause-room : goal.returns-clause-room
returns-clause-room c =
    let roomy = rw c.requires at c.in_ok-run.ensures in
    room_for c.args.program.now c.args.list.now c.fresh.ensures roomy _ _ c.count_events.ensures refl (c.run.auto.space ∙ ap length c.requires)

pub returns-clause-answers : goal.returns-clause-answers
returns-clause-answers c =
    let ran = rw c.requires at c.in_ok-run.ensures in
    answers c.args.program.now c.args.list.now c.fresh.ensures ran _ c.count_events.ensures refl

pub returns-clause-refusal : goal.returns-clause-refusal
returns-clause-refusal c =
    let passed = rw c.requires at c.in_ok-run.ensures in
    no_refusal c.args.program.now c.args.list.now c.fresh.ensures passed _ _ c.count_events.ensures refl
