-- `program_check::examine` meets its contract. Assumes nothing.
use Rattle.std.proofs.Common.{◌∙◌}
use Rattle.std.proofs.lemmas.Result.{err_from_is_err_and}
use Rattle.program_check.proofs.Verdicts.{unloaded, same_check, accepted}
use Rattle.program_check.proofs.examine.Goals as goal

pub returns-in_err-t : goal.returns-in_err-t
returns-in_err-t c =
    let p = err_from_is_err_and c.from_residual.result c.from_residual.ensures.1 in rw (p.1, p.2) (unloaded c.in_err-t.ensures)

pub returns-in_err-tree_rows : goal.returns-in_err-tree_rows
returns-in_err-tree_rows c =
    let p = err_from_is_err_and c.from_residual-in_err-tree_rows.result c.from_residual-in_err-tree_rows.ensures.1 in rw (p.1, p.2)
    (same_check c.in_ok-t.ensures ∙ c.in_err-tree_rows.ensures)

pub returns : goal.returns
returns c = (same_check c.in_ok-t.ensures ∙ c.in_ok-tree_rows.ensures.0, accepted c.in_ok-t.ensures c.in_ok-tree_rows.ensures.1)
