-- `compile::form_done` meets its contract. Assumes nothing.
use Rattle.compile.proofs.Adding.{form-adds}
use Rattle.compile.proofs.form_done.Goals as goal

pub returns : goal.returns
returns c =
    rw c.push.ensures
    (form-adds c.args.s.now c.args.top c.args.at (c.requires.0, c.requires.1) c.in-Some.form c.in-Some.ensures c.requires.2 _ _ _ _ _ _ c.requires.3
    c.code.ensures c.operands_of-count.ensures c.saturating_sub-from.ensures c.put_form.ensures)
