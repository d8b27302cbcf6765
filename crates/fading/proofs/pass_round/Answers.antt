-- `fading::pass_round` meets its contract. Assumes nothing.
use Rattle.std.proofs.Common.{arith}
use Rattle.fading.proofs.Rows.{aged, renewed}
use Rattle.fading.proofs.pass_round.Goals as goal

pub returns : goal.returns
returns c =
    aged c.args.net.now c.args.at c.requires _ _ c.fade_heard.ensures
    (renewed _ _ _ _ (omega arith) (omega (arith, c.fade_heard.auto.net)) c.age_all.ensures)
