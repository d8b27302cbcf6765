-- `levels::judge` meets its contract. Assumes nothing.
use native.Mathlib.Omega.{arith}
use Rattle.levels.proofs.Laws.{code_below}
use Rattle.levels.proofs.judge.Goals as goal

pub moved-requires : goal.moved-requires
moved-requires c = (let d = c.if-c-eq-UNHELD.false in omega arith, rw c.token_code.ensures (code_below c.args.kind _))
