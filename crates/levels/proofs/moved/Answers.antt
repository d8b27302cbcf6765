-- `levels::moved` meets its contract. Assumes nothing.
use native.Mathlib.Omega.{arith}
use Rattle.levels.proofs.Moves.{move_at}
use Rattle.levels.proofs.moved.Goals as goal

pub overflow_sub-result : goal.overflow_sub-result
overflow_sub-result c = let e = move_at c.args.c c.args.k c.requires.0 c.requires.1 in omega (arith, e)

pub returns : goal.returns
returns c = let e = move_at c.args.c c.args.k c.requires.0 c.requires.1 in omega (arith, e)
