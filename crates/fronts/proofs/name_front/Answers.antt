-- `fronts::name_front` meets its contract. Assumes nothing.
use Rattle.std.proofs.Common.{rules}
use Rattle.fronts.proofs.Turns.{name-bounded}
use Rattle.fronts.proofs.name_front.Goals as goal

pub returns-in-len1-up : goal.returns-in-len1-up
returns-in-len1-up c = rw (c.run.ensures.run, c.min.ensures) (name-bounded c.args.w.now c.in-len1-up.len_at_least (search rules))
