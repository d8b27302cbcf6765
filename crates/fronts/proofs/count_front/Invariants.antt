-- `fronts::count_front` keeps this in its loop.
use Rattle.fronts.proofs.Turns.{Counted}
use Rattle.fronts.proofs.count_front.Given as goal

abbrev pub invariant-loop-i : goal.invariant-loop-i
invariant-loop-i l = Counted l.w l.n l.i
