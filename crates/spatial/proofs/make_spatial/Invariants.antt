-- `spatial::make_spatial` keeps this in its loops.
use Rattle.spatial.specs.Noted.{Spatials}
use Rattle.spatial.proofs.make_spatial.Given as goal

abbrev pub invariant-loop-n : goal.invariant-loop-n
invariant-loop-n l = Spatials l.ws.all.now l.sp l.n
