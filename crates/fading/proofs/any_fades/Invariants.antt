-- `fading::any_fades` keeps this in its loop.
use Rattle.std.proofs.Common.{◌≡◌, false}
use Rattle.fading.specs.Fading.{NoneFades}
use Rattle.fading.proofs.any_fades.Given as goal

abbrev pub invariant-loop-age : goal.invariant-loop-age
invariant-loop-age l = l.any ≡ false → NoneFades l.ages l.age-index
