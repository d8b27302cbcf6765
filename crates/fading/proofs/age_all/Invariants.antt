-- `fading::age_all` keeps this in its loop.
use Rattle.std.proofs.Common.{◌≡◌, ◌++◌, map, take, drop}
use Rattle.round.specs.Round.{older}
use Rattle.fading.proofs.age_all.Given as goal

abbrev pub invariant-loop-age : goal.invariant-loop-age
invariant-loop-age l = l.ages ≡ map older (take l.age-index l.initial.ages) ++ drop l.age-index l.initial.ages
