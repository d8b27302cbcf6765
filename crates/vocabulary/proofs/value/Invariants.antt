-- `vocabulary::value` keeps this in its loop.
use Rattle.vocabulary.proofs.Turns.{Valued}
use Rattle.vocabulary.proofs.value.Given as goal

abbrev pub invariant-loop-d : goal.invariant-loop-d
invariant-loop-d l = Valued l.w l.n l.d-index
