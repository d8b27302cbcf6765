-- `scopes::use_offends` keeps this in its loops.
use Rattle.scopes.specs.Uses.{Flags, CleanBelow}
use Rattle.scopes.proofs.use_offends.Given as goal

abbrev pub invariant-loop-n : goal.invariant-loop-n
invariant-loop-n l = record { flags : Flags l.kinds l.items l.called l.n; clean : CleanBelow l.kinds l.items l.counts l.bodies l.sp l.count l.n }
