-- `scopes::misread_lowest` keeps this in its loops.
use Rattle.program.specs.Table.{Table}
use Rattle.scopes.specs.Scope.{Told}
use Rattle.scopes.proofs.Walks.{Rest}
use Rattle.scopes.proofs.misread_lowest.Given as goal

abbrev pub invariant-loop-d : goal.invariant-loop-d
invariant-loop-d l = (t : Table) → (h : Told t l.ws.all.now l.counts l.bodies l.definitions l.main) → Rest t h l.d l.r
