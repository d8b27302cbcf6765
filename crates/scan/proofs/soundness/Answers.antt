-- `scan::soundness` meets its contract. Assumes nothing.
use Rattle.std.proofs.Common.{refl, Some, None}
use Rattle.scan.proofs.First.{wrong_length, judged}
use Rattle.scan.proofs.soundness.Goals as goal

pub returns-in_default : goal.returns-in_default
returns-in_default c = wrong_length _ _ c.in_default.ensures.cases (rw c.unsound.ensures)

pub returns-in-Some-first_unsound : goal.returns-in-Some-first_unsound
returns-in-Some-first_unsound c =
    let whole = c.in-Some.ensures.cases in
    judged _ _ (Some c.in-Some-first_unsound.place) _ whole.long whole.same c.in-Some-first_unsound.ensures (rw c.unsound-in-Some-first_unsound.ensures)

pub returns-in-None : goal.returns-in-None
returns-in-None c = let whole = c.in-Some.ensures.cases in judged _ _ None _ whole.long whole.same c.in-None.ensures refl
