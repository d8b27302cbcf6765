-- `token_scans::name_in` keeps this in its loop.
use Rattle.std.specs.Prelude.{◌-◌, length}
use Rattle.token_scans.specs.Sought.{number_of}
use Rattle.token_scans.proofs.Hits.{Naming}
use Rattle.token_scans.proofs.name_in.Given as goal

abbrev pub invariant-loop-l : goal.invariant-loop-l
invariant-loop-l l = Naming (number_of l.mode) l.w l.part l.at (number_of l.m) l.n

abbrev pub decreases-loop-l : goal.decreases-loop-l
decreases-loop-l l = length l.part - l.at
