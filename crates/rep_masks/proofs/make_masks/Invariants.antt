-- `rep_masks::make_masks` keeps this in its loops.
use Rattle.rep_masks.proofs.Notes.{Blank}
use Rattle.rep_masks.specs.Masks.{Masks}
use Rattle.rep_masks.proofs.make_masks.Given as goal

abbrev pub invariant-loop-n : goal.invariant-loop-n
invariant-loop-n l = record { masks : Masks l.ws.all.now l.us l.n; blank : Blank l.us l.n }
