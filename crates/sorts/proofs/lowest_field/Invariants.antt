-- `sorts::lowest_field` keeps this in its loop: the nodes still to come and the lowest so far come to what all of them do.
use Rattle.std.proofs.Common.{◌≡◌, drop}
use Rattle.sorts.specs.Sorts.{lowest_field, node_or_none}
use Rattle.sorts.proofs.lowest_field.Given as goal

abbrev pub invariant-loop-k : goal.invariant-loop-k
invariant-loop-k l = lowest_field l.ws l.ks (node_or_none l.fn.low) ≡ lowest_field l.ws (drop l.k-index l.ks) (node_or_none l.lowest)
