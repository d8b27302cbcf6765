-- `taken::children` keeps this in its loop: what is left is taken as the whole is.
use Rattle.std.proofs.Common.{◌≡◌, length, drop}
use Rattle.program.specs.Table.{node_limit}
use Rattle.taken.specs.Taken.{taken_in, with_taken}
use Rattle.taken.proofs.children.Given as goal

abbrev pub invariant-loop-k : goal.invariant-loop-k
invariant-loop-k l =
    (length l.named ≡ node_limit)
    × (taken_in l.initial.named l.ks ≡ taken_in l.named (drop l.k-index l.ks))
    × (with_taken l.initial.named l.ks ≡ with_taken l.named (drop l.k-index l.ks))
