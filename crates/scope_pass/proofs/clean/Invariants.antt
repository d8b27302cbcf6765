-- `scope_pass::clean` keeps this in its loops.
use Rattle.std.proofs.Common.{◌≡◌, ℕ, ◌<◌, [], get_or}
use Rattle.program.specs.Tree.{misread}
use Rattle.words.specs.Trees.{tree_at}
use Rattle.scope_pass.proofs.clean.Given as goal

abbrev pub invariant-loop-d : goal.invariant-loop-d
invariant-loop-d l = (e : ℕ) → e < l.d → misread (get_or l.counts e 0) [] (tree_at l.ws.all.now (get_or l.bodies e 0)) ≡ []
