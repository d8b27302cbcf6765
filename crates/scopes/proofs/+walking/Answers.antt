-- `scopes::part` and `scopes::walk` meet their contracts. Assumes nothing.
use Rattle.std.proofs.Common.{sym, ◌∙◌, arith}
use Rattle.scopes.proofs.Walks.{joined, part_some, part_none, walk_alone}
use Rattle.scopes.proofs.+walking.Goals as goal

pub part-returns-in_default : goal.part-returns-in_default
part-returns-in_default t c = part_none c.args.ws.all.now c.args.n c.args.j c.in_default.ensures

pub part-returns-then-is : goal.part-returns-then-is
part-returns-then-is t c =
    part_some c.args.ws.all.now c.args.n c.args.j c.in-Some.ensures
    (walk_alone (c.args.ws.formed.node c.in-Some.m (omega (arith, c.in-Some.ensures.below))) (sym c.is.ensures ∙ c.if-is.true) c.own.ensures)

pub walk-returns : goal.walk-returns
walk-returns t c =
    joined (c.args.ws.formed.node c.args.n c.requires) c.own-r.ensures c.part-r.ensures c.part-r-2.ensures c.inner.ensures c.part-r-3.ensures c.part.ensures
