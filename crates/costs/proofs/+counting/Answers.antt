-- `costs::body`, `costs::cost` and `costs::part` meet their contracts. Assumes nothing.
use Rattle.std.proofs.Common.{sym, ◌∙◌, arith}
use Rattle.costs.proofs.Laws.{part_none, part_some, node_cost, operator_cost, alone_cost}
use Rattle.costs.proofs.+counting.Goals as goal

pub part-returns-in_default : goal.part-returns-in_default
part-returns-in_default t c = record { value = omega (arith, part_none c.args.ws.all.now c.args.n c.args.j c.in_default.ensures); noted = c.requires.noted }

pub part-returns-then-is : goal.part-returns-then-is
part-returns-then-is t c =
    let below = c.args.ws.formed.node c.in-Some.m (omega (arith, c.in-Some.ensures.below)) in
    record {
      value = rw (part_some c.args.ws.all.now c.args.n c.args.j c.in-Some.ensures, alone_cost below (sym c.is.ensures ∙ c.if-is.true)) c.min.ensures;
      noted = c.requires.noted;
    }

pub cost-returns-then-form_of-eq-OPERATOR : goal.cost-returns-then-form_of-eq-OPERATOR
cost-returns-then-form_of-eq-OPERATOR t c =
    let o = operator_cost (c.args.ws.formed.node c.args.n c.requires.inside) (sym c.form_of.ensures ∙ c.if-form_of-eq-OPERATOR.true) in
    record { value = omega (arith, o, c.part-s.ensures.value, c.part.ensures.value); noted = c.part.ensures.noted }

pub cost-returns : goal.cost-returns
cost-returns t c =
    let o = node_cost (c.args.ws.formed.node c.args.n c.requires.inside) in
    record { value = omega (arith, o, c.body-s.ensures.value, c.part-s-2.ensures.value, c.part-s-3.ensures.value, c.part-s-4.ensures.value, c.part-2.ensures.value); noted = c.part-2.ensures.noted }
