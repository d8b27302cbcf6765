-- `leaf::pair` meets its contract. Assumes nothing.
use borrow.Author.Rules.{sfits_of}
use Rattle.number.specs.Number.{operator_of}
use Rattle.apply.specs.State.{state_of}
use Rattle.apply.proofs.Laws.{came, gives, passed, numbers-read}
use Rattle.leaf.proofs.Evaluates.{ev-pair}
use Rattle.leaf.proofs.pair.Goals as goal

pub returns : goal.returns
returns c =
    let ws = c.args.t.now in
    let env = c.args.env.now in
    let st = c.args.st.now in
    λ here.
    gives
    (ev-pair ws c.args.n here env (state_of st) c.requires.pair c.requires.below.0 c.requires.below.1 _ _ _ c.item_of.ensures c.first.ensures c.second.ensures _ _
    (came (c.leaf-x.ensures here) c.requires.left.clear) (came (c.leaf-y.ensures here) c.requires.left.clear))
    (numbers-read c.args.n (operator_of c.item_of.result) (state_of st) c.leaf-x.result c.leaf-y.result (sfits_of c.leaf-x.type_inv) (sfits_of c.leaf-y.type_inv)
    (passed {v = c.number_op.result} (sfits_of c.number_op.type_inv) c.number_op.ensures))
