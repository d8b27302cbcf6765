-- `parts::put_form` meets its contract. Assumes nothing.
use Rattle.std.proofs.Common.{refl}
use Rattle.vocabulary.specs.Codes.{head_by_code}
use Rattle.parts.proofs.Laws.{index-by, head-by, head-operation, past, form-other}
use Rattle.parts.proofs.put_form.Goals as goal

pub returns-then-code-lt-DEF : goal.returns-then-code-lt-DEF
returns-then-code-lt-DEF c =
    let k = c.code-code in
    rw (head-operation _ _ k.ensures c.if-code-lt-DEF.true, index-by _ _ k.ensures c.if-code-lt-DEF.true) c.node_with.ensures

pub returns-in-10 : goal.returns-in-10
unfolding head_by_code
returns-in-10 c = rw (head-by _ _ c.code-code.ensures 10 c.in-10.is) c.node.ensures

pub returns-in-11 : goal.returns-in-11
unfolding head_by_code
returns-in-11 c = rw (head-by _ _ c.code-code.ensures 11 c.in-11.is, ← c.reps_in.ensures.number, ← c.byte_of.ensures) c.node_with-in-11.ensures

pub returns-in-12 : goal.returns-in-12
unfolding head_by_code
returns-in-12 c = rw (head-by _ _ c.code-code.ensures 12 c.in-12.is) c.node-in-12.ensures

pub returns-in-13 : goal.returns-in-13
unfolding head_by_code
returns-in-13 c = rw (head-by _ _ c.code-code.ensures 13 c.in-13.is) c.node-in-13.ensures

pub returns-in-14 : goal.returns-in-14
unfolding head_by_code
returns-in-14 c = rw (head-by _ _ c.code-code.ensures 14 c.in-14.is, ← c.slot.ensures) c.node_with-in-14.ensures

pub returns-in-15 : goal.returns-in-15
unfolding head_by_code
returns-in-15 c = rw (head-by _ _ c.code-code.ensures 15 c.in-15.is, ← c.slot-in-15.ensures) c.node_with-in-15.ensures

pub returns-in-16 : goal.returns-in-16
unfolding head_by_code
returns-in-16 c = rw (head-by _ _ c.code-code.ensures 16 c.in-16.is, ← c.slot-in-16.ensures) c.node_with-in-16.ensures

pub returns-in-17 : goal.returns-in-17
unfolding head_by_code
returns-in-17 c = rw (head-by _ _ c.code-code.ensures 17 c.in-17.is) c.put_fold.ensures

pub returns-in-19 : goal.returns-in-19
unfolding head_by_code
returns-in-19 c = rw (head-by _ _ c.code-code.ensures 19 c.in-19.is, ← c.definition.ensures) c.node_with-in-19.ensures

pub returns-in_default : goal.returns-in_default
unfolding head_by_code
returns-in_default c =
    let k = c.code-code in
    let r = c.in_default.in_default-own.rest in
    rw (head-by _ _ k.ensures _ refl, form-other _ _ _ _ _ k.result c.if-code-lt-DEF.false (past 10 8 k.result r.0) r.1) c.node-in_default.ensures
