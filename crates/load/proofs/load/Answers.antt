-- `load::load` meets its contract. Assumes nothing.
use Rattle.std.proofs.Common.{◌≡◌, length, sym, rules, tests}
use Rattle.std.specs.Prelude.{Ok}
use Rattle.refusal_rows.specs.declared.Root.TheVariants.{Definition, Main}
use Rattle.load.proofs.Turns.{begin, end-turn, broken-turn, node-refused, nodes-room, node-turn, root-refused, ends-turn, define-turn}
use Rattle.load.proofs.load.Goals as goal

pub loop-left-init : goal.loop-left-init
loop-left-init c = rw c.empty-t.ensures (begin _)

pub returns-in_default : goal.returns-in_default
returns-in_default c =
    let h : length c.loop-left.left.now ≡ 0 → ⊥ = search (rules, tests) in
    rw c.refuse.ensures (broken-turn _ _ _ _ c.loop-left.invariant h (sym c.in_default.ensures.split))

pub returns : goal.returns
returns c =
    let h : length c.loop-left.left.now ≡ 0 = search (rules, tests) in
    rw c.refuse-2.ensures (end-turn _ _ _ _ c.loop-left.invariant h)

pub bounds-t-t : goal.bounds-t-t
bounds-t-t c = nodes-room _ _ _ _ c.loop-left.invariant (sym c.in-Some.ensures.split) c.if-field-eq1.true c.read_node.ensures c.in-Ok.is

pub returns-in-Err : goal.returns-in-Err
returns-in-Err c =
    rw c.refuse-in-Err.ensures (node-refused _ _ _ _ c.loop-left.invariant (sym c.in-Some.ensures.split) c.if-field-eq1.true c.read_node.ensures c.in-Err.is)

pub loop-left-preserved-then-field-eq1 : goal.loop-left-preserved-then-field-eq1
loop-left-preserved-then-field-eq1 c =
    node-turn _ _ _ _ c.loop-left.invariant (sym c.in-Some.ensures.split) c.if-field-eq1.true c.read_node.ensures c.in-Ok.is

pub loop-left-preserved : goal.loop-left-preserved
loop-left-preserved c =
    let e : c.read_root.result ≡ Ok (Definition c.in-Ok-Definition.parameters c.in-Ok-Definition.body) = cc in
    define-turn _ _ _ _ c.loop-left.invariant (sym c.in-Some.ensures.split) c.if-field-eq1.false c.read_root.ensures e

pub returns-in-Ok-Main : goal.returns-in-Ok-Main
returns-in-Ok-Main c =
    let e : c.read_root.result ≡ Ok (Main c.in-Ok-Main.main) = cc in
    rw c.ended.ensures (ends-turn _ _ _ _ c.loop-left.invariant (sym c.in-Some.ensures.split) c.if-field-eq1.false c.read_root.ensures e)

pub returns-in-Err-read_root : goal.returns-in-Err-read_root
returns-in-Err-read_root c =
    rw c.refuse-in-Err-read_root.ensures (root-refused _ _ _ _ c.loop-left.invariant (sym c.in-Some.ensures.split) c.if-field-eq1.false c.read_root.ensures c.in-Err-read_root.is)
