-- `kinds::operator` meets its contract. Assumes nothing.
use Rattle.std.proofs.Common.{◌≡◌, rules, arith, refl}
use Rattle.std.specs.Prelude.{Err}
use Rattle.verdict.specs.declared.Reason.TheVariants.{BadField}
use Rattle.shapes.proofs.ByKind.{kind-of-number}
use Rattle.shapes.proofs.Inside.{operator-out, operator-in}
use Rattle.kinds.proofs.Fields.{shaped, wrong-length, body-refused, read, out_of_range, child-refused, children-last, byte-parts}
use Rattle.kinds.proofs.operator.Goals as goal

pub returns-in_err-item : goal.returns-in_err-item
returns-in_err-item c =
    let r : c.from_residual.result ≡ Err BadField = search rules in
    λ defs counts slots kept. rw r (wrong-length (shaped c.requires.1 (c.requires.0)) c.in_err-item.ensures.1)

pub returns-then-item-ge-OPERATORS : goal.returns-then-item-ge-OPERATORS
returns-then-item-ge-OPERATORS c =
    let e = c.in_ok-item.ensures in
    λ defs counts slots kept. body-refused (shaped c.requires.1 (c.requires.0)) (byte-parts {i = c.in_ok-item.item} {ks = c.in_ok-item.children.now} c.args.s.now refl refl (cc) (cc) (omega arith))
    (out_of_range (operator-out c.if-item-ge-OPERATORS.true).is)

pub returns-in_err-children : goal.returns-in_err-children
returns-in_err-children c =
    let e = c.in_ok-item.ensures in
    let r : c.from_residual-in_err-children.result ≡ Err c.in_err-children.field-0.0 = search rules in
    λ defs counts slots kept. rw r (body-refused (shaped c.requires.1 (c.requires.0))
    (byte-parts {i = c.in_ok-item.item} {ks = c.in_ok-item.children.now} c.args.s.now refl refl (cc) (cc) (omega arith))
    (child-refused (operator-in c.if-item-ge-OPERATORS.false).is refl c.in_err-children.ensures))

pub returns : goal.returns
returns c =
    let e = c.in_ok-item.ensures in
    λ defs counts slots kept. read (shaped c.requires.1 (c.requires.0))
    (byte-parts {i = c.in_ok-item.item} {ks = c.in_ok-item.children.now} c.args.s.now refl refl (cc) (cc) (omega arith)) (kind-of-number c.args.kind)
    (children-last (operator-in c.if-item-ge-OPERATORS.false).is refl c.in_ok-children.ensures refl refl)
    c.node.ensures
