-- `kinds::measure` meets its contract. Assumes nothing.
use Rattle.std.proofs.Common.{◌≡◌, length, rules, arith, refl, ap}
use Rattle.std.proofs.lemmas.List.{nil_from_length}
use Rattle.std.proofs.Math.ListN.{length-drop}
use Rattle.std.specs.Prelude.{Err}
use Rattle.verdict.specs.declared.Reason.TheVariants.{BadField}
use Rattle.shapes.proofs.ByKind.{kind-of-number}
use Rattle.shapes.proofs.Inside.{slot-in}
use Rattle.kinds.proofs.Fields.{shaped, wrong-length, body-refused, item-refused, read, out_of_range, childless, slot-last, slot-outside, byte-parts}
use Rattle.kinds.proofs.measure.Goals as goal

pub returns-in_err-item : goal.returns-in_err-item
returns-in_err-item c =
    let r : c.from_residual.result ≡ Err BadField = search rules in
    λ n defs counts named kept h. rw r (wrong-length (shaped h c.requires.0) c.in_err-item.ensures.1)

pub returns-then-item-eq0 : goal.returns-then-item-eq0
returns-then-item-eq0 c =
    let e = c.in_ok-item.ensures in
    λ n defs counts named kept h. body-refused (shaped h c.requires.0)
    (byte-parts {i = c.in_ok-item.item} {ks = c.in_ok-item.children.now} c.args.s.now refl refl (cc) (cc) (omega arith))
    (out_of_range (slot-outside _ _ c.then-item-eq0.either))

pub returns-in_err-take : goal.returns-in_err-take
returns-in_err-take c =
    let e = c.in_ok-item.ensures in
    let z = nil_from_length c.in_ok-item.children.now (let l = ap length e.1 in omega (arith, length-drop 1 c.args.s.now)) in
    let r : c.from_residual-in_err-take.result ≡ Err c.in_err-take.field-0.0 = search rules in
    λ n defs counts named kept h. rw r (item-refused (shaped h c.requires.0)
    (byte-parts {i = c.in_ok-item.item} {ks = c.in_ok-item.children.now} c.args.s.now refl refl (cc) (cc) (omega arith))
    (slot-last (childless z) (slot-in c.if-item-eq0.false c.if-item-ge-SLOTS.false).is c.in_err-take.ensures))

pub returns : goal.returns
returns c =
    let e = c.in_ok-item.ensures in
    let z = nil_from_length c.in_ok-item.children.now (let l = ap length e.1 in omega (arith, length-drop 1 c.args.s.now)) in
    λ n defs counts named kept h. read (shaped h c.requires.0)
    (byte-parts {i = c.in_ok-item.item} {ks = c.in_ok-item.children.now} c.args.s.now refl refl (cc) (cc) (omega arith)) (kind-of-number c.args.kind)
    (slot-last (childless z) (slot-in c.if-item-eq0.false c.if-item-ge-SLOTS.false).is c.in_ok-take.ensures)
    c.node.ensures
