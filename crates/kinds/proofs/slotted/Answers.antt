-- `kinds::slotted` meets its contract. Assumes nothing.
use Rattle.std.proofs.Common.{◌≡◌, rules, arith, refl}
use Rattle.std.specs.Prelude.{Err}
use Rattle.verdict.specs.declared.Reason.TheVariants.{BadField}
use Rattle.shapes.proofs.ByKind.{kind-of-number}
use Rattle.shapes.proofs.Inside.{slot-in}
use Rattle.kinds.proofs.Fields.{shaped, wrong-length, body-refused, item-refused, read, out_of_range, child-refused, slot-last, slot-outside, byte-parts}
use Rattle.kinds.proofs.slotted.Goals as goal

pub returns-in_err-slot : goal.returns-in_err-slot
returns-in_err-slot c =
    let r : c.from_residual.result ≡ Err BadField = search rules in
    λ defs counts kept. rw r (wrong-length (shaped c.requires.2 (c.requires.0)) c.in_err-slot.ensures.1)

pub returns-then-slot-eq0 : goal.returns-then-slot-eq0
returns-then-slot-eq0 c =
    let e = c.in_ok-slot.ensures in
    λ defs counts kept. body-refused (shaped c.requires.2 (c.requires.0)) (byte-parts {i = c.in_ok-slot.slot} {ks = c.in_ok-slot.children.now} c.args.s.now refl refl (cc) (cc) (omega arith))
    (out_of_range (slot-outside _ _ c.then-slot-eq0.either))

pub returns-in_err-children : goal.returns-in_err-children
returns-in_err-children c =
    let e = c.in_ok-slot.ensures in
    let r : c.from_residual-in_err-children.result ≡ Err c.in_err-children.field-0.0 = search rules in
    λ defs counts kept. rw r (body-refused (shaped c.requires.2 (c.requires.0)) (byte-parts {i = c.in_ok-slot.slot} {ks = c.in_ok-slot.children.now} c.args.s.now refl refl (cc) (cc) (omega arith))
    (child-refused (slot-in c.if-slot-eq0.false c.if-slot-ge-SLOTS.false).is refl c.in_err-children.ensures))

pub returns-in_err-take : goal.returns-in_err-take
returns-in_err-take c =
    let e = c.in_ok-slot.ensures in
    let r : c.from_residual-in_err-take.result ≡ Err c.in_err-take.field-0.0 = search rules in
    λ defs counts kept. rw r (item-refused (shaped c.requires.2 (c.requires.0)) (byte-parts {i = c.in_ok-slot.slot} {ks = c.in_ok-slot.children.now} c.args.s.now refl refl (cc) (cc) (omega arith))
    (slot-last c.in_ok-children.ensures (slot-in c.if-slot-eq0.false c.if-slot-ge-SLOTS.false).is c.in_err-take.ensures))

pub returns : goal.returns
returns c =
    let e = c.in_ok-slot.ensures in
    λ defs counts kept. read (shaped c.requires.2 (c.requires.0))
    (byte-parts {i = c.in_ok-slot.slot} {ks = c.in_ok-slot.children.now} c.args.s.now refl refl (cc) (cc) (omega arith)) (kind-of-number c.args.kind)
    (slot-last c.in_ok-children.ensures (slot-in c.if-slot-eq0.false c.if-slot-ge-SLOTS.false).is c.in_ok-take.ensures)
    c.node.ensures
