-- `kinds::plain` meets its contract. Assumes nothing.
use Rattle.std.proofs.Common.{◌≡◌, rules, arith, refl}
use Rattle.std.specs.Prelude.{Err}
use Rattle.shapes.proofs.ByKind.{kind-of-number}
use Rattle.shapes.proofs.Inside.{no-item}
use Rattle.kinds.proofs.Fields.{shaped, wrong-length, body-refused, read, child-refused, children-last, no-parts}
use Rattle.kinds.proofs.plain.Goals as goal

pub returns-then-s-kids : goal.returns-then-s-kids
returns-then-s-kids c =
    λ defs counts slots kept. wrong-length (shaped c.requires.2 c.requires.0) (λ z. c.if-s-kids.true (omega arith))

pub returns-in_err-children : goal.returns-in_err-children
returns-in_err-children c =
    let r : c.from_residual.result ≡ Err c.in_err-children.field-0.0 = search rules in
    λ defs counts slots kept. rw r (body-refused (shaped c.requires.2 c.requires.0) (no-parts c.args.s.now (omega arith)) (child-refused no-item.is refl c.in_err-children.ensures))

pub returns : goal.returns
returns c =
    λ defs counts slots kept. read (shaped c.requires.2 c.requires.0) (no-parts c.args.s.now (omega arith)) (kind-of-number c.args.kind)
    (children-last no-item.is refl c.in_ok-children.ensures refl refl)
    c.node.ensures
