-- `kinds::fold_by` meets its contract. Assumes nothing.
use Rattle.std.proofs.Common.{◌≡◌, rules, arith, refl, le-leb}
use Rattle.std.proofs.lemmas.Bool.{lt-leb}
use Rattle.std.specs.Prelude.{Err}
use Rattle.verdict.specs.declared.Reason.TheVariants.{BadField}
use Rattle.shapes.specs.Kinds.{fold_by_kind}
use Rattle.shapes.proofs.Inside.{definition-in}
use Rattle.kinds.proofs.Fields.{form, shaped, wrong-length, body-refused, read, undefined, child-refused, children-last, byte-parts}
use Rattle.kinds.proofs.fold_by.Goals as goal

pub returns-in_err-definition : goal.returns-in_err-definition
returns-in_err-definition c =
    let r : c.from_residual.result ≡ Err BadField = search rules in
    λ counts slots kept. rw r (wrong-length (shaped c.requires.0 (form fold_by_kind (omega arith))) c.in_err-definition.ensures.1)

pub returns-then-defs-from : goal.returns-then-defs-from
returns-then-defs-from c =
    let e = c.in_ok-definition.ensures in
    λ counts slots kept. body-refused (shaped c.requires.0 (form fold_by_kind (omega arith)))
    (byte-parts {i = c.in_ok-definition.definition} {ks = c.in_ok-definition.children.now} c.args.s.now refl refl (cc) (cc) (omega arith))
    (undefined definition-in.is (le-leb _ _ (omega arith)))

pub returns-in_err-children : goal.returns-in_err-children
returns-in_err-children c =
    let e = c.in_ok-definition.ensures in
    let r : c.from_residual-in_err-children.result ≡ Err c.in_err-children.field-0.0 = search rules in
    λ counts slots kept. rw r (body-refused (shaped c.requires.0 (form fold_by_kind (omega arith)))
    (byte-parts {i = c.in_ok-definition.definition} {ks = c.in_ok-definition.children.now} c.args.s.now refl refl (cc) (cc) (omega arith))
    (child-refused definition-in.is (lt-leb _ _ (omega arith)) c.in_err-children.ensures))

pub returns : goal.returns
returns c =
    let e = c.in_ok-definition.ensures in
    λ counts slots kept. read (shaped c.requires.0 (form fold_by_kind (omega arith)))
    (byte-parts {i = c.in_ok-definition.definition} {ks = c.in_ok-definition.children.now} c.args.s.now refl refl (cc) (cc) (omega arith)) refl
    (children-last definition-in.is (lt-leb _ _ (omega arith)) c.in_ok-children.ensures refl refl)
    c.node.ensures
