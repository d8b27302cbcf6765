-- `kinds::rep` meets its contract. Assumes nothing.
use Rattle.std.proofs.Common.{◌≡◌, rules, arith, refl}
use Rattle.std.specs.Prelude.{Err}
use Rattle.verdict.specs.declared.Reason.TheVariants.{BadField}
use Rattle.shapes.specs.Kinds.{rep_kind}
use Rattle.shapes.proofs.Inside.{kept_out, kept_in}
use Rattle.kinds.proofs.Fields.{form, shaped, wrong-length, body-refused, read, out_of_range, child-refused, variable-last, byte-parts}
use Rattle.kinds.proofs.rep.Goals as goal

pub returns-in_err-variable : goal.returns-in_err-variable
returns-in_err-variable c =
    let r : c.from_residual.result ≡ Err BadField = search rules in
    λ defs counts slots. rw r (wrong-length (shaped c.requires.0 (form rep_kind (omega arith))) c.in_err-variable.ensures.1)

pub returns-then-variable-ge-VARIABLES : goal.returns-then-variable-ge-VARIABLES
returns-then-variable-ge-VARIABLES c =
    let e = c.in_ok-variable.ensures in
    λ defs counts slots. body-refused (shaped c.requires.0 (form rep_kind (omega arith)))
    (byte-parts {i = c.in_ok-variable.variable} {ks = c.in_ok-variable.children.now} c.args.s.now refl refl (cc) (cc) (omega arith))
    (out_of_range (kept_out c.if-variable-ge-VARIABLES.true).is)

pub returns-in_err-children : goal.returns-in_err-children
returns-in_err-children c =
    let e = c.in_ok-variable.ensures in
    let r : c.from_residual-in_err-children.result ≡ Err c.in_err-children.field-0.0 = search rules in
    λ defs counts slots. rw r (body-refused (shaped c.requires.0 (form rep_kind (omega arith)))
    (byte-parts {i = c.in_ok-variable.variable} {ks = c.in_ok-variable.children.now} c.args.s.now refl refl (cc) (cc) (omega arith))
    (child-refused (kept_in c.if-variable-ge-VARIABLES.false).is refl c.in_err-children.ensures))

pub returns-in_err-take : goal.returns-in_err-take
returns-in_err-take c =
    let e = c.in_ok-variable.ensures in
    let r : c.from_residual-in_err-take.result ≡ Err c.in_err-take.field-0.0 = search rules in
    λ defs counts slots. rw r (body-refused (shaped c.requires.0 (form rep_kind (omega arith)))
    (byte-parts {i = c.in_ok-variable.variable} {ks = c.in_ok-variable.children.now} c.args.s.now refl refl (cc) (cc) (omega arith))
    (variable-last c.in_ok-children.ensures (kept_in c.if-variable-ge-VARIABLES.false).is c.in_err-take.ensures))

pub returns : goal.returns
returns c =
    let e = c.in_ok-variable.ensures in
    λ defs counts slots. read (shaped c.requires.0 (form rep_kind (omega arith)))
    (byte-parts {i = c.in_ok-variable.variable} {ks = c.in_ok-variable.children.now} c.args.s.now refl refl (cc) (cc) (omega arith)) refl
    (variable-last c.in_ok-children.ensures (kept_in c.if-variable-ge-VARIABLES.false).is c.in_ok-take.ensures)
    c.node.ensures
