-- `kinds::numbered` meets its contract. Assumes nothing.
use Rattle.std.proofs.Common.{◌≡◌, length, rules, arith, ◌∙◌, ap, le-ltb, lt-ltb}
use Rattle.std.proofs.lemmas.List.{nil_from_length}
use Rattle.std.proofs.Math.ListN.{length-drop}
use Rattle.std.specs.Prelude.{Err}
use Rattle.verdict.specs.declared.Reason.TheVariants.{BadField}
use Rattle.shapes.proofs.ByKind.{kind-of-number}
use Rattle.kinds.proofs.Fields.{shaped, wrong-length, body-refused, read, out_of_range, children-last, no-children, byte-parts}
use Rattle.kinds.proofs.numbered.Goals as goal

pub returns-in_err-item : goal.returns-in_err-item
returns-in_err-item c =
    let r : c.from_residual.result ≡ Err BadField = search rules in
    λ n defs counts m h. rw r (wrong-length (shaped h c.requires.form) c.in_err-item.ensures.1)

pub returns-then-limit-item : goal.returns-then-limit-item
returns-then-limit-item c =
    let e = c.in_ok-item.ensures in
    λ n defs counts m h. body-refused (shaped h c.requires.form)
    (byte-parts {i = c.in_ok-item.item} {ks = c.in_ok-item.children.now} c.args.s.now c.requires.read c.requires.whole (cc) (cc) (omega arith))
    (out_of_range (c.requires.range c.in_ok-item.item ∙ le-ltb _ _ c.if-limit-item.true))

pub returns : goal.returns
returns c =
    let e = c.in_ok-item.ensures in
    let z = nil_from_length c.in_ok-item.children.now (let l = ap length e.1 in omega (arith, length-drop 1 c.args.s.now)) in
    λ n defs counts m h. read (shaped h c.requires.form)
    (byte-parts {i = c.in_ok-item.item} {ks = c.in_ok-item.children.now} c.args.s.now c.requires.read c.requires.whole (cc) (cc) (omega arith)) (kind-of-number c.args.kind)
    (children-last (c.requires.range c.in_ok-item.item ∙ lt-ltb _ _ c.if-limit-item.false) (rw c.requires.definition) (rw z no-children) c.requires.slot c.requires.kept)
    c.node.ensures
