-- `kinds::call` meets its contract. Assumes nothing.
use Rattle.std.proofs.Common.{◌≡◌, ℕ, ◌≤◌, length, get_or, rules, arith, refl, ◌∙◌, ap}
use Rattle.std.proofs.lemmas.Bool.{lt-leb}
use Rattle.std.proofs.Math.ListN.{length-drop}
use Rattle.std.specs.Prelude.{Err}
use Rattle.shapes.proofs.Inside.{definition-in}
use Rattle.kinds.proofs.Fields.{behind, length-behind, wrong-length, body-refused, read, child-refused, children-last, byte-parts, call-cut, call-undefined, call-shaped}
use Rattle.kinds.proofs.call.Goals as goal

pub returns-in_default : goal.returns-in_default
returns-in_default c = λ slots kept. call-cut c.requires.0 c.args.s.now c.in_default.len_below

pub returns-then-defs-d : goal.returns-then-defs-d
returns-then-defs-d c = λ slots kept. call-undefined c.requires.0 c.args.s.now c.in-len1-up.len_at_least (omega arith)

pub returns-then-children-from : goal.returns-then-children-from
returns-then-children-from c =
    let few : get_or c.args.counts.now (get_or c.args.s.now 0 0) 0 ≤ 4 = c.requires.2 _ (omega arith) in
    λ slots kept. wrong-length (call-shaped c.args.s.now c.requires.0 c.in-len1-up.len_at_least (omega arith) few)
    (λ z. c.if-children-from.true (ap length (behind c.args.s.now) ∙ omega (arith, length-drop 1 c.args.s.now, c.from.ensures, ap (λ (d : ℕ). get_or c.args.counts.now d 0) c.from-d.ensures)))

pub returns-in_err-children : goal.returns-in_err-children
returns-in_err-children c =
    let few : get_or c.args.counts.now (get_or c.args.s.now 0 0) 0 ≤ 4 = c.requires.2 _ (omega arith) in
    let k = c.from.ensures ∙ ap (λ (d : ℕ). get_or c.args.counts.now d 0) c.from-d.ensures in
    let r : c.from_residual.result ≡ Err c.in_err-children.field-0.0 = search rules in
    λ slots kept. rw r (body-refused (call-shaped c.args.s.now c.requires.0 c.in-len1-up.len_at_least (omega arith) few)
    (byte-parts c.args.s.now refl refl refl (behind c.args.s.now) (length-behind c.args.s.now c.in-len1-up.len_at_least (c.if-children-from.false ∙ k)))
    (child-refused definition-in.is (lt-leb _ _ (omega arith)) c.in_err-children.ensures))

pub returns : goal.returns
returns c =
    let few : get_or c.args.counts.now (get_or c.args.s.now 0 0) 0 ≤ 4 = c.requires.2 _ (omega arith) in
    let k = c.from.ensures ∙ ap (λ (d : ℕ). get_or c.args.counts.now d 0) c.from-d.ensures in
    λ slots kept. read (call-shaped c.args.s.now c.requires.0 c.in-len1-up.len_at_least (omega arith) few)
    (byte-parts c.args.s.now refl refl refl (behind c.args.s.now) (length-behind c.args.s.now c.in-len1-up.len_at_least (c.if-children-from.false ∙ k))) refl
    (children-last definition-in.is (lt-leb _ _ (omega arith)) c.in_ok-children.ensures refl refl)
    c.node.ensures
