-- `texts::read_text` meets its contract. Assumes nothing.
use Rattle.std.specs.Prelude.{◌≡◌, Err, List, ◌++◌, ℕ, length, drop}
use Rattle.std.proofs.Common.{sym, ap, ◌∙◌, rules}
use Rattle.program.specs.Check.{Verdict}
use Rattle.verdict.specs.Outcome.{outcome}
use Rattle.compile.specs.Writes.{Compiles}
use Rattle.texts.proofs.Answers.{refused, outside, unresolved, unsound, no_room, written}
use Rattle.texts.proofs.read_text.Goals as goal

pub returns-in-Err : goal.returns-in-Err
returns-in-Err c = outside _ _ c.in-Err.place c.in-Err.ensures

pub returns-then-not-names_good : goal.returns-then-not-names_good
returns-then-not-names_good c = unresolved _ _ c.in_default.ensures.0 c.names_good.result c.names_good.ensures c.if-not-names_good.true

pub returns-in_err-check : goal.returns-in_err-check
returns-in_err-check c =
    let b : Compiles c.args.text.now c.as_slice-bytes.result.now = rw c.as_slice-bytes.ensures c.fill.ensures in
    let e : c.from_residual.result ≡ Err c.in_err-check.field-0.0 = search rules in
    rw e
    (unsound _ _ c.in_default.ensures.0 c.names_good.result c.names_good.ensures c.if-not-names_good.false _ b.same b.whole
    _ (sym (ap outcome c.in_err-check.was) ∙ c.check.ensures) (refused c.in_err-check.field-0.0.reason))

pub returns-then-table-n : goal.returns-then-table-n
returns-then-table-n c =
    let b : Compiles c.args.text.now c.as_slice-bytes.result.now = rw c.as_slice-bytes.ensures c.fill.ensures in
    no_room _ _ c.in_default.ensures.0 c.names_good.result c.names_good.ensures c.if-not-names_good.false _ b.same b.whole
    (ap (λ (u : Verdict). u.0) (sym c.check.ensures ∙ ap outcome c.in_ok-check.was)) c.if-table-n.true

pub returns : goal.returns
returns c =
    let b : Compiles c.args.text.now c.as_slice-bytes.result.now = rw c.as_slice-bytes.ensures c.fill.ensures in
    written _ _ c.in_default.ensures.0 c.names_good.result c.names_good.ensures c.if-not-names_good.false _ b.same b.whole
    (ap (λ (u : Verdict). u.0) (sym c.check.ensures ∙ ap outcome c.in_ok-check.was)) c.if-table-n.false
    _ (ap (λ (l : List ℕ). l ++ drop (length c.as_slice-bytes.result.now) c.args.table.now) c.copy_from_slice.ensures.after)
