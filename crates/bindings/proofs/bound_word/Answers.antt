-- `bindings::bound_word` meets its contract. Assumes nothing.
use Rattle.std.specs.Prelude.{is_some}
use Rattle.std.proofs.Common.{ap, ◌∙◌}
use Rattle.notation.proofs.Lexing.{lex}
use Rattle.token_scans.specs.Scan.{parameters_in}
use Rattle.bindings.proofs.Goods.{named-some, outward-some, number-word, other-word}
use Rattle.bindings.proofs.bound_word.Goals as goal

pub returns-in-18 : goal.returns-in-18
returns-in-18 c = number-word _ _ c.code.ensures _ c.in-18.is

pub returns-then-is_some : goal.returns-then-is_some
returns-then-is_some c =
    rw (other-word _ _ c.code.ensures (lex c.args.form.now) c.in_default.in_default-own.rest.1, outward-some _ _ _ c.rep_of.ensures, ← c.is_some.ensures, c.if-is_some.true)

pub returns-else-is_some : goal.returns-else-is_some
returns-else-is_some c =
    rw (other-word _ _ c.code.ensures (lex c.args.form.now) c.in_default.in_default-own.rest.1, outward-some _ _ _ c.rep_of.ensures, ← c.is_some.ensures, c.if-is_some.false)
    (c.is_some-else-is_some.ensures ∙ ap is_some c.name_in.ensures ∙ named-some c.args.w.now (parameters_in (lex c.args.form.now)))
