-- `bindings::known_name` meets its contract. Assumes nothing.
use Rattle.std.specs.Prelude.{is_some}
use Rattle.std.proofs.Common.{ap, ◌∙◌}
use Rattle.std.proofs.lemmas.Bool.{eq-eqb}
use borrow.Author.Tests.{ne_eqb}
use Rattle.notation.proofs.Lexing.{lex}
use Rattle.token_scans.specs.Scan.{definitions_in}
use Rattle.bindings.proofs.Goods.{own-by, named-some}
use Rattle.bindings.proofs.known_name.Goals as goal

pub returns-then-code-ne-NAME : goal.returns-then-code-ne-NAME
returns-then-code-ne-NAME c = rw (own-by _ _ c.code.ensures, ne_eqb _ 19 c.if-code-ne-NAME.true)

pub returns-else-code-ne-NAME : goal.returns-else-code-ne-NAME
returns-else-code-ne-NAME c =
    rw (own-by _ _ c.code.ensures, eq-eqb _ 19 c.if-code-ne-NAME.false)
    (c.is_some.ensures ∙ ap is_some c.name_in.ensures ∙ named-some c.args.w.now (definitions_in (lex c.args.earlier.now)))
