-- `bindings::new_name` meets its contract. Assumes nothing.
use Rattle.std.specs.Prelude.{is_some}
use Rattle.std.proofs.Common.{sym, ap, ◌∙◌}
use Rattle.std.proofs.lemmas.Bool.{eq-eqb}
use borrow.Author.Tests.{ne_eqb}
use Rattle.notation.proofs.Lexing.{lex}
use Rattle.token_scans.specs.Scan.{words_in}
use Rattle.token_scans.specs.Sought.{number_of}
use Rattle.bindings.proofs.Goods.{own-by, named-some, turned_over}
use Rattle.bindings.proofs.new_name.Goals as goal

pub returns-then-code-eq-NAME : goal.returns-then-code-eq-NAME
returns-then-code-eq-NAME c =
    rw (own-by _ _ c.code.ensures, eq-eqb _ 19 c.if-code-eq-NAME.true)
    (turned_over _ _ (sym c.is_none.ensures ∙ ap is_some c.name_in.ensures ∙ named-some c.args.w.now (words_in (number_of c.args.mode) 0 (lex c.args.part.now))))

pub returns-else-code-eq-NAME : goal.returns-else-code-eq-NAME
returns-else-code-eq-NAME c = rw (own-by _ _ c.code.ensures, ne_eqb _ 19 c.if-code-eq-NAME.false)
