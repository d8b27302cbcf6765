-- `compile::closing_done` meets its contract. Assumes nothing.
use Rattle.std.specs.Prelude.{◌≡◌, false, ◌&&◌, eqb, take}
use Rattle.std.proofs.Common.{sym, ◌∙◌}
use Rattle.std.proofs.lemmas.Bool.{eq-eqb}
use borrow.Author.Tests.{ne_eqb}
use Rattle.notation.specs.Words.{between}
use Rattle.notation.proofs.Lexing.{lex}
use Rattle.tabling.specs.Emit.{is_definition}
use Rattle.token_scans.specs.declared.Mode.TheVariants.{Parameters}
use Rattle.compile.proofs.Adding.{adds-nothing, adds-as, mode-is, mode-not, on-parameters, on-definition, on-form}
use Rattle.compile.proofs.closing_done.Goals as goal
use Rattle.compile.proofs.closing_done.Goals.{else-depth-eq1-via-then-depth-eq1+else-is_definition, else-depth-eq1-via-else-depth-eq1}

pub returns-then-eq : goal.returns-then-eq
returns-then-eq c =
    adds-nothing _ _ c.requires.3 _ (λ q. on-parameters (lex (take c.args.top c.args.s.now)) (lex (between c.args.top c.args.at c.args.s.now)) _ _ q
    (mode-is c.args.mode Parameters _ c.eq.ensures c.if-eq.true))

pub returns-then-is_definition : goal.returns-then-is_definition
returns-then-is_definition c =
    adds-as _ _ _ _ _ _ (λ q. on-definition (lex (take c.args.top c.args.s.now)) (lex (between c.args.top c.args.at c.args.s.now)) _ _ q
    (mode-not c.args.mode Parameters _ c.eq.ensures c.if-eq.false)
    (rw (eq-eqb c.args.depth 1 c.if-depth-eq1.true) (sym c.is_definition.ensures ∙ c.if-is_definition.true)))
    c.definition_done.ensures

pub returns : goal.returns
returns c =
    let n : (eqb c.args.depth 1 && is_definition (lex (between c.args.top c.args.at c.args.s.now))) ≡ false = elim c.else-depth-eq1.branch [
      | else-depth-eq1-via-then-depth-eq1+else-is_definition w ↦ rw (eq-eqb c.args.depth 1 w.if-depth-eq1.true) (sym w.is_definition.ensures ∙ w.if-is_definition.false)
      | else-depth-eq1-via-else-depth-eq1 w ↦ rw (ne_eqb c.args.depth 1 w.if-depth-eq1.false)
    ] in
    adds-as _ _ _ _ _ _ (λ q. on-form (lex (take c.args.top c.args.s.now)) (lex (between c.args.top c.args.at c.args.s.now)) _ _ q
    (mode-not c.args.mode Parameters _ c.eq.ensures c.if-eq.false) n)
    c.form_done.ensures
