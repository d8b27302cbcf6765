-- `refusal_rows::read_definition` meets its contract. Assumes nothing.
use Rattle.std.proofs.Common.{◌≡◌, length, refl, rules, arith, le-leb, le-ltb, lt-ltb}
use Rattle.std.specs.Prelude.{Err}
use Rattle.std.proofs.lemmas.Bool.{lt-leb}
use borrow.Author.Tests.{eq-eqb, ne_eqb}
use Rattle.decide.proofs.Picks.{on_true, on_false}
use Rattle.refusal_rows.proofs.Rows.{name-number, name-after}
use Rattle.refusal_rows.specs.Numbers.{definition_number}
use Rattle.refusal_rows.proofs.read_definition.Goals as goal

pub returns-then-defs-ge-DEFINITIONS : goal.returns-then-defs-ge-DEFINITIONS
unfolding definition_number
returns-then-defs-ge-DEFINITIONS c = record { number = on_true _ (le-leb _ _ c.if-defs-ge-DEFINITIONS.true) refl; gives = tt }

pub returns-in_default : goal.returns-in_default
unfolding definition_number
returns-in_default c = record { number = on_false _ (lt-leb _ _ c.if-defs-ge-DEFINITIONS.false) (on_false _ (ne_eqb (length c.args.b.now) 2 (λ z. omega arith)) refl); gives = tt }

pub returns-in_default-2 : goal.returns-in_default-2
unfolding definition_number
returns-in_default-2 c = record { number = on_false _ (lt-leb _ _ c.if-defs-ge-DEFINITIONS.false) (on_false _ (ne_eqb (length c.args.b.now) 2 (λ z. omega arith)) refl); gives = tt }

pub returns-then-parameters-gt-PARAMETERS : goal.returns-then-parameters-gt-PARAMETERS
unfolding definition_number
returns-then-parameters-gt-PARAMETERS c =
    record {
      number = on_false _ (lt-leb _ _ c.if-defs-ge-DEFINITIONS.false) (on_true _ (eq-eqb (length c.args.b.now) 2 (omega arith)) (on_true _ (lt-ltb _ _ c.if-parameters-gt-PARAMETERS.true) refl));
      gives = tt;
    }

pub returns-in_err-children : goal.returns-in_err-children
unfolding definition_number
returns-in_err-children c =
    let r : c.from_residual.result ≡ Err c.in_err-children.field-0.0 = search rules in
    rw r (record {
      number = on_false _ (lt-leb _ _ c.if-defs-ge-DEFINITIONS.false) (on_true _ (eq-eqb (length c.args.b.now) 2 (omega arith))
          (on_false _ (le-ltb _ _ c.if-parameters-gt-PARAMETERS.false) (name-number c.in_err-children.ensures)));
      gives = tt;
    })

pub returns : goal.returns
unfolding definition_number
returns c =
    record {
      number = on_false _ (lt-leb _ _ c.if-defs-ge-DEFINITIONS.false) (on_true _ (eq-eqb (length c.args.b.now) 2 (omega arith))
          (on_false _ (le-ltb _ _ c.if-parameters-gt-PARAMETERS.false) (name-number c.in_ok-children.ensures)));
      gives = (refl, refl, refl, name-after c.in_ok-children.ensures refl);
    }
