-- `refusal_rows::read_main` meets its contract. Assumes nothing.
use Rattle.std.proofs.Common.{◌≡◌, length, refl, rules, arith}
use Rattle.std.specs.Prelude.{Err}
use borrow.Author.Tests.{eq-eqb, ne_eqb}
use Rattle.decide.proofs.Picks.{on_true, on_false}
use Rattle.refusal_rows.proofs.Rows.{name-number, name-after}
use Rattle.refusal_rows.specs.Numbers.{main_number}
use Rattle.refusal_rows.proofs.read_main.Goals as goal

pub returns-in_default : goal.returns-in_default
unfolding main_number
returns-in_default c = record { number = on_false _ (ne_eqb (length c.args.b.now) 1 (λ z. omega arith)) refl; gives = tt }

pub returns-in_default-2 : goal.returns-in_default-2
unfolding main_number
returns-in_default-2 c = record { number = on_false _ (ne_eqb (length c.args.b.now) 1 (λ z. omega arith)) refl; gives = tt }

pub returns-in_err-children : goal.returns-in_err-children
unfolding main_number
returns-in_err-children c =
    let r : c.from_residual.result ≡ Err c.in_err-children.field-0.0 = search rules in
    rw r (record { number = on_true _ (eq-eqb (length c.args.b.now) 1 (omega arith)) (name-number c.in_err-children.ensures); gives = tt })

pub returns : goal.returns
unfolding main_number
returns c =
    record { number = on_true _ (eq-eqb (length c.args.b.now) 1 (omega arith)) (name-number c.in_ok-children.ensures); gives = (refl, refl, name-after c.in_ok-children.ensures refl) }
