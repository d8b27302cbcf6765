-- `refusal_rows::read_root` meets its contract. Assumes nothing.
use Rattle.std.proofs.Common.{refl, arith}
use borrow.Author.Tests.{ne_eqb}
use Rattle.decide.proofs.Picks.{on_false}
use Rattle.refusal_rows.specs.Numbers.{field_number}
use Rattle.refusal_rows.proofs.read_root.Goals as goal

pub returns-in-2 : goal.returns-in-2
unfolding field_number
returns-in-2 c = let a = c.in-2 in rw c.in-2.is (record { number = λ counts slots kept. c.read_definition.ensures.number; gives = c.read_definition.ensures.gives })

pub returns-in-3 : goal.returns-in-3
unfolding field_number
returns-in-3 c = let a = c.in-3 in rw c.in-3.is (record { number = λ counts slots kept. c.read_main.ensures.number; gives = c.read_main.ensures.gives })

pub returns-in_default : goal.returns-in_default
unfolding field_number
returns-in_default c =
    record {
      number = λ counts slots kept. on_false _ (ne_eqb c.args.tag 2 (λ z. omega arith)) (on_false _ (ne_eqb c.args.tag 3 (λ z. omega arith)) (on_false _ (ne_eqb _ _ c.requires.0) refl));
      gives = tt;
    }
