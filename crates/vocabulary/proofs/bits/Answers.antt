-- `vocabulary::bits` meets its contract. Assumes nothing.
use mathlib.Core.Path.{sym, ◌∙◌}
use native.Mathlib.Omega.{arith}
use Rattle.vocabulary.proofs.Constants.{digits-behind, digits-whole, bits-minus, bits-inf, bits-count}
use Rattle.fronts.proofs.Turns.{count-parts}
use Rattle.fronts.proofs.Classes.{number-filled}
use Rattle.vocabulary.proofs.bits.Goals as goal

pub bounds-w-0 : goal.bounds-w-0
bounds-w-0 c = number-filled c.args.w.now c.requires

pub value-requires : goal.value-requires
value-requires c = digits-behind _ c.requires (number-filled _ c.requires) c.in-45.is

pub returns-in-45 : goal.returns-in-45
returns-in-45 c =
    let d = digits-behind _ c.requires (number-filled _ c.requires) c.in-45.is in
    let small = (count-parts _ d).1 in
    let e = c.value.ensures in
    let b = bits-minus _ c.requires (number-filled _ c.requires) c.in-45.is in
    omega (arith, c.wrapping_neg.ensures)

pub returns-in_default : goal.returns-in_default
returns-in_default c = bits-inf _ c.requires (number-filled _ c.requires) (sym c.is_letter.ensures ∙ c.if-is_letter.true)

pub value-requires-in_default-2 : goal.value-requires-in_default-2
value-requires-in_default-2 c = digits-whole _ c.requires (sym c.is_letter.ensures ∙ c.if-is_letter.false) (λ q. omega arith)

pub returns-in_default-2 : goal.returns-in_default-2
returns-in_default-2 c =
    c.value-in_default-2.ensures ∙ bits-count _ c.requires (sym c.is_letter.ensures ∙ c.if-is_letter.false) (λ q. omega arith)
