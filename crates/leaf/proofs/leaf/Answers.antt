-- `leaf::leaf` meets its contract. Assumes nothing.
use Rattle.std.proofs.Common.{◌≡◌, refl, ap, arith}
use Rattle.std.proofs.lemmas.Int.{to_z-of_z}
use Rattle.round.specs.Round.{number}
use Rattle.words.specs.Form.{constant_form, parameter_form, variable_form}
use Rattle.words.specs.Word.{form, word}
use Rattle.apply.specs.State.{state_of}
use Rattle.apply.proofs.Laws.{gives, gave, state-variable}
use Rattle.leaf.proofs.Evaluates.{ev-lit, ev-param, ev-var}
use Rattle.leaf.proofs.leaf.Goals as goal

pub returns-then-form-eq-CONSTANT : goal.returns-then-form-eq-CONSTANT
returns-then-form-eq-CONSTANT c =
    let z : form (word c.args.t.now c.args.n) ≡ constant_form = omega arith in
    λ here. gives (ev-lit c.args.t.now c.args.n here c.args.env.now (state_of c.args.st.now) z) (gave (ap number (grind (arith, to_z-of_z))) refl c.requires.clear)

pub returns-then-form-eq-PARAMETER : goal.returns-then-form-eq-PARAMETER
returns-then-form-eq-PARAMETER c =
    let z : form (word c.args.t.now c.args.n) ≡ parameter_form = omega arith in
    λ here. gives (ev-param c.args.t.now c.args.n here c.args.env.now (state_of c.args.st.now) z c.item_of-p.result c.item_of-p.ensures)
    (gave (ap number (grind (arith, to_z-of_z))) refl c.requires.clear)

pub returns : goal.returns
returns c =
    let z : form (word c.args.t.now c.args.n) ≡ variable_form = omega (arith, c.requires.leaf) in
    let v = state-variable c.args.st.now c.item_of-p.result (omega (arith, c.item_of-p.ensures)) in
    λ here. gives (ev-var c.args.t.now c.args.n here c.args.env.now (state_of c.args.st.now) z c.item_of-p.result c.item_of-p.ensures)
    (gave (ap number (grind (arith, to_z-of_z))) refl c.requires.clear)
