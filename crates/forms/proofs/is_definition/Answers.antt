-- `forms::is_definition` meets its contract. Assumes nothing.
use Rattle.std.specs.Prelude.{eqb}
use Rattle.std.proofs.Common.{sym, ap, ◌∙◌}
use lib.Pointwise.{pointwise}
use denote.Enum.Bare.{same_false}
use Rattle.lexemes.specs.contracts.Kind.{the_type}
use Rattle.notation.specs.Words.{between, the_def}
use Rattle.token_scans.proofs.Modes.{words-same}
use Rattle.forms.proofs.Fronts.{word-kind, front-none, front-end, front-one, second-end, front-other, front-word}
use Rattle.forms.proofs.is_definition.Goals as goal

pub returns-in_default : goal.returns-in_default
returns-in_default c = front-none _ (sym c.next.ensures ∙ c.in_default.is)

pub next-requires-2 : goal.next-requires-2
next-requires-2 c = front-end _ _ (sym c.next.ensures ∙ c.in-Some.is)

pub slice_bounds-eq-end : goal.slice_bounds-eq-end
slice_bounds-eq-end c = second-end _ _ (sym c.next.ensures ∙ c.in-Some.is) _ (sym c.next-2.ensures ∙ c.in-Some-next.is)

pub returns-in-Some-next : goal.returns-in-Some-next
returns-in-Some-next c =
    let l = c.in-Some-next.l in
    let w = between l.start l.end c.args.form.now in
    c.eq-in-Some-next.ensures ∙ ap (pointwise eqb w) c.as_slice.ensures ∙ words-same w the_def
    ∙ front-word _ _ (sym c.next.ensures ∙ c.in-Some.is) l (sym c.next-2.ensures ∙ c.in-Some-next.is) (word-kind _ (sym c.eq.ensures ∙ c.if-eq.true))

pub returns-in_default-next : goal.returns-in_default-next
returns-in_default-next c =
    front-other _ _ (sym c.next.ensures ∙ c.in-Some.is) c.in-Some-next.l (sym c.next-2.ensures ∙ c.in-Some-next.is)
    (same_false the_type _ _ (sym c.eq.ensures ∙ c.if-eq.false))

pub returns-in_default-next-2 : goal.returns-in_default-next-2
returns-in_default-next-2 c = front-one _ _ (sym c.next.ensures ∙ c.in-Some.is) (sym c.next-2.ensures ∙ c.in_default-next.is)
