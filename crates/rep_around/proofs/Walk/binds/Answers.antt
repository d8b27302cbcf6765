-- `rep_around::Walk::binds` meets its contract. Assumes nothing.
use Rattle.std.specs.Prelude.{◌≡◌, Bool, false, ◌&&◌, eqb}
use Rattle.std.proofs.Common.{sym, ap, ◌∙◌}
use lib.Pointwise.{pointwise}
use Rattle.notation.specs.Words.{same_word, the_rep}
use Rattle.token_scans.proofs.Modes.{words-same}
use Rattle.rep_around.specs.Outward.{passed_by}
use Rattle.rep_around.proofs.Walks.{binds-by}
use Rattle.rep_around.proofs.Walk.binds.Goals as goal

pub returns-else-eq : goal.returns-else-eq
returns-else-eq c =
    let x = c.args.self in
    let q : same_word x.last.now the_rep ≡ false = sym (c.eq.ensures ∙ ap (pointwise eqb x.last.now) c.as_slice.ensures ∙ words-same x.last.now the_rep) ∙ c.if-eq.false in
    rw c.in-Opening.is (binds-by _ (passed_by x) c.if-self-eq0.true c.if-self-eq3.true _ (c.if-eq.false ∙ sym (ap (λ (b : Bool). b && same_word x.prior.now c.args.w.now) q)))
