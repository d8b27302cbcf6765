-- `vocabulary::place` meets its contract. Assumes nothing.
use mathlib.Core.Path.{sym, ◌∙◌}
use Rattle.vocabulary.proofs.Constants.{first-rest}
use Rattle.vocabulary.proofs.Laws.{place-letter, place-sign, place_none}
use Rattle.vocabulary.proofs.place.Goals as goal

pub returns-then-is_letter : goal.returns-then-is_letter
returns-then-is_letter c = rw (c.seek.ensures.index, first-rest c.args.w.now c.requires) (place-letter _ _ (sym c.is_letter.ensures ∙ c.if-is_letter.true))

pub returns-then-k-lt-DEF : goal.returns-then-k-lt-DEF
returns-then-k-lt-DEF c = c.seek-k.ensures.index ∙ place-sign _ (rw c.seek-k.ensures.index at c.if-k-lt-DEF.true)

pub returns-else-k-lt-DEF : goal.returns-else-k-lt-DEF
returns-else-k-lt-DEF c =
    rw (first-rest c.args.w.now c.requires) (place_none _ _ (sym c.is_letter.ensures ∙ c.if-is_letter.false) (rw (c.seek-k.ensures.index, first-rest c.args.w.now c.requires) at c.if-k-lt-DEF.false))
