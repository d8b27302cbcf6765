-- `fading::fade_row` meets its contract. Assumes nothing.
use Rattle.std.proofs.Common.{sym, ◌∙◌}
use mir.Facts.{to_z-of_z}
use Rattle.fading.proofs.Rows.{stays, cleared}
use Rattle.fading.proofs.fade_row.Goals as goal

pub returns-then-fades : goal.returns-then-fades
returns-then-fades c = c.clear.ensures ∙ cleared _ _ _ c.requires (sym (rw (to_z-of_z c.ranges.age) at c.fades.ensures) ∙ c.if-fades.true)

pub returns-else-fades : goal.returns-else-fades
returns-else-fades c = stays _ _ _ c.requires (sym (rw (to_z-of_z c.ranges.age) at c.fades.ensures) ∙ c.if-fades.false)
