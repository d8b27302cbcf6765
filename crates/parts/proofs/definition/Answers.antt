-- `parts::definition` meets its contract. Assumes nothing.
use Rattle.std.proofs.Common.{sym, ap, ◌∙◌}
use Rattle.translation.specs.Numbering.{byte}
use Rattle.parts.proofs.Laws.{index-past}
use Rattle.parts.proofs.definition.Goals as goal

pub returns-in-None : goal.returns-in-None
returns-in-None c = c.byte_of-in-None.ensures ∙ ap byte (c.names_in.ensures ∙ index-past _ _ (sym c.in-None.is ∙ c.name_in.ensures))
