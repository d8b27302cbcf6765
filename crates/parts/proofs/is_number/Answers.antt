-- `parts::is_number` meets its contract. Assumes nothing.
use Rattle.parts.proofs.Laws.{number-by, no-number}
use Rattle.parts.proofs.is_number.Goals as goal

pub returns-in-18 : goal.returns-in-18
returns-in-18 c = number-by _ _ c.code.ensures c.in-18.is

pub returns-in_default : goal.returns-in_default
returns-in_default c = no-number _ _ c.code.ensures c.in_default.in_default-own.rest.1
