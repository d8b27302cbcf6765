-- `levels::Window::take` meets its contract. Assumes nothing.
use Rattle.levels.proofs.Laws.{opening-below, word-below}
use Rattle.levels.proofs.Window.take.Goals as goal

pub advance-requires-clause-opens : goal.advance-requires-clause-opens
advance-requires-clause-opens c = opening-below c.level-c.result c.judge-m.result _ _ c.level-c.ensures.number c.judge-m.ensures c.if-m-eq-REFUSED.false

pub advance-requires-clause-word : goal.advance-requires-clause-word
advance-requires-clause-word c = word-below c.level-c.result c.judge-m.result _ _ c.level-c.ensures.number c.judge-m.ensures c.if-m-eq-REFUSED.false
