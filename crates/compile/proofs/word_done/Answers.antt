-- `compile::word_done` meets its contract. Assumes nothing.
use Rattle.compile.proofs.Adding.{word-adds}
use Rattle.compile.proofs.word_done.Goals as goal

pub returns : goal.returns
returns c = rw c.push.ensures (word-adds c.args.s.now c.args.top c.args.a c.args.b _ _ _ c.requires.3 c.put_word.ensures)
