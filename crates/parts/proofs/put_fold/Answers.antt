-- `parts::put_fold` meets its contract. Assumes nothing.
use borrow.Author.Tests.{lt-ltb, le-ltb}
use Rattle.parts.proofs.Laws.{operator-by, index-by}
use Rattle.parts.proofs.put_fold.Goals as goal

pub returns-then-code-lt-DEF : goal.returns-then-code-lt-DEF
returns-then-code-lt-DEF c =
    let k = c.code-code in
    rw (operator-by _ _ k.ensures, lt-ltb _ 9 c.if-code-lt-DEF.true, index-by _ _ k.ensures c.if-code-lt-DEF.true) c.node_with.ensures

pub returns-else-code-lt-DEF : goal.returns-else-code-lt-DEF
returns-else-code-lt-DEF c =
    rw (operator-by _ _ c.code-code.ensures, le-ltb _ 9 c.if-code-lt-DEF.false, ← c.definition.ensures) c.node_with-else-code-lt-DEF.ensures
