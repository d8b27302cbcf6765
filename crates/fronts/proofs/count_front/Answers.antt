-- `fronts::count_front` meets its contract. Assumes nothing.
use Rattle.std.proofs.Common.{arith, rules}
use Rattle.notation.specs.Words.{is_digit}
use Rattle.fronts.proofs.Turns.{counted-again, counted-other, counted-past, counted-whole}
use Rattle.fronts.proofs.count_front.Goals as goal

pub returns-then-not-is_ascii_digit-clause-front : goal.returns-then-not-is_ascii_digit-clause-front
unfolding is_digit
returns-then-not-is_ascii_digit-clause-front c =
    counted-other _ _ _ c.loop-i.invariant c.loop-i-test.true (search rules)

pub returns-then-n-gt-INF-clause-front : goal.returns-then-n-gt-INF-clause-front
unfolding is_digit
returns-then-n-gt-INF-clause-front c =
    counted-past _ _ _ c.loop-i.invariant c.loop-i-test.true (search rules) (omega arith)

pub loop-i-preserved : goal.loop-i-preserved
unfolding is_digit
loop-i-preserved c = rw c.from.ensures (counted-again _ _ _ c.loop-i.invariant c.loop-i-test.true (search rules) (omega arith))

pub returns-clause-front : goal.returns-clause-front
returns-clause-front c = let e = counted-whole _ _ _ c.loop-i.invariant c.loop-i-test.false in omega arith
