-- `perform::perform` meets its contract. Assumes nothing.
use native.Mathlib.Omega.{arith}
use borrow.Author.Rules.{rules}
use mir.Syntax.{w32}
use mir.Facts.{to_z-of_z}
use Rattle.perform.proofs.Laws.{begin, end-turn, end-room, next-turn}
use Rattle.perform.proofs.perform.Goals as goal

pub loop-k-init : goal.loop-k-init
loop-k-init c = begin (omega arith) c.requires

pub returns-in_default : goal.returns-in_default
returns-in_default c = end-turn c.loop-k.invariant c.in_default.ensures.first

pub loop-k-preserved : goal.loop-k-preserved
loop-k-preserved c =
    let p = c.numbers-code in
    let e = c.do_event in
    let x = c.in-Some in
    rw (to_z-of_z {w = w32} {z = p.result.0} (search rules), to_z-of_z {w = w32} {z = p.result.1} (search rules), p.ensures)
    (next-turn c.loop-k.invariant _ _ e.result _ x.ensures.first (omega arith) e.ensures)

pub returns : goal.returns
returns c = end-room c.loop-k.invariant (omega (arith, c.loop-k.invariant.wide))
