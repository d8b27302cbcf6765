-- `parse::parse` meets its contract. Assumes nothing.
use mathlib.Core.Path.{◌≡◌, refl, sym, ◌∙◌}
use native.Mathlib.Omega.{arith}
use Prim.Native.Nat.{◌+◌, ◌*◌, ◌/◌, ◌<◌}
use Rattle.parse.proofs.Windows.{first-end, next-end, all-read}
use Rattle.parse.proofs.parse.Goals as goal

pub loop-window-init : goal.loop-window-init
loop-window-init c = (c.pass-first.result.deepest, (refl, first-end _ _ _ c.pass-first.ensures))

pub loop-window-preserved : goal.loop-window-preserved
loop-window-preserved c =
    let i = c.loop-window.invariant in
    let next : c.loop-window.window * 4096 + 4096 ≡ (c.loop-window.window + 1) * 4096 = omega arith in
    let more : c.loop-window.window < i.0 / 4096 = omega (arith, i.1.0) in
    (i.0, (i.1.0, rw (c.sooner-end.ensures, ← next) (next-end c.args.s.now _ c.loop-window.end _ _ _ i.1.1 (omega arith) (rw (← next) at c.pass.ensures))))

pub returns-in-Ok-true : goal.returns-in-Ok-true
returns-in-Ok-true c =
    let i = c.loop-window.invariant in
    let last : c.loop-window.window ≡ i.0 / 4096 = omega (arith, i.1.0) in
    let read = all-read c.args.s.now (c.loop-window.window * 4096) i.0 (omega arith) c.in-Ok-true.field-0 (rw c.in-Ok-true.is at i.1.1) in
    (read.0 ∙ c.in-Ok-true.field-0-test, read.1)

pub returns-in-Ok-false : goal.returns-in-Ok-false
returns-in-Ok-false c =
    let i = c.loop-window.invariant in
    let last : c.loop-window.window ≡ i.0 / 4096 = omega (arith, i.1.0) in
    let read = all-read c.args.s.now (c.loop-window.window * 4096) i.0 (omega arith) c.in-Ok-false.field-0 (rw c.in-Ok-false.is at i.1.1) in
    (read.0 ∙ c.in-Ok-false.field-0-test, sym read.1)
