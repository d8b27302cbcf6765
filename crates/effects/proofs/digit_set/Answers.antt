-- `effects::digit_set` meets its contract. Assumes nothing.
use mathlib.Core.Path.{◌≡◌, refl}
use native.Mathlib.Omega.{arith}
use Rattle.effects.proofs.Digit.{set-bit, clear-bit, set_below}
use Rattle.effects.proofs.digit_set.Goals as goal

pub returns-then-v-eq1 : goal.returns-then-v-eq1
returns-then-v-eq1 c =
    let e : c.args.v ≡ 1 = omega arith in
    let d = set-bit c.args.s c.args.x c.requires.1 c.requires.0 in
    rw (e, d) (refl, set_below 31 c.args.s 1 c.args.x (omega arith) c.requires.0)

pub returns-else-v-eq1 : goal.returns-else-v-eq1
returns-else-v-eq1 c =
    let e : c.args.v ≡ 0 = omega arith in
    let d = clear-bit c.args.s c.args.x c.requires.1 c.requires.0 in
    rw (e, d) (refl, set_below 31 c.args.s 0 c.args.x (omega arith) c.requires.0)
