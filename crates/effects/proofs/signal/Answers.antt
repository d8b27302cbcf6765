-- `effects::signal` meets its contract. Assumes nothing.
use mathlib.Core.Path.{◌≡◌, refl, sym, ◌∙◌}
use mathlib.Core.Bool.{true}
use native.Mathlib.Omega.{arith}
use borrow.Author.Rules.{sfits_of}
use borrow.Author.Tests.{le-leb, lt-leb}
use lib.ListN.{get_or}
use lib.IntN.{ℤ, pos, nat_abs}
use mir.ValLaws.{to_z-of_z}
use mir.Syntax.{w32}
use mir.Val.{SFits}
use Rattle.event.specs.Event.{signal}
use Rattle.event.specs.Step.{out_of_range, sensors_of, digit_set}
use Rattle.network.proofs.Stores.{store-one}
use Rattle.effects.proofs.Refusals.{turned, carried-out, is-14, is-0}
use Rattle.effects.proofs.signal.Goals as goal
use Rattle.effects.proofs.signal.Goals.{then-not-is_device-via-then-not-is_device, then-not-is_device-via-else-not-is_device+then-sensor-gt-LAST_SENSOR}
use Rattle.effects.proofs.signal.Goals.{then-not-is_device-via-else-not-is_device+else-sensor-gt-LAST_SENSOR+then-switch-gt1}

pub returns-then-not-is_device : goal.returns-then-not-is_device
returns-then-not-is_device c =
    let d = sym c.is_device.ensures in
    let o : out_of_range (signal c.args.a c.args.sensor c.args.switch) ≡ true =
    elim c.then-not-is_device.branch [
      | then-not-is_device-via-then-not-is_device w ↦ (let e = d ∙ w.if-not-is_device.true in rw e)
      | then-not-is_device-via-else-not-is_device+then-sensor-gt-LAST_SENSOR w ↦ (
          let e = d ∙ w.if-not-is_device.false in
          let p = lt-leb c.args.sensor 15 (omega arith) in
          rw (e, p))
      | then-not-is_device-via-else-not-is_device+else-sensor-gt-LAST_SENSOR+then-switch-gt1 w ↦ (
          let e = d ∙ w.if-not-is_device.false in
          let p = le-leb c.args.sensor 15 (omega arith) in
          let q = lt-leb c.args.switch 1 (omega arith) in
          rw (e, p, q))
    ] in
    turned _ _ _ (is-14 _ _ o)

pub returns : goal.returns
returns c =
    let e = sym c.is_device.ensures ∙ c.if-not-is_device.false in
    let p = le-leb c.args.sensor 15 (omega arith) in
    let q = le-leb c.args.switch 1 (omega arith) in
    let cell : ℤ = get_or c.args.net.now c.sensors_of-at.result (pos 0) in
    let fits : SFits w32 cell = sfits_of c.digit_set-arg-1.given in
    carried-out _ _ _ (is-0 _ _ (rw (e, p, q)) refl refl)
    (λ main. rw (to_z-of_z w32 (pos c.digit_set.result) (record { sfits = c.digit_set.ensures.1 }), c.digit_set.ensures.0, to_z-of_z w32 cell fits, c.sensors_of-at.ensures)
    (store-one c.args.net.now (sensors_of c.args.a) (pos (digit_set c.args.sensor c.args.switch (nat_abs (get_or c.args.net.now (sensors_of c.args.a) (pos 0)))))))
    (λ main. refl)
