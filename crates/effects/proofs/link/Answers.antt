-- `effects::link` meets its contract. Assumes nothing.
use mathlib.Core.Path.{◌≡◌, refl, sym, ◌∙◌}
use mathlib.Core.Bool.{true}
use borrow.Author.Tests.{eq-eqb, ne_eqb}
use mir.ValLaws.{to_z-of_z}
use mir.Syntax.{w32}
use Rattle.event.specs.Event.{link}
use Rattle.event.specs.Step.{out_of_range, heard_from}
use Rattle.network.proofs.Stores.{store-one}
use Rattle.effects.proofs.Refusals.{turned, carried-out, is-14, is-15, is-0}
use Rattle.effects.proofs.link.Goals as goal
use Rattle.effects.proofs.link.Goals.{then-not-are_devices-via-then-not-are_devices, then-not-are_devices-via-else-not-are_devices+then-not-distance_sound}

pub returns-then-not-are_devices : goal.returns-then-not-are_devices
returns-then-not-are_devices c =
    let d = sym c.are_devices.ensures in
    let o : out_of_range (link c.args.a c.args.b c.args.distance) ≡ true =
    elim c.then-not-are_devices.branch [
      | then-not-are_devices-via-then-not-are_devices w ↦ (let e = d ∙ w.if-not-are_devices.true in rw e)
      | then-not-are_devices-via-else-not-are_devices+then-not-distance_sound w ↦ (
          let e = d ∙ w.if-not-are_devices.false in
          let f = sym (rw (to_z-of_z w32 c.args.distance c.ranges.distance) at w.distance_sound.ensures) ∙ w.if-not-distance_sound.true in
          rw (e, f))
    ] in
    turned _ _ _ (is-14 _ _ o)

pub returns-then-a-b : goal.returns-then-a-b
returns-then-a-b c =
    let e = sym c.are_devices.ensures ∙ c.if-not-are_devices.false in
    let f = sym (rw (to_z-of_z w32 c.args.distance c.ranges.distance) at c.distance_sound.ensures) ∙ c.if-not-distance_sound.false in
    turned _ _ _ (is-15 _ _ (rw (e, f)) (eq-eqb _ _ c.if-a-b.true))

pub returns : goal.returns
returns c =
    let e = sym c.are_devices.ensures ∙ c.if-not-are_devices.false in
    let f = sym (rw (to_z-of_z w32 c.args.distance c.ranges.distance) at c.distance_sound.ensures) ∙ c.if-not-distance_sound.false in
    carried-out _ _ _ (is-0 _ _ (rw (e, f)) (ne_eqb _ _ c.if-a-b.false) refl)
    (λ main. rw (c.heard_from-at.ensures, to_z-of_z w32 c.args.distance c.ranges.distance) (store-one c.args.net.now (heard_from c.args.a c.args.b) c.args.distance))
    (λ main. refl)
