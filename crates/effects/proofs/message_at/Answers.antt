-- `effects::message_at` meets its contract: its tests are the rows of the refusal table. Assumes nothing.
use mathlib.Core.Path.{◌≡◌, sym, ap, ◌∙◌}
use borrow.Author.Rules.{sfits_of}
use borrow.Author.Tests.{eq-eqb, ne_eqb}
use lib.IntN.{ℤ, pos}
use lib.ListN.{get_or}
use mir.Syntax.{w32}
use mir.Val.{of_z, to_z}
use mir.Facts.{to_z-of_z}
use Rattle.arith.proofs.Signs.{eq_z-yes, eq_z-no}
use Rattle.effects.proofs.Refusals.{is-14, is-15, is-16, is-0}
use Rattle.effects.proofs.message_at.Goals as goal

pub returns-then-not-are_devices : goal.returns-then-not-are_devices
returns-then-not-are_devices c = let e = sym c.are_devices.ensures ∙ c.if-not-are_devices.true in is-14 _ _ (rw e)

pub returns-then-a-b : goal.returns-then-a-b
returns-then-a-b c = let e = sym c.are_devices.ensures ∙ c.if-not-are_devices.false in is-15 _ _ (rw e) (eq-eqb _ _ c.if-a-b.true)

pub returns-then-net-at-eq0 : goal.returns-then-net-at-eq0
returns-then-net-at-eq0 c =
    let e = sym c.are_devices.ensures ∙ c.if-not-are_devices.false in
    let cell : ℤ = get_or c.args.net.now c.pending_to-at.result (pos 0) in
    let z : cell ≡ pos 0 = sym (to_z-of_z {w = w32} (sfits_of c.t12-1.given)) ∙ ap (to_z w32) c.if-net-at-eq0.true in
    is-16 _ _ (rw e) (ne_eqb _ _ c.if-a-b.false) (rw (← c.pending_to-at.ensures) (eq_z-yes _ _ z))

pub returns : goal.returns
returns c =
    let e = sym c.are_devices.ensures ∙ c.if-not-are_devices.false in
    let cell : ℤ = get_or c.args.net.now c.pending_to-at.result (pos 0) in
    let z = eq_z-no cell (pos 0) (λ q. c.if-net-at-eq0.false (ap (of_z w32) q)) in
    record { place = c.pending_to-at.ensures; passes = is-0 _ _ (rw e) (ne_eqb _ _ c.if-a-b.false) (rw (← c.pending_to-at.ensures) z) }
