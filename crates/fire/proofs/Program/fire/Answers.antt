-- `fire::Program::fire` meets its contract. Assumes nothing.
use mathlib.Core.Path.{◌≡◌, sym, ap, ◌∙◌}
use mathlib.Core.Bool.{false}
use Prim.Native.Nat.{◌+◌, ◌≤◌}
use native.Mathlib.Omega.{arith}
use lib.ListN.{length}
use lib.IntN.{ℤ, pos}
use mir.Syntax.{w32}
use mir.Val.{of_z}
use mir.Facts.{to_z-of_z}
use Rattle.network.specs.Network.{block_size, base}
use Rattle.event.specs.Event.{fire}
use Rattle.event.specs.Step.{out_of_range}
use Rattle.apply.specs.State.{state_size, fault_of}
use Rattle.apply.proofs.Laws.{clear}
use Rattle.event.proofs.Devices.{device}
use Rattle.fire.proofs.Rounds.{idle-rows, refused, fires, fails, node-read}
use borrow.Author.Rules.{rules, sfits_of}
use Rattle.fire.proofs.Program.fire.Goals as goal

pub returns-then-not-is_device : goal.returns-then-not-is_device
returns-then-not-is_device c = let e = sym c.is_device.ensures ∙ c.if-not-is_device.true in refused _ _ _ (rw e)

pub returns-then-fault-ne0 : goal.returns-then-fault-ne0
returns-then-fault-ne0 c =
    let e = sym c.is_device.ensures ∙ c.if-not-is_device.false in
    let in-range : out_of_range (fire c.args.a) ≡ false = rw e in
    let near = device c.args.a e in
    let whole-block : base c.args.a + block_size ≤ length c.args.net.now = omega (arith, near) in
    let v = c.evaluate-value in
    fails _ _ _ whole-block _ c.own_cells-here.ensures v.result _ v.new.st _ in-range c.begin.ensures.state v.ensures (λ q. c.if-fault-ne0.true (ap (of_z w32) q))
    (λ k e. ap (λ (y : ℤ). (pos 17, y)) (node-read (fault_of v.new.st) k (sfits_of c.fault-1.given) e))

pub put_round-requires : goal.put_round-requires
put_round-requires c =
    let e = sym c.is_device.ensures ∙ c.if-not-is_device.false in
    let near = device c.args.a e in
    (omega (arith, near), idle-rows c.args.net.now c.args.a c.requires.idle near.0 near.1)

pub returns : goal.returns
returns c =
    let e = sym c.is_device.ensures ∙ c.if-not-is_device.false in
    let in-range : out_of_range (fire c.args.a) ≡ false = rw e in
    let near = device c.args.a e in
    let whole-block : base c.args.a + block_size ≤ length c.args.net.now = omega (arith, near) in
    let v = c.evaluate-value in
    let k : length v.new.st ≡ state_size = search rules in
    fires _ _ _ whole-block _ c.own_cells-here.ensures v.result _ v.new.st _ in-range c.begin.ensures.state v.ensures _
    (clear v.new.st (sfits_of c.fault-1.given) c.if-fault-ne0.false) k c.put_round.ensures (ap (λ (y : ℤ). (pos 0, y)) (to_z-of_z {w = w32} (sfits_of v.type_inv)))
