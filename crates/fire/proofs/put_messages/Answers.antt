-- `fire::put_messages` meets its contract. Assumes nothing.
use mathlib.Core.Path.{◌≡◌}
use mathlib.Core.List.{List}
use Prim.Native.Nat.{ℕ, ◌+◌, ◌*◌}
use native.Mathlib.Omega.{arith}
use borrow.Author.Rules.{rules}
use lib.IntN.{ℤ}
use Rattle.field.specs.Field.{from}
use Rattle.round.specs.Round.{message, joined}
use Rattle.apply.specs.State.{state_of}
use Rattle.cells.proofs.Rows.{none_yet, row_more, joined_length, joined-more}
use Rattle.fire.proofs.Rounds.{message-cells, idle-behind}
use Rattle.fire.proofs.put_messages.Goals as goal

pub loop-b-init : goal.loop-b-init
unfolding joined from
loop-b-init c = none_yet _ _

pub put_message-requires : goal.put_message-requires
put_message-requires c =
    let messages : ℕ → List ℤ = message c.args.here.now (state_of c.args.st.now) in
    let l = c.loop-b in
    let k = joined_length messages 16 1 l.b (λ j _. message-cells c.args.st.now (omega arith) c.args.here.now (1 + j)) in
    (search rules, search rules, idle-behind _ _ _ c.args.at (c.args.at + 16 * l.b) l.invariant.is (omega (arith, k)) (c.requires.1 l.b (omega arith)))

pub loop-b-preserved : goal.loop-b-preserved
loop-b-preserved c =
    let messages : ℕ → List ℤ = message c.args.here.now (state_of c.args.st.now) in
    let l = c.loop-b in
    let k = joined_length messages 16 1 l.b (λ j _. message-cells c.args.st.now (omega arith) c.args.here.now (1 + j)) in
    rw (joined-more messages 1 l.b, c.put_message.ensures) (row_more (16 * l.b) (messages (1 + l.b)) k l.invariant)

pub returns : goal.returns
returns c = let e : c.loop-b.b ≡ 16 = omega arith in rw e at c.loop-b.invariant.is
