-- `fire::put_round` meets its contract. Assumes nothing.
use mathlib.Core.Path.{ap, ◌∙◌}
use mathlib.Core.List.{List}
use Prim.Native.Nat.{◌+◌, ◌*◌, ◌≤◌}
use native.Mathlib.Omega.{arith}
use lib.ListN.{length, drop, length-take}
use lib.IntN.{ℤ}
use Rattle.field.specs.Field.{each}
use Rattle.network.specs.Cells.{row, store}
use Rattle.network.specs.Network.{pending_at}
use Rattle.round.specs.Round.{message, joined}
use Rattle.apply.specs.State.{state_of}
use Rattle.fire.proofs.Rounds.{idle-behind, idle-older}
use borrow.Author.Rules.{rules}
use Rattle.fire.proofs.put_round.Goals as goal

pub put_messages-requires : goal.put_messages-requires
put_messages-requires c =
    let k : length (row c.args.st.now 0 16) ≤ 16 = omega (arith, length-take 16 (drop 0 c.args.st.now)) in (
      search rules,
      λ b h. idle-behind _ _ _ c.args.at (c.args.at + pending_at 1 + 16 * b) c.copy.ensures (omega arith)
          (idle-older c.args.net.now _ c.args.at b c.requires.0 h c.pass_round.ensures (c.requires.1 b h)),
    )

pub returns : goal.returns
unfolding state_of
returns c =
    let v : List ℤ = (state_of c.args.st.now).variables in
    let m : List ℤ = joined (each (message c.args.here.now (state_of c.args.st.now))) in
    record {
      network =
          c.put_messages.ensures
          ∙ ap (λ (n : List ℤ). store n (c.args.at + pending_at 1) m) (c.copy.ensures ∙ ap (λ (n : List ℤ). store n c.args.at v) c.pass_round.ensures.network);
    }
