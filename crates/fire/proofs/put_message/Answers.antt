-- `fire::put_message` meets its contract. Assumes nothing.
use mathlib.Core.Path.{◌≡◌, sym, ap, ◌∙◌}
use mathlib.Core.List.{List}
use Prim.Native.Nat.{◌+◌, ◌*◌}
use native.Mathlib.Omega.{arith}
use lib.ListN.{get_or, set}
use lib.IntN.{ℤ, pos}
use mir.Syntax.{w32}
use mir.Val.{of_z}
use mir.Facts.{sfits_lit}
use Rattle.number.specs.Number.{mark}
use Rattle.network.specs.Cells.{row, store}
use Rattle.network.specs.Network.{heard_at}
use Rattle.apply.specs.State.{state_of}
use Rattle.arith.proofs.Signs.{same_bits}
use Rattle.fire.proofs.Rows.{first-again}
use Rattle.cells.proofs.Rows.{row-length, store-row, row_first}
use Rattle.fire.proofs.Rounds.{unlinked, linked}
use borrow.Author.Rules.{sfits_of}
use Rattle.fire.proofs.put_message.Goals as goal

pub returns-then-here-b : goal.returns-then-here-b
unfolding state_of
returns-then-here-b c =
    let n = c.args.net.now in
    let r = row c.args.st.now 16 16 in
    ap (λ (m : List ℤ). set m c.args.at (pos 1)) c.copy.ensures
    ∙ (first-again n c.args.at r (pos 1) (omega (arith, row-length c.args.st.now 16 16 (omega arith)))
    ∙ ap (store n c.args.at) (sym (linked c.args.here.now (state_of c.args.st.now) c.args.b (λ q. c.if-here-b.true (ap (of_z w32) q)))))

pub returns-then-net-at-ne0 : goal.returns-then-net-at-ne0
returns-then-net-at-ne0 c =
    let d = get_or c.args.here.now (heard_at 1 + 16 * c.args.b) (pos 0) in
    let no-link = unlinked c.args.here.now (state_of c.args.st.now) c.args.b (same_bits w32 d mark (sfits_of c.t11-1.given) (sfits_lit tt) c.if-here-b.false) in
    c.no_message.ensures ∙ ap (store c.args.net.now c.args.at) (sym no-link)

-- what is there already

pub returns-else-net-at-ne0 : goal.returns-else-net-at-ne0
returns-else-net-at-ne0 c =
    let n = c.args.net.now in
    let d = get_or c.args.here.now (heard_at 1 + 16 * c.args.b) (pos 0) in
    let no-link = unlinked c.args.here.now (state_of c.args.st.now) c.args.b (same_bits w32 d mark (sfits_of c.t11-1.given) (sfits_lit tt) c.if-here-b.false) in
    let e : get_or n c.args.at (pos 0) ≡ pos 0 = same_bits w32 (get_or n c.args.at (pos 0)) (pos 0) (sfits_of c.t22-1.given) (sfits_lit tt) c.if-net-at-ne0.false in
    let i = c.requires.2 (row_first n c.args.at 16 (pos 0) (omega arith) ∙ e) in
    sym (store-row n c.args.at 16) ∙ ap (store n c.args.at) (i ∙ sym no-link)
