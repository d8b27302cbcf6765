-- `fire::own_cells` meets its contract. Assumes nothing.
use mathlib.Core.Path.{◌≡◌, ap, ◌∙◌}
use mathlib.Core.List.{List, ◌++◌}
use Prim.Native.Nat.{ℕ, ◌+◌, ◌≤◌}
use native.Mathlib.Omega.{arith}
use lib.ListN.{length, drop, replicate, length-append, length-replicate}
use lib.Seq.{take-take}
use lib.IntN.{ℤ, pos}
use Rattle.field.specs.Field.{devices}
use Rattle.network.specs.Cells.{row, store}
use Rattle.network.specs.Network.{block_size, pending_at, age_at}
use Rattle.network.proofs.Stores.{store-all, store-on, row-row}
use Rattle.round.specs.Round.{own}
use Rattle.heard.specs.Measures.{own_size}
use Rattle.cells.proofs.Rows.{row-length}
use Rattle.fire.proofs.own_cells.Goals as goal

-- `fire::own_cells` meets its contract. Assumes nothing.
-- the cells up to the messages and the ages, stored one behind the other
lent : (n : List ℤ) (at : ℕ) → at + block_size ≤ length n
    → store (store (replicate own_size (pos 0)) 0 (row n at (pending_at 1))) (pending_at 1) (row n (at + age_at 1) devices) ≡ own (row n at block_size)
lent n at h =
    let u : List ℤ = row n at (pending_at 1) in
    let v : List ℤ = row n (at + age_at 1) devices in
    let lu : length u ≡ pending_at 1 = row-length n at (pending_at 1) (omega arith) in
    let lv : length v ≡ devices = row-length n (at + age_at 1) devices (omega arith) in
    store-on (replicate own_size (pos 0)) 0 (pending_at 1) u v (omega (arith, lu))
    ∙ (store-all (replicate own_size (pos 0)) (u ++ v) (omega (arith, length-replicate own_size (pos 0), length-append u v, lu, lv))
    ∙ rw (take-take (pending_at 1) block_size (drop at n) (omega arith), row-row n at block_size (age_at 1) devices (omega arith)))

pub returns : goal.returns
returns c =
    c.copy-2.ensures
    ∙ (ap (λ (l : List ℤ). store l (pending_at 1) (row c.args.net.now (c.args.at + age_at 1) devices)) c.copy.ensures ∙ lent c.args.net.now c.args.at c.requires)
