-- `scan::first_unsound` meets its contract. Assumes nothing.
use Rattle.std.proofs.Common.{sym, ◌∙◌, ◌+◌, ◌*◌, arith}
use Rattle.network.specs.Network.{sensors_at, heard_at, block_size}
use Rattle.scan.proofs.First.{block_in_chunks, past_variables, more, same, next_device, lowest, all_sound}
use Rattle.scan.proofs.first_unsound.Goals as goal

pub search-preserved-then-block_sound : goal.search-preserved-then-block_sound
search-preserved-then-block_sound c =
    let e = block_in_chunks _ _ _ c.told-net c.as_chunks.ensures.front c.search-test.true c.as_chunks.ensures.front_len in
    (c.search.invariant.0, next_device _ _ _ c.search.invariant.1 (rw e at (c.block_sound.ensures c.if-block_sound.true)))

pub loop-row-init : goal.loop-row-init
loop-row-init c =
    let e = block_in_chunks _ _ _ c.told-net c.as_chunks.ensures.front c.search-test.true c.as_chunks.ensures.front_len in
    (c.search.invariant.0, more _ _ sensors_at _ (omega arith) (past_variables _ _ c.search.invariant.1) (sym (rw e at (c.sensors_sound.ensures c.search.device)) ∙ c.if-not-sensors_sound.false))

pub loop-slot-preserved : goal.loop-slot-preserved
loop-slot-preserved c =
    let e = block_in_chunks _ _ _ c.told-net c.as_chunks.ensures.front c.search-test.true c.as_chunks.ensures.front_len in
    (c.loop-slot.invariant.0, more _ _ _ _ (omega arith) c.loop-slot.invariant.1 (sym (rw e at c.cell_sound.ensures) ∙ c.if-not-cell_sound.false))

pub search-preserved : goal.search-preserved
search-preserved c =
    let u = same _ _ _ block_size (omega arith) c.loop-row.invariant.1 in
    (c.loop-row.invariant.0, next_device _ _ _ u u.here)

pub returns-after-search : goal.returns-after-search
returns-after-search c = rw c.search.invariant.0 (all_sound _ c.search.device _ (omega (arith, c.as_chunks.ensures.front_len)) c.search.invariant.1)

pub returns-then-not-sensors_sound : goal.returns-then-not-sensors_sound
returns-then-not-sensors_sound c =
    let e = block_in_chunks _ _ _ c.told-net c.as_chunks.ensures.front c.search-test.true c.as_chunks.ensures.front_len in
    lowest _ c.search.device sensors_at _ c.told-net (omega (arith, c.as_chunks.ensures.front_len)) (omega arith) (omega arith) (past_variables _ _ c.search.invariant.1)
    (sym (rw e at (c.sensors_sound.ensures c.search.device)) ∙ c.if-not-sensors_sound.true)

pub returns-then-not-cell_sound : goal.returns-then-not-cell_sound
returns-then-not-cell_sound c =
    let e = block_in_chunks _ _ _ c.told-net c.as_chunks.ensures.front c.search-test.true c.as_chunks.ensures.front_len in
    lowest _ c.search.device (heard_at 1 + c.loop-row.row * 16 + c.loop-slot.slot) _ c.told-net (omega (arith, c.as_chunks.ensures.front_len)) (omega arith) (omega arith) c.loop-slot.invariant.1
    (sym (rw e at c.cell_sound.ensures) ∙ c.if-not-cell_sound.true)
