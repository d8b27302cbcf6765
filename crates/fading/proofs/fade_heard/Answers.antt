-- `fading::fade_heard` meets its contract. Assumes nothing.
use Rattle.std.proofs.Common.{◌≡◌, ◌+◌, ◌-◌, arith}
use Rattle.network.specs.Network.{age_at, block_size}
use Rattle.field.specs.Field.{devices}
use Rattle.fading.proofs.Rows.{none-faded, some-faded}
use Rattle.fading.proofs.fade_heard.Goals as goal

pub returns-then-any_fades : goal.returns-then-any_fades
returns-then-any_fades c =
    let e : c.args.at + block_size - (c.args.at + age_at 1) ≡ devices = omega arith in
    some-faded _ _ c.requires _ _ (rw e at c.copy_from_slice.ensures.after) c.fade_rows.ensures

pub returns-else-any_fades : goal.returns-else-any_fades
returns-else-any_fades c =
    let e : c.args.at + block_size - (c.args.at + age_at 1) ≡ devices = omega arith in
    none-faded _ _ c.requires _ (rw e) (c.any_fades.ensures c.if-any_fades.false)
