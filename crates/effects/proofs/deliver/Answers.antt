-- `effects::deliver` meets its contract. Assumes nothing.
use mathlib.Core.Path.{refl, ◌∙◌}
use Prim.Native.Nat.{◌+◌}
use native.Mathlib.Omega.{arith}
use lib.IntN.{ℤ, pos}
use lib.ListN.{length-set}
use Rattle.std.proofs.lemmas.Result.{err_from_is_err_and}
use Rattle.network.proofs.Stores.{store-one}
use Rattle.effects.proofs.Refusals.{turned, carried-out, two-devices}
use Rattle.effects.proofs.Stores.{copied}
use Rattle.effects.proofs.deliver.Goals as goal

pub returns-in_err-message : goal.returns-in_err-message
returns-in_err-message c = let p = err_from_is_err_and c.from_residual.result c.from_residual.ensures.1 in rw (p.1, p.2) (turned _ _ _ c.in_err-message.ensures)

pub heard_from-heard-requires : goal.heard_from-heard-requires
heard_from-heard-requires c = let p = two-devices _ _ _ c.in_ok-message.ensures.passes in omega arith

pub copy_within-requires-clause-in_bounds : goal.copy_within-requires-clause-in_bounds
copy_within-requires-clause-in_bounds c = omega (arith, two-devices _ _ _ c.in_ok-message.ensures.passes, c.in_ok-message.ensures.place)

pub copy_within-requires-clause-dest_in_bounds : goal.copy_within-requires-clause-dest_in_bounds
copy_within-requires-clause-dest_in_bounds c = omega (arith, two-devices _ _ _ c.in_ok-message.ensures.passes, c.heard_from-heard.ensures)

pub age_of-requires : goal.age_of-requires
age_of-requires c = let p = two-devices _ _ _ c.in_ok-message.ensures.passes in omega arith

pub bounds-net-age_of : goal.bounds-net-age_of
bounds-net-age_of c = omega (arith, two-devices _ _ _ c.in_ok-message.ensures.passes, c.age_of.ensures)

pub no_message-requires : goal.no_message-requires
no_message-requires c =
    omega (arith, two-devices _ _ _ c.in_ok-message.ensures.passes, c.in_ok-message.ensures.place, c.copy_within.ensures.len, length-set {A = ℤ})

pub returns : goal.returns
returns c =
    let t = two-devices _ _ _ c.in_ok-message.ensures.passes in
    let at = c.in_ok-message.message in
    let heard = c.heard_from-heard.result in
    let k = copied c.args.net.now (at + 1) (at + 16) (heard + 1) 15 (omega arith) (omega (arith, c.in_ok-message.ensures.place)) (omega (arith, c.heard_from-heard.ensures)) in
    carried-out _ _ _ c.in_ok-message.ensures.passes
    (λ main.
    c.no_message.ensures
    ∙ rw (store-one c.copy_within.new.self c.age_of.result (pos 0), c.copy_within.ensures.after, k, c.age_of.ensures, c.heard_from-heard.ensures, c.in_ok-message.ensures.place))
    (λ main. refl)
