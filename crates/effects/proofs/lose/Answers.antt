-- `effects::lose` meets its contract. Assumes nothing.
use mathlib.Core.Path.{refl, ◌∙◌}
use native.Mathlib.Omega.{arith}
use Rattle.std.proofs.lemmas.Result.{err_from_is_err_and}
use Rattle.effects.proofs.Refusals.{turned, carried-out, two-devices, same-refusal}
use Rattle.effects.proofs.lose.Goals as goal

pub returns-in_err-lost : goal.returns-in_err-lost
returns-in_err-lost c = let p = err_from_is_err_and c.from_residual.result c.from_residual.ensures.1 in rw (p.1, p.2) (turned _ _ _ (same-refusal _ _ _ ∙ c.in_err-lost.ensures))

pub no_message-requires : goal.no_message-requires
no_message-requires c = omega (arith, two-devices _ _ _ c.in_ok-lost.ensures.passes, c.in_ok-lost.ensures.place)

pub returns : goal.returns
returns c =
    carried-out _ _ _ (same-refusal _ _ _ ∙ c.in_ok-lost.ensures.passes) (λ main. c.no_message.ensures ∙ rw c.in_ok-lost.ensures.place) (λ main. refl)
