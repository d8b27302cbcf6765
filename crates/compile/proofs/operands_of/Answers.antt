-- `compile::operands_of` meets its contract. Assumes nothing.
use Rattle.std.specs.Prelude.{◌≡◌, ℕ, ◌-◌}
use Rattle.std.proofs.Common.{sym, ap, ◌∙◌}
use Rattle.vocabulary.specs.Codes.{head_by_code}
use Rattle.tabling.specs.Emit.{leads}
use Rattle.compile.proofs.Leads.{one-lead, two-leads}
use Rattle.compile.proofs.operands_of.Goals as goal
use Rattle.compile.proofs.operands_of.Goals.{in-11, in_default}

pub returns : goal.returns
returns c =
    let lead : c.match-code.saturating_sub ≡ leads (head_by_code c.args.code) = elim c.match-code.branch [
      | in-11 w ↦ w.saturating_sub-is ∙ sym (two-leads c.args.code w.in-11.is)
      | in_default w ↦ w.saturating_sub-is ∙ sym (one-lead c.args.code w.in_default.in_default-own.rest.1)
    ] in
    c.saturating_sub.ensures ∙ ap (λ (n : ℕ). c.args.items - n) lead
