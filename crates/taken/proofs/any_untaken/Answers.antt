-- `taken::any_untaken` meets its contract. Assumes nothing.
use Rattle.std.proofs.Common.{◌≡◌, not, take, rules, tests, ◌∙◌, arith}
use Rattle.std.specs.List.{list_any}
use Rattle.std.proofs.lemmas.Iterator.Search.{any_from_yields_List}
use Rattle.std.proofs.lemmas.Iterator.{YieldsList-from_slice}
use Rattle.taken.proofs.Walk.{untaken_any}
use Rattle.taken.proofs.any_untaken.Goals as goal

pub returns : goal.returns
returns c =
    let e : c.any.result ≡ list_any not (take c.args.n c.args.named.now) =
    any_from_yields_List not _ _ c.any.result c.any.ensures.ran (YieldsList-from_slice (take c.args.n c.args.named.now) cc) (λ x b q k. search (rules, tests)) in
    e ∙ untaken_any c.args.n c.args.named.now (omega arith)
