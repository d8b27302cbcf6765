-- `vocabulary::seek` meets its contract. Assumes nothing.
use mathlib.Core.Path.{◌∙◌}
use Rattle.std.proofs.Common.{rules, tests}
use Rattle.std.specs.Str.{bytes_eq}
use Rattle.std.proofs.lemmas.Iterator.{YieldsList-from_slice}
use Rattle.std.proofs.lemmas.Iterator.Search.{position_from_yields_List}
use Rattle.vocabulary.proofs.Turns.{sought}
use Rattle.vocabulary.proofs.seek.Goals as goal

pub returns-clause-index : goal.returns-clause-index
returns-clause-index c =
    let e = position_from_yields_List (λ k. bytes_eq c.args.w.now k.now) _ _ _ c.position.ensures.ran (YieldsList-from_slice c.args.words.now cc) (λ x b q k. search (rules, tests)) in
    c.unwrap_or.ensures ∙ sought c.args.w.now c.args.words.now _ e
