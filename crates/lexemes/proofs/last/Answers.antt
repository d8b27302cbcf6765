-- `lexemes::last` meets its contract. Assumes nothing.
use Rattle.std.proofs.Common.{◌≡◌, ◌-◌, reverse, length, take, arith, rules}
use Rattle.std.proofs.lemmas.Grind.{common_steps}
use Rattle.notation.specs.Text.{byte_kind}
use Rattle.lexemes.specs.Lexeme.{word_size}
use Rattle.lexemes.proofs.Back.{last-first, last-word}
use Rattle.lexemes.proofs.last.Goals as goal

pub loop-rest-init : goal.loop-rest-init
loop-rest-init c = last-first c.args.s.now c.args.at c.requires

pub returns-in_default-b : goal.returns-in_default-b
unfolding byte_kind
returns-in_default-b c =
    let n : c.word_at_end.result ≡ word_size (reverse (take (length c.loop-rest.rest.now - 1) c.loop-rest.rest.now)) = grind (arith, common_steps) in
    last-word c.loop-rest.rest.now c.in-len1-up.len_at_least (search rules) c.loop-rest.invariant _ (omega (arith, n))
