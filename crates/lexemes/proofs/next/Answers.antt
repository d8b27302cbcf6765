-- `lexemes::next` meets its contract. Assumes nothing.
use Rattle.std.proofs.Common.{◌≡◌, ◌+◌, drop, arith, rules}
use Rattle.std.proofs.lemmas.Grind.{common_steps}
use Rattle.lexemes.specs.Lexeme.{word_size}
use Rattle.lexemes.proofs.Whole.{word-next}
use Rattle.lexemes.proofs.next.Goals as goal

pub returns-in-Word : goal.returns-in-Word
returns-in-Word c =
    let w = word-next c.args.s.now c.args.at (c.args.at + c.blanks_at_front.result) c.in_ok-get.field-0.now c.requires (grind (arith, common_steps)) (search rules) (search rules)
    (search rules) in
    let n : c.word_at_front.result ≡ word_size (drop (c.args.at + c.blanks_at_front.result + 1) c.args.s.now) = grind (arith, common_steps) in
    rw (c.in-Word.is, n) w
