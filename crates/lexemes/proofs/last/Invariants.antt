-- `lexemes::last` keeps this in its loop: the token is the last of the bytes that are left.
use Rattle.std.specs.Prelude.{◌≡◌, length}
use Rattle.lexemes.specs.Lexeme.{last_lexeme}
use Rattle.lexemes.proofs.Back.{last_of}
use Rattle.lexemes.proofs.last.Given as goal

abbrev pub invariant-loop-rest : goal.invariant-loop-rest
invariant-loop-rest l = last_lexeme l.s l.at ≡ last_of l.rest

abbrev pub decreases-loop-rest : goal.decreases-loop-rest
decreases-loop-rest l = length l.rest
