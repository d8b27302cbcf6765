-- `compile::token_done` meets its contract. Assumes nothing.
use Rattle.std.specs.Prelude.{take}
use Rattle.notation.specs.Words.{between}
use Rattle.notation.proofs.Lexing.{lex}
use Rattle.token_scans.specs.declared.Mode.TheVariants.{Elsewhere}
use Rattle.compile.proofs.Adding.{adds-nothing, adds-as, mode-is, mode-not, on-opening, on_word, on-name}
use Rattle.compile.proofs.token_done.Goals as goal

pub returns-in-Opening : goal.returns-in-Opening
returns-in-Opening c =
    rw c.in-Opening.is
    (adds-nothing _ _ c.requires.4 _ (λ q. on-opening (lex (take c.args.top c.args.s.now)) (lex (between c.args.top c.args.l.start c.args.s.now)) _ _ q))

pub returns-then-eq : goal.returns-then-eq
returns-then-eq c =
    rw c.in-Word.is
    (adds-as _ _ _ _ _ _ (λ q. on_word (lex (take c.args.top c.args.s.now)) (lex (between c.args.top c.args.l.start c.args.s.now)) _ _ q _
    (mode-is c.args.mode Elsewhere _ c.eq.ensures c.if-eq.true))
    c.word_done.ensures)

pub returns-else-eq : goal.returns-else-eq
returns-else-eq c =
    rw c.in-Word.is
    (adds-nothing _ _ c.requires.4 _ (λ q. on-name (lex (take c.args.top c.args.s.now)) (lex (between c.args.top c.args.l.start c.args.s.now)) _ _ q _
    (mode-not c.args.mode Elsewhere _ c.eq.ensures c.if-eq.false)))
