-- `vocabulary::code` meets its contract. Assumes nothing.
use mathlib.Core.Path.{sym, ◌∙◌}
use native.Mathlib.Omega.{arith}
use Rattle.vocabulary.proofs.Constants.{empty}
use Rattle.vocabulary.proofs.Laws.{code-place, code-none, code-refused, code-name, code-digits}
use Rattle.vocabulary.proofs.code.Goals as goal

pub returns-in_default : goal.returns-in_default
returns-in_default c = rw (empty c.args.w.now c.in_default.len_below) code-none

pub returns-then-k-lt-NAME : goal.returns-then-k-lt-NAME
returns-then-k-lt-NAME c = let e = c.place-k.ensures in e ∙ code-place _ (omega arith)

pub returns-then-atom_front-w : goal.returns-then-atom_front-w
returns-then-atom_front-w c =
    let e = c.place-k.ensures in
    code-refused c.args.w.now c.in-len1-up.len_at_least (omega arith) _ c.atom_front.ensures c.if-atom_front-w.true

pub returns-then-is_letter : goal.returns-then-is_letter
returns-then-is_letter c =
    let e = c.place-k.ensures in
    code-name c.args.w.now c.in-len1-up.len_at_least (omega arith) _ c.atom_front.ensures c.if-atom_front-w.false (sym c.if-is_letter.true ∙ c.is_letter.ensures)

pub returns-else-is_letter : goal.returns-else-is_letter
returns-else-is_letter c =
    let e = c.place-k.ensures in
    code-digits c.args.w.now c.in-len1-up.len_at_least (omega arith) _ c.atom_front.ensures c.if-atom_front-w.false (sym c.if-is_letter.false ∙ c.is_letter.ensures)
