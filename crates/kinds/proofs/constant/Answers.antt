-- `kinds::constant` meets its contract. Assumes nothing.
use Rattle.std.proofs.Common.{arith, refl}
use Rattle.shapes.specs.Kinds.{constant_kind}
use Rattle.shapes.proofs.Inside.{constant-out, constant-in}
use Rattle.kinds.proofs.Fields.{form, shaped, wrong-length, body-refused, read, out_of_range, children-last, no-children, word-parts}
use Rattle.kinds.proofs.constant.Goals as goal

pub returns-in_default : goal.returns-in_default
returns-in_default c = λ n defs counts m h. wrong-length (shaped h (form constant_kind (omega arith))) (λ z. omega arith)

pub returns-in_default-2 : goal.returns-in_default-2
returns-in_default-2 c = λ n defs counts m h. wrong-length (shaped h (form constant_kind (omega arith))) (λ z. omega arith)

pub returns-then-constant : goal.returns-then-constant
returns-then-constant c =
    λ n defs counts m h. body-refused (shaped h (form constant_kind (omega arith))) (word-parts c.args.s.now (omega arith) c.be32-constant.ensures)
    (out_of_range (constant-out c.if-constant.true).is)

pub returns : goal.returns
returns c =
    λ n defs counts m h. read (shaped h (form constant_kind (omega arith))) (word-parts c.args.s.now (omega arith) c.be32-constant.ensures) refl
    (children-last (constant-in c.if-constant.false).is refl no-children refl refl)
    (rw c.none.ensures)
