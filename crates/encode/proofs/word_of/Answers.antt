-- `encode::word_of` meets its contract. Assumes nothing.
use native.Mathlib.Omega.{arith}
use Rattle.shapes.specs.Kinds.{number_of}
use Rattle.shapes.proofs.ByKind.{kind-known}
use Rattle.encode.proofs.Words.{form-fits}
use Rattle.encode.proofs.word_of.Goals as goal

pub parts_word-requires : goal.parts_word-requires
parts_word-requires c = (
  rw c.form_by.ensures (form-fits (number_of c.args.x.kind) c.args.side c.args.branch (kind-known c.args.x.kind)),
  rw c.item_by.ensures c.requires.item,
  omega arith,
)
