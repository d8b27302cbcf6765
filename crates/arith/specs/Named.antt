-- The operators of the code as those of crate number. Definitions only: nothing is assumed.
use Rattle.number.specs.Number.{add, sub, mul, div, lt, gt, ge, eq, ne}
use Rattle.number.specs.Number as number
use Rattle.arith.specs.declared.operator.Operator.{Operator}
use Rattle.arith.specs.declared.operator.Operator.TheVariants.{Plus, Minus, Times, Over, Less, More, AtLeast, Same, Differs}

abbrev pub named : Operator → number.Operator
named Plus = add
named Minus = sub
named Times = mul
named Over = div
named Less = lt
named More = gt
named AtLeast = ge
named Same = eq
named Differs = ne
