-- A verdict as the definitions have it: a number and a place. Definitions only: nothing is assumed.
use Rattle.std.specs.Prelude.{ℕ}
use Rattle.verdict.specs.declared.Verdict.{Verdict}

abbrev pub pair : Verdict → ℕ × ℕ
pair v = (v.number, v.place)
