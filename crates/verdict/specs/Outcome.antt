-- What a call comes to, as the definitions have it: a number and a place. Definitions only: nothing is assumed.
use Rattle.std.specs.Prelude.{ℕ, Result, Ok, Err}
use Rattle.verdict.specs.declared.Reason.{Reason}
use Rattle.verdict.specs.declared.Reason.TheVariants.{BadField, TooMany, OutOfRange, NotGiven, Taken, BadEnd, WrongSort, Misread, Misused, TooCostly, Unsound, BadList, ShortSpace, BadItem, Itself, NothingPending}
use Rattle.verdict.specs.declared.Reason.TheVariants.{DividedByZero, BadFile, Outside, BadName}
use Rattle.verdict.specs.declared.Refusal.{Refusal}

-- the number of each refusal
abbrev pub number_of : Reason → ℕ
number_of BadField = 1
number_of TooMany = 2
number_of OutOfRange = 3
number_of NotGiven = 4
number_of Taken = 5
number_of BadEnd = 6
number_of WrongSort = 7
number_of Misread = 8
number_of Misused = 9
number_of TooCostly = 10
number_of Unsound = 11
number_of BadList = 12
number_of ShortSpace = 13
number_of BadItem = 14
number_of Itself = 15
number_of NothingPending = 16
number_of DividedByZero = 17
number_of BadFile = 18
number_of Outside = 19
number_of BadName = 20

-- a refusal and its place
abbrev pub refusal_at : Refusal → ℕ × ℕ
refusal_at r = (number_of r.reason, r.place)

-- 0 and 0, or the refusal; 0 and a length, or the refusal
abbrev pub outcome : Result Unit Refusal → ℕ × ℕ
outcome (Ok u) = (0, 0)
outcome (Err r) = refusal_at r

abbrev pub length_outcome : Result ℕ Refusal → ℕ × ℕ
length_outcome (Ok n) = (0, n)
length_outcome (Err r) = refusal_at r
