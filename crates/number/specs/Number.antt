-- Numbers, and the nine operators on them. Definitions only: nothing is assumed.
use Rattle.std.specs.Prelude.{Bool, true, false, not, cond, [], ◌∷◌, ℕ, get_or, eqb, ℤ, pos, negsuc, ◌+ℤ◌, ◌-ℤ◌, ◌*ℤ◌}
use Rattle.std.specs.Int.Signed.{lt_z, quot_z}

-- "A number is a signed 32-bit whole number from -2,147,483,647 (called floor) to 2,147,483,647 (called inf)."
abbrev pub floor : ℤ
floor = negsuc 2147483646

abbrev pub inf : ℤ
inf = pos 2147483647

-- "The mark -2,147,483,648 means absent."
abbrev pub mark : ℤ
mark = negsuc 2147483647

abbrev pub eq_z : ℤ → ℤ → Bool
eq_z (pos a) (pos b) = eqb a b
eq_z (pos a) (negsuc b) = false
eq_z (negsuc a) (pos b) = false
eq_z (negsuc a) (negsuc b) = eqb a b

-- "Operators 0–8: + - × / < > >= == !="
pub data Operator : Type 0 where
  add sub mul div lt gt ge eq ne : Operator

unfoldable pub operator_of : ℕ → Operator
operator_of o = get_or (add ∷ sub ∷ mul ∷ div ∷ lt ∷ gt ∷ ge ∷ eq ∷ ne ∷ []) o ne

-- "Arithmetic is exact, then brought into floor..inf."
unfoldable pub brought : ℤ → ℤ
brought z = cond (lt_z inf z) inf (cond (lt_z z floor) floor z)

-- "+ with an inf is inf"
unfoldable pub plus : ℤ → ℤ → ℤ
plus x y = cond (eq_z x inf) inf (cond (eq_z y inf) inf (brought (x +ℤ y)))

-- "inf - n is inf; n - inf is floor for other n"
unfoldable pub minus : ℤ → ℤ → ℤ
minus x y = cond (eq_z x inf) inf (cond (eq_z y inf) floor (brought (x -ℤ y)))

-- × has no rule of its own for inf
unfoldable pub times : ℤ → ℤ → ℤ
times x y = brought (x *ℤ y)

-- "inf / n is inf for n > 0, floor for n < 0; n / inf is 0 for other n. Division drops the fraction."
unfoldable pub over : ℤ → ℤ → ℤ
over x y = cond (eq_z x inf) (cond (lt_z (pos 0) y) inf floor) (cond (eq_z y inf) (pos 0) (brought (quot_z x y)))

-- "Comparisons give 1 or 0."
abbrev pub truth : Bool → ℤ
truth true = pos 1
truth false = pos 0

unfoldable pub operation_result : Operator → ℤ → ℤ → ℤ
operation_result add x y = plus x y
operation_result sub x y = minus x y
operation_result mul x y = times x y
operation_result div x y = over x y
operation_result lt x y = truth (lt_z x y)
operation_result gt x y = truth (lt_z y x)
operation_result ge x y = truth (not (lt_z x y))
operation_result eq x y = truth (eq_z x y)
operation_result ne x y = truth (not (eq_z x y))

-- "Divisor 0 faults always."
unfoldable pub faults : Operator → ℤ → Bool
faults add y = false
faults sub y = false
faults mul y = false
faults div y = eq_z y (pos 0)
faults lt y = false
faults gt y = false
faults ge y = false
faults eq y = false
faults ne y = false
