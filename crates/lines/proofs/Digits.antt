-- A number as std spells it is this crate's `decimal`, and `signed_text` with its sign. Assumes nothing.
use Rattle.std.proofs.Common.{◌≡◌, ℕ, zero, suc, ◌+◌, ◌/◌, ◌%◌, ◌^◌, ◌<◌, ◌≤◌, List, [], ◌∷◌, ◌++◌, ℤ, pos, negsuc, refl, sym, ap, arith, mod-eq_of_lt}
use lib.Signed.{mag}
use borrow.Author.Tests.{lt-ltb, le-ltb}
use Rattle.std.specs.Fmt.{decimal as std_decimal, signed_decimal}
use Rattle.std.proofs.lemmas.Fmt.{decimal_from_appends, length-decimal-le_succ}
use Rattle.lines.specs.Text.{spelt, decimal, signed_text}

-- at most k digits
at_most : ℕ → ℕ → List ℕ
at_most zero n = []
at_most (suc k) n = spelt k n

one : (k n : ℕ) → n < 10 → at_most (suc k) n ≡ (48 + n) ∷ []
unfolding at_most spelt
one zero n h = rw (mod-eq_of_lt h)
one (suc k) n h = rw (lt-ltb n 10 h, mod-eq_of_lt h)

more : (k n : ℕ) → 10 ≤ n → at_most (suc k) n ≡ at_most k (n / 10) ++ ((48 + n % 10) ∷ [])
unfolding at_most spelt
more zero n h = refl
more (suc k) n h = rw (le-ltb n 10 h)

pub as_decimal : (n : ℕ) → n < 2 ^ 64 → std_decimal n ≡ decimal n
unfolding at_most decimal
as_decimal n h = sym (decimal_from_appends at_most (record { one = one; more = more }) (suc n) n h (omega (arith, length-decimal-le_succ n h)))

pub as_signed : (z : ℤ) → mag z < 2 ^ 63 → signed_decimal z ≡ signed_text z
unfolding signed_text
as_signed (pos n) h = as_decimal n (omega arith)
as_signed (negsuc n) h = ap (45 ∷◌) (as_decimal (suc n) (omega arith))
