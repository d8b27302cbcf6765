-- Forms of a short text and the fronts of two, by computation. Assumes nothing.
use mathlib.Core.Path.{◌≡◌, refl}
use mathlib.Core.Bool.{true, false}
use mathlib.Core.List.{List}
use Prim.Native.Nat.{ℕ}
use native.Mathlib.Omega.{arith}
use Rattle.std.specs.Prelude.{Some}
use lib.ListN.{take, drop}
use Rattle.notation.specs.Words.{ascii}
use Rattle.notation.specs.Text.{byte_kind}
use Rattle.notation.proofs.Lexing.{lex}
use Rattle.tabling.specs.Emit.{around, is_definition}
use Rattle.forms.specs.declared.Form.{Form}
use Rattle.forms.specs.Closes.{Closes}

abbrev text : List ℕ
text = ascii "(f 1) (rep a 0 (+ a (g 2)))"

abbrev behind : ℕ
behind = 6

-- (+ a (g 2)) ends 19 bytes into the second form: its bracket stands 9 into it, three items, its head +, the word behind that a
inner-shown : (f : Form) → f.«open» ≡ 9 → f.items ≡ 3 → f.head.now ≡ ascii "+" → f.second.now ≡ ascii "a" → Closes (take 19 (drop behind text)) (Some f)
unfolding around byte_kind
inner-shown f o i h w = record { inside = (rw o (omega arith), rw i (omega arith)); same = rw (o, i, h, w) refl }

-- the rep ends 20 bytes into it, and its bracket is the first: four items, its head rep, its name a
outer-shown : (f : Form) → f.«open» ≡ 0 → f.items ≡ 4 → f.head.now ≡ ascii "rep" → f.second.now ≡ ascii "a" → Closes (take 20 (drop behind text)) (Some f)
unfolding around byte_kind
outer-shown f o i h w = record { inside = (rw o (omega arith), rw i (omega arith)); same = rw (o, i, h, w) refl }

fronts-shown : (is_definition (lex (ascii "(def f (x y) (+ x y)")) ≡ true) × (is_definition (lex (ascii "(rep def 0 1")) ≡ false) × (is_definition (lex (ascii "(")) ≡ false)
unfolding byte_kind
fronts-shown = (refl, refl, refl)
