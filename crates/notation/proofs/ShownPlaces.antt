-- Texts, and the places of refusal 19, by computation. Assumes nothing.
use mathlib.Core.Path.{◌≡◌, refl}
use mathlib.Core.Bool.{true}
use mathlib.Core.List.{[], ◌∷◌}
use Rattle.notation.proofs.Shown.{opened, texts, refusals}

-- "`(def F (x ..) e)` forms with 0 to 4 parameters, then one expression": a text of each form
forms : texts ("1" ∷ "x" ∷ "inf" ∷ "(f)" ∷ "(f 1 2 3 4 5 6)" ∷ "(+ 1 2)" ∷ "(sense 1)" ∷ "(rep x 0 (+ x 1))" ∷ "(if 1 2 3)" ∷ "(mux 1 2 3)" ∷ "(nbr 1)" ∷ "(nbr-range)" ∷ "(nbr-lag)"
    ∷ "(fold-hood* + 0 (nbr 1))" ∷ "(fold-hood* min inf (nbr-range))" ∷ "(def f () 1) 1" ∷ "(def f (a b c d) a) (def g (a) a) (f 1 2 3 4)" ∷ []) ≡ true
unfolding opened
forms = refl

-- "then one expression": none, a second, a definition behind it
one-expression : refusals (("", 0) ∷ (" ", 1) ∷ ("(def f () 1)", 12) ∷ ("(def f () 1) ", 13) ∷ ("1 2", 2) ∷ ("1(f)", 1) ∷ ("1)", 1) ∷ ("1 (def f () 1)", 2) ∷ ("(f) 1", 4)
    ∷ ("(f) (f)", 4) ∷ []) ≡ true
unfolding opened
one-expression = refl

-- a definition stands at the outermost level, before the expression: within one, "(def" may still begin a name (L4.6)
outermost : refusals (("(+ (def", 7) ∷ ("(+ (def f () 1) 2)", 7) ∷ ("(+ (def)", 7) ∷ ("(def f (a) (def g () 1)) 1", 15) ∷ ("(def f () 1) (f (def g () 1))", 20) ∷ []) ≡ true
unfolding opened
outermost = refl

-- its parts
parts : refusals (("(def)", 4) ∷ ("(def (f) 1) 1", 5) ∷ ("(def f 1) 1", 7) ∷ ("(def f) 1", 6) ∷ ("(def f (a b", 11) ∷ ("(def f (a b)", 12) ∷ ("(def f ((a)) a) 1", 8) ∷ ("(def f ()) 1", 9)
    ∷ ("(def f () 1 2) 3", 12) ∷ ("(def f () (f", 12) ∷ ("def", 3) ∷ []) ≡ true
unfolding opened
parts = refl

-- "0 to 4 parameters": the fifth, where its first character stands
parameters : refusals (("(def f (a b c d e) 1) 1", 16) ∷ ("(def f (a b c d ) 1", 19) ∷ ("(def f (a b c d(", 15) ∷ ("(def f (a b c d\ne) 1) 1", 16) ∷ []) ≡ true
unfolding opened
parameters = refl

-- what is bound is a name (L4.1): 19 for an operator or a number, not for a reserved name
bound : (refusals (("(def + (a b) a) 1", 5) ∷ ("(def 1 () 1) 1", 5) ∷ ("(def -1 () 1) 1", 5) ∷ ("(def f (a *) a) 1", 10) ∷ ("(def f (2) 1) 1", 8) ∷ ("(rep 1 0 0)", 5)
    ∷ ("(rep + 0 0)", 5) ∷ ("(rep (x) 0 0)", 5) ∷ []) ≡ true)
    × (texts ("(def if () 1) 1" ∷ "(def f (inf rep) 1) 1" ∷ "(rep def 0 1)" ∷ []) ≡ true)
unfolding opened
bound = (refl, refl)

-- "elsewhere it is only itself": a word of the notation is no expression (L4.3); `if` may go on as a name does
only-itself : refusals (("if", 2) ∷ ("if ", 2) ∷ ("(f if)", 5) ∷ ("(f if 1)", 5) ∷ ("nbr-range", 9) ∷ ("(inf)", 4) ∷ ("(inf 1)", 4) ∷ ("+", 0) ∷ ("(sense +)", 7) ∷ ("(f +)", 3)
    ∷ ("(f -)", 4) ∷ []) ≡ true
unfolding opened
only-itself = refl

-- "A call may have any number of operands": the others have those of their kind (L4.3)
too_few : refusals (("(+ 1)", 4) ∷ ("(+)", 2) ∷ ("(if 1 2)", 7) ∷ ("(mux 1 2)", 8) ∷ ("(sense)", 6) ∷ ("(nbr)", 4) ∷ ("(rep x)", 6) ∷ ("(rep x 0)", 8) ∷ ("(fold-hood* +)", 13)
    ∷ ("(fold-hood* + 1)", 15) ∷ []) ≡ true
unfolding opened
too_few = refl

too_many : refusals (("(+ 1 2 3)", 7) ∷ ("(if 1 2 3 4)", 10) ∷ ("(mux 1 2 3 4)", 11) ∷ ("(sense 1 2)", 9) ∷ ("(nbr 1 2)", 7) ∷ ("(nbr-range 1)", 11) ∷ ("(nbr-lag 1)", 9) ∷ ("(nbr-range (f))", 11)
    ∷ ("(rep x 0 1 2)", 11) ∷ ("(fold-hood* + 1 2 3)", 18) ∷ []) ≡ true
unfolding opened
too_many = refl

-- the function of a fold is an operator or a name that is no word of the notation (L4.4)
fold : refusals (("(fold-hood* if 1 2)", 14) ∷ ("(fold-hood* inf 1 2)", 15) ∷ ("(fold-hood* 1 1 2)", 12) ∷ ("(fold-hood* -1 1 2)", 13) ∷ ("(fold-hood* (+) 1 2)", 12)
    ∷ ("(fold-hood* <= 1 2)", 13) ∷ []) ≡ true
unfolding opened
fold = refl

-- "the names and operators of source document 000, `<` and nbr-lag": no `<=`, and `=`, `!` only begin one; a head is a word
heads : refusals (("(<= 1 2)", 2) ∷ ("(-1 2)", 2) ∷ ("(+1 2)", 2) ∷ ("(= 1 2)", 2) ∷ ("(! 1 2)", 2) ∷ ("(=> 1 2)", 2) ∷ ("(=", 2) ∷ ("(1 2)", 1) ∷ ("()", 1) ∷ ("((f))", 1) ∷ ("( ", 2)
    ∷ (")", 0) ∷ []) ≡ true
unfolding opened
heads = refl

operators : texts ("(- 1 2)" ∷ "(* 1 2)" ∷ "(/ 1 2)" ∷ "(< 1 2)" ∷ "(> 1 2)" ∷ "(>= 1 2)" ∷ "(== 1 2)" ∷ "(!= 1 2)" ∷ []) ≡ true
unfolding opened
operators = refl

-- "one outside floor..inf is outside the grammar": 2147483648 is the first, and no text begins with it, leading zeros or not (L4.6); -2147483648 is below floor
numbers : (refusals (("2147483648", 9) ∷ ("002147483648", 11) ∷ ("-2147483648", 10) ∷ ("99999999999", 9) ∷ ("(f 21474836470)", 13) ∷ ("-", 1) ∷ ("--1", 1) ∷ ("-inf", 1) ∷ ("1x", 1)
    ∷ ("1.5", 1) ∷ ("1-", 1) ∷ []) ≡ true)
    × (texts ("2147483647" ∷ "-2147483647" ∷ "0000000000002147483647" ∷ "-0" ∷ "-007" ∷ []) ≡ true)
unfolding opened
numbers = (refl, refl)

-- "A name is 1 to 16 of a–z, digits, hyphen and star, beginning with a letter.": a 17th character
names : (refusals (("abcdefghijklmnopq", 16) ∷ ("(f abcdefghijklmnopq)", 19) ∷ ("(abcdefghijklmnopq)", 17) ∷ ("(def abcdefghijklmnopq () 1) 1", 21) ∷ ("X", 0) ∷ ("xX", 1) ∷ ("x_y", 1)
    ∷ ("*x", 0) ∷ ("-x", 1) ∷ []) ≡ true)
    × (texts ("abcdefghijklmnop" ∷ "(abcdefghijklmnop)" ∷ "x-" ∷ "x*" ∷ "x9" ∷ "iffy" ∷ "share" ∷ "(def share () 1) (share)" ∷ []) ≡ true)
unfolding opened
names = (refl, refl)

-- "Spaces, line ends (bytes 10, 13) and brackets part words.": blanks are needed nowhere else; a tab parts none and stands in none (L4.7)
blanks : (texts ("(def f()1)2" ∷ " ( f\n1\r2 ) " ∷ "(f 1(g)2)" ∷ "\r\n1\r\n" ∷ "(def f(a)a)(f 1)" ∷ []) ≡ true)
    × (refusals (("(+ 1\t2)", 4) ∷ ("\t1", 0) ∷ ("1\t", 1) ∷ ("x\t", 1) ∷ ("1\u{c}", 1) ∷ ("1\0", 1) ∷ ("1\u{a0}", 1) ∷ ("1,2", 1) ∷ []) ≡ true)
unfolding opened
blanks = (refl, refl)

-- a blank more or less can be another text, or none
blanks-that-matter : (texts ("(nbr-range)" ∷ "(nbr range)" ∷ "(nbrrange)" ∷ "(+ 1 2)" ∷ "(f 12)" ∷ "(f 1 2)" ∷ []) ≡ true) × (refusals (("(+ 12)", 5) ∷ ("(> = 1 2)", 3)
    ∷ ("(nbr -range)", 6) ∷ ("(deff () 1) 1", 7) ∷ []) ≡ true)
unfolding opened
blanks-that-matter = (refl, refl)
