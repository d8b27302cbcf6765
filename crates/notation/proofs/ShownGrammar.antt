-- Trees, how they are written and which are fine, by computation. Assumes nothing.
use mathlib.Core.Path.{◌≡◌, refl}
use mathlib.Core.List.{List, [], ◌∷◌, map}
use Prim.Native.Nat.{ℕ}
use Prim.Native.String.{String}
use native.Mathlib.Omega.{arith}
use Rattle.notation.specs.Words.{ascii}
use Rattle.notation.specs.Grammar.{Tree, leaf, form, Items, nil, expr, bare, Def, tokens, def_tokens, program_tokens, Fine, Names, FineDef, FineProgram}
use Rattle.notation.proofs.Lexing.{lex}
use Rattle.notation.proofs.Shown.{opened}

-- a word alone; a form of expressions; one that leads with a bare word
abbrev w : String → Tree
w s = leaf (ascii s)

abbrev exprs : List Tree → Items
exprs [] = nil
exprs (t ∷ ts) = expr t (exprs ts)

abbrev of : String → List Tree → Tree
of h ts = form (ascii h) (exprs ts)

abbrev led : String → String → List Tree → Tree
led h x ts = form (ascii h) (bare (ascii x) (exprs ts))

abbrev def : String → List String → Tree → Def
def f xs t = record { name = ascii f; params = map ascii xs; body = t }

-- how trees are written: "with the names and operators of source document 000", `e ::= .. (f ē)`, `(rep x e e)`
spelling : (tokens (w "x") ≡ lex (ascii "x")) × (tokens (of "f" []) ≡ lex (ascii "(f)")) × (tokens (of "f" (w "1" ∷ of "g" (w "2" ∷ []) ∷ w "3" ∷ [])) ≡ lex (ascii "(f 1 (g 2) 3)"))
    × (tokens (led "rep" "x" (w "0" ∷ of "+" (w "x" ∷ w "1" ∷ []) ∷ [])) ≡ lex (ascii "(rep x 0 (+ x 1))"))
unfolding opened
spelling = (refl, refl, refl, refl)

-- "`(def F (x ..) e)` forms with 0 to 4 parameters, then one expression"
definitions : (def_tokens (def "f" [] (w "1")) ≡ lex (ascii "(def f () 1)"))
    × (program_tokens (record { defs = def "f" ("a" ∷ "b" ∷ []) (w "a") ∷ def "g" [] (of "f" (w "1" ∷ w "2" ∷ [])) ∷ []; main = of "g" [] }) ≡ lex (ascii "(def f (a b) a) (def g () (f 1 2)) (g)"))
    × (program_tokens (record { defs = []; main = w "1" }) ≡ lex (ascii "1"))
unfolding opened
definitions = (refl, refl, refl)

-- "A call may have any number of operands", all of them fine
calls : Fine (of "f" []) × Fine (of "f" (w "1" ∷ w "x" ∷ w "inf" ∷ of "g" [] ∷ w "-1" ∷ w "2" ∷ [])) × (Fine (led "f" "x" []) → ⊥) × (Fine (of "f" (w "1" ∷ of "+" [] ∷ [])) → ⊥)
unfolding opened
calls = (tt, (refl, (refl, (refl, (tt, (refl, (refl, tt)))))), λ h. h, λ h. h.1.0)

-- the operands of each kind, no more and no less
two : Fine (of "+" (w "1" ∷ w "2" ∷ [])) × (Fine (of "+" []) → ⊥) × (Fine (of "+" (w "1" ∷ [])) → ⊥) × (Fine (of "+" (w "1" ∷ w "2" ∷ w "3" ∷ [])) → ⊥)
    × (Fine (led "+" "x" (w "1" ∷ w "2" ∷ [])) → ⊥)
unfolding opened
two = ((refl, (refl, tt)), λ h. h, λ h. h.1, λ h. h.1.1, λ h. h)

three : Fine (of "if" (w "1" ∷ w "2" ∷ w "3" ∷ [])) × Fine (of "mux" (w "1" ∷ w "2" ∷ w "3" ∷ [])) × (Fine (of "if" (w "1" ∷ w "2" ∷ [])) → ⊥)
    × (Fine (of "mux" (w "1" ∷ w "2" ∷ w "3" ∷ w "4" ∷ [])) → ⊥)
unfolding opened
three = ((refl, (refl, (refl, tt))), (refl, (refl, (refl, tt))), λ h. h.1.1, λ h. h.1.1.1)

one-or-none : Fine (of "sense" (w "1" ∷ [])) × Fine (of "nbr" (w "1" ∷ [])) × Fine (of "nbr-range" []) × Fine (of "nbr-lag" []) × (Fine (of "nbr" []) → ⊥)
    × (Fine (of "nbr-range" (w "1" ∷ [])) → ⊥)
unfolding opened
one-or-none = ((refl, tt), (refl, tt), tt, tt, λ h. h, λ h. h)

-- a rep leads with what it binds, a fold with its function
leading : Fine (led "rep" "x" (w "0" ∷ w "x" ∷ [])) × Fine (led "rep" "if" (w "0" ∷ w "1" ∷ [])) × Fine (led "fold-hood*" "+" (w "0" ∷ of "nbr" (w "1" ∷ []) ∷ []))
    × Fine (led "fold-hood*" "min" (w "0" ∷ w "1" ∷ []))
unfolding opened
leading = ((refl, (refl, (refl, tt))), (refl, (refl, (refl, tt))), (refl, (refl, ((refl, tt), tt))), (refl, (refl, (refl, tt))))

not-leading : (Fine (led "rep" "+" (w "0" ∷ w "1" ∷ [])) → ⊥) × (Fine (led "fold-hood*" "if" (w "0" ∷ w "1" ∷ [])) → ⊥) × (Fine (of "rep" (w "x" ∷ w "0" ∷ w "x" ∷ [])) → ⊥)
    × (Fine (of "fold-hood*" (w "min" ∷ w "0" ∷ w "1" ∷ [])) → ⊥) × (Fine (led "rep" "x" []) → ⊥)
unfolding opened
not-leading =
    (λ h. let q = h.0 in let z : ◌≡◌ {A = ℕ} 0 1 = cc in omega arith, λ h. let q = h.0 in let z : ◌≡◌ {A = ℕ} 0 1 = cc in omega arith, λ h. h, λ h. h, λ h. h.1)

-- "elsewhere it is only itself": alone, and where no form begins with it; a definition is no expression
only-itself : (Fine (w "if") → ⊥) × (Fine (w "+") → ⊥) × (Fine (of "inf" []) → ⊥) × (Fine (of "1" (w "2" ∷ [])) → ⊥) × (Fine (of "def" []) → ⊥) × (Fine (led "def" "f" (w "1" ∷ [])) → ⊥)
unfolding opened
only-itself = (λ q. let z : ◌≡◌ {A = ℕ} 0 1 = cc in omega arith, λ q. let z : ◌≡◌ {A = ℕ} 0 1 = cc in omega arith, λ h. h, λ h. h, λ h. h, λ h. h)

-- "0 to 4 parameters"
four : Names 4 [] × Names 4 (map ascii ("a" ∷ "b" ∷ "c" ∷ "if" ∷ [])) × (Names 4 (map ascii ("a" ∷ "b" ∷ "c" ∷ "d" ∷ "e" ∷ [])) → ⊥) × (Names 4 (map ascii ("+" ∷ [])) → ⊥)
    × (Names 4 (map ascii ("a" ∷ "1" ∷ [])) → ⊥)
unfolding opened
four = (
  tt,
  (refl, (refl, (refl, (refl, tt)))),
  λ h. h.1.1.1.1,
  λ h. let q = h.0 in let z : ◌≡◌ {A = ℕ} 0 1 = cc in omega arith,
  λ h. let q = h.1.0 in let z : ◌≡◌ {A = ℕ} 0 1 = cc in omega arith,
)

-- a definition's name, its parameters and its body; reserved names are left to 20
definition : FineDef (def "f" ("a" ∷ "b" ∷ "c" ∷ "d" ∷ []) (w "a")) × FineDef (def "if" ("inf" ∷ []) (w "inf"))
unfolding opened
definition = (record { named = refl; at_most_four = (refl, (refl, (refl, (refl, tt)))); fine = refl }, record { named = refl; at_most_four = (refl, tt); fine = refl })

no-definition : (FineDef (def "f" ("a" ∷ "b" ∷ "c" ∷ "d" ∷ "e" ∷ []) (w "a")) → ⊥) × (FineDef (def "+" [] (w "1")) → ⊥) × (FineDef (def "f" [] (w "if")) → ⊥)
    × (FineDef (def "f" [] (of "def" [])) → ⊥)
unfolding opened
no-definition =
    (λ d. d.at_most_four.1.1.1.1, λ d. let q = d.named in let z : ◌≡◌ {A = ℕ} 0 1 = cc in omega arith, λ d. let q = d.fine in let z : ◌≡◌ {A = ℕ} 0 1 = cc in omega arith, λ d. d.fine)

-- a program's definitions and its expression
program : FineProgram (record { defs = def "f" [] (w "1") ∷ def "g" [] (w "x") ∷ []; main = of "g" [] })
unfolding opened
program = record { definitions = (record { named = refl; at_most_four = tt; fine = refl }, (record { named = refl; at_most_four = tt; fine = refl }, tt)); main = tt }

no_program : (FineProgram (record { defs = def "f" [] (w "1") ∷ def "f" [] (of "inf" []) ∷ []; main = w "1" }) → ⊥) × (FineProgram (record { defs = []; main = of "nbr" [] }) → ⊥)
unfolding opened
no_program = (λ p. p.definitions.1.0.fine, λ p. p.main)
