-- Which names resolve: refusal 20, by computation. Assumes nothing.
use mathlib.Core.Path.{refl}
use mathlib.Core.List.{[], ◌∷◌}
use Rattle.translation.proofs.Shown.{opened, AllRefused, all-refused, AllAccepted, all-accepted}

-- "a head or fold's function to an earlier definition, others to the nearest binder"; "an unresolved .. name 20"
unbound : AllRefused ("x" ∷ "(+ x 1)" ∷ "(+ 1 x)" ∷ "(def f (a) b) (f 1)" ∷ "(def f (a) a) (+ (f 1) a)" ∷ "(def f (a) a) (f a)" ∷ "(def f (a) a) (def g () a) 1" ∷ "(def f () x) (rep x 0 (f))"
    ∷ "(+ (rep x 0 x) x)" ∷ "(+ x (rep x 0 x))" ∷ "(rep y 0 (+ (rep x 0 x) x))" ∷ "(if 1 2 x)" ∷ "(fold-hood* + 0 (nbr x))" ∷ []) (20, 0)
unfolding opened
unbound = all-refused _ _ (refl, refl) refl refl

undefined : AllRefused ("(f)" ∷ "(+ 1 (f))" ∷ "(fold-hood* f 0 (nbr 1))" ∷ "(def g (a b) a) (fold-hood* f 0 (nbr 1))" ∷ "(share 1)" ∷ []) (20, 0)
unfolding opened
undefined = all-refused _ _ (refl, refl) refl refl

-- "an earlier definition": not its own, nor a later one
earlier : AllRefused ("(def f () (f)) 1" ∷ "(def f (a) (f a)) (f 1)" ∷ "(def f () (g)) (def g () 1) (f)" ∷ "(def f () (fold-hood* g 0 (nbr 1))) (def g (a b) a) (f)" ∷ []) (20, 0)
unfolding opened
earlier = all-refused _ _ (refl, refl) refl refl

-- two name spaces (L4.9): a definition is no value, a binder no head and no fold's function
two-name-spaces : AllRefused ("(def f () 1) f" ∷ "(def f () 1) (+ f 1)" ∷ "(def f (g) (g)) 1" ∷ "(rep f 0 (f))" ∷ "(def f (g) (fold-hood* g 0 (nbr 1))) (f 1)"
    ∷ "(rep g 0 (fold-hood* g 0 (nbr 1)))" ∷ []) (20, 0)
unfolding opened
two-name-spaces = all-refused _ _ (refl, refl) refl refl

alike-in-both : AllAccepted ("(def f (f) f) (f 1)" ∷ "(def f () 1) (def g (f) (+ (f) f)) (g 1)" ∷ "(def f () 1) (rep f 0 (+ f (f)))"
    ∷ "(def g (a b) a) (rep g 0 (+ g (fold-hood* g 0 (nbr g))))" ∷ [])
unfolding opened
alike-in-both = all-accepted _ (refl, refl) refl refl

-- "a rep binds in its update only"
update-only : AllRefused ("(rep x x 1)" ∷ "(rep x (+ x 1) x)" ∷ "(rep x (rep y x y) x)" ∷ "(rep x (rep y 0 x) x)" ∷ []) (20, 0)
unfolding opened
update-only = all-refused _ _ (refl, refl) refl refl

-- its initial part sees what is around the rep (L4.11), which may have the same name: "repeated (definition, or parameter of one)" (L4.10)
bound-again : AllAccepted ("(rep x 0 (rep x x x))" ∷ "(rep y 1 (rep x y (+ x y)))" ∷ "(def f (x) (rep x x x)) (f 1)" ∷ "(rep x 0 (+ (rep x 1 x) x))" ∷ "(+ (rep x 0 x) (rep x 0 x))"
    ∷ "(def f (a) a) (def g (a) a) (+ (f 1) (g 1))" ∷ "(def f (a) a) (rep a 0 (f a))" ∷ [])
unfolding opened
bound-again = all-accepted _ (refl, refl) refl refl

-- "repeated (definition, or parameter of one)"
repeated : AllRefused ("(def f () 1) (def f () 1) 1" ∷ "(def f () 1) (def g () 2) (def f (a) a) (g)" ∷ "(def f () 1) (def g () 2) (def g () 2) 1" ∷ "(def f (a a) a) (f 1 2)"
    ∷ "(def f (a b a) 1) 1"
    ∷ "(def f (a b c c) 1) 1" ∷ "(def f (a b b c) 1) 1" ∷ []) (20, 0)
unfolding opened
repeated = all-refused _ _ (refl, refl) refl refl

-- "where something is bound it is a reserved name": a definition, a parameter, a rep's variable
reserved-definitions : AllRefused ("(def def () 1) 1" ∷ "(def sense () 1) 1" ∷ "(def rep () 1) 1" ∷ "(def if () 1) 1" ∷ "(def mux () 1) 1" ∷ "(def nbr () 1) 1" ∷ "(def nbr-range () 1) 1"
    ∷ "(def nbr-lag () 1) 1"
    ∷ "(def fold-hood* () 1) 1" ∷ "(def inf () 1) 1" ∷ "(def f () 1) (def if () 1) (f)" ∷ []) (20, 0)
unfolding opened
reserved-definitions = all-refused _ _ (refl, refl) refl refl

reserved-parameters : AllRefused ("(def f (def) 1) 1" ∷ "(def f (inf) inf) (f 1)" ∷ "(def f (a if) a) (f 1 2)" ∷ "(def f (a b c nbr) 1) 1" ∷ []) (20, 0)
unfolding opened
reserved-parameters = all-refused _ _ (refl, refl) refl refl

reserved-variables : AllRefused ("(rep if 0 1)" ∷ "(rep inf 0 inf)" ∷ "(rep rep 0 1)" ∷ "(+ 1 (rep nbr-lag 0 1))" ∷ "(def f () (rep def 0 1)) 1" ∷ []) (20, 0)
unfolding opened
reserved-variables = all-refused _ _ (refl, refl) refl refl

-- words of no reserved name (L4.13)
good-names : AllAccepted ("(def share () 1) (share)" ∷ "(rep share 0 share)" ∷ "(def iffy (nbr-) nbr-) (iffy 1)" ∷ "(def abcdefghijklmnop () 1) (abcdefghijklmnop)" ∷ [])
unfolding opened
good-names = all-accepted _ (refl, refl) refl refl

-- "in that order, then table refusals with theirs": 20 although the table would be refused, too
before-the-table : AllRefused ("(nbr x)" ∷ "(def f (a) a) (+ (f) (f x))" ∷ "(def f (a) (f)) 1" ∷ "(def if (a) a) (f 1 2)" ∷ []) (20, 0)
unfolding opened
before-the-table = all-refused _ _ (refl, refl) refl refl
