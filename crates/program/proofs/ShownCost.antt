-- "Main may cost 1,000,000.": a program of just that cost and one of one more, by computation. Assumes nothing.
use mathlib.Core.Path.{◌≡◌, refl}
use mathlib.Core.List.{List, [], ◌∷◌, ◌++◌}
use Prim.Native.Nat.{ℕ, zero, suc, ◌+◌, ◌-◌}
use Rattle.program.specs.Check.{check}
use Rattle.program.proofs.Shown.{opened, node, define, main, number}

-- k times sense, from node m on, of the node before
abbrev senses : ℕ → ℕ → List ℕ
senses m zero = []
senses m (suc k) = node (4 ∷ (m - 1) ∷ []) ++ senses (suc m) k

-- from node m on: three calls of definition d, a mux of them, s times sense, all of it a definition. Costs three times the body of d, 4 and s
abbrev three-calls : ℕ → ℕ → ℕ → ℕ → List ℕ
three-calls count d m s = node (12 ∷ d ∷ []) ++ node (12 ∷ d ∷ []) ++ node (12 ∷ d ∷ []) ++ node (7 ∷ m ∷ (1 + m) ∷ (2 + m) ∷ []) ++ senses (4 + m) s ++ define count (3 + m + s)

-- the bodies of definitions 0 to 9 cost 1, 8, 28, 89, 272, 821, 2,467, 7,405, 22,220 and 66,666. A fold by definition 9, of count parameters, 999,993; k times sense
abbrev to-the-fold : ℕ → ℕ → List ℕ
to-the-fold count k =
    number 0 ++ define 0 0 ++ three-calls 0 0 1 1 ++ three-calls 0 1 6 0 ++ three-calls 0 2 10 1 ++ three-calls 0 3 15 1 ++ three-calls 0 4 20 1 ++ three-calls 0 5 25 0
    ++ three-calls 0 6 29 0 ++ three-calls 0 7 33 1 ++ three-calls count 8 38 2
    ++ number 0 ++ node (9 ∷ 1 ∷ []) ++ node (11 ∷ 9 ∷ 44 ∷ 45 ∷ []) ++ senses 47 k

abbrev costly : ℕ → ℕ → List ℕ
costly count k = to-the-fold count k ++ main (46 + k)

-- "main's cost above 1,000,000": 10, place 0; behind 9, at the fold by a definition of three parameters
cost-limit : (check (costly 2 7) ≡ (0, 0)) × (check (costly 2 8) ≡ (10, 0)) × (check (costly 3 8) ≡ (9, 46))
unfolding opened
cost-limit = (refl, refl, refl)

-- a definition that main does not call may cost more
uncalled : check (to-the-fold 2 8 ++ define 0 54 ++ number 0 ++ main 55) ≡ (0, 0)
unfolding opened
uncalled = refl
