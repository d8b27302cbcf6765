-- What an if makes absent, by computation. Assumes nothing.
use mathlib.Core.Path.{◌≡◌, refl}
use mathlib.Core.List.{List, [], ◌∷◌, ◌++◌, map}
use Prim.Native.Nat.{ℕ, suc}
use lib.ListN.{replicate, drop, take}
use lib.IntN.{pos}
use Rattle.number.specs.Number.{mark, add, div}
use Rattle.program.specs.Tree.{Expr, nothing, parameter, variable, operator, sense, rep, branch, mux, nbr, range, lag, fold_op, fold_def, call}
use Rattle.round.specs.Round.{Outcome, number, done, erased, fired}
use Rattle.round.proofs.ShownCells.{opened, number_of, keeps, unsent, state, start, full, cells, in-state, outcome}

-- variable v held v; now the first k are absent
abbrev gone : ℕ → Outcome
gone k = done (number (pos 7)) (state (replicate k mark ++ drop k full) unsent)

-- an if that does not take e
abbrev else-taken : Expr → Outcome
else-taken e = in-state (state full unsent) (branch (number_of 0) e (number_of 7))

abbrev then-taken : Expr → Outcome
then-taken e = in-state (state full unsent) (branch (number_of 1) (number_of 7) e)

-- "An if makes absent the variables of reps in the other branch", wherever they stand there
abbrev others : List Expr
others =
    operator 5 add (keeps 0) (keeps 1)
    ∷ sense (keeps 0)
    ∷ rep 0 (keeps 1) (keeps 2)
    ∷ branch (keeps 0) (keeps 1) (keeps 2)
    ∷ mux (keeps 0) (keeps 1) (keeps 2)
    ∷ nbr 1 (keeps 0)
    ∷ fold_op 5 add (keeps 0) (nbr 1 (keeps 1))
    ∷ []

in-every-operand : map else-taken others ≡ map gone (2 ∷ 1 ∷ 3 ∷ 3 ∷ 3 ∷ 1 ∷ 2 ∷ [])
unfolding opened
in-every-operand = refl

whichever-branch : map then-taken others ≡ map gone (2 ∷ 1 ∷ 3 ∷ 3 ∷ 3 ∷ 1 ∷ 2 ∷ [])
unfolding opened
whichever-branch = refl

-- "those in definitions called there, at any depth, included": of a call, of a call in a called definition, of a call in an argument, of a fold
called : map else-taken (
    call (keeps 0) (keeps 1) (keeps 2) (keeps 3) (keeps 4)
    ∷ call (call (call (keeps 0) nothing nothing nothing nothing) nothing nothing nothing nothing) nothing nothing nothing nothing
    ∷ call (number_of 1) (number_of 2) (call (operator 5 add (keeps 0) (keeps 1)) nothing nothing nothing nothing) nothing nothing
    ∷ fold_def (keeps 0) (keeps 1) (nbr 1 (keeps 2))
    ∷ rep 0 (number_of 1) (branch (number_of 1) (number_of 2) (rep 1 (number_of 3) (call (keeps 2) nothing nothing nothing nothing)))
    ∷ []) ≡ map gone (5 ∷ 1 ∷ 2 ∷ 3 ∷ 3 ∷ [])
unfolding opened
called = refl

-- nothing where there is no rep: a variable that is only read stays
leaves : map else-taken (number_of 1 ∷ parameter 5 1 ∷ variable 5 1 ∷ range 1 ∷ range 15 ∷ lag 1 ∷ lag 15 ∷ nothing ∷ []) ≡ map gone (0 ∷ 0 ∷ 0 ∷ 0 ∷ 0 ∷ 0 ∷ 0 ∷ 0 ∷ [])
unfolding opened
leaves = refl

-- every variable can be made absent, and each time only those
abbrev gone_at : ℕ → Outcome
gone_at v = done (number (pos 7)) (state (take v full ++ mark ∷ drop (suc v) full) unsent)

each-variable : map (λ v. else-taken (keeps v)) (0 ∷ 1 ∷ 8 ∷ 14 ∷ 15 ∷ []) ≡ map gone_at (0 ∷ 1 ∷ 8 ∷ 14 ∷ 15 ∷ [])
unfolding opened
each-variable = refl

-- what is already absent stays so
absent-stays : outcome (branch (number_of 0) (keeps 0) (number_of 7)) ≡ done (number (pos 7)) start
unfolding opened
absent-stays = refl

-- the variables of the condition and of the branch that is taken stay: those of the other go
abbrev kept : ℕ → Expr
kept v = rep v (number_of 0) (number_of 1)

condition-and-branch : (in-state (state full unsent) (branch (kept 0) (kept 1) (kept 2)) ≡ done (number (pos 1)) (state (pos 1 ∷ pos 1 ∷ mark ∷ drop 3 full) unsent))
    × (in-state (state full unsent) (branch (keeps 0) (kept 1) (kept 2)) ≡ done (number (pos 1)) (state (pos 60 ∷ mark ∷ pos 1 ∷ drop 3 full) unsent))
unfolding opened
condition-and-branch = (refl, refl)

-- so a rep starts again when its branch is taken again
starts-again : (in-state (state full unsent) (branch (number_of 1) (keeps 0) (number_of 7)) ≡ done (number (pos 60)) (state (pos 60 ∷ drop 1 full) unsent))
    × (in-state (state (mark ∷ drop 1 full) unsent) (branch (number_of 1) (keeps 0) (number_of 7)) ≡ done (number (pos 50)) (state (pos 50 ∷ drop 1 full) unsent))
unfolding opened
starts-again = (refl, refl)

-- a mux makes nothing absent
mux-keeps : in-state (state full unsent) (mux (number_of 0) (keeps 0) (number_of 7)) ≡ done (number (pos 7)) (state (pos 60 ∷ drop 1 full) unsent)
unfolding opened
mux-keeps = refl

-- a list of variables, one of them twice; what is sent stays
list-erased : erased (3 ∷ 1 ∷ 3 ∷ []) (state full full) ≡ state (pos 0 ∷ mark ∷ pos 2 ∷ mark ∷ drop 4 full) full
unfolding opened
list-erased = refl

-- "A fault changes nothing.": variable 1, which holds 40 in the cells, is not made absent where a division by 0 follows
fault-keeps : fired (operator 5 div (branch (number_of 0) (keeps 1) (number_of 7)) (number_of 0)) cells ≡ (cells, (pos 17, pos 5))
unfolding opened
fault-keeps = refl
