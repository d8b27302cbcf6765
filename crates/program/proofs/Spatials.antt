-- The test for spatial trees holds exactly of those that the rules make spatial.
use mathlib.Core.Path.{◌≡◌, refl, sym}
use mathlib.Core.Logic.{⊎_elim}
use mathlib.Core.Bool.{Bool, true, false, ◌||◌, true≢false}
use Rattle.program.specs.Tree.{Expr, nothing, constant, parameter, variable, operator, sense, rep, branch, mux, nbr, range, lag, fold_op, fold_def, call, spatial}
use Rattle.program.specs.Spatial.{Spatial, X-rep, X-nbr, X-range, X-lag, X-called, X-left, X-right, X-sense, X-ifCondition, X-if_then, X-ifElse, X-muxCondition, X-muxThen}
use Rattle.program.specs.Spatial.{X-muxElse, X-foldInitial, X-foldField, X-foldByInitial, X-foldByField, X-first, X-second, X-third, X-fourth}
use Rattle.decide.proofs.Picks.{known, never, one_of, by_first, by-rest}

-- of tests joined by or, each with what it tells
either-of : {A : Type 0} (a b : Bool) → (a ≡ true → A) → (b ≡ true → A) → (a || b) ≡ true → A
either-of a b f g q = ⊎_elim f g (one_of a b q)

pub spatial-rules : (e : Expr) → spatial e ≡ true → Spatial e
unfolding spatial
spatial-rules nothing q = absurd (true≢false (sym q))
spatial-rules (constant z) q = absurd (true≢false (sym q))
spatial-rules (parameter n p) q = absurd (true≢false (sym q))
spatial-rules (variable n v) q = absurd (true≢false (sym q))
spatial-rules (operator n o l r) q = either-of (spatial l) (spatial r) (λ p. X-left (spatial-rules l p)) (λ p. X-right (spatial-rules r p)) q
spatial-rules (sense e) q = X-sense (spatial-rules e q)
spatial-rules (rep v i u) q = X-rep
spatial-rules (branch c a b) q =
    either-of (spatial c || spatial a) (spatial b) (either-of (spatial c) (spatial a) (λ p. X-ifCondition (spatial-rules c p)) (λ p. X-if_then (spatial-rules a p)))
    (λ p. X-ifElse (spatial-rules b p)) q
spatial-rules (mux c a b) q =
    either-of (spatial c || spatial a) (spatial b) (either-of (spatial c) (spatial a) (λ p. X-muxCondition (spatial-rules c p)) (λ p. X-muxThen (spatial-rules a p)))
    (λ p. X-muxElse (spatial-rules b p)) q
spatial-rules (nbr i e) q = X-nbr
spatial-rules (range i) q = X-range
spatial-rules (lag i) q = X-lag
spatial-rules (fold_op n o i f) q = either-of (spatial i) (spatial f) (λ p. X-foldInitial (spatial-rules i p)) (λ p. X-foldField (spatial-rules f p)) q
spatial-rules (fold_def d i f) q = either-of (spatial i) (spatial f) (λ p. X-foldByInitial (spatial-rules i p)) (λ p. X-foldByField (spatial-rules f p)) q
spatial-rules (call d a b c e) q =
    either-of (spatial d || spatial a || spatial b || spatial c) (spatial e)
    (either-of (spatial d || spatial a || spatial b) (spatial c)
    (either-of (spatial d || spatial a) (spatial b)
    (either-of (spatial d) (spatial a) (λ p. X-called (spatial-rules d p)) (λ p. X-first (spatial-rules a p)))
    (λ p. X-second (spatial-rules b p)))
    (λ p. X-third (spatial-rules c p)))
    (λ p. X-fourth (spatial-rules e p))
    q

pub rules-spatial : {e : Expr} → Spatial e → spatial e ≡ true
unfolding spatial
rules-spatial X-rep = refl
rules-spatial X-nbr = refl
rules-spatial X-range = refl
rules-spatial X-lag = refl
rules-spatial (X-sense s) = rules-spatial s
rules-spatial (X-left {n} {o} {l} {r} s) = by_first (spatial r) (rules-spatial s)
rules-spatial (X-right {n} {o} {l} {r} s) = by-rest (spatial l) (rules-spatial s)
rules-spatial (X-ifCondition {c} {a} {b} s) = by_first (spatial b) (by_first (spatial a) (rules-spatial s))
rules-spatial (X-if_then {c} {a} {b} s) = by_first (spatial b) (by-rest (spatial c) (rules-spatial s))
rules-spatial (X-ifElse {c} {a} {b} s) = by-rest (spatial c || spatial a) (rules-spatial s)
rules-spatial (X-muxCondition {c} {a} {b} s) = by_first (spatial b) (by_first (spatial a) (rules-spatial s))
rules-spatial (X-muxThen {c} {a} {b} s) = by_first (spatial b) (by-rest (spatial c) (rules-spatial s))
rules-spatial (X-muxElse {c} {a} {b} s) = by-rest (spatial c || spatial a) (rules-spatial s)
rules-spatial (X-foldInitial {n} {o} {i} {f} s) = by_first (spatial f) (rules-spatial s)
rules-spatial (X-foldField {n} {o} {i} {f} s) = by-rest (spatial i) (rules-spatial s)
rules-spatial (X-foldByInitial {d} {i} {f} s) = by_first (spatial f) (rules-spatial s)
rules-spatial (X-foldByField {d} {i} {f} s) = by-rest (spatial i) (rules-spatial s)
rules-spatial (X-called {d} {a} {b} {c} {e} s) = by_first (spatial e) (by_first (spatial c) (by_first (spatial b) (by_first (spatial a) (rules-spatial s))))
rules-spatial (X-first {d} {a} {b} {c} {e} s) = by_first (spatial e) (by_first (spatial c) (by_first (spatial b) (by-rest (spatial d) (rules-spatial s))))
rules-spatial (X-second {d} {a} {b} {c} {e} s) = by_first (spatial e) (by_first (spatial c) (by-rest (spatial d || spatial a) (rules-spatial s)))
rules-spatial (X-third {d} {a} {b} {c} {e} s) = by_first (spatial e) (by-rest (spatial d || spatial a || spatial b) (rules-spatial s))
rules-spatial (X-fourth {d} {a} {b} {c} {e} s) = by-rest (spatial d || spatial a || spatial b || spatial c) (rules-spatial s)

-- a tree that the rules don't make spatial
pub not-spatial : (e : Expr) → (Spatial e → ⊥) → spatial e ≡ false
not-spatial e h = ⊎_elim (λ q. absurd (h (spatial-rules e q))) (λ q. q) (known (spatial e))

pub plain : {e : Expr} → spatial e ≡ false → Spatial e → ⊥
plain q s = never (rules-spatial s) q
