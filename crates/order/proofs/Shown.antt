-- Copies, places, orders and runs at examples, by computation. Assumes nothing. An event is a number here.
use mathlib.Core.Path.{◌≡◌, refl, sym}
use mathlib.Core.Logic.{ite}
use mathlib.Core.HLevel.{Discrete}
use mathlib.Core.Bool.{Bool, true, false, ◌&&◌, true≢false}
use mathlib.Core.List.{List, [], ◌∷◌}
use mathlib.Core.Option.{none, some}
use Prim.Native.Nat.{ℕ, suc, ◌+◌, ◌*◌, ◌<◌}
use native.Mathlib.Decide.{ℕ_discrete}
use native.Mathlib.Omega.{arith}
use lib.Dec.{eqb}
use Rattle.order.specs.Order.{count, place, SameEvents, KeepsOrder, last_net, answers, answer_of, Commute, RunAlike}

abbrev l : List ℕ
l = 7 ∷ 8 ∷ 7 ∷ []

-- "equal events are copies, counted from 1" (from 0 here, D20): how many, where each stands, and that a copy which is not there stands at the end
copies : (count ℕ_discrete 7 l ≡ 2) × (count ℕ_discrete 8 l ≡ 1) × (count ℕ_discrete 9 l ≡ 0)
unfolding ℕ_discrete
copies = (refl, refl, refl)

places : (place ℕ_discrete 7 0 l ≡ 0) × (place ℕ_discrete 7 1 l ≡ 2) × (place ℕ_discrete 8 0 l ≡ 1) × (place ℕ_discrete 7 2 l ≡ 3) × (place ℕ_discrete 8 1 l ≡ 3) × (place ℕ_discrete 9 0 l ≡ 3)
    × (place ℕ_discrete 7 1 (8 ∷ 7 ∷ 7 ∷ []) ≡ 2)
unfolding ℕ_discrete
places = (refl, refl, refl, refl, refl, refl, refl)

-- of any list, and of a third and a fourth copy
any-list : (same : Discrete ℕ) (e x k : ℕ) (l : List ℕ) → (count same e (x ∷ l) ≡ ite (same e x) (suc (count same e l)) (count same e l))
    × (place same e (suc k) (x ∷ l) ≡ suc (ite (same e x) (place same e k l) (place same e (suc k) l)))
any-list same e x k l = (refl, refl)

later-copies : (count ℕ_discrete 7 (7 ∷ 7 ∷ 8 ∷ 7 ∷ []) ≡ 3) × (place ℕ_discrete 7 2 (7 ∷ 7 ∷ 8 ∷ 7 ∷ 7 ∷ []) ≡ 3) × (place ℕ_discrete 7 3 (7 ∷ 7 ∷ 8 ∷ 7 ∷ 7 ∷ []) ≡ 4)
unfolding ℕ_discrete
later-copies = (refl, refl, refl)

-- "if every event .. stands equally often in both": not where one has a copy more, in either list
copy_more : SameEvents ℕ_discrete (7 ∷ 8 ∷ []) l → ⊥
unfolding ℕ_discrete
copy_more h = let q : ◌≡◌ {A = ℕ} 1 2 = h 7 in omega arith

copy-less : SameEvents ℕ_discrete l (7 ∷ 8 ∷ []) → ⊥
unfolding ℕ_discrete
copy-less h = let q : ◌≡◌ {A = ℕ} 2 1 = h 7 in omega arith

other-event : SameEvents ℕ_discrete (7 ∷ 8 ∷ []) (7 ∷ 9 ∷ []) → ⊥
unfolding ℕ_discrete
other-event h = let q : ◌≡◌ {A = ℕ} 1 0 = h 8 in omega arith

one : 0 < 1
one = omega arith

two : 1 < 2
two = omega arith

-- every two clash; none do
abbrev every : ℕ → ℕ → Bool
every e f = true

abbrev never : ℕ → ℕ → Bool
never e f = false

-- "for any two, the i-th copy of one stands before the j-th copy of the other in one list exactly when it does in the other list": no event may pass one that it
-- clashes with, a later copy no more than the first, in neither direction
exchanged : KeepsOrder ℕ_discrete every (7 ∷ 8 ∷ []) (8 ∷ 7 ∷ []) → ⊥
unfolding ℕ_discrete
exchanged h = let q : 1 < 0 = (h 7 8 refl 0 0 one one).0 one in omega arith

exchanged-back : KeepsOrder ℕ_discrete every (8 ∷ 7 ∷ []) (7 ∷ 8 ∷ []) → ⊥
unfolding ℕ_discrete
exchanged-back h = let q : 1 < 0 = (h 7 8 refl 0 0 one one).1 one in omega arith

later-copy : KeepsOrder ℕ_discrete every l (7 ∷ 7 ∷ 8 ∷ []) → ⊥
unfolding ℕ_discrete
later-copy h = let q : 2 < 1 = (h 8 7 refl 0 1 one two).0 two in omega arith

later-copy-first : KeepsOrder ℕ_discrete every l (8 ∷ 7 ∷ 7 ∷ []) → ⊥
unfolding ℕ_discrete
later-copy-first h = let q : 1 < 0 = (h 7 8 refl 0 0 (omega arith) one).0 one in omega arith

later-copy-of-one : KeepsOrder ℕ_discrete every (7 ∷ 7 ∷ 8 ∷ []) l → ⊥
unfolding ℕ_discrete
later-copy-of-one h = let q : 2 < 1 = (h 7 8 refl 1 0 two one).0 two in omega arith

-- it is the two that must clash, and not one of them with itself: here 7 clashes with 8 and nothing else does
abbrev seven-with-8 : ℕ → ℕ → Bool
seven-with-8 e f = eqb e 7 && eqb f 8

the-two-clash : KeepsOrder ℕ_discrete seven-with-8 (7 ∷ 8 ∷ []) (8 ∷ 7 ∷ []) → ⊥
unfolding ℕ_discrete
the-two-clash h = let q : 1 < 0 = (h 7 8 refl 0 0 one one).0 one in omega arith

-- and nothing more is asked: those that do not clash may stand in any order, copies that are not there have none, and one list keeps its own
free : KeepsOrder ℕ_discrete never (7 ∷ 8 ∷ []) (8 ∷ 7 ∷ [])
free e f c i j hi hj = absurd (true≢false (sym c))

none-there : KeepsOrder ℕ_discrete every [] (7 ∷ 8 ∷ [])
none-there e f c i j hi hj = absurd (omega arith)

kept : KeepsOrder ℕ_discrete every l l
kept e f c i j hi hj = (λ h. h, λ h. h)

-- "A run does its events from first to last, each .. on the network that the event before it left": an engine whose network is a number, to which an event is added, and whose answer
-- is the number before it
abbrev added : ℕ → ℕ → ℕ × ℕ
added n e = (10 * n + e, n)

last : (last_net added 1 (7 ∷ 8 ∷ []) ≡ 178) × (last_net added 1 [] ≡ 1)
last = (refl, refl)

answered : (answers added 1 (7 ∷ 8 ∷ []) ≡ 1 ∷ 17 ∷ []) × (answers added 1 [] ≡ [])
answered = (refl, refl)

-- the answer to each copy, and none to a copy that is not there
answers_of : (answer_of added ℕ_discrete 1 l 7 0 ≡ some 1) × (answer_of added ℕ_discrete 1 l 7 1 ≡ some 178) × (answer_of added ℕ_discrete 1 l 8 0 ≡ some 17) × (answer_of added ℕ_discrete 1 l 7 2 ≡ none)
unfolding ℕ_discrete
answers_of = (refl, refl, refl, refl)

-- "both .. end with every cell equal, and answer the k-th copy of each event with the same numbers": two events that leave another network, or get another answer, in the
-- other order do not commute; two lists run alike in both, of every copy
network-differs : Commute {Answer = ℕ} (λ n e. (10 * n + e, 0)) 1 7 8 → ⊥
network-differs h = let q : ◌≡◌ {A = ℕ} 178 187 = h.0 in omega arith

first-answer-differs : Commute {Answer = ℕ} (λ n e. (n + e, ite (ℕ_discrete e 7) n 0)) 1 7 8 → ⊥
unfolding ℕ_discrete
first-answer-differs h = let q : ◌≡◌ {A = ℕ} 1 9 = h.1 in omega arith

second-answer-differs : Commute {Answer = ℕ} (λ n e. (n + e, ite (ℕ_discrete e 8) n 0)) 1 7 8 → ⊥
unfolding ℕ_discrete
second-answer-differs h = let q : ◌≡◌ {A = ℕ} 8 1 = h.2 in omega arith

commute : Commute {Answer = ℕ} (λ n e. (n + e, e)) 1 7 8
commute = (refl, refl, refl)

alike : (step : ℕ → ℕ → ℕ × ℕ) (m : List ℕ) → RunAlike step ℕ_discrete 1 l m
    → (last_net step 1 l ≡ last_net step 1 m) × ((e k : ℕ) → answer_of step ℕ_discrete 1 l e k ≡ answer_of step ℕ_discrete 1 m e k)
alike step m h = (h.0, λ e k. h.1 e k)
