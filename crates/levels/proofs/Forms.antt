-- Levels that are formed stay so behind each token. Assumes nothing.
use mathlib.Core.Path.{◌≡◌, refl, sym, subst, ◌∙◌}
use mathlib.Core.Bool.{Bool, true, false, cond, not, ◌&&◌, ◌||◌}
use mathlib.Core.List.{List, [], ◌∷◌}
use mathlib.Core.Option.{none, some}
use Prim.Native.Nat.{ℕ, zero, suc, ◌<◌}
use native.Mathlib.Omega.{arith}
use lib.ListN.{get_or}
use lib.Dec.{eqb, leb, ltb}
use borrow.Author.Tests.{eqb-true, ltb-true}
use Rattle.decide.proofs.Picks.{implied, not-both, both}
use Rattle.decide.proofs.Below.{all_below, all-below}
use Rattle.decide.proofs.Options.{none-some, some_of}
use Rattle.notation.specs.Grammar.{Token, opening, closing, word}
use Rattle.levels.proofs.Steps.{CodedToken, word-move, inner-level}
use Rattle.vocabulary.specs.Codes.{token_code}
use Rattle.levels.specs.Levels.{atom_code, refusal, word_moves, open_moves, inner, close_moves, outer, move_of, reopened, move, Formed}

-- an inner level that is no first head
abbrev within : ℕ → Bool
within m = (leb 2 m && ltb m 18) && not (eqb m 3)

-- a word is refused, begins a definition behind a first head, or leaves such a level, of outermost forms only if it stood in one
abbrev word_test : ℕ → ℕ → Bool
word_test c m = eqb m refusal || ((eqb m 18 && eqb c 3) || (within m && (not (outer m) || outer c)))

words-move : all_below (λ c. all_below (λ k. not (leb 2 c) || word_test c (get_or (word_moves k) c refusal)) 22) 18 ≡ true
words-move = refl

abbrev open_test : ℕ → Bool
open_test c = eqb (get_or open_moves c refusal) refusal || ((within (get_or open_moves c refusal) && not (outer (get_or open_moves c refusal))) && (within (inner c) && not (outer (inner c))))

opening-moves : all_below (λ c. not (leb 2 c) || open_test c) 18 ≡ true
opening-moves = refl

refuted : {A : Type 0} (b : Bool) → b ≡ true → not b ≡ true → A
refuted true p q = not-both (sym q)
refuted false p q = not-both (sym p)

-- the level that a move leaves, on those below it
on-top : (m d : ℕ) (ls : List ℕ) → within m ≡ true → (outer m ≡ true → ls ≡ []) → Formed (d ∷ ls) → Formed (m ∷ d ∷ ls)
unfolding Formed
on-top m d ls w o f = let h = both (leb 2 m && ltb m 18) (not (eqb m 3)) w in (h.0, o, (λ e. refuted (eqb m 3) (rw e) h.1), f)

-- ---- a word
word-formed : (m : ℕ) (ls ls' : List ℕ) → ((eqb m 18 ≡ true) → Formed (11 ∷ reopened ls)) → (eqb m refusal ≡ false → eqb m 18 ≡ false → Formed (m ∷ ls))
    → cond (eqb m refusal) none (some (cond (eqb m 18) (11 ∷ reopened ls) (m ∷ ls))) ≡ some ls' → Formed ls'
word-formed m ls ls' f g e = go (eqb m refusal) (eqb m 18) refl refl e
  where
    go : (a b : Bool) → eqb m refusal ≡ a → eqb m 18 ≡ b → cond a none (some (cond b (11 ∷ reopened ls) (m ∷ ls))) ≡ some ls' → Formed ls'
    go true b p q e = none-some e
    go false true p q e = subst Formed (some_of e) (f q)
    go false false p q e = subst Formed (some_of e) (g p q)

outer-word : (b : Bool) → eqb (cond b 1 refusal) refusal ≡ false → Formed (cond b 1 refusal ∷ [])
unfolding Formed
outer-word true e = refl
outer-word false e = not-both e

not-18 : (b : Bool) → eqb (cond b 1 refusal) 18 ≡ true → Formed (11 ∷ [])
not-18 true e = not-both (sym e)
not-18 false e = not-both (sym e)

three_ways : (a b c : Bool) → (a || (b || c)) ≡ true → a ≡ false → b ≡ false → c ≡ true
three_ways true b c e p q = not-both p
three_ways false true c e p q = not-both q
three_ways false false c e p q = e

otherwise : (c m : ℕ) → word_test c m ≡ true → eqb m refusal ≡ false → eqb m 18 ≡ false → (within m ≡ true) × (outer m ≡ true → outer c ≡ true)
otherwise c m t p q =
    let h = both (within m) (not (outer m) || outer c) (three_ways (eqb m refusal) (eqb m 18 && eqb c 3) (within m && (not (outer m) || outer c)) t p (rw q)) in
    (h.0, λ e. implied (outer m) (outer c) e h.1)

-- a word that begins a definition stands behind the head of an outermost form
defines : (c m : ℕ) → word_test c m ≡ true → eqb m 18 ≡ true → c ≡ 3
defines c m t e = go (eqb c 3) refl (rw (eqb-true m 18 e) at t)
  where
    go : (b : Bool) → eqb c 3 ≡ b → (b || false) ≡ true → c ≡ 3
    go true q t = eqb-true c 3 q
    go false q t = not-both (sym t)

tested : (c k : ℕ) → c < 18 → k < 22 → leb 2 c ≡ true → word_test c (get_or (word_moves k) c refusal) ≡ true
tested c k h j l =
    implied (leb 2 c) (word_test c (get_or (word_moves k) c refusal)) l
    (all-below (λ k. not (leb 2 c) || word_test c (get_or (word_moves k) c refusal)) 22
    (all-below (λ c. all_below (λ k. not (leb 2 c) || word_test c (get_or (word_moves k) c refusal)) 22) 18 words-move c h) k j)

pub first-defines : (c d k : ℕ) (ls : List ℕ) → Formed (c ∷ d ∷ ls) → k < 22 → eqb (get_or (word_moves k) c refusal) 18 ≡ true → d ∷ ls ≡ 1 ∷ []
first-defines c d k ls f j e =
    let h = inner-level c d ls f in
    h.2 (defines c (get_or (word_moves k) c refusal) (tested c k h.0 j h.1) e)

-- ---- brackets
opened : (c d : ℕ) (ls ls' : List ℕ) → Formed (c ∷ d ∷ ls) → move (c ∷ d ∷ ls) 22 ≡ some ls' → Formed ls'
unfolding move move_of Formed
opened c d ls ls' f e =
    let h = inner-level c d ls f in
    go (eqb (get_or open_moves c refusal) refusal) refl (implied (leb 2 c) (open_test c) h.1 (all-below (λ c. not (leb 2 c) || open_test c) 18 opening-moves c h.0)) e
  where
    go : (b : Bool) → eqb (get_or open_moves c refusal) refusal ≡ b
        → (b || ((within (get_or open_moves c refusal) && not (outer (get_or open_moves c refusal))) && (within (inner c) && not (outer (inner c))))) ≡ true
        → cond b none (some (inner c ∷ get_or open_moves c refusal ∷ d ∷ ls)) ≡ some ls' → Formed ls'
    go true q t e = none-some e
    go false q t e =
        let w = both (within (get_or open_moves c refusal) && not (outer (get_or open_moves c refusal))) (within (inner c) && not (outer (inner c))) t in
        let u = both (within (get_or open_moves c refusal)) (not (outer (get_or open_moves c refusal))) w.0 in
        let v = both (within (inner c)) (not (outer (inner c))) w.1 in
        subst Formed (some_of e)
        (on-top (inner c) (get_or open_moves c refusal) (d ∷ ls) v.0 (λ x. refuted (outer (inner c)) x v.1)
        (on-top (get_or open_moves c refusal) d ls u.0 (λ x. refuted (outer (get_or open_moves c refusal)) x u.1) f.3))

closed : (c d : ℕ) (ls ls' : List ℕ) → Formed (c ∷ d ∷ ls) → move (c ∷ d ∷ ls) 23 ≡ some ls' → Formed ls'
unfolding move move_of Formed
closed c d ls ls' f e = go (eqb (get_or close_moves c refusal) refusal) e
  where
    go : (b : Bool) → cond b none (some (d ∷ ls)) ≡ some ls' → Formed ls'
    go true e = none-some e
    go false e = subst Formed (some_of e) f.3

outermost : (c k : ℕ) (ls' : List ℕ) → c < 2 → k < 22 → move (c ∷ []) k ≡ some ls' → Formed ls'
outermost zero k ls' h j e = word-formed (cond (atom_code k) 1 refusal) [] ls' (not-18 (atom_code k)) (λ p q. outer-word (atom_code k) p) (sym (word-move 0 k [] j) ∙ e)
outermost (suc zero) k ls' h j e = none-some (sym (word-move 1 k [] j) ∙ e)
outermost (suc (suc c)) k ls' h j e = absurd (omega arith)

-- a definition behind its head, on a program
begun : Formed (11 ∷ 0 ∷ [])
unfolding Formed
begun = (refl, (λ x. refl), (λ x. let z : ◌≡◌ {A = ℕ} 11 3 = x in absurd (omega arith)), refl)

first : Formed (3 ∷ 1 ∷ [])
unfolding Formed
first = (refl, (λ x. refl), (λ x. refl), refl)

outer-opened : (c : ℕ) (ls' : List ℕ) → c < 2 → move (c ∷ []) 22 ≡ some ls' → Formed ls'
unfolding move move_of
outer-opened zero ls' h e = subst Formed (some_of e) first
outer-opened (suc zero) ls' h e = none-some e
outer-opened (suc (suc c)) ls' h e = absurd (omega arith)

outer-closed : (c : ℕ) (ls' : List ℕ) → c < 2 → move (c ∷ []) 23 ≡ some ls' → Formed ls'
unfolding move move_of
outer-closed zero ls' h e = none-some e
outer-closed (suc zero) ls' h e = none-some e
outer-closed (suc (suc c)) ls' h e = absurd (omega arith)

innermost : (c d k : ℕ) (ls ls' : List ℕ) → Formed (c ∷ d ∷ ls) → k < 22 → move (c ∷ d ∷ ls) k ≡ some ls' → Formed ls'
unfolding Formed
innermost c d k ls ls' f j e =
    let h = inner-level c d ls f in
    let t = tested c k h.0 j h.1 in
    word-formed (get_or (word_moves k) c refusal) (d ∷ ls) ls'
    (λ q. subst (λ l. Formed (11 ∷ reopened l)) (sym (first-defines c d k ls f j q)) begun)
    (λ p q. let w = otherwise c (get_or (word_moves k) c refusal) t p q in on-top (get_or (word_moves k) c refusal) d ls w.0 (λ x. f.1 (w.1 x)) f.3)
    (sym (word-move c k (d ∷ ls) j) ∙ e)

pub formed-move : (ls ls' : List ℕ) (t : Token) → CodedToken t → Formed ls → move ls (token_code t) ≡ some ls' → Formed ls'
unfolding Formed
formed-move [] ls' t q f e = absurd f
formed-move (c ∷ []) ls' opening q f e = outer-opened c ls' (ltb-true c 2 f) e
formed-move (c ∷ []) ls' closing q f e = outer-closed c ls' (ltb-true c 2 f) e
formed-move (c ∷ []) ls' (word w) q f e = outermost c (token_code (word w)) ls' (ltb-true c 2 f) q.below e
formed-move (c ∷ d ∷ ls) ls' opening q f e = opened c d ls ls' f e
formed-move (c ∷ d ∷ ls) ls' closing q f e = closed c d ls ls' f e
formed-move (c ∷ d ∷ ls) ls' (word w) q f e = innermost c d (token_code (word w)) ls ls' f q.below e
