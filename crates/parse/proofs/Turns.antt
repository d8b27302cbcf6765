-- The turns of a pass, by what the code reads: the lexeme r behind the place, and what the window gives for it. Assumes nothing.
use mathlib.Core.Path.{◌≡◌, refl, sym, ap, subst, ◌∙◌}
use mathlib.Core.Bool.{Bool, true, false, cond, ◌&&◌}
use mathlib.Core.List.{List}
use mathlib.Core.Logic.{inl, inr}
use Prim.Native.Nat.{ℕ, ◌+◌, ◌-◌, ◌≤◌, ◌<◌, max}
use native.Mathlib.Omega.{arith}
use lib.ListN.{length, get_or}
use lib.Dec.{eqb}
use borrow.Author.Tests.{ne_eqb}
use Rattle.std.specs.Prelude.{Some, None}
use Rattle.notation.specs.Words.{between}
use Rattle.notation.specs.Grammar.{Token}
use Rattle.notation.proofs.Between.{length-between}
use Rattle.lexemes.specs.declared.Lexeme.{Lexeme}
use Rattle.lexemes.specs.Lexeme.{token_of, next_lexeme, depth_by}
use Rattle.lexemes.proofs.Laws.{Behind}
use Rattle.vocabulary.specs.Codes.{token_code}
use Rattle.levels.specs.Levels.{refusal, move_of, level_front, unheld, held_at, level_in, judged, Numbered, Based, Takes, Refuses}
use Rattle.levels.proofs.Laws.{front-within}
use Rattle.parse.specs.Passed.{Passed}
use Rattle.parse.proofs.Passing.{Going, end-turn, refused-turn, outer-turn, next-turn}
use Rattle.parse.proofs.Reading.{read, read-kind, read-within, read-end}

module _ (s : List ℕ) (base : ℕ) (based : Based base) (at depth deepest : ℕ) (arr : List ℕ) (g : Going s base at depth deepest arr) where
  abbrev level : ℕ
  level = level_in base depth arr

  pub turn_end : next_lexeme s at ≡ None → (done : Bool) → done ≡ (eqb depth 0 && eqb level 1) → Passed s base false (length s) deepest done
  turn_end e done d = let x = read-end s at g.within e in end-turn s base based at depth deepest arr g x.0 x.1 done d

  -- a level is held exactly where its number is not that of one which is not
  held_number : held_at base depth ≡ true → level < 18
  held_number h = let n = g.numbers (depth - base) in let x : level ≡ get_or arr (depth - base) 0 = rw h in omega (arith, n, x)

  free-number : held_at base depth ≡ false → level ≡ unheld
  free-number h = rw h

  module _ (r : Lexeme) (e : next_lexeme s at ≡ Some r) where
    pub placed : Behind s at r
    placed = read-within s at g.within r e

    abbrev token : Token
    token = token_of s r

    abbrev made : ℕ
    made = judged level r.kind (between r.start r.end s)

    by_level : (b : Bool) → eqb level unheld ≡ b → made ≡ cond b 0 (move_of level (token_code token))
    by_level b q = ap (λ (b : Bool). cond b 0 (move_of level (token_code token))) q

    same : held_at base depth ≡ true → made ≡ move_of level (token_code token)
    same h = let l = held_number h in by_level false (ne_eqb level unheld (λ q. omega (arith, q, l)))

    free : held_at base depth ≡ false → made ≡ 0
    free h = by_level true (ap (λ (k : ℕ). eqb k unheld) (free-number h))

    refused-held : made ≡ refusal → held_at base depth ≡ true
    refused-held q = go (held_at base depth) refl
      where
        go : (b : Bool) → held_at base depth ≡ b → b ≡ true
        go true h = refl
        go false h = let x = free h in absurd (omega (arith, x, q))

    front-short : r.start + level_front level token ≤ r.end
    front-short =
        let l = length-between r.start r.end s placed.inside in
        let f = front-within level r.kind (between r.start r.end s) in
        let o = placed.filled in
        omega (arith, l, f, o)

    pub refused-within : (n : ℕ) → Refuses base depth r.kind (between r.start r.end s) arr n → r.start + n ≤ r.end
    refused-within n (inl q) = let f = front-short in omega (arith, f, q.1)
    refused-within n (inr q) = let o = placed.filled in omega (arith, o, q.2)

    pub turn-refused : (n : ℕ) → Refuses base depth r.kind (between r.start r.end s) arr n → Passed s base true (r.start + n) deepest false
    turn-refused n (inl q) =
        let h = refused-held q.0 in
        subst (λ (k : ℕ). Passed s base true (r.start + k) deepest false) (sym q.1)
        (refused-turn s base based at depth deepest arr g token r.start r.end r.kind (read s at g.within r e) (read-kind s at g.within r e) h
        (ap (λ (k : ℕ). eqb k refusal) (sym (same h) ∙ q.0)) front-short false)
    turn-refused n (inr q) =
        let z : r.start ≡ r.start + n = omega (arith, q.2) in
        subst (λ (k : ℕ). Passed s base true k deepest false) z
        (outer-turn s base based at depth deepest arr g token r.start r.end r.kind (read s at g.within r e) (read-kind s at g.within r e) q.0 q.1 false)

    pub turn-next : (arr' : List ℕ) (d deepest' : ℕ) → Takes base depth r.kind (between r.start r.end s) arr arr' d → Numbered arr' → deepest' ≡ max deepest d → Going s base r.end d deepest' arr'
    turn-next arr' d deepest' q n x =
        let numbers : Numbered _ = subst Numbered q.3 n in
        let taken = ne_eqb made refusal q.0 in
        subst (λ (k : ℕ). Going s base r.end d k arr') (sym x)
        (subst (λ (k : ℕ). Going s base r.end k (max deepest k) arr') (sym q.2)
        (subst (λ (a : List ℕ). Going s base r.end (depth_by depth r.kind) (max deepest (depth_by depth r.kind)) a) (sym q.3)
        (next-turn s base based at depth deepest arr g token r.start r.end r.kind (read s at g.within r e) (read-kind s at g.within r e) made same free taken q.1 numbers)))
