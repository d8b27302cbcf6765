-- `(if (< a b) a b)` of two parameters gives the lesser of two arguments, whichever is a. Assumes nothing.
use mathlib.Core.Path.{◌≡◌, refl, ap, ◌∙◌}
use mathlib.Core.Bool.{Bool, true, false, cond}
use mathlib.Core.List.{List}
use Prim.Native.Nat.{ℕ, ◌<◌}
use native.Mathlib.Omega.{arith}
use lib.Dec.{ltb}
use lib.IntN.{ℤ, pos, negsuc}
use lib.Signed.{lt_z}
use borrow.Author.Tests.{ltb-true, ltb-false}
use Rattle.number.specs.Number.{lt, operator_of, truth, operation_result, faults}
use Rattle.program.specs.Table.{node_limit}
use Rattle.program.specs.Tree.{parameter, operator, branch}
use Rattle.round.specs.Round.{State, number, done, is_true, operated, reps, erased, eval}
use Rattle.words.specs.Form.{if_form}
use Rattle.words.specs.Word.{form, p1, p2, p3, word}
use Rattle.words.specs.Trees.{tree_at}
use Rattle.words.specs.Sound.{lesser, Least}
use Rattle.words.proofs.Trees.{tree-param, tree-if, tree-pair}
use Rattle.words.specs.Sound.{AllSorted}
use Rattle.quick.specs.Quick.{Picks}

-- the lesser of two is the same either way round
never : (a b : ℕ) → ltb b a ≡ true → ltb a b ≡ true → ⊥
never a b p q = omega (arith, ltb-true b a p, ltb-true a b q)

alike : (a b : ℕ) → ltb b a ≡ false → ltb a b ≡ false → a ≡ b
alike a b p q = omega (arith, ltb-false b a p, ltb-false a b q)

either : (x y : ℤ) (s t : Bool) → (s ≡ true → t ≡ true → ⊥) → (s ≡ false → t ≡ false → x ≡ y) → cond s y x ≡ cond t x y
either x y true true p q = absurd (p refl refl)
either x y true false p q = refl
either x y false true p q = refl
either x y false false p q = q refl refl

lesser-either : (x y : ℤ) → lesser y x ≡ lesser x y
lesser-either (pos a) (pos b) = either (pos a) (pos b) (ltb b a) (ltb a b) (never a b) (λ p q. ap pos (alike a b p q))
lesser-either (pos a) (negsuc b) = refl
lesser-either (negsuc a) (pos b) = refl
lesser-either (negsuc a) (negsuc b) = either (negsuc a) (negsuc b) (ltb a b) (ltb b a) (never b a) (λ p q. ap negsuc (alike a b q p))

-- a test and what it picks
picked : (b : Bool) (x y : ℤ) (s : State) → cond (is_true (truth b)) (done (number x) s) (done (number y) s) ≡ done (number (cond b x y)) s
picked true x y s = refl
picked false x y s = refl

module _ (n l r a b : ℕ) where
  first-least : Least (branch (operator n lt (parameter l 0) (parameter r 1)) (parameter a 0) (parameter b 1))
  unfolding eval operated operation_result faults reps erased
  first-least = record { gives = λ block x y s. picked (lt_z x y) x y s }

  second-least : Least (branch (operator n lt (parameter l 1) (parameter r 0)) (parameter a 1) (parameter b 0))
  unfolding eval operated operation_result faults reps erased
  second-least = record { gives = λ block x y s. picked (lt_z y x) y x s ∙ ap (λ (z : ℤ). done (number z) s) (lesser-either x y) }

module _ {ws : List ℕ} {n p q : ℕ} (l : n < node_limit) (s : AllSorted ws) (h : form (word ws n) ≡ if_form) (k : Picks ws n p q) where
  tree-picks : tree_at ws n
      ≡ branch (operator (p1 (word ws n)) lt (parameter (p1 (word ws (p1 (word ws n)))) p) (parameter (p2 (word ws (p1 (word ws n)))) q))
      (parameter (p2 (word ws n)) p) (parameter (p3 (word ws n)) q)
  unfolding operator_of
  tree-picks =
      let (c, a, b) = (s.node n l).if_n h in
      let (x, y) = (s.node (p1 (word ws n)) (omega arith)).pair k.condition.0 in
      tree-if ws n h c.0 a.0 b.0
      ∙ rw (
        tree-pair ws (p1 (word ws n)) k.condition.0 x.0 y.0,
        tree-param ws (p2 (word ws n)) k.here.0,
        tree-param ws (p3 (word ws n)) k.there.0,
        tree-param ws (p1 (word ws (p1 (word ws n)))) k.left.0,
        tree-param ws (p2 (word ws (p1 (word ws n)))) k.right.0,
        k.condition.1,
        k.here.1,
        k.there.1,
        k.left.1,
        k.right.1,
      )

pub picks_first : {ws : List ℕ} {n : ℕ} → n < node_limit → AllSorted ws → form (word ws n) ≡ if_form → Picks ws n 0 1 → Least (tree_at ws n)
picks_first l s h k = rw (tree-picks l s h k) (first-least _ _ _ _ _)

pub picks_second : {ws : List ℕ} {n : ℕ} → n < node_limit → AllSorted ws → form (word ws n) ≡ if_form → Picks ws n 1 0 → Least (tree_at ws n)
picks_second l s h k = rw (tree-picks l s h k) (second-least _ _ _ _ _)
