-- A fold over a field as a walk over its domain. Assumes nothing.
use mathlib.Core.Path.{◌≡◌, refl, ap, ◌∙◌}
use mathlib.Core.List.{List, [], ◌∷◌, map}
use mathlib.Core.Option.{none, some}
use Prim.Native.Nat.{ℕ}
use lib.IntN.{ℤ, pos}
use lib.ListN.{get_or}
use Rattle.field.specs.Field.{Field}
use Rattle.round.specs.Round.{State, Value, number, Outcome, done, fault, then_value, then_number, number_of, folded}
use Rattle.domain.specs.Held.{field_of}
use Rattle.domain.specs.Members.{members, places}
use Rattle.domain.proofs.Laws.{places-members}

unfoldable pub through : (ℤ → ℤ → State → Outcome) → List ℤ → ℤ → State → Outcome
through F [] x s = done (number x) s
through F (y ∷ ys) x s = then_number (F x y s) (λ z u. through F ys z u)

pub then_same : (o : Outcome) (k l : Value → State → Outcome) → ((v : Value) (s : State) → k v s ≡ l v s) → then_value o k ≡ then_value o l
then_same (done v s) k l h = h v s
then_same (fault n) k l h = refl

folded-places : (F : ℤ → ℤ → State → Outcome) (g : Field) (x : ℤ) (s : State) → folded F g x s ≡ through F (places g) x s
unfolding folded places through
folded-places F [] x s = refl
folded-places F (none ∷ g) x s = folded-places F g x s
folded-places F (some y ∷ g) x s = then_same (F x y s) _ _ (λ v u. folded-places F g (number_of v) u)

-- the fold of what is left: the cells at the places ks
unfoldable pub along : (ℤ → ℤ → State → Outcome) → List ℕ → List ℤ → ℤ → State → Outcome
along F ks cells x s = through F (map (λ (k : ℕ). get_or cells k (pos 0)) ks) x s

module _ (F : ℤ → ℤ → State → Outcome) (d : ℕ) (cells : List ℤ) (x : ℤ) (s : State) where
  pub fold-starts : folded F (field_of d cells) x s ≡ along F (members d) cells x s
  unfolding along
  fold-starts = folded-places F (field_of d cells) x s ∙ ap (λ (l : List ℤ). through F l x s) (places-members d cells)

  pub fold-ends : members d ≡ [] → along F (members d) cells x s ≡ done (number x) s
  unfolding along through
  fold-ends e = rw e

  pub fold-turns : (r k : ℕ) → members d ≡ k ∷ members r
      → along F (members d) cells x s ≡ then_number (F x (get_or cells k (pos 0)) s) (λ z u. along F (members r) cells z u)
  unfolding along through
  fold-turns r k e = rw e
