-- A call and a fold by definition name a definition: it is the first of their numbers.
use mathlib.Core.Path.{◌≡◌, refl, sym, subst}
use mathlib.Core.Logic.{◌⊎◌, inl, inr}
use mathlib.Core.List.{List, ◌∷◌, Memᴰ}
use Prim.Native.Nat.{ℕ, ◌-◌, ◌<◌}
use native.Mathlib.Omega.{arith}
use lib.ListN.{length, get_or}
use Rattle.program.specs.Table.{Item, definition, items_of, items, Node, picked}
use Rattle.program.specs.Conditions.{items_bytes, InRange, more}

-- of a call's items and numbers: the definition's number is the first, in the bytes too
pub record Leads (is : List Item) (vs : List ℕ) : Type 0 where
  pub first : get_or (items_bytes is vs) 0 0 ≡ get_or vs 0 0
  pub some : 0 < length (items_bytes is vs)
  pub names : Memᴰ (get_or vs 0 0) (picked definition is vs)

leads : {is : List Item} {vs : List ℕ} → InRange (definition ∷ is) vs → Leads (definition ∷ is) vs
unfolding items_bytes picked
leads (more h r) = record { first = refl; some = omega arith; names = Memᴰ.head refl }

leads-at : (y : Node) (k : ℕ) → (InRange (items_of k (length y.values - 1)) y.values → Leads (items_of k (length y.values - 1)) y.values)
    → y.kind ≡ k → InRange (items y) y.values → Leads (items y) y.values
leads-at y k f e =
    subst (λ (j : ℕ). InRange (items_of j (length y.values - 1)) y.values → Leads (items_of j (length y.values - 1)) y.values) (sym e) f

-- a fold by definition and a call name a definition
abbrev pub Bodied : ℕ → Type 0
Bodied kind = (kind ≡ 11) ⊎ (kind ≡ 12)

pub bodied-leads : (y : Node) → InRange (items y) y.values → Bodied y.kind → Leads (items y) y.values
bodied-leads y r (inl e) = leads-at y 11 leads e r
bodied-leads y r (inr e) = leads-at y 12 leads e r
