-- induction over trees, with what holds of each expression of a form, and the three shapes of a fine form.
use mathlib.Core.Path.{◌≡◌, refl, ap}
use mathlib.Core.Bool.{true, false}
use mathlib.Core.List.{[], ◌∷◌}
use Prim.Native.Nat.{ℕ, zero, suc}
use lib.ListN.{replicate}
use Rattle.notation.specs.Words.{Word, an_expression, a_binder, a_function, Head, plain, slotted, operation, rep, fold, define, call, nothing, role_of, head_of, role, binder, function}
use Rattle.notation.specs.Grammar.{Tree, leaf, form, Items, nil, expr, bare, ByRole, Fine, Fits, Exprs}
use Rattle.translation.specs.Names.{is_rep}
use Rattle.token_scans.proofs.Codes.{head_mode}

abbrev pub Each : (Tree → Type 0) → Items → Type 0
Each P nil = Unit {0}
Each P (expr t is) = P t × Each P is
Each P (bare w is) = Each P is

mutual
  pub by-trees : (t : Tree) (P : Tree → Type 0) → ((w : Word) → P (leaf w)) → ((h : Word) (is : Items) → Each P is → P (form h is)) → P t
  by-trees (leaf w) P l f = l w
  by-trees (form h is) P l f = f h is (by-items is P l f)

  by-items : (is : Items) (P : Tree → Type 0) → ((w : Word) → P (leaf w)) → ((h : Word) (is : Items) → Each P is → P (form h is)) → Each P is
  by-items nil P l f = tt
  by-items (expr t is) P l f = (by-trees t P l f, by-items is P l f)
  by-items (bare w is) P l f = by-items is P l f

-- expressions only; a fold with its function in front of them; a rep with its name, its initial part and its update
pub data Shape (h : Word) : Items → Type 0 where
  plainly : {is : Items} → head_mode (head_of h) ≡ 0 → is_rep (head_of h) ≡ false → Exprs is → Shape h is
  folding : {is : Items} (w : Word) → head_of h ≡ fold → function w ≡ true → Exprs is → Shape h (bare w is)
  repeating : (x : Word) (a b : Tree) → head_of h ≡ rep → binder x ≡ true → Fine a → Fine b → Shape h (bare x (expr a (expr b nil)))

exprs-of : (n : ℕ) (is : Items) → Fits is (replicate n an_expression) → Exprs is
unfolding Fits
exprs-of zero nil f = tt
exprs-of zero (expr t is) f = absurd f
exprs-of zero (bare w is) f = absurd f
exprs-of (suc n) nil f = absurd f
exprs-of (suc n) (expr t is) f = (f.0, exprs-of n is f.1)
exprs-of (suc n) (bare w is) f = absurd f

fold-shape : (h : Word) (is : Items) → head_of h ≡ fold → Fits is (a_function ∷ an_expression ∷ an_expression ∷ []) → Shape h is
unfolding Fits
fold-shape h nil e f = absurd f
fold-shape h (expr t is) e f = absurd f
fold-shape h (bare w is) e f = folding w e f.0 (exprs-of 2 is f.1)

rep-shape : (h : Word) (is : Items) → head_of h ≡ rep → Fits is (a_binder ∷ an_expression ∷ an_expression ∷ []) → Shape h is
unfolding Fits
rep-shape h nil e f = absurd f
rep-shape h (expr t is) e f = absurd f
rep-shape h (bare w nil) e f = absurd f.1
rep-shape h (bare w (bare x is)) e f = absurd f.1
rep-shape h (bare w (expr a nil)) e f = absurd f.1.1
rep-shape h (bare w (expr a (bare x is))) e f = absurd f.1.1
rep-shape h (bare w (expr a (expr b nil))) e f = repeating w a b e f.0 f.1.0 f.1.1.0
rep-shape h (bare w (expr a (expr b (expr c is)))) e f = absurd f.1.1.1
rep-shape h (bare w (expr a (expr b (bare x is)))) e f = absurd f.1.1.1

shape-by : (h : Word) (is : Items) (k : Head) → head_of h ≡ k → ByRole (role_of k) (λ ks. Fits is ks) (Exprs is) → Shape h is
shape-by h is (plain kind n) e f = plainly (ap head_mode e) (ap is_rep e) (exprs-of n is f)
shape-by h is (slotted kind n) e f = plainly (ap head_mode e) (ap is_rep e) (exprs-of n is f)
shape-by h is operation e f = plainly (ap head_mode e) (ap is_rep e) (exprs-of 2 is f)
shape-by h is rep e f = rep-shape h is e f
shape-by h is fold e f = fold-shape h is e f
shape-by h is define e f = absurd f
shape-by h is call e f = plainly (ap head_mode e) (ap is_rep e) f
shape-by h is nothing e f = absurd f

pub shape_of : (h : Word) (is : Items) → Fine (form h is) → Shape h is
unfolding Fine role
shape_of h is f = shape-by h is (head_of h) refl f

pub each_of : (P : Tree → Type 0) → ((t : Tree) → P t) → (is : Items) → Each P is
each_of P p nil = tt
each_of P p (expr t is) = (p t, each_of P p is)
each_of P p (bare w is) = each_of P p is
