-- no two fine programs are spelt alike.
use mathlib.Core.Path.{◌≡◌, refl, sym, ap, ◌∙◌}
use mathlib.Core.List.{List, [], ◌∷◌, ◌++◌, append_assoc, append-nil}
use Prim.Native.Nat.{ℕ}
use native.Mathlib.Omega.{arith}
use Rattle.notation.specs.Words.{Word, Piece, an_expression, a_binder, a_function, Role, fixed, calls, definition, no_form, the_def, role}
use Rattle.notation.specs.Grammar.{Token, opening, closing, word, Tree, leaf, form, Items, nil, expr, bare, Def, Program, tokens, item_tokens, name_tokens, def_tokens, defs_tokens}
use Rattle.notation.specs.Grammar.{program_tokens, ByRole, Fine, Fits, Exprs, FineDef, FineDefs, FineProgram}
use Rattle.notation.proofs.Words.{role-def}

-- a tree does not begin with a closing bracket
not-closing : (t : Tree) (a b : List Token) → closing ∷ a ≡ tokens t ++ b → ⊥
unfolding tokens
not-closing (leaf w) a b q = let z : ◌≡◌ {A = ℕ} 0 1 = cc in omega arith
not-closing (form h is) a b q = let z : ◌≡◌ {A = ℕ} 0 1 = cc in omega arith

mutual
  unfolding tokens Fine

  tree-one : (t u : Tree) → Fine t → Fine u → (a b : List Token) → tokens t ++ a ≡ tokens u ++ b → (t ≡ u) × (a ≡ b)
  tree-one (leaf w) (leaf v) f g a b q = (cc, cc)
  tree-one (leaf w) (form h is) f g a b q = let z : ◌≡◌ {A = ℕ} 0 1 = cc in absurd (omega arith)
  tree-one (form h is) (leaf v) f g a b q = let z : ◌≡◌ {A = ℕ} 0 1 = cc in absurd (omega arith)
  tree-one (form h is) (form k js) f g a b q =
      let e : h ≡ k = cc in
      let p : item_tokens is ++ closing ∷ a ≡ item_tokens js ++ closing ∷ b = sym (append_assoc (item_tokens is) (closing ∷ []) a) ∙ rest q ∙ append_assoc (item_tokens js) (closing ∷ []) b in
      let r = go (role h) f (rw e g) (λ ks f g. items-one is js ks f g (closing ∷ a) (closing ∷ b) p) (λ f g. many-one is js f g a b p) in
      let i = r.0 in
      (cc, r.1)
    where
      go : (o : Role) → ByRole o (λ ks. Fits is ks) (Exprs is) → ByRole o (λ ks. Fits js ks) (Exprs js)
          → ((ks : List Piece) → Fits is ks → Fits js ks → (is ≡ js) × (closing ∷ a ≡ closing ∷ b))
          → (Exprs is → Exprs js → (is ≡ js) × (a ≡ b)) → (is ≡ js) × (a ≡ b)
      go (fixed ks) f g i m = let r = i ks f g in let t = r.1 in (r.0, cc)
      go calls f g i m = m f g
      go definition f g i m = absurd f
      go no_form f g i m = absurd f

      rest : opening ∷ word h ∷ (item_tokens is ++ closing ∷ []) ++ a ≡ opening ∷ word k ∷ (item_tokens js ++ closing ∷ []) ++ b
          → (item_tokens is ++ closing ∷ []) ++ a ≡ (item_tokens js ++ closing ∷ []) ++ b
      rest q = cc

  items-one : (is js : Items) (ks : List Piece) → Fits is ks → Fits js ks → (a b : List Token) → item_tokens is ++ a ≡ item_tokens js ++ b → (is ≡ js) × (a ≡ b)
  items-one nil nil ks f g a b q = (refl, q)
  items-one nil (expr t js) [] f g a b q = absurd g
  items-one nil (expr t js) (k ∷ ks) f g a b q = absurd f
  items-one nil (bare w js) [] f g a b q = absurd g
  items-one nil (bare w js) (k ∷ ks) f g a b q = absurd f
  items-one (expr t is) nil [] f g a b q = absurd f
  items-one (expr t is) nil (k ∷ ks) f g a b q = absurd g
  items-one (expr t is) (expr u js) [] f g a b q = absurd f
  items-one (expr t is) (expr u js) (an_expression ∷ ks) f g a b q =
      let h = tree-one t u f.0 g.0 (item_tokens is ++ a) (item_tokens js ++ b) (sym (append_assoc (tokens t) (item_tokens is) a) ∙ q ∙ append_assoc (tokens u) (item_tokens js) b) in
      let i = items-one is js ks f.1 g.1 a b h.1 in
      ((cc (h.0, i.0)), i.1)
  items-one (expr t is) (expr u js) (a_binder ∷ ks) f g a b q = absurd f
  items-one (expr t is) (expr u js) (a_function ∷ ks) f g a b q = absurd f
  items-one (expr t is) (bare w js) [] f g a b q = absurd f
  items-one (expr t is) (bare w js) (an_expression ∷ ks) f g a b q = absurd g
  items-one (expr t is) (bare w js) (a_binder ∷ ks) f g a b q = absurd f
  items-one (expr t is) (bare w js) (a_function ∷ ks) f g a b q = absurd f
  items-one (bare w is) nil [] f g a b q = absurd f
  items-one (bare w is) nil (k ∷ ks) f g a b q = absurd g
  items-one (bare w is) (expr t js) [] f g a b q = absurd f
  items-one (bare w is) (expr t js) (an_expression ∷ ks) f g a b q = absurd f
  items-one (bare w is) (expr t js) (a_binder ∷ ks) f g a b q = absurd g
  items-one (bare w is) (expr t js) (a_function ∷ ks) f g a b q = absurd g
  items-one (bare w is) (bare v js) [] f g a b q = absurd f
  items-one (bare w is) (bare v js) (an_expression ∷ ks) f g a b q = absurd f
  items-one (bare w is) (bare v js) (a_binder ∷ ks) f g a b q =
      let e : w ≡ v = cc in
      let i = items-one is js ks f.1 g.1 a b (cc) in
      ((cc i.0), i.1)
  items-one (bare w is) (bare v js) (a_function ∷ ks) f g a b q =
      let e : w ≡ v = cc in
      let i = items-one is js ks f.1 g.1 a b (cc) in
      ((cc i.0), i.1)

  many-one : (is js : Items) → Exprs is → Exprs js → (a b : List Token) → item_tokens is ++ closing ∷ a ≡ item_tokens js ++ closing ∷ b → (is ≡ js) × (a ≡ b)
  many-one nil nil f g a b q = (refl, cc)
  many-one nil (expr t js) f g a b q = absurd (not-closing t a (item_tokens js ++ closing ∷ b) (q ∙ append_assoc (tokens t) (item_tokens js) (closing ∷ b)))
  many-one nil (bare w js) f g a b q = absurd g
  many-one (expr t is) nil f g a b q = absurd (not-closing t b (item_tokens is ++ closing ∷ a) (sym q ∙ append_assoc (tokens t) (item_tokens is) (closing ∷ a)))
  many-one (expr t is) (expr u js) f g a b q =
      let h = tree-one t u f.0 g.0 (item_tokens is ++ closing ∷ a) (item_tokens js ++ closing ∷ b)
      (sym (append_assoc (tokens t) (item_tokens is) (closing ∷ a)) ∙ q ∙ append_assoc (tokens u) (item_tokens js) (closing ∷ b)) in
      let i = many-one is js f.1 g.1 a b h.1 in
      ((cc (h.0, i.0)), i.1)
  many-one (expr t is) (bare w js) f g a b q = absurd g
  many-one (bare w is) js f g a b q = absurd f

names-one : (vs ws : List Word) (a b : List Token) → name_tokens vs ++ closing ∷ a ≡ name_tokens ws ++ closing ∷ b → (vs ≡ ws) × (a ≡ b)
unfolding name_tokens
names-one [] [] a b q = (refl, cc)
names-one [] (w ∷ ws) a b q = let z : ◌≡◌ {A = ℕ} 0 1 = cc in absurd (omega arith)
names-one (v ∷ vs) [] a b q = let z : ◌≡◌ {A = ℕ} 0 1 = cc in absurd (omega arith)
names-one (v ∷ vs) (w ∷ ws) a b q = let r = names-one vs ws a b (cc) in let e : v ≡ w = cc in let i = r.0 in (cc, r.1)

-- the tokens of a definition, then others
def-then : (d : Def) (a : List Token) → def_tokens d ++ a ≡ opening ∷ word the_def ∷ word d.name ∷ opening ∷ name_tokens d.params ++ (closing ∷ tokens d.body ++ closing ∷ a)
unfolding def_tokens
def-then d a =
    ap (λ (l : List Token). opening ∷ word the_def ∷ word d.name ∷ opening ∷ l)
    (append_assoc (name_tokens d.params) (closing ∷ tokens d.body ++ closing ∷ []) a
    ∙ ap (λ (l : List Token). name_tokens d.params ++ (closing ∷ l)) (append_assoc (tokens d.body) (closing ∷ []) a))

def-one : (d e : Def) → FineDef d → FineDef e → (a b : List Token) → def_tokens d ++ a ≡ def_tokens e ++ b → (d ≡ e) × (a ≡ b)
def-one d e f g a b q =
    let p = sym (def-then d a) ∙ q ∙ def-then e b in
    let n : d.name ≡ e.name = cc in
    let r = names-one d.params e.params (tokens d.body ++ closing ∷ a) (tokens e.body ++ closing ∷ b) (cc) in
    let t = tree-one d.body e.body f.fine g.fine (closing ∷ a) (closing ∷ b) r.1 in
    let u = t.1 in
    ((λ i. record { name = n i; params = r.0 i; body = t.0 i }), cc)

-- no expression is spelt like a definition
not-def : (t : Tree) → Fine t → (d : Def) (a b : List Token) → tokens t ++ a ≡ def_tokens d ++ b → ⊥
unfolding tokens Fine
not-def (leaf w) f d a b q = let p = q ∙ def-then d b in let z : ◌≡◌ {A = ℕ} 0 1 = cc in omega arith
not-def (form h is) f d a b q =
    let p = q ∙ def-then d b in
    let e : h ≡ the_def = cc in
    go (role h) (ap role e ∙ role-def) f
  where
    go : (o : Role) → o ≡ definition → ByRole o (λ ks. Fits is ks) (Exprs is) → ⊥
    go (fixed ks) e f = let z : ◌≡◌ {A = ℕ} 0 1 = cc in omega arith
    go calls e f = let z : ◌≡◌ {A = ℕ} 0 1 = cc in omega arith
    go definition e f = f
    go no_form e f = f

defs-one : (ds es : List Def) (t u : Tree) → FineDefs ds → FineDefs es → Fine t → Fine u → (a b : List Token)
    → defs_tokens ds ++ (tokens t ++ a) ≡ defs_tokens es ++ (tokens u ++ b) → (ds ≡ es) × (t ≡ u) × (a ≡ b)
unfolding defs_tokens FineDefs
defs-one [] [] t u f g h k a b q = let r = tree-one t u h k a b q in (refl, r.0, r.1)
defs-one [] (e ∷ es) t u f g h k a b q = absurd (not-def t h e a (defs_tokens es ++ (tokens u ++ b)) (q ∙ append_assoc (def_tokens e) (defs_tokens es) (tokens u ++ b)))
defs-one (d ∷ ds) [] t u f g h k a b q = absurd (not-def u k d b (defs_tokens ds ++ (tokens t ++ a)) (sym q ∙ append_assoc (def_tokens d) (defs_tokens ds) (tokens t ++ a)))
defs-one (d ∷ ds) (e ∷ es) t u f g h k a b q =
    let r = def-one d e f.0 g.0 (defs_tokens ds ++ (tokens t ++ a)) (defs_tokens es ++ (tokens u ++ b))
    (sym (append_assoc (def_tokens d) (defs_tokens ds) (tokens t ++ a)) ∙ q ∙ append_assoc (def_tokens e) (defs_tokens es) (tokens u ++ b)) in
    let i = defs-one ds es t u f.1 g.1 h k a b r.1 in
    let x = r.0 in
    let y = i.0 in
    (cc, i.1, i.2)

pub one-program : (p q : Program) → FineProgram p → FineProgram q → program_tokens p ≡ program_tokens q → p ≡ q
unfolding program_tokens
one-program p q f g e =
    let r = defs-one p.defs q.defs p.main q.main f.definitions g.definitions f.main g.main [] [] (rw (append-nil (tokens p.main), append-nil (tokens q.main)) e) in
    λ i. record { defs = r.0 i; main = r.1 i }
