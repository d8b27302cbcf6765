-- A text's program by computation, and whether it is fine: for the examples. Assumes nothing.
use mathlib.Core.Path.{◌≡◌, refl, sym}
use mathlib.Core.Bool.{Bool, true, false, cond}
use mathlib.Core.List.{List, [], ◌∷◌}
use mathlib.Core.Option.{Option, none, some}
use Prim.Native.Nat.{ℕ, zero, suc}
use lib.ListN.{length, drop, get_or}
use Rattle.notation.specs.Words.{Word, same_word, Piece, an_expression, a_binder, a_function, Role, fixed, calls, definition, no_form, the_def, the_rep, the_fold, atom, binder, function, role}
use Rattle.notation.specs.Grammar.{Token, opening, closing, word, Tree, leaf, form, Items, nil, expr, bare, Def, Program, ByRole, Fine, Fits, Exprs, Names, FineDef, FineDefs, FineProgram}
use Rattle.decide.proofs.Picks.{not-both}
use Rattle.notation.proofs.Lexing.{lex}

-- ---- the tree of a text, to be held against its words; n is at least the number of tokens

-- a rep and a fold lead with a bare word
abbrev leads : Word → Items → Items
leads h nil = nil
leads h (expr (leaf w) is) = cond (same_word h the_rep) (bare w is) (cond (same_word h the_fold) (bare w is) (expr (leaf w) is))
leads h (expr (form k js) is) = expr (form k js) is
leads h (bare w is) = bare w is

abbrev text : Token → Word
text opening = []
text closing = []
text (word w) = w

-- up to a closing bracket, and what stands behind it
unfoldable pub items : ℕ → List Token → Items × List Token
items zero ts = (nil, ts)
items (suc n) [] = (nil, [])
items (suc n) (closing ∷ ts) = (nil, ts)
items (suc n) (word w ∷ ts) = let r = items n ts in (expr (leaf w) r.0, r.1)
items (suc n) (opening ∷ ts) =
    let h = text (get_or ts 0 opening) in
    let r = items n (drop 1 ts) in
    let q = items n r.1 in
    (expr (form h (leads h r.0)) q.0, q.1)

abbrev words : List Token → List Word × List Token
words [] = ([], [])
words (opening ∷ ts) = ([], ts)
words (closing ∷ ts) = ([], ts)
words (word w ∷ ts) = let r = words ts in (w ∷ r.0, r.1)

abbrev first : Items → Tree
first nil = leaf []
first (expr t is) = t
first (bare w is) = leaf w

unfoldable pub program_from : ℕ → List Token → Program
program_from zero ts = record { defs = []; main = leaf [] }
program_from (suc n) ts =
    let params = words (drop 4 ts) in
    let body = items n params.1 in
    let more = program_from n body.1 in
    cond (same_word (text (get_or ts 1 opening)) the_def)
    (record { defs = record { name = text (get_or ts 2 opening); params = params.0; body = first body.0 } ∷ more.defs; main = more.main })
    (record { defs = []; main = first (items n ts).0 })

abbrev pub program_of : List ℕ → Program
program_of s = let ts = lex s in program_from (suc (length ts)) ts

-- ---- whether a program is fine, and why
abbrev test : (c : Bool) → Option (c ≡ true)
test true = some refl
test false = none

abbrev pair : {A B : Type 0} → Option A → Option B → Option (A × B)
pair none b = none
pair (some a) none = none
pair (some a) (some b) = some (a, b)

abbrev by_head : {f : List Piece → Type 0} {g : Type 0} (o : Role) → ((ks : List Piece) → Option (f ks)) → Option g → Option (ByRole o f g)
by_head (fixed ks) f g = f ks
by_head calls f g = g
by_head definition f g = none
by_head no_form f g = none

unfoldable mutual
  unfolding Fine Fits Exprs

  pub fine_tree : (t : Tree) → Option (Fine t)
  fine_tree (leaf w) = test (atom w)
  fine_tree (form h is) = by_head {f = λ ks. Fits is ks} {g = Exprs is} (role h) (λ ks. fits is ks) (exprs is)

  pub fits : (is : Items) (ks : List Piece) → Option (Fits is ks)
  fits nil [] = some tt
  fits nil (k ∷ ks) = none
  fits (expr t is) [] = none
  fits (expr t is) (an_expression ∷ ks) = pair (fine_tree t) (fits is ks)
  fits (expr t is) (a_binder ∷ ks) = none
  fits (expr t is) (a_function ∷ ks) = none
  fits (bare w is) [] = none
  fits (bare w is) (an_expression ∷ ks) = none
  fits (bare w is) (a_binder ∷ ks) = pair (test (binder w)) (fits is ks)
  fits (bare w is) (a_function ∷ ks) = pair (test (function w)) (fits is ks)

  pub exprs : (is : Items) → Option (Exprs is)
  exprs nil = some tt
  exprs (expr t is) = pair (fine_tree t) (exprs is)
  exprs (bare w is) = none

unfoldable pub names : (n : ℕ) (ws : List Word) → Option (Names n ws)
unfolding Names
names n [] = some tt
names zero (w ∷ ws) = none
names (suc n) (w ∷ ws) = pair (test (binder w)) (names n ws)

abbrev fine_def : (d : Def) → Option (FineDef d)
fine_def d = go (test (binder d.name)) (names 4 d.params) (fine_tree d.body)
  where
    go : Option (binder d.name ≡ true) → Option (Names 4 d.params) → Option (Fine d.body) → Option (FineDef d)
    go none b c = none
    go (some a) none c = none
    go (some a) (some b) none = none
    go (some a) (some b) (some c) = some (record { named = a; at_most_four = b; fine = c })

unfoldable pub fine_defs : (ds : List Def) → Option (FineDefs ds)
unfolding FineDefs
fine_defs [] = some tt
fine_defs (d ∷ ds) = pair (fine_def d) (fine_defs ds)

abbrev pub is_some : {A : Type 0} → Option A → Bool
is_some none = false
is_some (some a) = true

abbrev pub is_fine : Program → Bool
is_fine p = is_some (pair (fine_defs p.defs) (fine_tree p.main))

pub fine-program : (p : Program) → is_fine p ≡ true → FineProgram p
fine-program p e = go (fine_defs p.defs) (fine_tree p.main) e
  where
    go : (a : Option (FineDefs p.defs)) (b : Option (Fine p.main)) → is_some (pair a b) ≡ true → FineProgram p
    go none b e = not-both (sym e)
    go (some a) none e = not-both (sym e)
    go (some a) (some b) e = record { definitions = a; main = b }
