-- a stack machine that takes exactly the tokens of fine programs.
use mathlib.Core.Path.{◌≡◌, refl, sym, ap, ◌∙◌}
use mathlib.Core.Bool.{Bool, true, false, cond}
use mathlib.Core.List.{List, [], ◌∷◌, ◌++◌, append_assoc, append-nil}
use mathlib.Core.Option.{Option, none, some}
use mathlib.Core.Logic.{◌↔◌}
use Prim.Native.Nat.{ℕ, zero, suc}
use native.Mathlib.Omega.{arith}
use Rattle.decide.proofs.Options.{none-some}
use Rattle.notation.specs.Words.{Word, Piece, an_expression, a_binder, a_function, Role, fixed, calls, definition, no_form, the_def, atom, binder, function, role}
use Rattle.notation.specs.Grammar.{Token, opening, closing, word, Tree, leaf, form, Items, nil, expr, bare, Def, Program, tokens, item_tokens, name_tokens, def_tokens, defs_tokens}
use Rattle.notation.specs.Grammar.{program_tokens, ByRole, Fine, Fits, Exprs, Names, FineDef, FineDefs, FineProgram}
use Rattle.notation.proofs.Words.{role-def, role-is-def}

-- what is still to come: an item, a head, any number of expressions and a closing bracket, a closing bracket;
-- a program, the head of its first form, a list of parameters, at most so many of them and a closing bracket
pub data Symbol : Type 0 where
  item : Piece → Symbol
  head many shut program form_head list : Symbol
  params : ℕ → Symbol

abbrev pub push : List Piece → List Symbol → List Symbol
push [] st = st
push (k ∷ ks) st = item k ∷ push ks st

abbrev pub headed : Role → List Symbol → Option (List Symbol)
headed (fixed ks) st = some (push ks (shut ∷ st))
headed calls st = some (many ∷ st)
headed definition st = none
headed no_form st = none

-- behind the first bracket of a program a definition may begin
abbrev pub begun : Role → List Symbol → Option (List Symbol)
begun (fixed ks) st = some (push ks (shut ∷ st))
begun calls st = some (many ∷ st)
begun definition st = some (item a_binder ∷ list ∷ item an_expression ∷ shut ∷ program ∷ st)
begun no_form st = none

unfoldable pub step : List Symbol → Token → Option (List Symbol)
step [] t = none
step (item an_expression ∷ st) opening = some (head ∷ st)
step (item an_expression ∷ st) closing = none
step (item an_expression ∷ st) (word w) = cond (atom w) (some st) none
step (item a_binder ∷ st) opening = none
step (item a_binder ∷ st) closing = none
step (item a_binder ∷ st) (word w) = cond (binder w) (some st) none
step (item a_function ∷ st) opening = none
step (item a_function ∷ st) closing = none
step (item a_function ∷ st) (word w) = cond (function w) (some st) none
step (head ∷ st) opening = none
step (head ∷ st) closing = none
step (head ∷ st) (word w) = headed (role w) st
step (many ∷ st) opening = some (head ∷ many ∷ st)
step (many ∷ st) closing = some st
step (many ∷ st) (word w) = cond (atom w) (some (many ∷ st)) none
step (shut ∷ st) opening = none
step (shut ∷ st) closing = some st
step (shut ∷ st) (word w) = none
step (program ∷ st) opening = some (form_head ∷ st)
step (program ∷ st) closing = none
step (program ∷ st) (word w) = cond (atom w) (some st) none
step (form_head ∷ st) opening = none
step (form_head ∷ st) closing = none
step (form_head ∷ st) (word w) = begun (role w) st
step (list ∷ st) opening = some (params 4 ∷ st)
step (list ∷ st) closing = none
step (list ∷ st) (word w) = none
step (params n ∷ st) opening = none
step (params n ∷ st) closing = some st
step (params zero ∷ st) (word w) = none
step (params (suc n) ∷ st) (word w) = cond (binder w) (some (params n ∷ st)) none

abbrev pub onward : Option (List Symbol) → (List Symbol → Option (List Symbol)) → Option (List Symbol)
onward none k = none
onward (some st) k = k st

abbrev pub run : List Symbol → List Token → Option (List Symbol)
run st [] = some st
run st (t ∷ ts) = onward (step st t) (λ st. run st ts)

-- ---- every spelling of a fine tree is taken
as_one : (t : Tree) (st : List Symbol) (r : List Token) → run (many ∷ st) (tokens t ++ r) ≡ run (item an_expression ∷ many ∷ st) (tokens t ++ r)
unfolding tokens step
as_one (leaf w) st r = refl
as_one (form h is) st r = refl

mutual
  unfolding tokens Fine step

  tree-run : (t : Tree) → Fine t → (st : List Symbol) (r : List Token) → run (item an_expression ∷ st) (tokens t ++ r) ≡ run st r
  tree-run (leaf w) f st r = rw f
  tree-run (form h is) f st r =
      rw (append_assoc (item_tokens is) (closing ∷ []) r)
      (go (role h) f (λ ks g. items-run is ks g (shut ∷ st) (closing ∷ r)) (λ g. many-run is g st r))
    where
      go : (o : Role) → ByRole o (λ ks. Fits is ks) (Exprs is)
          → ((ks : List Piece) → Fits is ks → run (push ks (shut ∷ st)) (item_tokens is ++ closing ∷ r) ≡ run st r)
          → (Exprs is → run (many ∷ st) (item_tokens is ++ closing ∷ r) ≡ run st r)
          → onward (headed o st) (λ st. run st (item_tokens is ++ closing ∷ r)) ≡ run st r
      go (fixed ks) f i m = i ks f
      go calls f i m = m f
      go definition f i m = absurd f
      go no_form f i m = absurd f

  items-run : (is : Items) (ks : List Piece) → Fits is ks → (st : List Symbol) (r : List Token) → run (push ks st) (item_tokens is ++ r) ≡ run st r
  items-run nil [] f st r = refl
  items-run nil (k ∷ ks) f st r = absurd f
  items-run (expr t is) [] f st r = absurd f
  items-run (expr t is) (an_expression ∷ ks) f st r =
      rw (append_assoc (tokens t) (item_tokens is) r) (tree-run t f.0 (push ks st) (item_tokens is ++ r) ∙ items-run is ks f.1 st r)
  items-run (expr t is) (a_binder ∷ ks) f st r = absurd f
  items-run (expr t is) (a_function ∷ ks) f st r = absurd f
  items-run (bare w is) [] f st r = absurd f
  items-run (bare w is) (an_expression ∷ ks) f st r = absurd f
  items-run (bare w is) (a_binder ∷ ks) f st r = rw f.0 (items-run is ks f.1 st r)
  items-run (bare w is) (a_function ∷ ks) f st r = rw f.0 (items-run is ks f.1 st r)

  many-run : (is : Items) → Exprs is → (st : List Symbol) (r : List Token) → run (many ∷ st) (item_tokens is ++ closing ∷ r) ≡ run st r
  many-run nil f st r = refl
  many-run (expr t is) f st r =
      rw (append_assoc (tokens t) (item_tokens is) (closing ∷ r))
      (as_one t st (item_tokens is ++ closing ∷ r) ∙ tree-run t f.0 (many ∷ st) (item_tokens is ++ closing ∷ r) ∙ many-run is f.1 st r)
  many-run (bare w is) f st r = absurd f

-- an expression that ends a program is taken as any other
main-run : (t : Tree) → Fine t → (st : List Symbol) (r : List Token) → run (program ∷ st) (tokens t ++ r) ≡ run st r
unfolding tokens Fine step
main-run (leaf w) f st r = rw f
main-run (form h is) f st r = as-head (role h) f ∙ tree-run (form h is) f st r
  where
    as-head : (o : Role) → ByRole o (λ ks. Fits is ks) (Exprs is)
        → onward (begun o st) (λ st. run st ((item_tokens is ++ closing ∷ []) ++ r)) ≡ onward (headed o st) (λ st. run st ((item_tokens is ++ closing ∷ []) ++ r))
    as-head (fixed ks) f = refl
    as-head calls f = refl
    as-head definition f = absurd f
    as-head no_form f = absurd f

names-run : (n : ℕ) (ws : List Word) → Names n ws → (st : List Symbol) (r : List Token) → run (params n ∷ st) (name_tokens ws ++ closing ∷ r) ≡ run st r
unfolding Names name_tokens step
names-run n [] f st r = refl
names-run zero (w ∷ ws) f st r = absurd f
names-run (suc n) (w ∷ ws) f st r = rw f.0 (names-run n ws f.1 st r)

def-run : (d : Def) → FineDef d → (st : List Symbol) (r : List Token) → run (program ∷ st) (def_tokens d ++ r) ≡ run (program ∷ st) r
unfolding def_tokens step
def-run d f st r =
    rw (role-def, f.named)
    (rw (append_assoc (name_tokens d.params) (closing ∷ tokens d.body ++ closing ∷ []) r)
    (names-run 4 d.params f.at_most_four (item an_expression ∷ shut ∷ program ∷ st) ((tokens d.body ++ closing ∷ []) ++ r)
    ∙ rw (append_assoc (tokens d.body) (closing ∷ []) r) (tree-run d.body f.fine (shut ∷ program ∷ st) (closing ∷ r))))

defs-run : (ds : List Def) → FineDefs ds → (st : List Symbol) (r : List Token) → run (program ∷ st) (defs_tokens ds ++ r) ≡ run (program ∷ st) r
unfolding defs_tokens FineDefs
defs-run [] f st r = refl
defs-run (d ∷ ds) f st r = rw (append_assoc (def_tokens d) (defs_tokens ds) r) (def-run d f.0 st (defs_tokens ds ++ r) ∙ defs-run ds f.1 st r)

program-run : (p : Program) → FineProgram p → (st : List Symbol) (r : List Token) → run (program ∷ st) (program_tokens p ++ r) ≡ run st r
unfolding program_tokens
program-run p f st r =
    rw (append_assoc (defs_tokens p.defs) (tokens p.main) r)
    (defs-run p.defs f.definitions st (tokens p.main ++ r) ∙ main-run p.main f.main st r)

-- ---- what is taken is spelt: the tokens that finish a stack
abbrev Spelt : Symbol → List Token → Type 0
Spelt (item an_expression) a = (t : Tree) × Fine t × (a ≡ tokens t)
Spelt (item a_binder) a = (w : Word) × (binder w ≡ true) × (a ≡ word w ∷ [])
Spelt (item a_function) a = (w : Word) × (function w ≡ true) × (a ≡ word w ∷ [])
Spelt head a = (h : Word) × (is : Items) × Fine (form h is) × (a ≡ word h ∷ item_tokens is ++ closing ∷ [])
Spelt many a = (is : Items) × Exprs is × (a ≡ item_tokens is ++ closing ∷ [])
Spelt shut a = a ≡ closing ∷ []
Spelt program a = (p : Program) × FineProgram p × (a ≡ program_tokens p)
Spelt form_head a = (p : Program) × FineProgram p × (opening ∷ a ≡ program_tokens p)
Spelt list a = (ws : List Word) × Names 4 ws × (a ≡ opening ∷ name_tokens ws ++ closing ∷ [])
Spelt (params n) a = (ws : List Word) × Names n ws × (a ≡ name_tokens ws ++ closing ∷ [])

data All : List Symbol → List Token → Type 0 where
  done : All [] []
  more : {s : Symbol} {st : List Symbol} (a b : List Token) → Spelt s a → All st b → All (s ∷ st) (a ++ b)

-- a form's items, from those that its kinds ask for
gather : (ks : List Piece) (st : List Symbol) (ts : List Token) → All (push ks (shut ∷ st)) ts
    → (is : Items) × (b : List Token) × Fits is ks × (ts ≡ item_tokens is ++ closing ∷ b) × All st b
unfolding item_tokens Fits
gather [] st ts (more a b s r) = (nil, b, tt, ap (λ (l : List Token). l ++ b) s, r)
gather (an_expression ∷ ks) st ts (more a b (t, f, e) r) =
    let g = gather ks st b r in
    (expr t g.0, g.1, (f, g.2), ap (λ (l : List Token). l ++ b) e ∙ ap (λ (l : List Token). tokens t ++ l) g.3 ∙ sym (append_assoc (tokens t) (item_tokens g.0) (closing ∷ g.1)), g.4)
gather (a_binder ∷ ks) st ts (more a b (w, f, e) r) =
    let g = gather ks st b r in
    (bare w g.0, g.1, (f, g.2), ap (λ (l : List Token). l ++ b) e ∙ ap (λ (l : List Token). word w ∷ l) g.3, g.4)
gather (a_function ∷ ks) st ts (more a b (w, f, e) r) =
    let g = gather ks st b r in
    (bare w g.0, g.1, (f, g.2), ap (λ (l : List Token). l ++ b) e ∙ ap (λ (l : List Token). word w ∷ l) g.3, g.4)

-- one token back
by-test : (c : Bool) (st st' : List Symbol) → cond c (some st) none ≡ some st' → (c ≡ true) × (st ≡ st')
by-test true st st' q = (refl, cc)
by-test false st st' q = let z : ◌≡◌ {A = ℕ} 0 1 = cc in absurd (omega arith)

as_items : {s : Symbol} {st : List Symbol} {ts : List Token} (a b : List Token) → ts ≡ a ++ b → Spelt s a → All st b → All (s ∷ st) ts
as_items a b e s r = rw e (more a b s r)

back-fixed : (w : Word) (ks : List Piece) (st : List Symbol) (ts : List Token) → role w ≡ fixed ks → All (push ks (shut ∷ st)) ts → All (head ∷ st) (word w ∷ ts)
unfolding Fine
back-fixed w ks st ts e r =
    let g = gather ks st ts r in
    as_items (word w ∷ item_tokens g.0 ++ closing ∷ []) g.1
    (ap (λ (l : List Token). word w ∷ l) (g.3 ∙ sym (append_assoc (item_tokens g.0) (closing ∷ []) g.1)))
    (w, g.0, rw e g.2, refl) g.4

back-call : (w : Word) (st : List Symbol) (ts : List Token) → role w ≡ calls → All (many ∷ st) ts → All (head ∷ st) (word w ∷ ts)
unfolding Fine
back-call w st ts e (more a b (is, f, h) r) =
    as_items (word w ∷ a) b refl (w, is, rw e f, ap (λ (l : List Token). word w ∷ l) h) r

back_head : (w : Word) (o : Role) (st st' : List Symbol) (ts : List Token) → role w ≡ o → headed o st ≡ some st' → All st' ts → All (head ∷ st) (word w ∷ ts)
back_head w (fixed ks) st st' ts e q r = let p : push ks (shut ∷ st) ≡ st' = cc in back-fixed w ks st ts e (rw p r)
back_head w calls st st' ts e q r = let p : many ∷ st ≡ st' = cc in back-call w st ts e (rw p r)
back_head w definition st st' ts e q r = none-some q
back_head w no_form st st' ts e q r = none-some q

-- a form that is no definition is the program's expression
as-main : (st : List Symbol) (ts : List Token) → All (head ∷ st) ts → All (form_head ∷ st) ts
unfolding program_tokens defs_tokens tokens FineDefs
as-main st ts (more a b (h, is, f, e) r) =
    as_items a b refl (record { defs = []; main = form h is }, record { definitions = tt; main = f }, ap (λ (l : List Token). opening ∷ l) e) r

-- a definition goes before the rest of the program
def-spelt : (n : Word) (ws : List Word) (t : Tree) (p : Program)
    → opening ∷ word the_def ∷ word n ∷ opening ∷ (name_tokens ws ++ closing ∷ []) ++ (tokens t ++ closing ∷ program_tokens p)
    ≡ program_tokens (record { defs = record { name = n; params = ws; body = t } ∷ p.defs; main = p.main })
unfolding program_tokens defs_tokens def_tokens
def-spelt n ws t p =
    ap (λ (l : List Token). opening ∷ word the_def ∷ word n ∷ opening ∷ l) (regroup (name_tokens ws) (tokens t) (program_tokens p))
    ∙ sym (append_assoc (def_tokens (record { name = n; params = ws; body = t })) (defs_tokens p.defs) (tokens p.main))
  where
    regroup : (x t y : List Token) → (x ++ closing ∷ []) ++ (t ++ closing ∷ y) ≡ (x ++ (closing ∷ t ++ closing ∷ [])) ++ y
    regroup x t y =
        append_assoc x (closing ∷ []) (t ++ closing ∷ y) ∙ sym (ap (λ (l : List Token). x ++ closing ∷ l) (append_assoc t (closing ∷ []) y))
        ∙ sym (append_assoc x (closing ∷ t ++ closing ∷ []) y)

back-def : (w : Word) (st : List Symbol) (ts : List Token) → role w ≡ definition → All (item a_binder ∷ list ∷ item an_expression ∷ shut ∷ program ∷ st) ts → All (form_head ∷ st) (word w ∷ ts)
unfolding program_tokens defs_tokens def_tokens FineDefs
back-def w st ts q (more a b (n, fn, en) (more a₁ b₁ (ws, fs, es) (more a₂ b₂ (t, ft, et) (more a₃ b₃ e₃ (more a₄ b₄ (p, fp, ep) r))))) =
    as_items (word w ∷ a ++ (a₁ ++ (a₂ ++ (a₃ ++ a₄)))) b₄ (simp append_assoc) (
      record { defs = record { name = n; params = ws; body = t } ∷ p.defs; main = p.main },
      record { definitions = (record { named = fn; at_most_four = fs; fine = ft }, fp.definitions); main = fp.main },
      rw (role-is-def w q, en, es, et, e₃, ep) (def-spelt n ws t p),
    ) r

back-begun : (w : Word) (o : Role) (st st' : List Symbol) (ts : List Token) → role w ≡ o → begun o st ≡ some st' → All st' ts → All (form_head ∷ st) (word w ∷ ts)
back-begun w (fixed ks) st st' ts e q r = let p : push ks (shut ∷ st) ≡ st' = cc in as-main st (word w ∷ ts) (back-fixed w ks st ts e (rw p r))
back-begun w calls st st' ts e q r = let p : many ∷ st ≡ st' = cc in as-main st (word w ∷ ts) (back-call w st ts e (rw p r))
back-begun w definition st st' ts e q r =
    let p : item a_binder ∷ list ∷ item an_expression ∷ shut ∷ program ∷ st ≡ st' = cc in back-def w st ts e (rw p r)
back-begun w no_form st st' ts e q r = none-some q

back : (st st' : List Symbol) (t : Token) (ts : List Token) → step st t ≡ some st' → All st' ts → All st (t ∷ ts)
unfolding step tokens item_tokens name_tokens program_tokens defs_tokens Fine Exprs Names FineDefs
back [] st' t ts q r = none-some q
back (item an_expression ∷ st) st' opening ts q r = let p : head ∷ st ≡ st' = cc in go st ts (rw p r)
  where
    go : (st : List Symbol) (ts : List Token) → All (head ∷ st) ts → All (item an_expression ∷ st) (opening ∷ ts)
    go st ts (more a b (h, is, f, e) r) = as_items (opening ∷ a) b refl (form h is, f, ap (λ (l : List Token). opening ∷ l) e) r
back (item an_expression ∷ st) st' closing ts q r = none-some q
back (item an_expression ∷ st) st' (word w) ts q r = let p = by-test (atom w) st st' q in as_items (word w ∷ []) ts refl (leaf w, p.0, refl) (rw p.1 r)
back (item a_binder ∷ st) st' opening ts q r = none-some q
back (item a_binder ∷ st) st' closing ts q r = none-some q
back (item a_binder ∷ st) st' (word w) ts q r = let p = by-test (binder w) st st' q in as_items (word w ∷ []) ts refl (w, p.0, refl) (rw p.1 r)
back (item a_function ∷ st) st' opening ts q r = none-some q
back (item a_function ∷ st) st' closing ts q r = none-some q
back (item a_function ∷ st) st' (word w) ts q r = let p = by-test (function w) st st' q in as_items (word w ∷ []) ts refl (w, p.0, refl) (rw p.1 r)
back (head ∷ st) st' opening ts q r = none-some q
back (head ∷ st) st' closing ts q r = none-some q
back (head ∷ st) st' (word w) ts q r = back_head w (role w) st st' ts refl q r
back (many ∷ st) st' opening ts q r = let p : head ∷ many ∷ st ≡ st' = cc in go st ts (rw p r)
  where
    two : (h : Word) (is : Items) (st : List Symbol) (a b : List Token) → Fine (form h is) → a ≡ word h ∷ item_tokens is ++ closing ∷ [] → All (many ∷ st) b → All (many ∷ st) (opening ∷ a ++ b)
    two h is st a b f e (more c d (js, g, k) r) =
        as_items (tokens (form h is) ++ c) d
        (ap (λ (l : List Token). opening ∷ l ++ (c ++ d)) e ∙ sym (append_assoc (tokens (form h is)) c d))
        (expr (form h is) js, (f, g), ap (λ (l : List Token). tokens (form h is) ++ l) k ∙ sym (append_assoc (tokens (form h is)) (item_tokens js) (closing ∷ []))) r

    go : (st : List Symbol) (ts : List Token) → All (head ∷ many ∷ st) ts → All (many ∷ st) (opening ∷ ts)
    go st ts (more a b (h, is, f, e) r) = two h is st a b f e r
back (many ∷ st) st' closing ts q r = let p : st ≡ st' = cc in as_items (closing ∷ []) ts refl (nil, tt, refl) (rw p r)
back (many ∷ st) st' (word w) ts q r = let p = by-test (atom w) (many ∷ st) st' q in go st ts p.0 (rw p.1 r)
  where
    go : (st : List Symbol) (ts : List Token) → atom w ≡ true → All (many ∷ st) ts → All (many ∷ st) (word w ∷ ts)
    go st ts h (more a b (is, f, e) r) = as_items (word w ∷ a) b refl (expr (leaf w) is, (h, f), ap (λ (l : List Token). word w ∷ l) e) r
back (shut ∷ st) st' opening ts q r = none-some q
back (shut ∷ st) st' closing ts q r = let p : st ≡ st' = cc in as_items (closing ∷ []) ts refl refl (rw p r)
back (shut ∷ st) st' (word w) ts q r = none-some q
back (program ∷ st) st' opening ts q r = let p : form_head ∷ st ≡ st' = cc in go st ts (rw p r)
  where
    go : (st : List Symbol) (ts : List Token) → All (form_head ∷ st) ts → All (program ∷ st) (opening ∷ ts)
    go st ts (more a b s r) = as_items (opening ∷ a) b refl s r
back (program ∷ st) st' closing ts q r = none-some q
back (program ∷ st) st' (word w) ts q r =
    let p = by-test (atom w) st st' q in
    as_items (word w ∷ []) ts refl (record { defs = []; main = leaf w }, record { definitions = tt; main = p.0 }, refl) (rw p.1 r)
back (form_head ∷ st) st' opening ts q r = none-some q
back (form_head ∷ st) st' closing ts q r = none-some q
back (form_head ∷ st) st' (word w) ts q r = back-begun w (role w) st st' ts refl q r
back (list ∷ st) st' opening ts q r = let p : params 4 ∷ st ≡ st' = cc in go st ts (rw p r)
  where
    go : (st : List Symbol) (ts : List Token) → All (params 4 ∷ st) ts → All (list ∷ st) (opening ∷ ts)
    go st ts (more a b (ws, f, e) r) = as_items (opening ∷ a) b refl (ws, f, ap (λ (l : List Token). opening ∷ l) e) r
back (list ∷ st) st' closing ts q r = none-some q
back (list ∷ st) st' (word w) ts q r = none-some q
back (params n ∷ st) st' opening ts q r = none-some q
back (params n ∷ st) st' closing ts q r = let p : st ≡ st' = cc in as_items (closing ∷ []) ts refl ([], tt, refl) (rw p r)
back (params zero ∷ st) st' (word w) ts q r = none-some q
back (params (suc n) ∷ st) st' (word w) ts q r = let p = by-test (binder w) (params n ∷ st) st' q in go st ts p.0 (rw p.1 r)
  where
    go : (st : List Symbol) (ts : List Token) → binder w ≡ true → All (params n ∷ st) ts → All (params (suc n) ∷ st) (word w ∷ ts)
    go st ts h (more a b (ws, f, e) r) = as_items (word w ∷ a) b refl (w ∷ ws, (h, f), ap (λ (l : List Token). word w ∷ l) e) r

-- what the machine takes to the end is spelt
taken : (ts : List Token) (st : List Symbol) → run st ts ≡ some [] → All st ts
taken [] st q = let p : st ≡ [] = cc in rw p done
taken (t ∷ ts) st q = go (step st t) refl q (taken ts)
  where
    go : (o : Option (List Symbol)) → step st t ≡ o → onward o (λ st. run st ts) ≡ some [] → ((st : List Symbol) → run st ts ≡ some [] → All st ts) → All st (t ∷ ts)
    go none e q ih = none-some q
    go (some st') e q ih = back st st' t ts e (ih st' q)

abbrev pub start : List Symbol
start = program ∷ []

-- the machine takes exactly the tokens of fine programs
pub programs-exactly : (ts : List Token) → ((p : Program) × FineProgram p × (ts ≡ program_tokens p)) ↔ (run start ts ≡ some [])
programs-exactly ts = (λ h. there h.0 h.1 h.2, λ q. go ts (taken ts start q))
  where
    there : (p : Program) → FineProgram p → ts ≡ program_tokens p → run start ts ≡ some []
    there p f e = rw (e, ← (append-nil (program_tokens p))) (program-run p f [] [])

    go : (ts : List Token) → All start ts → (p : Program) × FineProgram p × (ts ≡ program_tokens p)
    go ts (more a b (p, f, e) done) = (p, f, append-nil a ∙ e)
