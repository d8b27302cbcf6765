-- No parameter and no variable is misread exactly where the rules of scope hold.
use mathlib.Core.Path.{◌≡◌, refl, sym, subst}
use mathlib.Core.Bool.{Bool, true, false, cond}
use mathlib.Core.List.{List, [], ◌∷◌, ◌++◌, Memᴰ}
use Prim.Native.Nat.{ℕ}
use lib.Dec.{ltb}
use borrow.Author.Tests.{ltb-true, lt-ltb}
use Rattle.program.specs.Table.{Definition, Table, among}
use Rattle.program.specs.Tree.{Expr, nothing, constant, parameter, variable, operator, sense, rep, branch, mux, nbr, range, lag, fold_op, fold_def, call, tree, misread}
use Rattle.program.specs.Check.{misread_in}
use Rattle.program.specs.Scope.{Scoped, S-nothing, S-constant, S-parameter, S-variable, S-operator, S-sense, S-rep, S-branch, S-mux, S-nbr, S-range, S-lag, S-fold_op, S-fold_def, S-call}
use Rattle.program.proofs.Names.{among-mem, mem-among}
use Rattle.program.proofs.Offending.{cons-nil, both-nil, nil-both}

three-nil : (ms ns os : List ℕ) → ms ++ (ns ++ os) ≡ [] → (ms ≡ []) × (ns ≡ []) × (os ≡ [])
three-nil ms ns os e = let a = both-nil ms (ns ++ os) e in let b = both-nil ns os a.1 in (a.0, b.0, b.1)

-- a test that names n where it fails
passed : (b : Bool) (n : ℕ) → cond b [] (n ∷ []) ≡ [] → b ≡ true
passed true n e = refl
passed false n e = absurd (cons-nil e)

module _ (count : ℕ) where
  pub read-scoped : (kept : List ℕ) (e : Expr) → misread count kept e ≡ [] → Scoped count kept e
  unfolding misread
  read-scoped kept nothing q = S-nothing
  read-scoped kept (constant z) q = S-constant
  read-scoped kept (parameter n p) q = S-parameter (ltb-true p count (passed (ltb p count) n q))
  read-scoped kept (variable n v) q = S-variable (among-mem v kept (passed (among v kept) n q))
  read-scoped kept (operator n o l r) q =
      let b = both-nil (misread count kept l) (misread count kept r) q in S-operator (read-scoped kept l b.0) (read-scoped kept r b.1)
  read-scoped kept (sense e) q = S-sense (read-scoped kept e q)
  read-scoped kept (rep v i u) q =
      let b = both-nil (misread count kept i) (misread count (v ∷ kept) u) q in S-rep (read-scoped kept i b.0) (read-scoped (v ∷ kept) u b.1)
  read-scoped kept (branch c x y) q =
      let b = three-nil (misread count kept c) (misread count kept x) (misread count kept y) q in
      S-branch (read-scoped kept c b.0) (read-scoped kept x b.1) (read-scoped kept y b.2)
  read-scoped kept (mux c x y) q =
      let b = three-nil (misread count kept c) (misread count kept x) (misread count kept y) q in
      S-mux (read-scoped kept c b.0) (read-scoped kept x b.1) (read-scoped kept y b.2)
  read-scoped kept (nbr i e) q = S-nbr (read-scoped kept e q)
  read-scoped kept (range i) q = S-range
  read-scoped kept (lag i) q = S-lag
  read-scoped kept (fold_op n o i f) q =
      let b = both-nil (misread count kept i) (misread count kept f) q in S-fold_op (read-scoped kept i b.0) (read-scoped kept f b.1)
  read-scoped kept (fold_def d i f) q =
      let b = both-nil (misread count kept i) (misread count kept f) q in S-fold_def (read-scoped kept i b.0) (read-scoped kept f b.1)
  read-scoped kept (call d x y z e) q =
      let b = both-nil (misread count kept x) (misread count kept y ++ (misread count kept z ++ misread count kept e)) q in
      let c = three-nil (misread count kept y) (misread count kept z) (misread count kept e) b.1 in
      S-call (read-scoped kept x b.0) (read-scoped kept y c.0) (read-scoped kept z c.1) (read-scoped kept e c.2)

  pub scoped-read : {kept : List ℕ} {e : Expr} → Scoped count kept e → misread count kept e ≡ []
  unfolding misread
  scoped-read S-nothing = refl
  scoped-read S-constant = refl
  scoped-read (S-parameter {n = n} {p = p} h) = rw (lt-ltb p count h)
  scoped-read (S-variable h) = rw (mem-among h)
  scoped-read (S-operator h k) = nil-both (scoped-read h) (scoped-read k)
  scoped-read (S-sense h) = scoped-read h
  scoped-read (S-rep h k) = nil-both (scoped-read h) (scoped-read k)
  scoped-read (S-branch h k l) = nil-both (scoped-read h) (nil-both (scoped-read k) (scoped-read l))
  scoped-read (S-mux h k l) = nil-both (scoped-read h) (nil-both (scoped-read k) (scoped-read l))
  scoped-read (S-nbr h) = scoped-read h
  scoped-read S-range = refl
  scoped-read S-lag = refl
  scoped-read (S-fold_op h k) = nil-both (scoped-read h) (scoped-read k)
  scoped-read (S-fold_def h k) = nil-both (scoped-read h) (scoped-read k)
  scoped-read (S-call h k l m) = nil-both (scoped-read h) (nil-both (scoped-read k) (nil-both (scoped-read l) (scoped-read m)))

-- the same of all definitions
pub bodies-scoped : (t : Table) {d : Definition} {ds : List Definition} → misread_in t ds ≡ [] → Memᴰ d ds → Scoped d.count [] (tree t d.body)
unfolding misread_in
bodies-scoped t {d = d} q (Memᴰ.head {x = c} e) =
    subst (λ (x : Definition). Scoped x.count [] (tree t x.body)) (sym e)
    (read-scoped c.count [] (tree t c.body) (both-nil (misread c.count [] (tree t c.body)) _ q).0)
bodies-scoped t q (Memᴰ.tail {x = c} m) = bodies-scoped t (both-nil (misread c.count [] (tree t c.body)) _ q).1 m

pub scoped-bodies : (t : Table) (ds : List Definition) → ((d : Definition) → Memᴰ d ds → Scoped d.count [] (tree t d.body))
    → misread_in t ds ≡ []
unfolding misread_in
scoped-bodies t [] f = refl
scoped-bodies t (d ∷ ds) f = nil-both (scoped-read d.count (f d (Memᴰ.head refl))) (scoped-bodies t ds (λ c m. f c (Memᴰ.tail m)))
