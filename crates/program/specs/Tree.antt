-- Expressions as trees, built from the table; sorts, scope, spatial, cost. Definitions only: nothing is assumed.
use Rattle.std.specs.Prelude.{Bool, true, false, not, cond, ◌||◌, List, [], ◌∷◌, ◌++◌, ℕ, ◌+◌, ◌-◌, ◌*◌, length, get_or, ltb, ℤ, pos, negsuc}
use Rattle.number.specs.Number.{Operator, operator_of}
use Rattle.program.specs.Table.{Node, Definition, Table, no_definition, among}

-- A parameter, a variable, an operator and a fold by operator hold their node's number, for the refusals 8 and 17. A fold by definition and a call
-- hold the tree of the definition's body first. A call has four places for arguments, nothing in those that its definition has no parameter for
pub data Expr : Type 0 where
  nothing : Expr
  constant : ℤ → Expr
  parameter : ℕ → ℕ → Expr
  variable : ℕ → ℕ → Expr
  operator : ℕ → Operator → Expr → Expr → Expr
  sense : Expr → Expr
  rep : ℕ → Expr → Expr → Expr
  branch : Expr → Expr → Expr → Expr
  mux : Expr → Expr → Expr → Expr
  nbr : ℕ → Expr → Expr
  range : ℕ → Expr
  lag : ℕ → Expr
  fold_op : ℕ → Operator → Expr → Expr → Expr
  fold_def : Expr → Expr → Expr → Expr
  call : Expr → Expr → Expr → Expr → Expr → Expr

-- the number whose 32 bits, high first, are w
abbrev pub signed : ℕ → ℤ
signed w = cond (ltb w 0x80000000) (pos w) (negsuc (0xffffffff - w))

-- node n's tree, from those of the nodes before it
unfoldable pub tree_of : List Definition → List Expr → ℕ → Node → Expr
tree_of ds es n x =
    let v : ℕ → ℕ = λ i. get_or x.values i 0 in
    let e : ℕ → Expr = λ i. get_or es (v i) nothing in
    let a : ℕ → Expr = λ i. cond (ltb i (length x.values)) (e i) nothing in
    let d : Expr = get_or es (get_or ds (v 0) no_definition).body nothing in
    get_or (
    constant (signed (v 0))
    ∷ parameter n (v 0)
    ∷ variable n (v 0)
    ∷ operator n (operator_of (v 0)) (e 1) (e 2)
    ∷ sense (e 0)
    ∷ rep (v 0) (e 1) (e 2)
    ∷ branch (e 0) (e 1) (e 2)
    ∷ mux (e 0) (e 1) (e 2)
    ∷ nbr (v 0) (e 1)
    ∷ range (v 0)
    ∷ fold_op n (operator_of (v 0)) (e 1) (e 2)
    ∷ fold_def d (e 1) (e 2)
    ∷ call d (a 1) (a 2) (a 3) (a 4)
    ∷ lag (v 0)
    ∷ [])
    x.kind
    nothing

-- the trees of all nodes, from those of the first
unfoldable pub grown : List Definition → List Expr → List Node → List Expr
grown ds es [] = es
grown ds es (x ∷ xs) = grown ds (es ++ tree_of ds es (length es) x ∷ []) xs

unfoldable pub trees : Table → List Expr
trees t = grown t.definitions [] t.nodes

abbrev pub tree : Table → ℕ → Expr
tree t n = get_or (trees t) n nothing

-- "Sorts: nbr and nbr-range are fields; an operator is a field if a side is; an if has its branches' one sort; all else is a number." L2, of nbr-lag: "gives a field
-- of ages"
unfoldable pub is_field : Expr → Bool
is_field nothing = false
is_field (constant z) = false
is_field (parameter n p) = false
is_field (variable n v) = false
is_field (operator n o l r) = is_field l || is_field r
is_field (sense e) = false
is_field (rep v i u) = false
is_field (branch c a b) = is_field a
is_field (mux c a b) = false
is_field (nbr i e) = true
is_field (range i) = true
is_field (lag i) = true
is_field (fold_op n o i f) = false
is_field (fold_def d i f) = false
is_field (call d a b c e) = false

-- "Operands are numbers except operator sides, if branches and a fold's third, which is a field." Whether one of the topmost node is not
unfoldable pub sort_broken : Expr → Bool
sort_broken nothing = false
sort_broken (constant z) = false
sort_broken (parameter n p) = false
sort_broken (variable n v) = false
sort_broken (operator n o l r) = false
sort_broken (sense e) = is_field e
sort_broken (rep v i u) = is_field i || is_field u
sort_broken (branch c a b) = is_field c || not (cond (is_field a) (is_field b) (not (is_field b)))
sort_broken (mux c a b) = is_field c || is_field a || is_field b
sort_broken (nbr i e) = is_field e
sort_broken (range i) = false
sort_broken (lag i) = false
sort_broken (fold_op n o i f) = is_field i || not (is_field f)
sort_broken (fold_def d i f) = is_field i || not (is_field f)
sort_broken (call d a b c e) = is_field a || is_field b || is_field c || is_field e

-- "parameter not below its tree's count (main 0), variable misread": the nodes, in a tree whose definition has count parameters, under the updates of the
-- reps of kept. "A variable is read only under the update of its rep, in the same tree."
unfoldable pub misread : ℕ → List ℕ → Expr → List ℕ
misread count kept nothing = []
misread count kept (constant z) = []
misread count kept (parameter n p) = cond (ltb p count) [] (n ∷ [])
misread count kept (variable n v) = cond (among v kept) [] (n ∷ [])
misread count kept (operator n o l r) = misread count kept l ++ misread count kept r
misread count kept (sense e) = misread count kept e
misread count kept (rep v i u) = misread count kept i ++ misread count (v ∷ kept) u
misread count kept (branch c a b) = misread count kept c ++ (misread count kept a ++ misread count kept b)
misread count kept (mux c a b) = misread count kept c ++ (misread count kept a ++ misread count kept b)
misread count kept (nbr i e) = misread count kept e
misread count kept (range i) = []
misread count kept (lag i) = []
misread count kept (fold_op n o i f) = misread count kept i ++ misread count kept f
misread count kept (fold_def d i f) = misread count kept i ++ misread count kept f
misread count kept (call d a b c e) = misread count kept a ++ (misread count kept b ++ (misread count kept c ++ misread count kept e))

-- "A definition is spatial if its tree holds rep, nbr, nbr-range or a call to a spatial one." L2, of nbr-lag: "It counts as spatial."
unfoldable pub spatial : Expr → Bool
spatial nothing = false
spatial (constant z) = false
spatial (parameter n p) = false
spatial (variable n v) = false
spatial (operator n o l r) = spatial l || spatial r
spatial (sense e) = spatial e
spatial (rep v i u) = true
spatial (branch c a b) = spatial c || spatial a || spatial b
spatial (mux c a b) = spatial c || spatial a || spatial b
spatial (nbr i e) = true
spatial (range i) = true
spatial (lag i) = true
spatial (fold_op n o i f) = spatial i || spatial f
spatial (fold_def d i f) = spatial i || spatial f
spatial (call d a b c e) = spatial d || spatial a || spatial b || spatial c || spatial e

-- "Cost of a node: 1 plus its children's, plus the body's for a call, plus 15 times the body's for kind 11."
unfoldable pub cost : Expr → ℕ
cost nothing = 0
cost (constant z) = 1
cost (parameter n p) = 1
cost (variable n v) = 1
cost (operator n o l r) = 1 + cost l + cost r
cost (sense e) = 1 + cost e
cost (rep v i u) = 1 + cost i + cost u
cost (branch c a b) = 1 + cost c + cost a + cost b
cost (mux c a b) = 1 + cost c + cost a + cost b
cost (nbr i e) = 1 + cost e
cost (range i) = 1
cost (lag i) = 1
cost (fold_op n o i f) = 1 + cost i + cost f
cost (fold_def d i f) = 1 + cost i + cost f + 15 * cost d
cost (call d a b c e) = 1 + cost a + cost b + cost c + cost e + cost d
