-- The program check: from bytes to a refusal and its place, in the order of the refusal table. Definitions only: nothing is assumed.
use Rattle.std.specs.Prelude.{Bool, false, not, cond, ◌&&◌, ◌||◌, List, [], ◌∷◌, ◌++◌, ℕ, zero, suc, ◌+◌, min, length, get_or, take, eqb, ltb}
use Rattle.std.proofs.Math.Option.{Option, none, some}
use Rattle.program.specs.Table.{Node, Definition, Table, load, among, bodies, definition_at, is_call}
use Rattle.program.specs.Tree.{Expr, tree, is_field, sort_broken, misread, spatial, cost}

-- the least of them
abbrev least : ℕ → Option ℕ → Option ℕ
least n none = some n
least n (some m) = some (min n m)

unfoldable pub lowest : List ℕ → Option ℕ
lowest [] = none
lowest (n ∷ ns) = least n (lowest ns)

-- those below k that offend
unfoldable pub offending : (ℕ → Bool) → ℕ → List ℕ
offending p zero = []
offending p (suc k) = cond (p k) (k ∷ offending p k) (offending p k)

abbrev pub no_node : Node
no_node = record { kind = 0; values = [] }

abbrev pub node_at : Table → ℕ → Node
node_at t n = get_or t.nodes n no_node

-- "The node that offends is the one whose operand is wrong; for a body, the body node."
unfoldable pub sort_offends : Table → ℕ → ℕ → Bool
sort_offends t main n = sort_broken (tree t n) || among n (main ∷ bodies t.definitions) && is_field (tree t n)

-- "parameter not below its tree's count (main 0), variable misread"
unfoldable pub misread_in : Table → List Definition → List ℕ
misread_in t [] = []
misread_in t (d ∷ ds) = misread d.count [] (tree t d.body) ++ misread_in t ds

-- a node before calls d
unfoldable pub called : ℕ → List Node → Bool
called d [] = false
called d (x ∷ xs) = is_call x.kind && eqb (get_or x.values 0 0) d || called d xs

-- "spatial call when a lower node calls the same; kind 11 by a spatial definition or one without two parameters"
unfoldable pub use_offends : Table → ℕ → Bool
use_offends t n =
    let x : Node = node_at t n in
    let d : ℕ = get_or x.values 0 0 in
    let is_spatial : Bool = spatial (tree t (definition_at t d).body) in
    is_call x.kind && (is_spatial && called d (take n t.nodes)) || eqb x.kind 11 && (is_spatial || not (eqb (definition_at t d).count 2))

-- the number of the refusal and its place, 0 and 0 where there is none
abbrev pub Verdict : Type 0
Verdict = ℕ × ℕ

abbrev pub or_else : Option ℕ → ℕ → Verdict → Verdict
or_else none number next = next
or_else (some place) number next = (number, place)

-- "trees, each row over all nodes"
unfoldable pub tree_rows : Table → ℕ → Verdict
tree_rows t main =
    or_else (lowest (offending (sort_offends t main) (length t.nodes))) 7
    (or_else (lowest (misread 0 [] (tree t main) ++ misread_in t t.definitions)) 8
    (or_else (lowest (offending (use_offends t) (length t.nodes))) 9
    (cond (ltb 1000000 (cost (tree t main))) (10, 0) (0, 0))))

unfoldable pub check : List ℕ → Verdict
check s = cond (eqb (load s).number 0) (tree_rows (load s).table (load s).main) ((load s).number, (load s).place)

-- the expression that an accepted program runs
abbrev pub main_of : List ℕ → Expr
main_of s = tree (load s).table (load s).main
