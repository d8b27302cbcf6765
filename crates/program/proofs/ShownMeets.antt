-- A small table for each condition of `Meets`, which it refuses. Assumes nothing.
use mathlib.Core.Path.{◌≡◌, refl}
use mathlib.Core.List.Memᴰ
use mathlib.Core.List.{List, [], ◌∷◌, ◌++◌}
use Prim.Native.Nat.{ℕ, ◌<◌, ◌≤◌}
use native.Mathlib.Omega.{arith}
use lib.ListN.{replicate}
use Rattle.program.specs.Table.{Table, constant, operator, parameter, variable, keeps, slot, definition}
use Rattle.program.specs.Tree.{sense, range}
use Rattle.program.specs.Sorts.{Sort, a_number, HasSort, T-sense}
use Rattle.program.specs.Scope.{Scoped, S-parameter}
use Rattle.program.specs.Spatial.{X-rep}
use Rattle.program.specs.Conditions.{Part, node, define, table_of, Ranged, InRange, none, more, Calls, FoldsBy, Meets, Bytes}
use Rattle.program.proofs.Shown.{opened}

abbrev is : ℕ → List ℕ → Part
is kind values = node (record { kind = kind; values = values })

abbrev defined : ℕ → ℕ → Part
defined count body = define (record { count = count; body = body })

-- "not the mark", "Operators 0–8", "parameter p (0–3)", "variable v (0–15)", "slot 1–15"
in-range : Ranged operator 8 × Ranged parameter 3 × Ranged variable 15 × Ranged keeps 15 × Ranged slot 1 × Ranged slot 15
in-range = (omega arith, omega arith, omega arith, omega arith, (omega arith, omega arith), (omega arith, omega arith))

mark : Ranged constant 0x80000000 → ⊥
mark h = h refl

operator-9 : Ranged operator 9 → ⊥
operator-9 h = absurd (omega arith)

parameter-4 : Ranged parameter 4 → ⊥
parameter-4 h = absurd (omega arith)

variable-16 : Ranged variable 16 → ⊥
variable-16 h = absurd (omega arith)

keeps-16 : Ranged keeps 16 → ⊥
keeps-16 h = absurd (omega arith)

slot-0 : Ranged slot 0 → ⊥
slot-0 (h, k) = absurd (omega arith)

slot-16 : Ranged slot 16 → ⊥
slot-16 (h, k) = absurd (omega arith)

-- "at most 256"; "at most 32"
nodes-257 : Meets (replicate 257 (is 1 (0 ∷ []))) 0 → ⊥
unfolding opened
nodes-257 m = let h : 257 ≤ 256 = m.few_nodes in absurd (omega arith)

definitions-33 : Meets (replicate 33 (defined 0 0)) 0 → ⊥
unfolding opened
definitions-33 m = let h : 33 ≤ 32 = m.few_definitions in absurd (omega arith)

-- "unknown kind"; "a byte or constant out of its range"; "parameter count (0–4)"
kind-14 : Meets (is 14 [] ∷ []) 0 → ⊥
unfolding opened
kind-14 m = let h : 14 < 14 = m.known _ (Memᴰ.head refl) in absurd (omega arith)

beyond-range : InRange (parameter ∷ []) (4 ∷ []) → ⊥
beyond-range (more h none) = parameter-4 h

byte-out-of-range : Meets (is 1 (4 ∷ []) ∷ []) 0 → ⊥
unfolding opened
byte-out-of-range m = beyond-range (m.ranges _ (Memᴰ.head refl))

five-parameters : Meets (defined 5 0 ∷ []) 0 → ⊥
unfolding opened
five-parameters m = let h : 5 ≤ 4 = m.counts _ (Memᴰ.head refl) in absurd (omega arith)

-- a call of a definition of two parameters, with one argument
argument-missing : Meets (is 12 (1 ∷ 0 ∷ []) ∷ defined 1 0 ∷ defined 2 0 ∷ []) 0 → ⊥
unfolding opened
argument-missing m = let h : ◌≡◌ {A = ℕ} 2 3 = m.arguments _ (Memᴰ.head refl) refl in absurd (omega arith)

-- "A node or definition must be given before it is named.": a node by itself, a definition, a body, main. Before them stand one node and two definitions
abbrev before : List Part
before = is 9 (1 ∷ []) ∷ defined 0 0 ∷ defined 0 0 ∷ []

node-not-given : Meets (before ++ is 4 (1 ∷ []) ∷ []) 0 → ⊥
unfolding opened
node-not-given m = let h : 1 < 1 = (m.given before [] (is 4 (1 ∷ [])) refl).0 1 (Memᴰ.head refl) in absurd (omega arith)

definition-not-given : Meets (is 9 (1 ∷ []) ∷ is 12 (0 ∷ []) ∷ []) 0 → ⊥
unfolding opened
definition-not-given m = let h : 0 < 0 = (m.given (is 9 (1 ∷ []) ∷ []) [] (is 12 (0 ∷ [])) refl).1 0 (Memᴰ.head refl) in absurd (omega arith)

body-not-given : Meets (before ++ defined 0 1 ∷ []) 0 → ⊥
unfolding opened
body-not-given m = let h : 1 < 1 = m.given before [] (defined 0 1) refl in absurd (omega arith)

main-not-given : Meets (is 9 (1 ∷ []) ∷ []) 1 → ⊥
unfolding opened
main-not-given m = let h : 1 < 1 = m.main_given in absurd (omega arith)

-- "Each node is named exactly once": node 0 never, by a node and main, by a definition and main
unnamed : Meets (is 9 (1 ∷ []) ∷ is 9 (2 ∷ []) ∷ []) 1 → ⊥
unfolding opened
unnamed m = let lt : 0 < 2 = omega arith in let h : ◌≡◌ {A = ℕ} 0 1 = m.named_once 0 lt in absurd (omega arith)

named-twice : Meets (is 9 (1 ∷ []) ∷ is 4 (0 ∷ []) ∷ []) 0 → ⊥
unfolding opened
named-twice m = let lt : 0 < 2 = omega arith in let h : ◌≡◌ {A = ℕ} 2 1 = m.named_once 0 lt in absurd (omega arith)

body-named-twice : Meets (is 9 (1 ∷ []) ∷ defined 0 0 ∷ []) 0 → ⊥
unfolding opened
body-named-twice m = let lt : 0 < 1 = omega arith in let h : ◌≡◌ {A = ℕ} 2 1 = m.named_once 0 lt in absurd (omega arith)

-- "each slot by one nbr or nbr-range, each variable by one rep"
slot_twice : Meets (is 9 (1 ∷ []) ∷ is 8 (1 ∷ 0 ∷ []) ∷ []) 1 → ⊥
unfolding opened
slot_twice m = let h : 2 ≤ 1 = m.slot_once 1 in absurd (omega arith)

variable-twice : Meets (is 5 (3 ∷ 0 ∷ 0 ∷ []) ∷ is 5 (3 ∷ 0 ∷ 0 ∷ []) ∷ []) 1 → ⊥
unfolding opened
variable-twice m = let h : 2 ≤ 1 = m.rep_once 3 in absurd (omega arith)

-- "sort broken": a node that nothing names; "Main and definition bodies are numbers."
no-sort : {k : Sort} → HasSort (sense (range 1)) k → ⊥
no-sort (T-sense h) = elim h [ ]

sort-broken : Meets (is 9 (1 ∷ []) ∷ is 4 (0 ∷ []) ∷ []) 0 → ⊥
unfolding opened
sort-broken m = let lt : 1 < 2 = omega arith in no-sort (m.sorts 1 lt).1

main-a-field : Meets (is 9 (1 ∷ []) ∷ []) 0 → ⊥
unfolding opened
main-a-field m = let h : HasSort (range 1) a_number = m.main_sort in elim h [ ]

body-a-field : Meets (is 9 (1 ∷ []) ∷ defined 1 0 ∷ is 0 (0 ∷ []) ∷ []) 1 → ⊥
unfolding opened
body-a-field m = let h : HasSort (range 1) a_number = m.body_sorts _ (Memᴰ.head refl) in elim h [ ]

-- "parameter not below its tree's count (main 0)"
not-below : {n count : ℕ} → Scoped count [] (Rattle.program.specs.Tree.parameter n count) → ⊥
not-below (S-parameter h) = absurd (omega arith)

parameter-in-main : Meets (is 1 (0 ∷ []) ∷ []) 0 → ⊥
unfolding opened
parameter-in-main m = not-below m.main_scope

parameter-in-body : Meets (is 1 (1 ∷ []) ∷ defined 1 0 ∷ []) 0 → ⊥
unfolding opened
parameter-in-body m = not-below (m.body_scopes _ (Memᴰ.head refl))

-- a spatial definition "may be called from one node and may not fold"; "or one without two parameters"
abbrev spatial : ℕ → List Part → List Part
spatial count ps = is 0 (0 ∷ []) ∷ is 0 (0 ∷ []) ∷ is 5 (0 ∷ 0 ∷ 1 ∷ []) ∷ defined count 2 ∷ ps

called-twice : Meets (spatial 0 (is 12 (0 ∷ []) ∷ is 12 (0 ∷ []) ∷ [])) 3 → ⊥
unfolding opened
called-twice m = let l : 3 < 5 = omega arith in let k : 4 < 5 = omega arith in let h : ◌≡◌ {A = ℕ} 3 4 = m.called_once 3 4 0 l k (refl, refl) (refl, refl) X-rep in absurd (omega arith)

spatial-folds : Meets (spatial 4 (is 11 (0 ∷ 0 ∷ 1 ∷ []) ∷ [])) 3 → ⊥
unfolding opened
spatial-folds m = let l : 3 < 4 = omega arith in (m.folds 3 0 l (refl, refl)).0 X-rep

fold-of-three : Meets (is 0 (0 ∷ []) ∷ defined 3 0 ∷ is 11 (0 ∷ 0 ∷ 0 ∷ []) ∷ []) 1 → ⊥
unfolding opened
fold-of-three m = let l : 1 < 2 = omega arith in let h : ◌≡◌ {A = ℕ} 3 2 = (m.folds 1 0 l (refl, refl)).1 in absurd (omega arith)

-- a call's and a fold's definition is its first number
abbrev uses : Table
uses = table_of (is 0 (0 ∷ []) ∷ is 12 (2 ∷ 0 ∷ []) ∷ is 11 (3 ∷ 0 ∷ 1 ∷ []) ∷ [])

users : Calls uses 1 2 × FoldsBy uses 2 3
unfolding opened
users = ((refl, refl), (refl, refl))

-- "Main may cost 1,000,000."
cost-limit : Meets (is 9 (1 ∷ []) ∷ []) 0 → 1 ≤ 1000000
unfolding opened
cost-limit m = m.cheap

-- a byte
not-a-byte : Bytes (7 ∷ 256 ∷ []) → ⊥
not-a-byte b = let h : 256 < 256 = b 1 in absurd (omega arith)
