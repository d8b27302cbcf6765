-- The nodes of each kind as bytes: their lengths, ranges and names, by computation. Assumes nothing.
use mathlib.Core.Path.{◌≡◌, refl}
use mathlib.Core.List.{List, [], ◌∷◌, ◌++◌, map}
use Prim.Native.Nat.{ℕ, ◌-◌}
use lib.ListN.{length, take, replicate}
use Rattle.program.proofs.Shown.{opened, node, behind, pass}

-- "Node bodies begin with a kind byte, then one byte each except the constant", calls with two, no and four arguments
abbrev of-each-kind : List (List ℕ)
of-each-kind =
    (0 ∷ 0x7f ∷ 0xff ∷ 0xff ∷ 0xff ∷ [])
    ∷ (1 ∷ 3 ∷ [])
    ∷ (2 ∷ 15 ∷ [])
    ∷ (3 ∷ 8 ∷ 3 ∷ 4 ∷ [])
    ∷ (4 ∷ 3 ∷ [])
    ∷ (5 ∷ 15 ∷ 3 ∷ 4 ∷ [])
    ∷ (6 ∷ 3 ∷ 4 ∷ 5 ∷ [])
    ∷ (7 ∷ 3 ∷ 4 ∷ 5 ∷ [])
    ∷ (8 ∷ 15 ∷ 3 ∷ [])
    ∷ (9 ∷ 15 ∷ [])
    ∷ (10 ∷ 8 ∷ 3 ∷ 4 ∷ [])
    ∷ (11 ∷ 0 ∷ 3 ∷ 4 ∷ [])
    ∷ (12 ∷ 0 ∷ 3 ∷ 4 ∷ [])
    ∷ (12 ∷ 1 ∷ [])
    ∷ (12 ∷ 2 ∷ 3 ∷ 4 ∷ 5 ∷ 6 ∷ [])
    ∷ (13 ∷ 15 ∷ [])
    ∷ []

passes : map (λ s. behind (node s)) of-each-kind ≡ replicate 16 pass
unfolding opened
passes = refl

-- "wrong length": one byte less, one byte more
one-byte-less : map (λ s. behind (node (take (length s - 1) s))) of-each-kind ≡ replicate 16 (1, 10)
unfolding opened
one-byte-less = refl

one-byte-more : map (λ s. behind (node (s ++ 6 ∷ []))) of-each-kind ≡ replicate 16 (1, 10)
unfolding opened
one-byte-more = refl

-- the lowest of each range passes: "parameter p (0–3)", "variable v (0–15)", "Operators 0–8", "slot 1–15"; constants beside the mark
lowest-in-range : map (λ s. behind (node s)) (
    (1 ∷ 0 ∷ []) ∷ (2 ∷ 0 ∷ []) ∷ (3 ∷ 0 ∷ 3 ∷ 4 ∷ []) ∷ (5 ∷ 0 ∷ 3 ∷ 4 ∷ []) ∷ (8 ∷ 1 ∷ 3 ∷ []) ∷ (9 ∷ 1 ∷ []) ∷ (10 ∷ 0 ∷ 3 ∷ 4 ∷ [])
    ∷ (0 ∷ 0x80 ∷ 0 ∷ 0 ∷ 1 ∷ []) ∷ (0 ∷ 0 ∷ 0 ∷ 0 ∷ 0x80 ∷ []) ∷ (0 ∷ 0xff ∷ 0xff ∷ 0xff ∷ 0xff ∷ []) ∷ [])
    ≡ replicate 10 pass
unfolding opened
lowest-in-range = refl

-- "a byte or constant out of its range": 3
out_of_range : map (λ s. behind (node s)) (
    (0 ∷ 0x80 ∷ 0 ∷ 0 ∷ 0 ∷ []) ∷ (1 ∷ 4 ∷ []) ∷ (2 ∷ 16 ∷ []) ∷ (3 ∷ 9 ∷ 3 ∷ 4 ∷ []) ∷ (5 ∷ 16 ∷ 3 ∷ 4 ∷ []) ∷ (8 ∷ 0 ∷ 3 ∷ []) ∷ (8 ∷ 16 ∷ 3 ∷ [])
    ∷ (9 ∷ 0 ∷ []) ∷ (9 ∷ 16 ∷ []) ∷ (10 ∷ 9 ∷ 3 ∷ 4 ∷ []) ∷ [])
    ≡ replicate 10 (3, 10)
unfolding opened
out_of_range = refl

-- "unknown kind": 3, whatever the length
unknown-kind : map (λ s. behind (node s)) ((14 ∷ []) ∷ (14 ∷ 3 ∷ []) ∷ (14 ∷ 0 ∷ 3 ∷ 4 ∷ []) ∷ (255 ∷ 1 ∷ []) ∷ []) ≡ replicate 4 (3, 10)
unfolding opened
unknown-kind = refl

-- "names what is not yet given": node 7 is the node itself; each operand of each kind; "node and definition numbers have none" (no range)
not-yet-given : map (λ s. behind (node s)) (
    (3 ∷ 0 ∷ 7 ∷ 3 ∷ []) ∷ (3 ∷ 0 ∷ 3 ∷ 7 ∷ []) ∷ (4 ∷ 7 ∷ []) ∷ (5 ∷ 0 ∷ 7 ∷ 3 ∷ []) ∷ (5 ∷ 0 ∷ 3 ∷ 7 ∷ []) ∷ (6 ∷ 7 ∷ 3 ∷ 4 ∷ []) ∷ (6 ∷ 3 ∷ 7 ∷ 4 ∷ []) ∷ (6 ∷ 3 ∷ 4 ∷ 7 ∷ [])
    ∷ (7 ∷ 7 ∷ 3 ∷ 4 ∷ []) ∷ (7 ∷ 3 ∷ 7 ∷ 4 ∷ []) ∷ (7 ∷ 3 ∷ 4 ∷ 7 ∷ []) ∷ (8 ∷ 1 ∷ 7 ∷ []) ∷ (10 ∷ 0 ∷ 7 ∷ 3 ∷ []) ∷ (10 ∷ 0 ∷ 3 ∷ 7 ∷ []) ∷ (11 ∷ 0 ∷ 7 ∷ 3 ∷ [])
    ∷ (11 ∷ 0 ∷ 3 ∷ 7 ∷ []) ∷ (12 ∷ 0 ∷ 7 ∷ 3 ∷ []) ∷ (12 ∷ 0 ∷ 3 ∷ 7 ∷ []) ∷ (12 ∷ 2 ∷ 3 ∷ 4 ∷ 5 ∷ 7 ∷ []) ∷ (4 ∷ 255 ∷ []) ∷ (11 ∷ 3 ∷ 3 ∷ 4 ∷ []) ∷ (11 ∷ 255 ∷ 3 ∷ 4 ∷ [])
    ∷ (12 ∷ 3 ∷ []) ∷ (12 ∷ 255 ∷ []) ∷ (3 ∷ 0 ∷ 3 ∷ 255 ∷ []) ∷ [])
    ≡ replicate 25 (4, 10)
unfolding opened
not-yet-given = refl

-- "node .. taken already": node 0 is the body of a definition, node 6 is named by the node before; twice in one field (D9)
abbrev naming : ℕ → List (List ℕ)
naming k = (3 ∷ 0 ∷ k ∷ 3 ∷ []) ∷ (3 ∷ 0 ∷ 3 ∷ k ∷ []) ∷ (4 ∷ k ∷ []) ∷ (8 ∷ 1 ∷ k ∷ []) ∷ (12 ∷ 2 ∷ 3 ∷ 4 ∷ 5 ∷ k ∷ []) ∷ []

node-taken : (map (λ s. behind (node s)) (naming 6) ≡ replicate 5 pass) × (map (λ s. behind (node s)) (naming 0) ≡ replicate 5 (5, 10))
    × (map (λ s. behind (node (4 ∷ 6 ∷ []) ++ node s)) (naming 6) ≡ replicate 5 (5, 11)) × (behind (node (3 ∷ 0 ∷ 3 ∷ 3 ∷ [])) ≡ (5, 10)) × (behind (node (6 ∷ 3 ∷ 4 ∷ 3 ∷ [])) ≡ (5, 10))
unfolding opened
node-taken = (refl, refl, refl, refl, refl)

-- "each slot by one nbr or nbr-range": in either order; another slot passes, a variable of the same number too
slot-taken : map behind (
    (node (8 ∷ 1 ∷ 3 ∷ []) ++ node (8 ∷ 1 ∷ 4 ∷ [])) ∷ (node (8 ∷ 1 ∷ 3 ∷ []) ++ node (9 ∷ 1 ∷ [])) ∷ (node (9 ∷ 1 ∷ []) ++ node (8 ∷ 1 ∷ 3 ∷ []))
    ∷ (node (9 ∷ 1 ∷ []) ++ node (9 ∷ 1 ∷ [])) ∷ [])
    ≡ replicate 4 (5, 11)
unfolding opened
slot-taken = refl

slot-free : map behind (
    (node (8 ∷ 1 ∷ 3 ∷ []) ++ node (8 ∷ 2 ∷ 4 ∷ [])) ∷ (node (8 ∷ 1 ∷ 3 ∷ []) ++ node (9 ∷ 2 ∷ [])) ∷ (node (9 ∷ 2 ∷ []) ++ node (8 ∷ 1 ∷ 3 ∷ []))
    ∷ (node (8 ∷ 1 ∷ 3 ∷ []) ++ node (5 ∷ 1 ∷ 4 ∷ 5 ∷ [])) ∷ (node (5 ∷ 1 ∷ 4 ∷ 5 ∷ []) ++ node (9 ∷ 1 ∷ [])) ∷ [])
    ≡ replicate 5 pass
unfolding opened
slot-free = refl

-- "each variable by one rep": reading it takes nothing
variable-taken : (behind (node (5 ∷ 1 ∷ 3 ∷ 4 ∷ []) ++ node (5 ∷ 1 ∷ 5 ∷ 6 ∷ [])) ≡ (5, 11)) × (behind (node (5 ∷ 1 ∷ 3 ∷ 4 ∷ []) ++ node (5 ∷ 2 ∷ 5 ∷ 6 ∷ [])) ≡ pass)
    × (behind (node (2 ∷ 1 ∷ []) ++ node (2 ∷ 1 ∷ []) ++ node (5 ∷ 1 ∷ 3 ∷ 4 ∷ []) ++ node (2 ∷ 1 ∷ [])) ≡ pass)
unfolding opened
variable-taken = (refl, refl, refl)
