-- The table that a loaded one stands for: how long it is, what its definitions are, and how it grows.
use mathlib.Core.Path.{◌≡◌, refl, sym, ◌∙◌, ap}
use mathlib.Core.Bool.{Bool, true, false, ◌||◌}
use mathlib.Core.List.{List, [], ◌∷◌, ◌++◌, map}
use Prim.Native.Nat.{ℕ, zero, suc, ◌+◌, ◌<◌}
use native.Mathlib.Omega.{arith}
use native.Mathlib.Numerals.{add-one}
use lib.ListN.{length, get_or, take, set, length-map}
use lib.Seq.{length-take-le, take-suc-set, get_or-take}
use Rattle.program.specs.Table as program
use Rattle.program.specs.Table.{Item, Definition, among, numbers, all_numbers, bodies, with_node, with_definition, node_limit, definition_limit}
use Rattle.nodes.specs.declared.Node.{Node}
use Rattle.nodes.specs.Values.{node_of}
use Rattle.program.proofs.Names.{among-append}
use Rattle.load.specs.declared.Table.{Table}
use Rattle.load.specs.Loads.{paired, table_of, blank, node_at, Good}
use Rattle.load.specs.Steps.{put, define}

length-paired : (cs bs : List ℕ) → length cs ≡ length bs → length (paired cs bs) ≡ length cs
unfolding paired
length-paired [] bs h = refl
length-paired (c ∷ cs) [] h = absurd (omega arith)
length-paired (c ∷ cs) (b ∷ bs) h = ap suc (length-paired cs bs (omega arith))

paired_at : (cs bs : List ℕ) (d : ℕ) (x : Definition) → length cs ≡ length bs → d < length cs
    → get_or (paired cs bs) d x ≡ record { count = get_or cs d 0; body = get_or bs d 0 }
unfolding paired
paired_at [] bs d x h l = absurd (omega arith)
paired_at (c ∷ cs) [] d x h l = absurd (omega arith)
paired_at (c ∷ cs) (b ∷ bs) zero x h l = refl
paired_at (c ∷ cs) (b ∷ bs) (suc d) x h l = paired_at cs bs d x (omega arith) (omega arith)

map_at : (xs : List Node) (i : ℕ) (x : program.Node) → i < length xs → get_or (map node_of xs) i x ≡ node_of (get_or xs i blank)
map_at [] i x h = absurd (omega arith)
map_at (y ∷ ys) zero x h = refl
map_at (y ∷ ys) (suc i) x h = map_at ys i x (omega arith)

paired-append : (cs bs : List ℕ) (c b : ℕ) → length cs ≡ length bs
    → paired (cs ++ c ∷ []) (bs ++ b ∷ []) ≡ paired cs bs ++ record { count = c; body = b } ∷ []
unfolding paired
paired-append [] [] c b h = refl
paired-append [] (b' ∷ bs) c b h = absurd (omega arith)
paired-append (c' ∷ cs) [] c b h = absurd (omega arith)
paired-append (c' ∷ cs) (b' ∷ bs) c b h = ap (λ (l : List Definition). record { count = c'; body = b' } ∷ l) (paired-append cs bs c b (omega arith))

map-append : (xs ys : List Node) → map node_of (xs ++ ys) ≡ map node_of xs ++ map node_of ys
map-append [] ys = refl
map-append (x ∷ xs) ys = ap (λ (l : List program.Node). node_of x ∷ l) (map-append xs ys)

paired-bodies : (cs bs : List ℕ) → length cs ≡ length bs → bodies (paired cs bs) ≡ bs
unfolding paired bodies
paired-bodies [] [] e = refl
paired-bodies [] (b ∷ bs) e = absurd (omega arith)
paired-bodies (c ∷ cs) [] e = absurd (omega arith)
paired-bodies (c ∷ cs) (b ∷ bs) e = ap (λ (l : List ℕ). b ∷ l) (paired-bodies cs bs (omega arith))

-- ---- a good table
module _ (t : Table) (g : Good t) where
  abbrev counts : List ℕ
  counts = take t.defs t.counts

  abbrev definers : List ℕ
  definers = take t.defs t.bodies

  counts-long : length counts ≡ t.defs
  counts-long = length-take-le t.defs t.counts (omega (arith, g.long_counts, g.defs))

  same_length : length counts ≡ length definers
  same_length = counts-long ∙ sym (length-take-le t.defs t.bodies (omega (arith, g.long_bodies, g.defs)))

  nodes-long : length (take t.n t.nodes) ≡ t.n
  nodes-long = length-take-le t.n t.nodes (omega (arith, g.long_nodes, g.n))

  pub shown-nodes : t.n ≡ length (table_of t).nodes
  unfolding table_of
  shown-nodes = sym (length-map (take t.n t.nodes) node_of ∙ nodes-long)

  -- a node, whatever stands past the end
  pub shown-node : (i : ℕ) (x : program.Node) → i < t.n → get_or (table_of t).nodes i x ≡ node_of (node_at t i)
  unfolding table_of
  shown-node i x l = map_at (take t.n t.nodes) i x (omega (arith, nodes-long)) ∙ ap node_of (get_or-take t.n t.nodes i blank l)

  pub shown-definitions : t.defs ≡ length (table_of t).definitions
  unfolding table_of
  shown-definitions = sym (length-paired counts definers same_length ∙ counts-long)

  -- a definition, whatever stands past the end
  pub shown-definition : (d : ℕ) (x : Definition) → d < t.defs → get_or (table_of t).definitions d x ≡ record { count = get_or t.counts d 0; body = get_or t.bodies d 0 }
  unfolding table_of
  shown-definition d x l =
      paired_at counts definers d x same_length (omega (arith, counts-long))
      ∙ rw (get_or-take t.defs t.counts d 0 l, get_or-take t.defs t.bodies d 0 l)

  pub shown-bodies : bodies (table_of t).definitions ≡ definers
  unfolding table_of
  shown-bodies = paired-bodies counts definers same_length

-- ---- a table that grows
module _ (t : Table) (g : Good t) where
  pub shown-put : (x : Node) → t.n < node_limit → table_of (put t x) ≡ with_node (table_of t) (node_of x)
  unfolding table_of put
  shown-put x h =
      let e : map node_of (take (t.n + 1) (set t.nodes t.n x)) ≡ map node_of (take t.n t.nodes) ++ node_of x ∷ [] =
      ap (λ (i : ℕ). map node_of (take i (set t.nodes t.n x))) (add-one t.n)
      ∙ ap (map node_of) (take-suc-set t.nodes t.n x (omega (arith, g.long_nodes)))
      ∙ map-append (take t.n t.nodes) (x ∷ []) in
      rw e

  pub shown-define : (b : List ℕ) → t.defs < definition_limit → table_of (define t b) ≡ with_definition (table_of t) b
  unfolding table_of define
  shown-define b h =
      let c : take (t.defs + 1) (set t.counts t.defs (get_or b 0 0)) ≡ take t.defs t.counts ++ get_or b 0 0 ∷ [] =
      ap (λ (i : ℕ). take i (set t.counts t.defs (get_or b 0 0))) (add-one t.defs)
      ∙ take-suc-set t.counts t.defs (get_or b 0 0) (omega (arith, g.long_counts)) in
      let d : take (t.defs + 1) (set t.bodies t.defs (get_or b 1 0)) ≡ take t.defs t.bodies ++ get_or b 1 0 ∷ [] =
      ap (λ (i : ℕ). take i (set t.bodies t.defs (get_or b 1 0))) (add-one t.defs)
      ∙ take-suc-set t.bodies t.defs (get_or b 1 0) (omega (arith, g.long_bodies)) in
      let e = paired-append (take t.defs t.counts) (take t.defs t.bodies) (get_or b 0 0) (get_or b 1 0) (same_length t g) in
      rw (c, d, e)

-- the numbers of one node more, and of one definition more
pub among-numbers : (k : ℕ) (j : Item) (xs : List program.Node) (y : program.Node) → among k (all_numbers j (xs ++ y ∷ [])) ≡ (among k (numbers j y) || among k (all_numbers j xs))
unfolding all_numbers among
among-numbers k j [] y = among-append k (numbers j y) []
among-numbers k j (x ∷ xs) y =
    among-append k (numbers j x) (all_numbers j (xs ++ y ∷ []))
    ∙ ap (λ (b : Bool). among k (numbers j x) || b) (among-numbers k j xs y)
    ∙ swap (among k (numbers j x)) (among k (numbers j y)) (among k (all_numbers j xs))
    ∙ ap (λ (b : Bool). among k (numbers j y) || b) (sym (among-append k (numbers j x) (all_numbers j xs)))
  where
    swap : (a b c : Bool) → (a || (b || c)) ≡ (b || (a || c))
    swap true true c = refl
    swap true false c = refl
    swap false true c = refl
    swap false false c = refl

pub among-bodies : (k : ℕ) (ds : List Definition) (d : Definition) → among k (bodies (ds ++ d ∷ [])) ≡ (among k (bodies ds) || among k (d.body ∷ []))
unfolding bodies among
among-bodies k [] d = refl
among-bodies k (e ∷ ds) d = go (lib.Dec.eqb k e.body) (among-bodies k ds d)
  where
    go : (b : Bool) → among k (bodies (ds ++ d ∷ [])) ≡ (among k (bodies ds) || among k (d.body ∷ []))
        → (b || among k (bodies (ds ++ d ∷ []))) ≡ ((b || among k (bodies ds)) || among k (d.body ∷ []))
    go true e = refl
    go false e = e
