-- The machine over the tokens of a fine program: it emits the parts of its table and leaves the number of its main node.
use mathlib.Core.Path.{◌≡◌, refl, sym, ap, ◌∙◌}
use mathlib.Core.Bool.{Bool, true, false}
use mathlib.Core.List.{List, [], ◌∷◌, ◌++◌, append_assoc, append-nil}
use Prim.Native.Nat.{ℕ, suc, ◌-◌}
use native.Mathlib.Omega.{arith}
use lib.ListN.{length}
use Rattle.notation.specs.Words.{Word, same_word, the_def, definition, head_of, role}
use Rattle.notation.specs.Grammar.{Token, opening, closing, word, Tree, leaf, form, Items, Def, Program, tokens, item_tokens, name_tokens, def_tokens, defs_tokens, program_tokens, Fine, FineDef}
use Rattle.notation.specs.Grammar.{FineDefs, FineProgram}
use Rattle.notation.proofs.Words.{same_word_lem, role-def}
use Rattle.program.specs.Conditions.{Part, define as a_definition}
use Rattle.translation.specs.Names.{is_rep}
use Rattle.translation.specs.Numbering.{byte, Given, none, has_slot, after, parts, parameters, program_parts, program_after}
use Rattle.token_scans.specs.Scan.{mode_after, words_in, heads_in, definitions_in, parameters_in, slots_in, reps_in}
use Rattle.token_scans.proofs.Codes.{head-facts, slot_code, rep_code}
use Rattle.bindings.proofs.Modes.{modes_after, modes-append, words_append, def_front, def-parts, front-passed, def-passed, slots-passed, reps-passed, slots-after, variables-after}
use Rattle.bindings.proofs.Around.{seen_first, seen-body}
use Rattle.bindings.proofs.Meanings.{heads-on}
use Rattle.tabling.specs.Emit.{Output, State, emitted, taken, emit, start}
use Rattle.tabling.proofs.Trees.{output, in-mode, Counts, leaf-taken, head-taken, form-run, tree-run}

-- behind whole definitions, of the names ds
record Whole (before : List Token) (ds : List Word) (g : Given) : Type 0 where
  mode : modes_after 0 before ≡ 0
  names : definitions_in before ≡ ds
  slots : slots_in before ≡ g.slots
  reps : reps_in before ≡ g.variables

-- where the body of a definition stands, and where the main expression does
body-counts : (before : List Token) (ds : List Word) (g : Given) (d : Def) → Whole before ds g → Counts before (def_front d) g
body-counts before ds g d w = (
  heads-on slot_code before (def_front d) w.mode ∙ rw ((front-passed slot_code has_slot (λ w. (head-facts w).slot) refl d).heads, w.slots) (omega arith),
  heads-on rep_code before (def_front d) w.mode ∙ rw ((front-passed rep_code is_rep (λ w. (head-facts w).repeats) refl d).heads, w.reps) (omega arith),
)

main-counts : (before : List Token) (ds : List Word) (g : Given) → Whole before ds g → Counts before [] g
main-counts before ds g w = (rw (append-nil before) w.slots, rw (append-nil before) w.reps)

whole-on : (before : List Token) (ds : List Word) (g : Given) (d : Def) → FineDef d → Whole before ds g → Whole (before ++ def_tokens d) (ds ++ d.name ∷ []) (after d.body g)
whole-on before ds g d x w =
    let a = def-passed slot_code has_slot (λ w. (head-facts w).slot) refl d x in
    let b = def-passed rep_code is_rep (λ w. (head-facts w).repeats) refl d x in
    record {
      mode = modes-append 0 before (def_tokens d) ∙ rw w.mode a.mode;
      names = words_append 2 0 before (def_tokens d) ∙ rw (w.mode, w.names, a.named);
      slots = heads-on slot_code before (def_tokens d) w.mode ∙ rw (w.slots, a.heads, ← (slots-passed d.body x.fine).heads) (sym (slots-after d.body x.fine g));
      reps = heads-on rep_code before (def_tokens d) w.mode ∙ rw (w.reps, b.heads, ← (reps-passed d.body x.fine).heads) (sym (variables-after d.body x.fine g));
    }

-- ---- a definition up to its body, and its closing bracket
name-taken : (before here : List Token) (o : Output) (w : Word) → taken before here 4 2 o (word w) ≡ in-mode 4 before (here ++ word w ∷ []) 2 o
unfolding taken emitted mode_after
name-taken before here o w = rw (head-facts w).no_closing

names-taken : (before here : List Token) (o : Output) (ws : List Word) (r : List Token)
    → emit (in-mode 4 before here 2 o) (name_tokens ws ++ closing ∷ r) ≡ emit (in-mode 0 before (here ++ (name_tokens ws ++ closing ∷ [])) 1 o) r
unfolding name_tokens emit taken emitted mode_after
names-taken before here o [] r = refl
names-taken before here o (w ∷ ws) r =
    ap (λ (s : State). emit s (name_tokens ws ++ closing ∷ r)) (name-taken before here o w)
    ∙ names-taken before (here ++ word w ∷ []) o ws r ∙ rw (append_assoc here (word w ∷ []) (name_tokens ws ++ closing ∷ []))

front-taken : (before : List Token) (o : Output) (d : Def) (r : List Token)
    → emit (taken before [] 0 0 o opening) (word the_def ∷ word d.name ∷ opening ∷ name_tokens d.params ++ closing ∷ r) ≡ emit (in-mode 0 before (def_front d) 1 o) r
unfolding head_of emit taken emitted mode_after
front-taken before o d r =
    head-taken before [] 0 o the_def (word d.name ∷ opening ∷ name_tokens d.params ++ closing ∷ r)
    ∙ names-taken before (opening ∷ word the_def ∷ word d.name ∷ opening ∷ []) o d.params r

define-taken : (before : List Token) (d : Def) (qs : List Part) (n : ℕ) (st : List ℕ) (m : ℕ) → parameters_in (def_front d ++ tokens d.body) ≡ d.params
    → taken before (def_front d ++ tokens d.body) 0 1 (output qs (n ∷ st) m) closing
    ≡ in-mode 0 before (def_tokens d) 0 (output (qs ++ a_definition (record { count = byte (length d.params); body = byte n }) ∷ []) st m)
unfolding taken emitted mode_after
define-taken before d qs n st m e = rw (e, def-parts d, append_assoc (def_front d) (tokens d.body) (closing ∷ []))

-- behind the body no parameters came up
body-params : (d : Def) → Fine d.body → parameters_in (def_front d ++ tokens d.body) ≡ d.params
body-params d x =
    words_append 4 0 (def_front d) (tokens d.body) ∙ rw ((seen-body d).mode, (seen-body d).params, (reps-passed d.body x).params) (append-nil d.params)

-- a definition, at depth 0 behind `before` and `here`
def-run : (before here : List Token) (ds : List Word) (g : Given) (d : Def) (qs : List Part) (st : List ℕ) (r : List Token) → FineDef d → Whole (before ++ here) ds g
    → emit (in-mode 0 before here 0 (output qs st g.nodes)) (def_tokens d ++ r)
    ≡ emit (in-mode 0 (before ++ here) (def_tokens d) 0
    (output ((qs ++ parts ds (parameters 0 d.params) d.body g) ++ a_definition (record { count = byte (length d.params); body = byte ((after d.body g).nodes - 1) }) ∷ [])
    st (after d.body g).nodes)) r
unfolding emit def_tokens
def-run before here ds g d qs st r x w =
    rw (append_assoc (name_tokens d.params) (closing ∷ tokens d.body ++ closing ∷ []) r, append_assoc (tokens d.body) (closing ∷ []) r)
    (front-taken (before ++ here) (output qs st g.nodes) d (tokens d.body ++ closing ∷ r)
    ∙ tree-run (before ++ here) ds d.params w.mode w.names d.body x.fine (def_front d) 0 [] g qs st (closing ∷ r) (seen-body d) (body-counts (before ++ here) ds g d w)
    ∙ ap (λ (s : State). emit s r)
    (define-taken (before ++ here) d (qs ++ parts ds (parameters 0 d.params) d.body g) ((after d.body g).nodes - 1) st (after d.body g).nodes (body-params d x.fine)))

-- the main expression, which is no definition
no-def : (h : Word) (is : Items) → Fine (form h is) → same_word h the_def ≡ false
unfolding Fine
no-def h is x = go (same_word h the_def) refl
  where
    go : (c : Bool) → same_word h the_def ≡ c → c ≡ false
    go true q = let z : role h ≡ definition = ap role (same_word_lem h the_def q) ∙ role-def in absurd (rw z at x)
    go false q = refl

main-run : (before here : List Token) (ds : List Word) (g : Given) (t : Tree) (qs : List Part) (st : List ℕ) → Fine t → Whole (before ++ here) ds g
    → (emit (in-mode 0 before here 0 (output qs st g.nodes)) (tokens t)).out ≡ output (qs ++ parts ds [] t g) (((after t g).nodes - 1) ∷ st) (after t g).nodes
unfolding emit tokens parts after parameters
main-run before here ds g (leaf v) qs st x w =
    let one : suc g.nodes - 1 ≡ g.nodes = omega arith in
    rw one (ap (λ (s : State). s.out) (leaf-taken (before ++ here) [] 0 [] [] qs st g.nodes v seen_first))
main-run before here ds g (form h is) qs st x w =
    rw (← append-nil (item_tokens is ++ closing ∷ []))
    (ap (λ (s : State). s.out)
    (form-run (before ++ here) ds [] w.mode w.names h is x [] 0 [] g qs st [] seen_first (main-counts (before ++ here) ds g w) (no-def h is x)))

program-run : (defs : List Def) (main : Tree) (before here : List Token) (ds : List Word) (g : Given) (qs : List Part) → FineDefs defs → Fine main → Whole (before ++ here) ds g
    → (emit (in-mode 0 before here 0 (output qs [] g.nodes)) (defs_tokens defs ++ tokens main)).out
    ≡ output (qs ++ program_parts ds defs main g) (((program_after defs main g).nodes - 1) ∷ []) (program_after defs main g).nodes
unfolding defs_tokens FineDefs program_parts program_after
program-run [] main before here ds g qs x y w = main-run before here ds g main qs [] y w
program-run (d ∷ defs) main before here ds g qs x y w =
    let g' : Given = after d.body g in
    let body : List Part = parts ds (parameters 0 d.params) d.body g in
    let part : Part = a_definition (record { count = byte (length d.params); body = byte (g'.nodes - 1) }) in
    rw (
      append_assoc (def_tokens d) (defs_tokens defs) (tokens main),
      def-run before here ds g d qs [] (defs_tokens defs ++ tokens main) x.0 w,
      ← append_assoc qs body (part ∷ program_parts (ds ++ d.name ∷ []) defs main g'),
      ← append_assoc (qs ++ body) (part ∷ []) (program_parts (ds ++ d.name ∷ []) defs main g'),
    )
    (program-run defs main (before ++ here) (def_tokens d) (ds ++ d.name ∷ []) g' ((qs ++ body) ++ part ∷ []) x.1 y (whole-on (before ++ here) ds g d x.0 w))

-- the parts of the table, and the main node
pub emit-exactly : (p : Program) → FineProgram p
    → (emit start (program_tokens p)).out
    ≡ record {
      parts = program_parts [] p.defs p.main none;
      stack = ((program_after p.defs p.main none).nodes - 1) ∷ [];
      nodes = (program_after p.defs p.main none).nodes;
    }
unfolding program_tokens modes_after words_in heads_in
emit-exactly p x = program-run p.defs p.main [] [] [] none [] x.definitions x.main (record { mode = refl; names = refl; slots = refl; reps = refl })
