-- The check accepts a program exactly when its table meets the conditions.
use mathlib.Core.Path.{◌≡◌, refl, ◌∙◌, ap, subst}
use mathlib.Core.Logic.{◌↔◌, ◌⊎◌, inl, inr, ⊎_elim}
use mathlib.Core.Bool.{Bool, true, false, cond, ◌&&◌}
use mathlib.Core.List.Memᴰ
use mathlib.Core.List.{List, [], ◌∷◌, Memᴰ}
use Prim.Native.Nat.{ℕ, zero, suc, ◌<◌}
use native.Mathlib.Omega.{arith}
use lib.ListN.{length, get_or}
use lib.Dec.{eqb}
use borrow.Author.Tests.{eqb-true, eqb-false}
use Rattle.wire.specs.Wire.{fields_of}
use Rattle.program.specs.Table.{slot, keeps, Definition, Loaded, no_definition, load, bodies, among}
use Rattle.program.specs.Tree.{tree, is_field, sort_broken}
use Rattle.program.specs.Check.{Verdict, check, tree_rows, sort_offends}
use Rattle.program.specs.Conditions.{Part, nodes_of, definitions_of, table_of, program_bytes, Bytes, Acceptable, Meets}
use Rattle.decide.proofs.Picks.{known, neither, or-fails, and_second, and-fails}
use Rattle.program.proofs.Names.{among-mem, mem-among}
use Rattle.program.proofs.Steps.{Steps}
use Rattle.program.proofs.Loading.{accepted, loads, loads-steps}
use Rattle.program.proofs.Built.{built-few, built-few-definitions, built-known, built-ranges, built-counts, built-arguments, built-given, built-bodied, built-body}
use Rattle.program.proofs.Built.{built-main, built-named, built-numbers}
use Rattle.program.proofs.Fitting.{steps-from}
use Rattle.program.proofs.Sorting.{Sorted, field_of, unbroken, as_number}
use Rattle.program.proofs.Scoping.{read-scoped, scoped-read, bodies-scoped, scoped-bodies}
use Rattle.program.proofs.Offending.{Passes, rows_pass, passes-rows}
use Rattle.program.proofs.Growing.{tree-sorts}
use Rattle.program.proofs.Spatials.{spatial-rules, rules-spatial, not-spatial, plain}
use Rattle.program.proofs.Uses.{called-once, fold-plain, no-offence}

body-mem : {d : Definition} {ds : List Definition} → Memᴰ d ds → Memᴰ d.body (bodies ds)
unfolding bodies
body-mem (Memᴰ.head e) = Memᴰ.head (ap (λ (d : Definition). d.body) e)
body-mem (Memᴰ.tail m) = Memᴰ.tail (body-mem m)

body-of : (ds : List Definition) {n : ℕ} → Memᴰ n (bodies ds) → (d : Definition) × Memᴰ d ds × (n ≡ d.body)
unfolding bodies
body-of [] i = absurd (Memᴰ.not-nil i)
body-of (d ∷ ds) {n} i =
    ⊎_elim {C = (c : Definition) × Memᴰ c (d ∷ ds) × (n ≡ c.body)} (λ e. (d, Memᴰ.head refl, e))
    (λ j. let r = body-of ds j in (r.0, Memᴰ.tail r.1, r.2)) (Memᴰ.cases_cons i)

-- a table that meets its conditions passes the rows of the trees
module _ (ps : List Part) (main : ℕ) (m : Meets ps main) where
  number_of : {n : ℕ} → (n ≡ main) ⊎ Memᴰ n (bodies (definitions_of ps)) → is_field (tree (table_of ps) n) ≡ false
  number_of (inl e) = rw e (field_of m.main_sort)
  number_of (inr i) = let r = body-of (definitions_of ps) i in rw r.2 (field_of (m.body_sorts r.0 r.1))

  passes : Passes (table_of ps) main
  unfolding sort_offends
  passes = record {
    sorts = λ n h.
        or-fails (unbroken (m.sorts n h).1)
        (and-fails (among n (main ∷ bodies (definitions_of ps))) _ (λ a. number_of (Memᴰ.cases_cons (among-mem n _ a))));
    main_read = scoped-read 0 m.main_scope;
    bodies_read = scoped-bodies (table_of ps) (definitions_of ps) m.body_scopes;
    uses =
        no-offence (table_of ps) (λ k n d h l a b s. m.called_once k n d h l a b (spatial-rules _ s))
        (λ n d h f. (not-spatial _ (m.folds n d h f).0, (m.folds n d h f).1));
    cheap = m.cheap;
  }

  -- its bytes are loaded to it
  pub loads-table : load (program_bytes ps main) ≡ accepted (table_of ps) main
  unfolding load fields_of nodes_of definitions_of
  loads-table = loads-steps ps main (suc (length (program_bytes ps main))) (omega arith) 0 (table_of []) (steps-from ps main m [] ps refl)

get_d-mem : (ds : List Definition) (j : ℕ) → j < length ds → Memᴰ (get_or ds j no_definition) ds
get_d-mem [] j h = absurd (omega arith)
get_d-mem (d ∷ ds) zero h = Memᴰ.head refl
get_d-mem (d ∷ ds) (suc j) h = Memᴰ.tail (get_d-mem ds j (omega arith))

-- parts that fit, whose table passes the rows of the trees, meet the conditions
module _ (ps : List Part) (main : ℕ) (st : Steps (table_of []) ps main) (p : Passes (table_of ps) main) where
  sound : (n : ℕ) → n < length (nodes_of ps)
      → (sort_broken (tree (table_of ps) n) ≡ false) × ((among n (main ∷ bodies (definitions_of ps)) && is_field (tree (table_of ps) n)) ≡ false)
  unfolding sort_offends
  sound n h = neither (sort_broken (tree (table_of ps) n)) _ (p.sorts n h)

  number_at : (n : ℕ) → n < length (nodes_of ps) → Memᴰ n (main ∷ bodies (definitions_of ps)) → is_field (tree (table_of ps) n) ≡ false
  number_at n h i = and_second (among n (main ∷ bodies (definitions_of ps))) _ (sound n h).1 (mem-among i)

  body_at : (d : Definition) → Memᴰ d (definitions_of ps) → is_field (tree (table_of ps) d.body) ≡ false
  body_at d i = number_at d.body (built-body ps main st d i) (Memᴰ.tail (body-mem i))

  sorted : (n : ℕ) → Sorted (tree (table_of ps) n)
  sorted =
      tree-sorts (table_of ps) (λ n h. (sound n h).0)
      (λ x i b. body_at _ (get_d-mem (definitions_of ps) (get_or x.values 0 0) (built-bodied ps main st x i b)))

  meets : Meets ps main
  meets = record {
    few_nodes = built-few ps main st;
    few_definitions = built-few-definitions ps main st;
    known = built-known ps main st;
    ranges = built-ranges ps main st;
    counts = built-counts ps main st;
    arguments = built-arguments ps main st;
    given = built-given ps main st;
    main_given = built-main ps main st;
    named_once = built-named ps main st;
    slot_once = built-numbers ps main st slot (λ t q f. f.slots);
    rep_once = built-numbers ps main st keeps (λ t q f. f.kept);
    sorts = λ n h. sorted n;
    main_sort = as_number _ (sorted main) (number_at main (built-main ps main st) (Memᴰ.head refl));
    body_sorts = λ d i. as_number _ (sorted d.body) (body_at d i);
    main_scope = read-scoped 0 [] (tree (table_of ps) main) p.main_read;
    body_scopes = λ d i. bodies-scoped (table_of ps) p.bodies_read i;
    called_once = λ k n d h l a b s. called-once (table_of ps) p.uses k n d h l a b (rules-spatial s);
    folds = λ n d h f. let q = fold-plain (table_of ps) n d (p.uses n h) f in (plain q.0, q.1);
    cheap = p.cheap;
  }

-- a check that accepts loads without refusal and passes the rows of the trees
check-loads : (l : Loaded) → cond (eqb l.number 0) (tree_rows l.table l.main) (l.number, l.place) ≡ (0, 0)
    → (l.number ≡ 0) × (tree_rows l.table l.main ≡ (0, 0))
check-loads l = go (eqb l.number 0) refl
  where
    go : (b : Bool) → eqb l.number 0 ≡ b → cond b (tree_rows l.table l.main) (l.number, l.place) ≡ (0, 0)
        → (l.number ≡ 0) × (tree_rows l.table l.main ≡ (0, 0))
    go true q e = (eqb-true l.number 0 q, e)
    go false q e = absurd (eqb-false l.number 0 q (ap (λ (v : Verdict). v.0) e))

-- "The program check accepts a table exactly when it meets 01's conditions"
pub accepts-exactly : (s : List ℕ) → Bytes s → (check s ≡ (0, 0)) ↔ Acceptable s
unfolding check load fields_of nodes_of definitions_of
accepts-exactly s b = (to, from)
  where
    to : check s ≡ (0, 0) → Acceptable s
    to e =
        let c = check-loads (load s) e in
        let l = loads (suc (length s)) s b 0 (table_of []) c.0 in (
          l.parts,
          l.main,
          l.bytes,
          meets l.parts l.main l.steps
              (rows_pass (table_of l.parts) l.main (subst (λ (u : Loaded). tree_rows u.table u.main ≡ (0, 0)) l.loaded c.1)),
        )

    from : Acceptable s → check s ≡ (0, 0)
    from (ps, main, e, m) =
        ap (λ (u : Loaded). cond {A = Verdict} (eqb u.number 0) (tree_rows u.table u.main) (u.number, u.place))
        (ap load e ∙ loads-table ps main m)
        ∙ passes-rows (table_of ps) main (passes ps main m)
