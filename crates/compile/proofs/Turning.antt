-- The pass over a text that writes its table, token by token. Assumes nothing.
use mathlib.Core.Path.{◌≡◌, refl, sym, ap, subst, ◌∙◌}
use mathlib.Core.Bool.{Bool, true, false, cond, ◌||◌}
use mathlib.Core.List.{List, [], ◌∷◌, ◌++◌, append-nil}
use mathlib.Core.Logic.{◌⊎◌, inl, inr}
use Rattle.std.specs.Prelude.{Some, None}
use Prim.Native.Nat.{ℕ, zero, suc, ◌+◌, ◌*◌, ◌≤◌, ◌<◌}
use native.Mathlib.Omega.{arith}
use lib.Dec.{eqb, ltb}
use lib.ListN.{length, take, drop, get_or, replicate, length-append, length-replicate}
use borrow.Author.Tests.{ltb-true, ltb-false}
use Rattle.program.specs.Check.{check}
use Rattle.program.specs.Conditions.{field_bytes, definitions_of}
use Rattle.notation.specs.Words.{between}
use Rattle.notation.specs.Grammar.{Token, Program, program_tokens, FineProgram}
use Rattle.notation.proofs.Lexing.{lex}
use Rattle.lexemes.specs.declared.Lexeme.{Lexeme}
use Rattle.lexemes.specs.Lexeme.{next_lexeme, token_of, Parted, depth_by, depth_after}
use Rattle.lexemes.proofs.Laws.{Behind, parted-splits, next-end}
use Rattle.translation.specs.Numbering.{byte, table}
use Rattle.vocabulary.specs.Codes.{token_code}
use Rattle.token_scans.specs.Scan.{mode_after}
use Rattle.decide.proofs.Picks.{not-both}
use Rattle.lexemes.proofs.Depth.{depth-kind, depth-most}
use Rattle.token_scans.proofs.Cuts.{Cut, cut-first, cut-within, cut-next, new-form, same-form, one_more, cut-begun, cut-top, to-end-from}
use Rattle.tabling.specs.Fields.{flat_fields, Overfull}
use Rattle.tabling.specs.Emit.{Output, State, emitted, taken, step, emit, start}
use Rattle.tabling.proofs.Prefix.{emit-append, emit-counted, Counted, table-emitted, cut-table}
use Rattle.compile.specs.declared.Waiting.{Waiting}
use Rattle.compile.specs.Writes.{last_of, Writes, Able, Adds, Compiles}
use Rattle.compile.proofs.Writing.{last-number}

abbrev state_at : List ℕ → ℕ → ℕ → ℕ → ℕ → Output → State
state_at s top at d m q = record { before = lex (take top s); here = lex (between top at s); mode = m; depth = d; out = q }

-- the tokens before the place give this output
pub record Going (s : List ℕ) (top at d m : ℕ) (q : Output) : Type 0 where
  pub cut : Cut s top at d
  pub same : emit start (lex (take at s)) ≡ state_at s top at d m q

pub begin : (s : List ℕ) → Going s 0 0 0 0 (record { parts = []; stack = []; nodes = 0 })
unfolding emit
begin s = record { cut = cut-first s; same = refl }

one-step : (st : State) (t : Token) → emit st (t ∷ []) ≡ step st t
unfolding emit
one-step st t = refl

-- a step from a state whose form goes on, or begins
stepped : (before here before' here' more : List Token) (d m : ℕ) (q : Output) (t : Token) → (d ≡ 0 → (before' ≡ before ++ here) × (here' ≡ []))
    → ((d ≡ 0 → ⊥) → (before' ≡ before) × (here' ≡ here)) → more ≡ here' ++ t ∷ []
    → step (record { before = before; here = here; mode = m; depth = d; out = q }) t
    ≡ record { before = before'; here = more; mode = mode_after m (token_code t); depth = depth_after d t; out = emitted before' here' m d t q }
unfolding taken
stepped before here before' here' more zero m q t z n e = let p = z refl in rw (e, p.0, p.1)
stepped before here before' here' more (suc d) m q t z n e = let p = n (λ x. omega arith) in rw (e, p.0, p.1)

module _ (s : List ℕ) (top at d m : ℕ) (q : Output) (g : Going s top at d m q) where
  -- a table that is not full has room for one part more
  counted : Counted q
  counted = subst Counted (ap (λ (x : State). x.out) g.same) (emit-counted (lex (take at s)))

  pub able : (t : List ℕ) (o : Waiting) → length o.numbers ≡ 257 → Writes t o q → o.nodes ≤ 256 → o.defs ≤ 32 → Able t o
  able t o y w n k =
      let f = counted.few in
      let c = counted.small in
      let b = ap length w.bytes in
      record {
        long = y;
        waiting = omega (arith, f, n, w.waiting, w.nodes);
        nodes = n;
        defs = k;
        small = omega (arith, c, n, k, b, w.waiting, w.nodes, w.defs);
      }

  module _ (r : Lexeme) (e : next_lexeme s at ≡ Some r) (top' : ℕ) (t : top' ≡ cond (eqb d 0) r.start top) where
    pub next : (d' m' : ℕ) (q' : Output) → d' ≡ depth_after d (token_of s r) → d' ≤ d + 1 → m' ≡ mode_after m (token_code (token_of s r))
        → q' ≡ emitted (lex (take top' s)) (lex (between top' r.start s)) m d (token_of s r) q → Going s top' r.end d' m' q'
    next d' m' q' ed h em eq = record {
      cut = cut-next s top at d g.cut r e top' t d' h;
      same =
          ap (emit start) (to-end-from s top at d g.cut r e top' t) ∙ emit-append start (lex (take at s)) (token_of s r ∷ [])
          ∙ ap (λ (x : State). emit x (token_of s r ∷ [])) g.same ∙ one-step (state_at s top at d m q) (token_of s r)
          ∙ rw (ed, em, eq) (stepped (lex (take top s)) (lex (between top at s)) (lex (take top' s)) (lex (between top' r.start s)) (lex (between top' r.end s)) d m q (token_of s r)
          (new-form s top at d g.cut r e top' t) (same-form s top at d g.cut r e top' t)
          (one_more s top at d g.cut r e top' t top' (cut-begun s top at d g.cut r e top' t) (cut-top s top at d g.cut r e top' t)));
    }

  -- its bytes are few where its parts are
  in-all : (t : List ℕ) (o : Waiting) → Writes t o q → length t ≤ 9 * o.nodes + 5 * o.defs
  in-all t o w = let c = counted.small in let b = ap length w.bytes in omega (arith, b, c, w.nodes, w.defs)

  -- ---- the end of the text
  whole : lex (drop at s) ≡ [] → lex (take at s) ≡ lex s
  whole z = sym (parted-splits s at g.cut.cut_here ∙ ap (λ (l : List Token). lex (take at s) ++ l) z ∙ append-nil (lex (take at s)))

  -- at the end of the text what is written is its program's table, however many nodes and definitions that has
  pub ended-table : lex (drop at s) ≡ [] → (t t' : List ℕ) (o : Waiting) → Writes t o q → t' ≡ t ++ field_bytes 3 (last_of o.numbers o.len ∷ [])
      → (p : Program) → FineProgram p → lex s ≡ program_tokens p → t' ≡ table p
  ended-table z t t' o w u p f l =
      let y : (emit start (program_tokens p)).out ≡ q = ap (λ (ts : List Token). (emit start ts).out) (sym l ∙ sym (whole z)) ∙ ap (λ (x : State). x.out) g.same in
      u ∙ ap (λ (b : List ℕ). b ++ field_bytes 3 (last_of o.numbers o.len ∷ [])) w.bytes
      ∙ ap (λ (n : ℕ). flat_fields q.parts ++ field_bytes 3 (n ∷ [])) (last-number o.numbers q.stack o.len w.numbers w.waiting)
      ∙ sym (table-emitted p f ∙ ap (λ (x : Output). flat_fields x.parts ++ field_bytes 3 (byte (get_or x.stack 0 0) ∷ [])) y)

  pub ended : lex (drop at s) ≡ [] → (t t' : List ℕ) (o : Waiting) → Writes t o q → t' ≡ t ++ field_bytes 3 (last_of o.numbers o.len ∷ []) → o.nodes ≤ 256 → o.defs ≤ 32 → Compiles s t'
  ended z t t' o w u n k = record {
    same = λ p f l. ap check (ended-table z t t' o w u p f l);
    whole = λ p f l c. ended-table z t t' o w u p f l;
    within = (let b = in-all t o w in let e = ap length u in let a = length-append t (field_bytes 3 (last_of o.numbers o.len ∷ [])) in omega (arith, b, e, a, n, k));
  }

  -- ---- more nodes or definitions than a table holds
  overfull : (t : List ℕ) (o : Waiting) → Writes t o q → (256 < o.nodes) ⊎ (32 < o.defs) → Overfull q.parts
  overfull t o w (inl x) = inl (let c = counted.nodes in omega (arith, x, c, w.nodes))
  overfull t o w (inr x) = inr (omega (arith, x, w.defs))

  -- the check refuses the table of the text's program, and what is written so far with the same number and place, however far it went
  pub full-check : (t : List ℕ) (o : Waiting) → Writes t o q → (256 < o.nodes) ⊎ (32 < o.defs)
      → (p : Program) → FineProgram p → lex s ≡ program_tokens p → (check t ≡ check (table p)) × ((check (table p)).0 ≡ 0 → ⊥)
  full-check t o w v p f l =
      let y = ap (λ (x : State). x.out) g.same in
      let c = cut-table p f (lex (take at s)) (lex (drop at s)) (sym l ∙ parted-splits s at g.cut.cut_here) (subst (λ (x : Output). Overfull x.parts) (sym y) (overfull t o w v)) in
      (ap check w.bytes ∙ sym (c.0 ∙ ap (λ (x : Output). check (flat_fields x.parts)) y), c.1)

  pub full : (t : List ℕ) (o : Waiting) → Writes t o q → (256 < o.nodes) ⊎ (32 < o.defs) → o.nodes ≤ 257 → o.defs ≤ 33 → Compiles s t
  full t o w v n k = record {
    same = λ p f l. (full-check t o w v p f l).0;
    whole = λ p f l c. absurd ((full-check t o w v p f l).1 c);
    within = (let b = in-all t o w in omega (arith, b, n, k));
  }

-- ---- the loop
pub record Making (s t : List ℕ) (o : Waiting) (top at d m : ℕ) : Type 0 where
  pub output : Output
  pub going : Going s top at d m output
  pub writes : Writes t o output
  pub long : length o.numbers ≡ 257
  pub nodes : o.nodes ≤ 256
  pub defs : o.defs ≤ 32

pub making-first : (s : List ℕ) → Making s [] (record { numbers = replicate 257 0; len = 0; nodes = 0; defs = 0 }) 0 0 0 0
unfolding flat_fields definitions_of
making-first s = record {
  output = record { parts = []; stack = []; nodes = 0 };
  going = begin s;
  writes = record { bytes = refl; numbers = refl; waiting = refl; nodes = refl; defs = refl };
  long = length-replicate {A = ℕ} 257 0;
  nodes = omega arith;
  defs = omega arith;
}

over : (a b : ℕ) → (ltb 256 a || ltb 32 b) ≡ true → (256 < a) ⊎ (32 < b)
over a b e = go (ltb 256 a) refl e
  where
    go : (c : Bool) → ltb 256 a ≡ c → (c || ltb 32 b) ≡ true → (256 < a) ⊎ (32 < b)
    go true p q = inl (ltb-true 256 a p)
    go false p q = inr (ltb-true 32 b q)

under : (a b : ℕ) → (ltb 256 a || ltb 32 b) ≡ false → (a ≤ 256) × (b ≤ 32)
under a b e = go (ltb 256 a) refl e
  where
    go : (c : Bool) → ltb 256 a ≡ c → (c || ltb 32 b) ≡ false → (a ≤ 256) × (b ≤ 32)
    go true p q = not-both q
    go false p q = (ltb-false 256 a p, ltb-false 32 b q)

module _ {s t : List ℕ} {o : Waiting} {top at d m : ℕ} (g : Making s t o top at d m) where
  pub making-able : Able t o
  making-able = able s top at d m g.output g.going t o g.long g.writes g.nodes g.defs

  pub making-cut : Cut s top at d
  making-cut = g.going.cut

  pub making-end : next_lexeme s at ≡ None → (t' : List ℕ) (x : ℕ) → x ≡ last_of o.numbers o.len → t' ≡ t ++ field_bytes 3 (x ∷ []) → Compiles s t'
  making-end z t' x e u =
      ended s top at d m g.output g.going (next-end s at g.going.cut.within z) t t' o g.writes (subst (λ (n : ℕ). t' ≡ t ++ field_bytes 3 (n ∷ [])) e u) g.nodes g.defs

  module _ (r : Lexeme) (e : next_lexeme s at ≡ Some r) where
    pub making-within : Behind s at r
    making-within = cut-within s top at d g.going.cut r e

    module _ (top' : ℕ) (f : top' ≡ cond (eqb d 0) r.start top) where
      pub making-begun : (top' ≤ r.start) × Parted s top'
      making-begun = (cut-begun s top at d g.going.cut r e top' f, cut-top s top at d g.going.cut r e top' f)

      module _ (t' : List ℕ) (o' : Waiting) (a : Adds t o t' o' (emitted (lex (take top' s)) (lex (between top' r.start s)) m d (token_of s r))) where
        abbrev q' : Output
        q' = emitted (lex (take top' s)) (lex (between top' r.start s)) m d (token_of s r) g.output

        on : Going s top' r.end (depth_by d r.kind) (mode_after m (token_code (token_of s r))) q'
        on =
            next s top at d m g.output g.going r e top' f (depth_by d r.kind) (mode_after m (token_code (token_of s r))) q'
            (sym (depth-kind d r.kind (between r.start r.end s))) (depth-most d r.kind) refl refl

        pub making-full : (ltb 256 o'.nodes || ltb 32 o'.defs) ≡ true → Compiles s t'
        making-full h =
            full s top' r.end (depth_by d r.kind) (mode_after m (token_code (token_of s r))) q' on t' o' (a.writes g.output g.writes) (over o'.nodes o'.defs h)
            (let f = a.few.0 in omega (arith, f, g.nodes)) (let f = a.few.1 in omega (arith, f, g.defs))

        pub making-next : (ltb 256 o'.nodes || ltb 32 o'.defs) ≡ false → (d' k m' : ℕ) → d' ≡ depth_by d r.kind → k ≡ token_code (token_of s r) → m' ≡ mode_after m k
            → Making s t' o' top' r.end d' m'
        making-next h d' k m' x y z =
            let u = under o'.nodes o'.defs h in
            record {
              output = q';
              going = rw (x, z, y) on;
              writes = a.writes g.output g.writes;
              long = a.long;
              nodes = u.0;
              defs = u.1;
            }
