-- One pass over a text, token by token. Assumes nothing.
use mathlib.Core.Path.{◌≡◌, refl, sym, ap, subst, ◌∙◌}
use mathlib.Core.Bool.{Bool, true, false, cond, ◌&&◌}
use mathlib.Core.List.{List, [], ◌∷◌, ◌++◌}
use mathlib.Core.Logic.{◌⊎◌, inl, inr}
use mathlib.Core.Option.{Option, none, some}
use Prim.Native.Nat.{ℕ, zero, suc, ◌+◌, ◌-◌, ◌≤◌, ◌<◌, max}
use native.Mathlib.Omega.{arith}
use lib.ListN.{length, get_or, drop, replicate, length-replicate}
use lib.Dec.{eqb, leb, ltb}
use borrow.Author.Tests.{ne_eqb, leb-true, le-leb, ltb-true, lt-ltb}
use Rattle.decide.proofs.Zeros.{zeros}
use Rattle.decide.proofs.Options.{none-some}
use Rattle.decide.proofs.Picks.{not-both, both}
use Rattle.notation.specs.Grammar.{Token, closing}
use Rattle.notation.proofs.Machine.{Symbol, run, start as outset}
use Rattle.notation.proofs.Lexing.{lex}
use Rattle.notation.proofs.Place.{reach, place, place-longest}
use Rattle.vocabulary.specs.Codes.{token_code}
use Rattle.levels.specs.Levels.{refusal, segment, stack_of, inner, move_of, moved, move, Formed, levels_at, level_front, window, held_at, put_at, level_in, advanced, Numbered, Based}
use Rattle.lexemes.specs.declared.Kind.{Kind}
use Rattle.lexemes.specs.declared.Kind.TheVariants.{Opening, Closing, Word}
use Rattle.lexemes.specs.Lexeme.{depth_by}
use Rattle.parse.specs.Passed.{levels, is_empty, Passed}
use Rattle.levels.proofs.Steps.{each, ◌▹◌, inner-level}
use Rattle.parse.proofs.Tokens.{front, Next, Alive, begin, goes_on, stops_at, stops-run, stops-deep}
use Rattle.parse.proofs.Fronts.{front-level}
use Rattle.parse.proofs.Held.{Held, put-length}
use Rattle.parse.proofs.Follows.{OfKind, an_opening, a_closing, a_word, Moves, found, follows}

-- the machine is at the place with the levels that the array holds
pub record Lives (s : List ℕ) (base at depth : ℕ) (arr : List ℕ) : Type 0 where
  pub top : ℕ
  pub below : List ℕ
  pub alive : Alive s at (top ∷ below)
  pub size : length below ≡ depth
  pub held : Held base arr (top ∷ below) depth

-- it has refused a token before the place, on a level that is not held
pub record Past (s : List ℕ) (base at deepest : ℕ) : Type 0 where
  pub before : place s ≤ at
  pub runs : run outset (lex s) ≡ none
  pub deep : levels s ≤ suc deepest
  pub outside : base < levels s → levels s ≤ base + window → ⊥

pub record Going (s : List ℕ) (base at depth deepest : ℕ) (arr : List ℕ) : Type 0 where
  pub long : length arr ≡ window
  pub numbers : Numbered arr
  pub bound : depth ≤ deepest
  pub passed : deepest ≤ at
  pub within : at ≤ length s
  pub state : Lives s base at depth arr ⊎ Past s base at deepest

-- the outset: nothing is read, and every level's number is 0
pub begin-pass : (s : List ℕ) (base : ℕ) → Going s base 0 0 0 (replicate window 0)
begin-pass s base = record {
  long = length-replicate {A = ℕ} window 0;
  numbers = λ i. let e = zeros window i in omega (arith, e);
  bound = omega arith;
  passed = omega arith;
  within = omega arith;
  state = inl (record { top = 0; below = []; alive = begin s; size = refl; held = λ i b w. zeros window i ∙ ap (λ (k : ℕ). get_or (0 ∷ []) k 0) (outermost i b) });
}
  where
    outermost : (i : ℕ) → base + i ≤ 0 → 0 ≡ 0 - (base + i)
    outermost i b = omega (arith, b)

-- an inner level is not empty
filled : (st : List Symbol) (c : ℕ) → c < 18 → leb 2 c ≡ true → is_empty (segment c ++ st) ≡ false
filled st c h =
    each 18 (λ c. leb 2 c ≡ true → is_empty (segment c ++ st) ≡ false) (
    (λ n. not-both (sym n))
    ▹ (λ n. not-both (sym n))
    ▹ (λ n. refl) ▹ (λ n. refl) ▹ (λ n. refl) ▹ (λ n. refl) ▹ (λ n. refl) ▹ (λ n. refl) ▹ (λ n. refl) ▹ (λ n. refl)
    ▹ (λ n. refl) ▹ (λ n. refl) ▹ (λ n. refl) ▹ (λ n. refl) ▹ (λ n. refl) ▹ (λ n. refl) ▹ (λ n. refl) ▹ (λ n. refl)
    ▹ tt
    ) c h

-- nothing is to come exactly where the outermost level says so
nothing_left : (c : ℕ) (l : List ℕ) (depth k : ℕ) → Formed (c ∷ l) → length l ≡ depth → (depth ≡ 0 → k ≡ c) → (eqb depth 0 && eqb k 1) ≡ is_empty (stack_of (c ∷ l))
unfolding Formed stack_of
nothing_left c [] depth k f z q = rw (sym z, q (sym z)) (outermost c (ltb-true c 2 f))
  where
    outermost : (c : ℕ) → c < 2 → eqb c 1 ≡ is_empty (segment c ++ [])
    outermost zero h = refl
    outermost (suc zero) h = refl
    outermost (suc (suc c)) h = absurd (omega arith)
nothing_left c (d ∷ l) depth k f z q =
    let h = inner-level c d l f in
    rw (ne_eqb depth 0 (λ e. omega (arith, z, e)), filled (stack_of (d ∷ l)) c h.0 h.1)

place-within : (s : List ℕ) → place s ≤ length s
place-within s = (place-longest s).within

lives-on : {s arr : List ℕ} {base at depth : ℕ} (ls : List ℕ) → Alive s at ls → Held base arr ls depth → length ls ≡ suc depth → Lives s base at depth arr
lives-on [] a h z = absurd (omega (arith, z))
lives-on (c ∷ l) a h z = record { top = c; below = l; alive = a; size = omega (arith, z); held = h }

-- the machine refuses where the innermost level does
refuses : (c : ℕ) (l : List ℕ) (k : ℕ) → move (c ∷ l) k ≡ none → eqb (move_of c k) refusal ≡ true
unfolding move
refuses c l k e = go (eqb (move_of c k) refusal) (moved c k (move_of c k) l) e
  where
    go : (b : Bool) (x : List ℕ) → cond b none (some x) ≡ none → b ≡ true
    go true x e = refl
    go false x e = let z : ◌≡◌ {A = ℕ} 0 1 = cc in absurd (omega arith)

closing-of : (t : Token) (kind : Kind) → OfKind t kind → kind ≡ Closing → t ≡ closing
closing-of t kind an_opening k = absurd cc
closing-of t kind a_closing k = refl
closing-of t kind a_word k = absurd cc

refusing : (c : ℕ) (l : List ℕ) (k : ℕ) → eqb (move_of c k) refusal ≡ true → move (c ∷ l) k ≡ none
unfolding move
refusing c l k e = rw e

closes-none : (c : ℕ) (l : List ℕ) → Formed (c ∷ l) → length l ≡ 0 → move (c ∷ l) 23 ≡ none
unfolding Formed move move_of
closes-none c [] f z = go c (ltb-true c 2 f)
  where
    go : (c : ℕ) → c < 2 → move (c ∷ []) 23 ≡ none
    go zero h = refl
    go (suc zero) h = refl
    go (suc (suc c)) h = absurd (omega arith)
closes-none c (d ∷ l) f z = absurd (omega (arith, z))

unheld-apart : (base depth : ℕ) → held_at base depth ≡ false → base ≤ depth → depth < base + window → ⊥
unheld-apart base depth p b w = not-both (sym (rw (le-leb base depth b, lt-ltb (depth - base) window (omega (arith, b, w)))) ∙ p)

max-left : (a b : ℕ) → a ≤ max a b
max-left a b = omega arith

max-right : (a b : ℕ) → b ≤ max a b
max-right a b = omega arith

max-below : (a b c : ℕ) → a ≤ c → b ≤ c → max a b ≤ c
max-below a b c h k = omega arith

module _ (s : List ℕ) (base : ℕ) (based : Based base) (at depth deepest : ℕ) (arr : List ℕ) (g : Going s base at depth deepest arr) where
  -- the end of the text
  sunk-at : lex (drop at s) ≡ [] → (v : Lives s base at depth arr) → levels s ≤ suc deepest
  unfolding levels_at
  sunk-at e v = let x : levels s ≡ suc (length v.below) = v.alive.deep ∙ rw e in omega (arith, x, v.size, g.bound)

  pub end-turn : lex (drop at s) ≡ [] → ((st : List Symbol) → reach st [] (drop at s) ≡ length s - at) → (done : Bool)
      → done ≡ (eqb depth 0 && eqb (level_in base depth arr) 1) → Passed s base false (length s) deepest done
  end-turn e r done d = go g.state
    where
      reached : Lives s base at depth arr → place s ≡ length s
      reached v = v.alive.placed ∙ ap (λ (k : ℕ). at + k) (r (stack_of (v.top ∷ v.below))) ∙ omega (arith, g.within)

      last : (v : Lives s base at depth arr) → base ≡ 0 → (eqb depth 0 && eqb (level_in base depth arr) 1) ≡ is_empty (stack_of (v.top ∷ v.below))
      last v z =
          nothing_left v.top v.below depth (level_in base depth arr) v.alive.formed v.size
          (λ d. found base depth arr g.long based v.top v.below v.size v.alive.formed v.held (omega (arith, z)) (omega (arith, d)))

      go : Lives s base at depth arr ⊎ Past s base at deepest → Passed s base false (length s) deepest done
      go (inl v) =
          let ended : run outset (lex s) ≡ some (stack_of (v.top ∷ v.below)) = v.alive.runs ∙ rw e in
          record {
            least = place-within s;
            within = omega arith;
            stops = λ q. not-both (sym q);
            exact = λ q b w. none-some (sym q ∙ ended);
            deep = sunk-at e v;
            whole = λ st q. let x = sym ended ∙ q in let y : stack_of (v.top ∷ v.below) ≡ st = cc in (reached v, λ z. d ∙ last v z ∙ ap is_empty y);
          }
      go (inr p) = record {
        least = place-within s;
        within = omega arith;
        stops = λ q. not-both (sym q);
        exact = λ q b w. absurd (p.outside b w);
        deep = p.deep;
        whole = λ st q. none-some (sym p.runs ∙ q);
      }

  -- the array stays as long
  advanced-long : (kind : Kind) (c m : ℕ) → length (advanced base depth kind c m arr) ≡ window
  advanced-long Opening c m = put-length base (suc depth) (inner c) (put_at base depth m arr) (put-length base depth m arr g.long)
  advanced-long Closing c m = g.long
  advanced-long Word c m = go (eqb m 18)
    where
      go : (d : Bool) → length (cond d (put_at base 0 0 (put_at base depth 11 arr)) (put_at base depth m arr)) ≡ window
      go true = put-length base 0 0 (put_at base depth 11 arr) (put-length base depth 11 arr g.long)
      go false = put-length base depth m arr g.long

  module _ (t : Token) (start end : ℕ) (kind : Kind) (n : Next s at t start end) (o : OfKind t kind) where
    deeper-least : depth_by depth kind ≤ suc depth
    deeper-least = go kind
      where
        go : (k : Kind) → depth_by depth k ≤ suc depth
        go Opening = omega arith
        go Closing = omega arith
        go Word = omega arith

    -- a token that the machine refuses where it is, and the pass with it; or one behind its refusal
    stopped : (x : ℕ) (done : Bool) → start ≤ x → x ≤ end → ((v : Lives s base at depth arr) → (move (v.top ∷ v.below) (token_code t) ≡ none) × (x ≡ start + front (stack_of (v.top ∷ v.below)) t))
        → Passed s base true x deepest done
    stopped x done z y q = go g.state
      where
        go : Lives s base at depth arr ⊎ Past s base at deepest → Passed s base true x deepest done
        go (inl v) =
            let e = q v in
            let here : x ≡ place s = e.1 ∙ sym (stops_at s at (v.top ∷ v.below) v.alive t start end n e.0) in
            let over = stops-run s at (v.top ∷ v.below) v.alive t start end n e.0 in
            let deep = stops-deep s at (v.top ∷ v.below) v.alive t start end n e.0 in
            record {
              least = omega (arith, here);
              within = omega (arith, y, n.within);
              stops = λ r. over;
              exact = λ r b w. (refl, here);
              deep = omega (arith, deep, v.size, g.bound);
              whole = λ st r. none-some (sym over ∙ r);
            }
        go (inr p) = record {
          least = let b = n.behind in omega (arith, b, z, p.before);
          within = omega (arith, y, n.within);
          stops = λ r. p.runs;
          exact = λ r b w. absurd (p.outside b w);
          deep = p.deep;
          whole = λ st r. none-some (sym p.runs ∙ r);
        }

    -- on a level that is held
    pub refused-turn : held_at base depth ≡ true → eqb (move_of (level_in base depth arr) (token_code t)) refusal ≡ true → start + level_front (level_in base depth arr) t ≤ end → (done : Bool)
        → Passed s base true (start + level_front (level_in base depth arr) t) deepest done
    refused-turn h r short done = stopped (start + level_front (level_in base depth arr) t) done (omega arith) short (λ v. at_level v (level v))
      where
        level : (v : Lives s base at depth arr) → level_in base depth arr ≡ v.top
        level v =
            let b = both (leb base depth) (ltb (depth - base) window) h in
            found base depth arr g.long based v.top v.below v.size v.alive.formed v.held (leb-true base depth b.0) (ltb-true (depth - base) window b.1)

        at_level : (v : Lives s base at depth arr) → level_in base depth arr ≡ v.top
            → (move (v.top ∷ v.below) (token_code t) ≡ none) × (start + level_front (level_in base depth arr) t ≡ start + front (stack_of (v.top ∷ v.below)) t)
        at_level v e = (
          refusing v.top v.below (token_code t) (subst (λ (c : ℕ). eqb (move_of c (token_code t)) refusal ≡ true) e r),
          ap (λ (k : ℕ). start + k) (ap (λ (c : ℕ). level_front c t) e ∙ sym (front-level v.top v.below v.alive.formed t)),
        )

    -- a closing bracket too many
    pub outer-turn : kind ≡ Closing → depth ≡ 0 → (done : Bool) → Passed s base true start deepest done
    outer-turn k d done = stopped start done (omega arith) (let y = n.filled in omega (arith, y)) nothing-open
      where
        nothing-open : (v : Lives s base at depth arr) → (move (v.top ∷ v.below) (token_code t) ≡ none) × (start ≡ start + front (stack_of (v.top ∷ v.below)) t)
        nothing-open v =
            subst (λ (t : Token). (move (v.top ∷ v.below) (token_code t) ≡ none) × (start ≡ start + front (stack_of (v.top ∷ v.below)) t)) (sym (closing-of t kind o k))
            (closes-none v.top v.below v.alive.formed (v.size ∙ d), omega arith)

    -- the pass goes on: with the machine, or past it
    module _ (m : ℕ) (same : held_at base depth ≡ true → m ≡ move_of (level_in base depth arr) (token_code t)) (free : held_at base depth ≡ false → m ≡ 0) (taken : eqb m refusal ≡ false)
        (above : kind ≡ Closing → 0 < depth) where
      live_on : Lives s base at depth arr → Lives s base end (depth_by depth kind) (advanced base depth kind (level_in base depth arr) m arr) ⊎ Past s base end (max deepest (depth_by depth kind))
      live_on v = go (move (c ∷ l) (token_code t)) refl
        where
          c : ℕ
          c = v.top

          l : List ℕ
          l = v.below

          level : base ≤ depth → depth - base < window → level_in base depth arr ≡ c
          level = found base depth arr g.long based c l v.size v.alive.formed v.held

          moves : Moves base depth arr g.long based c l v.size v.alive.formed v.held t m
          moves = record { held = λ b w. same (rw (le-leb base depth b, lt-ltb (depth - base) window w)) ∙ ap (λ (x : ℕ). move_of x (token_code t)) (level b w); free = free }

          go : (r : Option (List ℕ)) → move (c ∷ l) (token_code t) ≡ r
              → Lives s base end (depth_by depth kind) (advanced base depth kind (level_in base depth arr) m arr) ⊎ Past s base end (max deepest (depth_by depth kind))
          go none e = inr (past (held_at base depth) refl)
            where
              -- a refusal on a level that is held would have been seen
              seen : held_at base depth ≡ true → ⊥
              seen p =
                  let q = both (leb base depth) (ltb (depth - base) window) p in
                  let x = moves.held (leb-true base depth q.0) (ltb-true (depth - base) window q.1) in
                  not-both (sym (refuses c l (token_code t) e) ∙ sym (ap (λ (k : ℕ). eqb k refusal) x) ∙ taken)

              deep : levels s ≡ suc (length l)
              deep = stops-deep s at (c ∷ l) v.alive t start end n e

              shared : place s ≡ start + front (stack_of (c ∷ l)) t
              shared = stops_at s at (c ∷ l) v.alive t start end n e

              past : (a : Bool) → held_at base depth ≡ a → Past s base end (max deepest (depth_by depth kind))
              past true p = absurd (seen p)
              past false p = record {
                before = let x = n.short (stack_of (c ∷ l)) in let y = n.filled in omega (arith, shared, x, y);
                runs = stops-run s at (c ∷ l) v.alive t start end n e;
                deep = let x = max-left deepest (depth_by depth kind) in omega (arith, deep, v.size, g.bound, x);
                outside = λ b w. unheld-apart base depth p (omega (arith, deep, v.size, b)) (omega (arith, deep, v.size, w));
              }
          go (some ls') e =
              let q = follows base depth arr g.long based c l v.size v.alive.formed v.held t kind m ls' o n.coded above moves e in
              inl (lives-on ls' (goes_on s at (c ∷ l) v.alive t start end n ls' e) q.0 q.1)

      pub next-turn : Numbered (advanced base depth kind (level_in base depth arr) m arr)
          → Going s base end (depth_by depth kind) (max deepest (depth_by depth kind)) (advanced base depth kind (level_in base depth arr) m arr)
      next-turn u = record {
        long = advanced-long kind (level_in base depth arr) m;
        numbers = u;
        bound = max-right deepest (depth_by depth kind);
        passed = let x = n.behind in let y = n.filled in max-below deepest (depth_by depth kind) end (omega (arith, x, y, g.passed)) (omega (arith, x, y, deeper-least, g.bound, g.passed));
        within = n.within;
        state = go g.state;
      }
        where
          go : Lives s base at depth arr ⊎ Past s base at deepest
              → Lives s base end (depth_by depth kind) (advanced base depth kind (level_in base depth arr) m arr) ⊎ Past s base end (max deepest (depth_by depth kind))
          go (inl v) = live_on v
          go (inr p) = inr (
              record {
                before = let x = n.behind in let y = n.filled in omega (arith, x, y, p.before);
                runs = p.runs;
                deep = let x = max-left deepest (depth_by depth kind) in omega (arith, x, p.deep);
                outside = p.outside;
              }
              )
