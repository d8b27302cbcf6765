-- The passes over a text, a window of levels each: together they find what the machine does. Assumes nothing.
use mathlib.Core.Path.{◌≡◌, refl, sym, ap, ◌∙◌}
use mathlib.Core.Bool.{Bool, true, false, ◌||◌}
use mathlib.Core.List.{List, [], ◌∷◌}
use mathlib.Core.Option.{Option, none, some}
use Prim.Native.Nat.{ℕ, suc, ◌+◌, ◌≤◌, ◌<◌, min}
use native.Mathlib.Omega.{arith}
use lib.ListN.{length}
use lib.Dec.{leb}
use borrow.Author.Tests.{leb-true, leb-false}
use Rattle.decide.proofs.Picks.{not-both}
use Rattle.notation.proofs.Machine.{Symbol, run, start as outset}
use Rattle.notation.proofs.Lexing.{lex}
use Rattle.notation.proofs.Place.{place}
use Rattle.notation.specs.Grammar.{Token}
use Rattle.vocabulary.specs.Codes.{token_code}
use Rattle.levels.specs.Levels.{move, Formed, levels_by, levels_at, window}
use Rattle.levels.proofs.Forms.{formed-move}
use Rattle.parse.proofs.Reading.{coded}
use Rattle.std.specs.Prelude.{Result, Ok, Err}
use Rattle.parse.specs.Passed.{levels, is_empty, Passed, PassedBy, sooner, ends}

-- the passes for the levels below base + window have come to this
pub record Covered (s : List ℕ) (base : ℕ) (refused : Bool) (at deepest : ℕ) (done : Bool) : Type 0 where
  pub least : place s ≤ at
  pub within : at ≤ length s
  pub stops : refused ≡ true → run outset (lex s) ≡ none
  pub exact : run outset (lex s) ≡ none → levels s ≤ base + window → (refused ≡ true) × (at ≡ place s)
  pub deep : levels s ≤ suc deepest
  pub whole : (st : List Symbol) → run outset (lex s) ≡ some st → (place s ≡ length s) × (done ≡ is_empty st)
  pub reached : base ≤ deepest

none-some : {A : Type 0} {x : List Symbol} → ◌≡◌ {A = Option (List Symbol)} none (some x) → A
none-some e = let z : ◌≡◌ {A = ℕ} 0 1 = cc in absurd (omega arith)

pub first-window : (s : List ℕ) (refused : Bool) (at deepest : ℕ) (done : Bool) → 0 < levels s → Passed s 0 refused at deepest done → Covered s 0 refused at deepest done
first-window s refused at deepest done z p = record {
  least = p.least;
  within = p.within;
  stops = p.stops;
  exact = λ e w. p.exact e z w;
  deep = p.deep;
  whole = λ st e. let q = p.whole st e in (q.0, q.1 refl);
  reached = omega arith;
}

-- one window more: a refusal of either, the lesser place
pub next-window : (s : List ℕ) (base : ℕ) (refused : Bool) (at deepest : ℕ) (done refused' : Bool) (at' deepest' : ℕ) (done' : Bool)
    → Covered s base refused at deepest done → base + window ≤ deepest → Passed s (base + window) refused' at' deepest' done'
    → Covered s (base + window) (refused || refused') (min at at') deepest done
next-window s base refused at deepest done refused' at' deepest' done' c h p = record {
  least = let x = c.least in let y = p.least in omega (arith, x, y);
  within = let x = c.within in omega (arith, x);
  stops = stops refused refl;
  exact = λ e w. exact e w (leb (levels s) (base + window)) refl;
  deep = c.deep;
  whole = c.whole;
  reached = h;
}
  where
    stops : (b : Bool) → refused ≡ b → (b || refused') ≡ true → run outset (lex s) ≡ none
    stops true q r = c.stops q
    stops false q r = p.stops r

    either_way : (b : Bool) → (b || true) ≡ true
    either_way true = refl
    either_way false = refl

    exact : run outset (lex s) ≡ none → levels s ≤ base + window + window → (b : Bool) → leb (levels s) (base + window) ≡ b → ((refused || refused') ≡ true) × (min at at' ≡ place s)
    exact e w true q =
        let x = c.exact e (leb-true (levels s) (base + window) q) in
        let y = p.least in
        let z = x.1 in
        (rw x.0, omega (arith, y, z))
    exact e w false q =
        let x = p.exact e (leb-false (levels s) (base + window) q) w in
        let y = c.least in
        let z = x.1 in
        (rw x.0 (either_way refused), omega (arith, y, z))

-- all levels are covered
module _ (s : List ℕ) (base : ℕ) (refused : Bool) (at deepest : ℕ) (done : Bool) (c : Covered s base refused at deepest done) (h : deepest < base + window) where
  pub all-place : at ≡ place s
  all-place = go (run outset (lex s)) refl
    where
      go : (o : Option (List Symbol)) → run outset (lex s) ≡ o → at ≡ place s
      go none e = let d = c.deep in (c.exact e (omega (arith, d, h))).1
      go (some st) e = let x = (c.whole st e).0 in let y = c.least in let z = c.within in omega (arith, x, y, z)

  pub all-refused : refused ≡ true → false ≡ ends (run outset (lex s))
  all-refused e = sym (ap ends (c.stops e))

  pub all-taken : refused ≡ false → done ≡ ends (run outset (lex s))
  all-taken e = go (run outset (lex s)) refl
    where
      go : (o : Option (List Symbol)) → run outset (lex s) ≡ o → done ≡ ends o
      go none q = let d = c.deep in not-both (sym (c.exact q (omega (arith, d, h))).0 ∙ e)
      go (some st) q = (c.whole st q).1

-- there is always a level
formed-long : (ls : List ℕ) → Formed ls → 0 < length ls
unfolding Formed
formed-long [] f = absurd f
formed-long (c ∷ ls) f = omega arith

levels-at : (ts : List Token) (ls : List ℕ) → Formed ls → 0 < levels_at ls ts
unfolding levels_at
levels-at [] ls f = formed-long ls f
levels-at (t ∷ ts) ls f = go (move ls (token_code t)) refl (levels-at ts)
  where
    go : (o : Option (List ℕ)) → move ls (token_code t) ≡ o → ((ls : List ℕ) → Formed ls → 0 < levels_at ls ts) → 0 < levels_by o (length ls) (λ ls. levels_at ls ts)
    go none e ih = formed-long ls f
    go (some ls') e ih = ih ls' (formed-move ls ls' t (coded t) f e)

pub some_level : (s : List ℕ) → 0 < levels s
unfolding Formed
some_level s = levels-at (lex s) (0 ∷ []) refl

-- by what the passes together give
abbrev pub CoveredBy : List ℕ → ℕ → Result Bool ℕ → ℕ → Type 0
CoveredBy s base (Ok done) deepest = Covered s base false (length s) deepest done
CoveredBy s base (Err at) deepest = Covered s base true at deepest false

-- once a token is refused it tells nothing whether the first pass ended
undone : (s : List ℕ) (base at deepest : ℕ) (done : Bool) → Covered s base true at deepest done → Covered s base true at deepest false
undone s base at deepest done c = record {
  least = c.least;
  within = c.within;
  stops = c.stops;
  exact = c.exact;
  deep = c.deep;
  whole = λ st e. none-some (sym (c.stops refl) ∙ e);
  reached = c.reached;
}

pub first-end : (s : List ℕ) (end : Result Bool ℕ) (deepest : ℕ) → PassedBy s 0 end deepest → CoveredBy s 0 end deepest
first-end s (Ok done) deepest p = first-window s false (length s) deepest done (some_level s) p
first-end s (Err at) deepest p = first-window s true at deepest false (some_level s) p

pub next-end : (s : List ℕ) (base : ℕ) (end : Result Bool ℕ) (deepest : ℕ) (end' : Result Bool ℕ) (deepest' : ℕ)
    → CoveredBy s base end deepest → base + window ≤ deepest → PassedBy s (base + window) end' deepest' → CoveredBy s (base + window) (sooner end end') deepest
next-end s base (Ok done) deepest (Ok done') deepest' c h p =
    let z : min (length s) (length s) ≡ length s = omega arith in
    rw z at (next-window s base false (length s) deepest done false (length s) deepest' done' c h p)
next-end s base (Ok done) deepest (Err at') deepest' c h p =
    let w = p.within in
    let z : min (length s) at' ≡ at' = omega arith in
    rw z at (undone s (base + window) _ deepest done (next-window s base false (length s) deepest done true at' deepest' false c h p))
next-end s base (Err at) deepest (Ok done') deepest' c h p =
    let w = c.within in
    let z : min at (length s) ≡ at = omega arith in
    rw z at (next-window s base true at deepest false false (length s) deepest' done' c h p)
next-end s base (Err at) deepest (Err at') deepest' c h p = next-window s base true at deepest false true at' deepest' false c h p

-- all levels are covered
module _ (s : List ℕ) (base deepest : ℕ) (h : deepest < base + window) where
  pub all-read : (done : Bool) → CoveredBy s base (Ok done) deepest → (ends (run outset (lex s)) ≡ done) × (place s ≡ length s)
  all-read done c = (sym (all-taken s base false (length s) deepest done c h refl), sym (all-place s base false (length s) deepest done c h))
