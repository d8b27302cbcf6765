-- Behind each token that the machine takes, the array holds the machine's levels. Assumes nothing.
use mathlib.Core.Path.{◌≡◌, refl, sym, ap, subst, ◌∙◌}
use mathlib.Core.Bool.{Bool, true, false, cond, ◌&&◌}
use mathlib.Core.List.{List, [], ◌∷◌}
use mathlib.Core.Logic.{inl, inr}
use mathlib.Core.Option.{none, some}
use Prim.Native.Nat.{ℕ, zero, suc, ◌+◌, ◌-◌, ◌≤◌, ◌<◌}
use native.Mathlib.Omega.{arith}
use lib.ListN.{length, get_or}
use lib.Dec.{eqb, leb, ltb}
use borrow.Author.Tests.{eqb-true, ne_eqb, leb-true, leb-false, le-leb, ltb-true, lt-ltb}
use Rattle.decide.proofs.Options.{none-some, some_of}
use Rattle.decide.proofs.Picks.{not-both, both}
use Rattle.notation.specs.Grammar.{Token, opening, closing, word}
use Rattle.vocabulary.specs.Codes.{token_code}
use Rattle.levels.specs.Levels.{refusal, word_moves, inner, move_of, reopened, moved, move, Formed, window, unheld, held_at, put_at, level_in, advanced, Based}
use Rattle.lexemes.specs.declared.Kind.{Kind}
use Rattle.lexemes.specs.declared.Kind.TheVariants.{Opening, Closing, Word}
use Rattle.lexemes.specs.Lexeme.{depth_by}
use Rattle.levels.proofs.Steps.{CodedToken}
use Rattle.levels.proofs.Forms.{first-defines}
use Rattle.parse.proofs.Held.{Held, by_equal, put_same, put_other, put-length, held_word, held-opening, held-closing}

-- ---- the levels behind a token
passed : (b : Bool) (x ls' : List ℕ) → cond b none (some x) ≡ some ls' → x ≡ ls'
passed true x ls' e = none-some e
passed false x ls' e = some_of e

moved_on : (c k : ℕ) (l ls' : List ℕ) → move (c ∷ l) k ≡ some ls' → moved c k (move_of c k) l ≡ ls'
unfolding move
moved_on c k l ls' e = passed (eqb (move_of c k) refusal) (moved c k (move_of c k) l) ls' e

moved_word : (c k m : ℕ) (l : List ℕ) → k < 22 → moved c k m l ≡ cond (eqb m 18) (11 ∷ reopened l) (m ∷ l)
moved_word c k m l h = rw (ne_eqb k 22 (λ e. omega arith), ne_eqb k 23 (λ e. omega arith))

-- a token's kind
pub data OfKind : Token → Kind → Type 0 where
  an_opening : OfKind opening Opening
  a_closing : OfKind closing Closing
  a_word : {w : List ℕ} → OfKind (word w) Word

-- deep levels open with a head
deep-inner : (c : ℕ) (l : List ℕ) → Formed (c ∷ l) → 2 ≤ length l → inner c ≡ 2
unfolding Formed
deep-inner c [] f h = absurd (omega arith)
deep-inner c (d ∷ []) f h = absurd (omega arith)
deep-inner c (d ∷ x ∷ l) f h = go (eqb c 0) (eqb c 12) refl refl
  where
    go : (a b : Bool) → eqb c 0 ≡ a → eqb c 12 ≡ b → ◌≡◌ {A = ℕ} (cond a 3 (cond b 17 2)) 2
    go true b p q = let z : leb 2 0 ≡ true = ap (λ n. leb 2 n) (sym (eqb-true c 0 p)) ∙ (both (leb 2 c) (ltb c 18) f.0).0 in not-both (sym z)
    go false true p q = let e = f.1 (rw (eqb-true c 12 q)) in let z : ◌≡◌ {A = ℕ} 0 1 = cc in absurd (omega arith)
    go false false p q = refl

module _ (base depth : ℕ) (arr : List ℕ) (len : length arr ≡ window) (based : Based base) (c : ℕ) (l : List ℕ) (size : length l ≡ depth) (f : Formed (c ∷ l)) (h : Held base arr (c ∷ l) depth) where
  -- the level that is found is the machine's, if it is held
  pub found : base ≤ depth → depth - base < window → level_in base depth arr ≡ c
  found b w =
      let x : base + (depth - base) ≤ depth = omega (arith, b) in
      let z : depth - (base + (depth - base)) ≡ 0 = omega (arith, b) in
      rw (le-leb base depth b, lt-ltb (depth - base) window w) (h (depth - base) x w ∙ ap (λ (k : ℕ). get_or (c ∷ l) k 0) z)

  -- the number of the level within
  opens : base ≤ suc depth → suc depth - base < window → inner (level_in base depth arr) ≡ inner c
  opens b w = go (leb base depth) refl
    where
      lower : (x : ℕ) → leb base depth ≡ false → inner (cond (leb base depth && ltb (depth - base) window) x unheld) ≡ 2
      lower x e = rw e

      deep : leb base depth ≡ false → 2 ≤ length l
      deep e = let d = leb-false base depth e in from based d
        where
          from : Based base → depth < base → 2 ≤ length l
          from (inl z) d = absurd (omega (arith, z, d))
          from (inr z) d = omega (arith, z, d, b, size)

      go : (a : Bool) → leb base depth ≡ a → inner (level_in base depth arr) ≡ inner c
      go true e = let d = leb-true base depth e in ap inner (found d (omega (arith, d, w)))
      go false e = lower (get_or arr (depth - base) 0) e ∙ sym (deep-inner c l f (deep e))

  -- the move that the pass makes: the machine's where the level is held, else 0
  pub record Moves (t : Token) (m : ℕ) : Type 0 where
    pub held : base ≤ depth → depth - base < window → m ≡ move_of c (token_code t)
    pub free : held_at base depth ≡ false → m ≡ 0

  -- behind a token of that kind and move
  abbrev pub Behind : Kind → ℕ → List ℕ → Type 0
  Behind kind m ls' = Held base (advanced base depth kind (level_in base depth arr) m arr) ls' (depth_by depth kind) × (length ls' ≡ suc (depth_by depth kind))

  behind-opening : (m : ℕ) (ls' : List ℕ) → Moves opening m → move (c ∷ l) 22 ≡ some ls' → Behind Opening m ls'
  behind-opening m ls' q e =
      subst (Behind Opening m) (moved_on c 22 l ls' e)
      (held-opening base depth c arr l len h (move_of c 22) m (inner c) (inner (level_in base depth arr)) q.held opens, omega (arith, size))

  behind-closing : (m : ℕ) (ls' : List ℕ) → 0 < depth → move (c ∷ l) 23 ≡ some ls' → Behind Closing m ls'
  behind-closing m ls' p e = subst (Behind Closing m) (moved_on c 23 l ls' e) (held-closing base depth c arr l len h p, omega (arith, size, p))

  -- a definition's head, where the level is held: the outermost level is a program again
  defined : l ≡ 1 ∷ [] → (m : ℕ) → eqb m 18 ≡ true → Behind Word m (11 ∷ reopened l)
  defined e m q = rw (q, e, d) (again, refl)
    where
      d : depth ≡ 1
      d = sym size ∙ ap length e

      once : Held base (put_at base depth 11 arr) (11 ∷ l) depth
      once = held_word base depth c arr l len h 11 11 (λ b w. refl)

      again : Held base (put_at base 0 0 (put_at base 1 11 arr)) (11 ∷ 0 ∷ []) 1
      again i j k = by_equal (base + i) 0 same other
        where
          same : base + i ≡ 0 → get_or (put_at base 0 0 (put_at base 1 11 arr)) i 0 ≡ get_or (11 ∷ 0 ∷ []) (1 - (base + i)) 0
          same p =
              let z : 0 - base ≡ i = omega (arith, p) in
              let y : 1 - (base + i) ≡ 1 = omega (arith, p) in
              ap (λ (x : ℕ). get_or (put_at base 0 0 (put_at base 1 11 arr)) x 0) (sym z)
              ∙ put_same base 0 0 (put_at base 1 11 arr) (put-length base 1 11 arr len) (omega (arith, p)) (omega (arith, p))
              ∙ ap (λ (x : ℕ). get_or (11 ∷ 0 ∷ []) x 0) (sym y)

          other : (base + i ≡ 0 → ⊥) → get_or (put_at base 0 0 (put_at base 1 11 arr)) i 0 ≡ get_or (11 ∷ 0 ∷ []) (1 - (base + i)) 0
          other p =
              let y : 1 - (base + i) ≡ 0 = omega (arith, p, j) in
              put_other base 0 0 (put_at base 1 11 arr) (put-length base 1 11 arr len) i p
              ∙ rw d at (once i (omega (arith, j, d)) k)
              ∙ ap (λ (x : ℕ). get_or (11 ∷ l) x 0) y ∙ ap (λ (x : ℕ). get_or (11 ∷ 0 ∷ []) x 0) (sym y)

  is_held : held_at base depth ≡ true → (base ≤ depth) × (depth - base < window)
  is_held e = let g = both (leb base depth) (ltb (depth - base) window) e in (leb-true base depth g.0, ltb-true (depth - base) window g.1)

  held-is : base ≤ depth → depth - base < window → held_at base depth ≡ true
  held-is b w = rw (le-leb base depth b, lt-ltb (depth - base) window w)

  -- a word that begins a definition stands at depth 1, on nothing
  on-nothing : (k : ℕ) → k < 22 → eqb (move_of c k) 18 ≡ true → l ≡ 1 ∷ []
  unfolding Formed move_of
  on-nothing k j e = go c l f (rw (ne_eqb k 22 (λ e. omega arith), ne_eqb k 23 (λ e. omega arith)) at e)
    where
      outermost : (c : ℕ) → ltb c 2 ≡ true → eqb (get_or (word_moves k) c refusal) 18 ≡ true → ◌≡◌ {A = List ℕ} [] (1 ∷ [])
      outermost zero g e = from (leb 18 k && leb k 20) e
        where
          from : (b : Bool) → eqb (cond b 1 refusal) 18 ≡ true → ◌≡◌ {A = List ℕ} [] (1 ∷ [])
          from true e = not-both (sym e)
          from false e = not-both (sym e)
      outermost (suc zero) g e = not-both (sym e)
      outermost (suc (suc c)) g e = let z = ltb-true (suc (suc c)) 2 g in absurd (omega (arith, z))

      go : (c : ℕ) (l : List ℕ) → Formed (c ∷ l) → eqb (get_or (word_moves k) c refusal) 18 ≡ true → l ≡ 1 ∷ []
      go c [] f e = outermost c f e
      go c (d ∷ ls) f e = first-defines c d k ls f j e

  behind-word : (w : List ℕ) (m : ℕ) (ls' : List ℕ) → token_code (word w) < 22 → Moves (word w) m → move (c ∷ l) (token_code (word w)) ≡ some ls' → Behind Word m ls'
  behind-word w m ls' j q e =
      subst (Behind Word m) (sym (moved_word c k (move_of c k) l j) ∙ moved_on c k l ls' e) (go (held_at base depth) (eqb (move_of c k) 18) refl refl)
    where
      k : ℕ
      k = token_code (word w)

      same : held_at base depth ≡ true → m ≡ move_of c k
      same p = let g = is_held p in q.held g.0 g.1

      -- depth 1 is not held: nothing is
      low : depth ≡ 1 → held_at base depth ≡ false → 1 < base
      low d p = by (leb base 1) refl
        where
          by : (b : Bool) → leb base 1 ≡ b → 1 < base
          by true x = let y = leb-true base 1 x in not-both (sym (held-is (omega (arith, d, y)) (omega (arith, d))) ∙ p)
          by false x = leb-false base 1 x

      go : (a b : Bool) → held_at base depth ≡ a → eqb (move_of c k) 18 ≡ b → Behind Word m (cond b (11 ∷ reopened l) (move_of c k ∷ l))
      go true true p r = defined (on-nothing k j r) m (rw (same p) r)
      go true false p r = rw (same p, r) (held_word base depth c arr l len h (move_of c k) (move_of c k) (λ b w. refl), omega (arith, size))
      go false true p r =
          let e = on-nothing k j r in
          let d : depth ≡ 1 = sym size ∙ ap length e in
          let b = low d p in
          (λ i x y. absurd (omega (arith, d, b, x)), rw (e, d))
      go false false p r =
          rw (q.free p) (held_word base depth c arr l len h (move_of c k) 0 (λ b w. not-both (sym (held-is b w) ∙ p)), omega (arith, size))

  -- any token
  pub follows : (t : Token) (kind : Kind) (m : ℕ) (ls' : List ℕ) → OfKind t kind → CodedToken t → (kind ≡ Closing → 0 < depth) → Moves t m → move (c ∷ l) (token_code t) ≡ some ls' → Behind kind m ls'
  follows t kind m ls' an_opening o p q e = behind-opening m ls' q e
  follows t kind m ls' a_closing o p q e = behind-closing m ls' (p refl) e
  follows (word w) kind m ls' a_word o p q e = behind-word w m ls' o.below q e
