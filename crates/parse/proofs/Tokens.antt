-- One token of a text: what it does to the levels, and where it is refused. Assumes nothing.
use mathlib.Core.Path.{◌≡◌, refl, ap, ◌∙◌}
use mathlib.Core.List.{List, [], ◌∷◌}
use mathlib.Core.Option.{none, some}
use Prim.Native.Nat.{ℕ, ◌+◌, ◌-◌, ◌≤◌, ◌<◌}
use native.Mathlib.Omega.{arith}
use lib.ListN.{length, drop}
use Rattle.notation.specs.Grammar.{Token, opening, closing, word}
use Rattle.notation.proofs.Machine.{Symbol, step, run, start as outset}
use Rattle.notation.proofs.Lexing.{lex}
use Rattle.notation.proofs.Place.{reach, place}
use Rattle.notation.proofs.Rules.{viable}
use Rattle.vocabulary.specs.Codes.{token_code}
use Rattle.levels.specs.Levels.{stack_of, move, Formed, levels_at}
use Rattle.parse.specs.Passed.{levels}
use Rattle.levels.proofs.Steps.{CodedToken, stacked, step-moves}
use Rattle.levels.proofs.Forms.{formed-move}

-- how much of a refused token is shared
abbrev pub front : List Symbol → Token → ℕ
front st opening = 0
front st closing = 0
front st (word w) = viable st [] w

-- the next token behind the place at, and how far the machine comes with it
pub record Next (s : List ℕ) (at : ℕ) (t : Token) (start end : ℕ) : Type 0 where
  pub behind : at ≤ start
  pub filled : start < end
  pub within : end ≤ length s
  pub coded : CodedToken t
  pub tokens : lex (drop at s) ≡ t ∷ lex (drop end s)
  pub taken : (st st' : List Symbol) → step st t ≡ some st' → reach st [] (drop at s) ≡ (end - at) + reach st' [] (drop end s)
  pub refused : (st : List Symbol) → step st t ≡ none → reach st [] (drop at s) ≡ (start - at) + front st t
  pub short : (st : List Symbol) → front st t ≤ end - start

-- the machine has come to the place at with these levels
pub record Alive (s : List ℕ) (at : ℕ) (ls : List ℕ) : Type 0 where
  pub formed : Formed ls
  pub placed : place s ≡ at + reach (stack_of ls) [] (drop at s)
  pub runs : run outset (lex s) ≡ run (stack_of ls) (lex (drop at s))
  pub deep : levels s ≡ levels_at ls (lex (drop at s))

pub begin : (s : List ℕ) → Alive s 0 (0 ∷ [])
unfolding place Formed stack_of
begin s = record { formed = refl; placed = omega arith; runs = refl; deep = refl }

module _ (s : List ℕ) (at : ℕ) (ls : List ℕ) (a : Alive s at ls) (t : Token) (start end : ℕ) (n : Next s at t start end) where
  pub goes_on : (ls' : List ℕ) → move ls (token_code t) ≡ some ls' → Alive s end ls'
  unfolding levels_at
  goes_on ls' e =
      let q : step (stack_of ls) t ≡ some (stack_of ls') = step-moves ls a.formed t n.coded ∙ ap stacked e in
      let b = n.behind in
      let f = n.filled in
      record {
        formed = formed-move ls ls' t n.coded a.formed e;
        placed = a.placed ∙ ap (λ (k : ℕ). at + k) (n.taken (stack_of ls) (stack_of ls') q) ∙ omega (arith, b, f);
        runs = a.runs ∙ rw (n.tokens, q);
        deep = a.deep ∙ rw (n.tokens, e);
      }

  pub stops_at : move ls (token_code t) ≡ none → place s ≡ start + front (stack_of ls) t
  stops_at e =
      let q : step (stack_of ls) t ≡ none = step-moves ls a.formed t n.coded ∙ ap stacked e in
      let b = n.behind in
      a.placed ∙ ap (λ (k : ℕ). at + k) (n.refused (stack_of ls) q) ∙ omega (arith, b)

  pub stops-run : move ls (token_code t) ≡ none → run outset (lex s) ≡ none
  stops-run e =
      let q : step (stack_of ls) t ≡ none = step-moves ls a.formed t n.coded ∙ ap stacked e in
      a.runs ∙ rw (n.tokens, q)

  pub stops-deep : move ls (token_code t) ≡ none → levels s ≡ length ls
  unfolding levels_at
  stops-deep e = a.deep ∙ rw (n.tokens, e)
