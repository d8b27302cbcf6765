-- How much of a refused word is shared, by the level that it stands on. Assumes nothing.
use mathlib.Core.Path.{◌≡◌, refl, sym}
use mathlib.Core.Bool.{true}
use mathlib.Core.List.{List, [], ◌∷◌, ◌++◌}
use Prim.Native.Nat.{ℕ, ◌<◌}
use lib.Dec.{leb}
use borrow.Author.Tests.{ltb-true}
use Rattle.notation.specs.Words.{Word}
use Rattle.notation.specs.Grammar.{Token, opening, closing, word}
use Rattle.decide.proofs.Picks.{not-both}
use Rattle.notation.proofs.Machine.{Symbol}
use Rattle.notation.proofs.Viable.{atoms, binders, functions, heads, openers}
use Rattle.notation.proofs.Rules.{viable}
use Rattle.fronts.proofs.Viable.{front-viable, front-nothing}
use Rattle.levels.specs.Levels.{segment, stack_of, Formed, class_of, class_front, level_front}
use Rattle.levels.proofs.Steps.{each, ◌▹◌, inner-level}
use Rattle.parse.proofs.Tokens.{front}

abbrev Shared : Word → List Symbol → ℕ → Type 0
Shared w st c = viable (segment c ++ st) [] w ≡ class_front (class_of c) w

outer-shared : (w : Word) (c : ℕ) → c < 2 → Shared w [] c
outer-shared w c h = each 2 (Shared w []) (front-viable (segment 0 ++ []) atoms w refl ▹ front-nothing (segment 1 ++ []) w refl ▹ tt) c h

inner-shared : (w : Word) (st : List Symbol) (c : ℕ) → c < 18 → leb 2 c ≡ true → Shared w st c
inner-shared w st c h =
    each 18 (λ c. leb 2 c ≡ true → Shared w st c) (
    (λ n. not-both (sym n))
    ▹ (λ n. not-both (sym n))
    ▹ (λ n. front-viable (segment 2 ++ st) heads w refl)
    ▹ (λ n. front-viable (segment 3 ++ st) openers w refl)
    ▹ (λ n. front-viable (segment 4 ++ st) atoms w refl)
    ▹ (λ n. front-nothing (segment 5 ++ st) w refl)
    ▹ (λ n. front-viable (segment 6 ++ st) atoms w refl)
    ▹ (λ n. front-viable (segment 7 ++ st) atoms w refl)
    ▹ (λ n. front-viable (segment 8 ++ st) atoms w refl)
    ▹ (λ n. front-viable (segment 9 ++ st) binders w refl)
    ▹ (λ n. front-viable (segment 10 ++ st) functions w refl)
    ▹ (λ n. front-viable (segment 11 ++ st) binders w refl)
    ▹ (λ n. front-nothing (segment 12 ++ st) w refl)
    ▹ (λ n. front-nothing (segment 13 ++ st) w refl)
    ▹ (λ n. front-viable (segment 14 ++ st) binders w refl)
    ▹ (λ n. front-viable (segment 15 ++ st) binders w refl)
    ▹ (λ n. front-viable (segment 16 ++ st) binders w refl)
    ▹ (λ n. front-viable (segment 17 ++ st) binders w refl)
    ▹ tt
    ) c h

word-level : (c : ℕ) (l : List ℕ) → Formed (c ∷ l) → (w : Word) → viable (stack_of (c ∷ l)) [] w ≡ class_front (class_of c) w
unfolding Formed stack_of
word-level c [] f w = outer-shared w c (ltb-true c 2 f)
word-level c (d ∷ l) f w = let h = inner-level c d l f in inner-shared w (stack_of (d ∷ l)) c h.0 h.1

pub front-level : (c : ℕ) (l : List ℕ) → Formed (c ∷ l) → (t : Token) → front (stack_of (c ∷ l)) t ≡ level_front c t
front-level c l f opening = refl
front-level c l f closing = refl
front-level c l f (word w) = word-level c l f w
