-- The levels move as the stack machine steps. Assumes nothing.
use mathlib.Core.Path.{◌≡◌, refl, sym, ap, ◌∙◌}
use mathlib.Core.Bool.{Bool, true, false, cond}
use mathlib.Core.List.{List, [], ◌∷◌, ◌++◌}
use mathlib.Core.Option.{Option, none, some}
use Prim.Native.Nat.{ℕ, zero, suc, ◌<◌}
use native.Mathlib.Omega.{arith}
use lib.ListN.{get_or}
use lib.Dec.{eqb, leb, ltb}
use borrow.Author.Tests.{ne_eqb, ltb-true}
use Rattle.notation.specs.Words.{Word, Role, fixed, calls, definition, no_form, an_expression, a_binder, a_function, atom, binder, function, role}
use Rattle.notation.specs.Grammar.{Token, opening, closing, word}
use Rattle.decide.proofs.Picks.{not-both, both}
use Rattle.notation.proofs.Machine.{Symbol, headed, begun, step}
use Rattle.vocabulary.specs.Codes.{token_code}
use Rattle.levels.specs.Levels.{segment, stack_of, atom_code, binder_code, function_code, refusal, when, head_move, word_moves, move_of, reopened, move, Formed}

-- what holds at each number below n
abbrev pub Each : ℕ → (ℕ → Type 0) → Type 0
Each zero P = Unit {0}
Each (suc n) P = P 0 × Each n (λ k. P (suc k))

infixr 5 ◌▹◌
abbrev pub ◌▹◌ : {A B : Type 0} → A → B → A × B
a ▹ b = (a, b)

pub each : (n : ℕ) (P : ℕ → Type 0) → Each n P → (k : ℕ) → k < n → P k
each zero P a k h = absurd (omega arith)
each (suc n) P a zero h = a.0
each (suc n) P a (suc k) h = each n (λ k. P (suc k)) a.1 k (omega arith)

-- what a word's number says of it
abbrev two : Role
two = fixed (an_expression ∷ an_expression ∷ [])

abbrev three : Role
three = fixed (an_expression ∷ an_expression ∷ an_expression ∷ [])

abbrev one : Role
one = fixed (an_expression ∷ [])

abbrev pub roles : List Role
roles =
    two ∷ two ∷ two ∷ two ∷ two ∷ two ∷ two ∷ two ∷ two ∷ definition ∷ one ∷ fixed (a_binder ∷ an_expression ∷ an_expression ∷ []) ∷ three ∷ three ∷ one ∷ fixed [] ∷ fixed []
    ∷ fixed (a_function ∷ an_expression ∷ an_expression ∷ []) ∷ no_form ∷ calls ∷ []

pub record Coded (w : Word) (k : ℕ) : Type 0 where
  pub below : k < 22
  pub atoms : atom w ≡ atom_code k
  pub binders : binder w ≡ binder_code k
  pub functions : function w ≡ function_code k
  pub rolled : role w ≡ get_or roles k no_form

-- the stack of levels, where there is one
abbrev pub stacked : Option (List ℕ) → Option (List Symbol)
stacked none = none
stacked (some ls) = some (stack_of ls)

-- ---- a word
abbrev word_moved : ℕ → List ℕ → Option (List ℕ)
word_moved m ls = cond (eqb m refusal) none (some (cond (eqb m 18) (11 ∷ reopened ls) (m ∷ ls)))

pub word-move : (c k : ℕ) (ls : List ℕ) → k < 22 → move (c ∷ ls) k ≡ word_moved (get_or (word_moves k) c refusal) ls
unfolding move move_of
word-move c k ls h = rw (ne_eqb k 22 (λ e. omega arith), ne_eqb k 23 (λ e. omega arith))

-- a level that a test lets go on
go_on : (b : Bool) (m : ℕ) (ls : List ℕ) → eqb m refusal ≡ false → eqb m 18 ≡ false → cond b (some (stack_of (m ∷ ls))) none ≡ stacked (word_moved (when b m) ls)
go_on true m ls p q = rw (p, q)
go_on false m ls p q = refl

head_step : (k : ℕ) → k < 22 → (ls : List ℕ) → headed (get_or roles k no_form) (stack_of ls) ≡ stacked (word_moved (head_move k) ls)
unfolding stack_of
head_step k h ls =
    each 22 (λ k. headed (get_or roles k no_form) (stack_of ls) ≡ stacked (word_moved (head_move k) ls)) (
    refl ▹ refl ▹ refl ▹ refl ▹ refl ▹ refl ▹ refl ▹ refl ▹ refl ▹ refl ▹ refl ▹ refl ▹ refl ▹ refl ▹ refl ▹ refl ▹ refl ▹ refl ▹ refl ▹ refl ▹ refl ▹ refl ▹ tt
    ) k h

begun-step : (k : ℕ) → k < 22 → begun (get_or roles k no_form) [] ≡ stacked (word_moved (cond (eqb k 9) 18 (head_move k)) (1 ∷ []))
unfolding stack_of
begun-step k h =
    each 22 (λ k. begun (get_or roles k no_form) [] ≡ stacked (word_moved (cond (eqb k 9) 18 (head_move k)) (1 ∷ []))) (
    refl ▹ refl ▹ refl ▹ refl ▹ refl ▹ refl ▹ refl ▹ refl ▹ refl ▹ refl ▹ refl ▹ refl ▹ refl ▹ refl ▹ refl ▹ refl ▹ refl ▹ refl ▹ refl ▹ refl ▹ refl ▹ refl ▹ tt
    ) k h

abbrev OnWord : Word → ℕ → List ℕ → ℕ → Type 0
OnWord w k ls c = step (segment c ++ stack_of ls) (word w) ≡ stacked (word_moved (get_or (word_moves k) c refusal) ls)

word-outer : (w : Word) (k : ℕ) → Coded w k → (c : ℕ) → c < 2 → OnWord w k [] c
unfolding step stack_of
word-outer w k q c h = each 2 (OnWord w k []) (rw q.atoms (go_on (atom_code k) 1 [] refl refl) ▹ refl ▹ tt) c h

word-inner : (w : Word) (k : ℕ) → Coded w k → (ls : List ℕ) (c : ℕ) → c < 18 → leb 2 c ≡ true → (c ≡ 3 → ls ≡ 1 ∷ []) → OnWord w k ls c
unfolding step stack_of
word-inner w k q ls c h =
    each 18 (λ c. leb 2 c ≡ true → (c ≡ 3 → ls ≡ 1 ∷ []) → OnWord w k ls c) (
    (λ n o. not-both (sym n))
    ▹ (λ n o. not-both (sym n))
    ▹ (λ n o. rw q.rolled (head_step k q.below ls))
    ▹ (λ n o. rw (o refl, q.rolled) (begun-step k q.below))
    ▹ (λ n o. rw q.atoms (go_on (atom_code k) 4 ls refl refl))
    ▹ (λ n o. refl)
    ▹ (λ n o. rw q.atoms (go_on (atom_code k) 5 ls refl refl))
    ▹ (λ n o. rw q.atoms (go_on (atom_code k) 6 ls refl refl))
    ▹ (λ n o. rw q.atoms (go_on (atom_code k) 7 ls refl refl))
    ▹ (λ n o. rw q.binders (go_on (binder_code k) 7 ls refl refl))
    ▹ (λ n o. rw q.functions (go_on (function_code k) 7 ls refl refl))
    ▹ (λ n o. rw q.binders (go_on (binder_code k) 12 ls refl refl))
    ▹ (λ n o. refl)
    ▹ (λ n o. refl)
    ▹ (λ n o. rw q.binders (go_on (binder_code k) 13 ls refl refl))
    ▹ (λ n o. rw q.binders (go_on (binder_code k) 14 ls refl refl))
    ▹ (λ n o. rw q.binders (go_on (binder_code k) 15 ls refl refl))
    ▹ (λ n o. rw q.binders (go_on (binder_code k) 16 ls refl refl))
    ▹ tt
    ) c h

-- ---- brackets
abbrev OnOpening : List ℕ → ℕ → Type 0
OnOpening ls c = step (segment c ++ stack_of ls) opening ≡ stacked (move (c ∷ ls) 22)

opening-outer : (c : ℕ) → c < 2 → OnOpening [] c
unfolding step stack_of move move_of
opening-outer c h = each 2 (OnOpening []) (refl ▹ refl ▹ tt) c h

opening-inner : (ls : List ℕ) (c : ℕ) → c < 18 → leb 2 c ≡ true → OnOpening ls c
unfolding step stack_of move move_of
opening-inner ls c h =
    each 18 (λ c. leb 2 c ≡ true → OnOpening ls c) (
    (λ n. not-both (sym n))
    ▹ (λ n. not-both (sym n))
    ▹ (λ n. refl) ▹ (λ n. refl) ▹ (λ n. refl) ▹ (λ n. refl) ▹ (λ n. refl) ▹ (λ n. refl) ▹ (λ n. refl) ▹ (λ n. refl)
    ▹ (λ n. refl) ▹ (λ n. refl) ▹ (λ n. refl) ▹ (λ n. refl) ▹ (λ n. refl) ▹ (λ n. refl) ▹ (λ n. refl) ▹ (λ n. refl)
    ▹ tt
    ) c h

abbrev OnClosing : List ℕ → ℕ → Type 0
OnClosing ls c = step (segment c ++ stack_of ls) closing ≡ stacked (move (c ∷ ls) 23)

closing-outer : (c : ℕ) → c < 2 → OnClosing [] c
unfolding step stack_of move move_of
closing-outer c h = each 2 (OnClosing []) (refl ▹ refl ▹ tt) c h

closing-inner : (ls : List ℕ) (c : ℕ) → c < 18 → leb 2 c ≡ true → OnClosing ls c
unfolding step stack_of move move_of
closing-inner ls c h =
    each 18 (λ c. leb 2 c ≡ true → OnClosing ls c) (
    (λ n. not-both (sym n))
    ▹ (λ n. not-both (sym n))
    ▹ (λ n. refl) ▹ (λ n. refl) ▹ (λ n. refl) ▹ (λ n. refl) ▹ (λ n. refl) ▹ (λ n. refl) ▹ (λ n. refl) ▹ (λ n. refl)
    ▹ (λ n. refl) ▹ (λ n. refl) ▹ (λ n. refl) ▹ (λ n. refl) ▹ (λ n. refl) ▹ (λ n. refl) ▹ (λ n. refl) ▹ (λ n. refl)
    ▹ tt
    ) c h

-- ---- any token
abbrev pub CodedToken : Token → Type 0
CodedToken opening = Unit {0}
CodedToken closing = Unit {0}
CodedToken (word w) = Coded w (token_code (word w))

pub inner-level : (c d : ℕ) (ls : List ℕ) → Formed (c ∷ d ∷ ls) → (c < 18) × (leb 2 c ≡ true) × (c ≡ 3 → d ∷ ls ≡ 1 ∷ [])
unfolding Formed
inner-level c d ls f =
    let h = both (leb 2 c) (ltb c 18) f.0 in
    (ltb-true c 18 h.1, h.0, λ e. let a = f.1 (rw e) in let b = f.2 e in cc)

pub step-moves : (ls : List ℕ) → Formed ls → (t : Token) → CodedToken t → step (stack_of ls) t ≡ stacked (move ls (token_code t))
unfolding Formed stack_of
step-moves [] f t q = absurd f
step-moves (c ∷ []) f opening q = opening-outer c (ltb-true c 2 f)
step-moves (c ∷ []) f closing q = closing-outer c (ltb-true c 2 f)
step-moves (c ∷ []) f (word w) q = word-outer w (token_code (word w)) q c (ltb-true c 2 f) ∙ ap stacked (sym (word-move c (token_code (word w)) [] q.below))
step-moves (c ∷ d ∷ ls) f opening q = let h = inner-level c d ls f in opening-inner (d ∷ ls) c h.0 h.1
step-moves (c ∷ d ∷ ls) f closing q = let h = inner-level c d ls f in closing-inner (d ∷ ls) c h.0 h.1
step-moves (c ∷ d ∷ ls) f (word w) q =
    let h = inner-level c d ls f in
    word-inner w (token_code (word w)) q (d ∷ ls) c h.0 h.1 h.2 ∙ ap stacked (sym (word-move c (token_code (word w)) (d ∷ ls) q.below))
