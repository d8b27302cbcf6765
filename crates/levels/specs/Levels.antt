-- The stack machine of notation's proofs as numbers: what is still to come at each level of brackets, and how a token moves it. `proofs/Steps.antt` proves that it is the same machine.
use Rattle.std.specs.Prelude.{◌≡◌, Bool, true, cond, ◌&&◌, ◌||◌, List, [], ◌∷◌, ◌++◌, ◌⊎◌, ℕ, suc, ◌-◌, ◌≤◌, ◌<◌, length, get_or, set, eqb, leb, ltb}
use Rattle.std.proofs.Math.Option.{Option, none, some}
use Rattle.notation.specs.Words.{an_expression, a_binder, a_function}
use Rattle.notation.specs.Grammar.{Token, opening, closing, word}
use Rattle.notation.proofs.Machine.{Symbol, item, head, many, shut, program, form_head, list, params}
use Rattle.lexemes.specs.declared.Kind.{Kind}
use Rattle.lexemes.specs.declared.Kind.TheVariants.{Opening, Closing, Word}
use Rattle.lexemes.specs.Lexeme.{token_by, depth_by}
use Rattle.vocabulary.specs.Codes.{token_code}
use Rattle.fronts.specs.Fronts.{name_front, atom_front, function_front}

-- What is still to come at a level, by its number: 0 a program, 1 nothing; 2 a head, 3 the head of an outermost form; 4 any number of expressions; 5 to 8 none to three expressions;
-- 9 a name to bind and 10 a fold's function, then two expressions; 11 a definition's name, 12 its parameters and its body; 13 to 17 none to four parameters; 18 a definition behind its head
abbrev pub segments : List (List Symbol)
segments =
    (program ∷ []) ∷ [] ∷ (head ∷ []) ∷ (form_head ∷ []) ∷ (many ∷ [])
    ∷ (shut ∷ []) ∷ (item an_expression ∷ shut ∷ []) ∷ (item an_expression ∷ item an_expression ∷ shut ∷ [])
    ∷ (item an_expression ∷ item an_expression ∷ item an_expression ∷ shut ∷ [])
    ∷ (item a_binder ∷ item an_expression ∷ item an_expression ∷ shut ∷ []) ∷ (item a_function ∷ item an_expression ∷ item an_expression ∷ shut ∷ [])
    ∷ (item a_binder ∷ list ∷ item an_expression ∷ shut ∷ []) ∷ (list ∷ item an_expression ∷ shut ∷ [])
    ∷ (params 0 ∷ []) ∷ (params 1 ∷ []) ∷ (params 2 ∷ []) ∷ (params 3 ∷ []) ∷ (params 4 ∷ [])
    ∷ (item a_binder ∷ list ∷ item an_expression ∷ shut ∷ program ∷ []) ∷ []

abbrev pub segment : ℕ → List Symbol
segment c = get_or segments c []

-- the whole stack, the innermost level first
unfoldable pub stack_of : List ℕ → List Symbol
stack_of [] = []
stack_of (c ∷ ls) = segment c ++ stack_of ls

-- which words stand alone, are bound, are functions of folds
abbrev pub atom_code : ℕ → Bool
atom_code k = leb 18 k && leb k 20

abbrev pub binder_code : ℕ → Bool
binder_code k = leb 9 k && leb k 19

abbrev pub function_code : ℕ → Bool
function_code k = ltb k 9 || eqb k 19

-- refused
abbrev pub refusal : ℕ
refusal = 31

abbrev pub when : Bool → ℕ → ℕ
when b c = cond b c refusal

-- a level behind its head: operators, def, sense, rep, if, mux, nbr, nbr-range, nbr-lag, fold-hood*, inf, a call, others
abbrev pub head_moves : List ℕ
head_moves = 7 ∷ 7 ∷ 7 ∷ 7 ∷ 7 ∷ 7 ∷ 7 ∷ 7 ∷ 7 ∷ 31 ∷ 6 ∷ 9 ∷ 8 ∷ 8 ∷ 6 ∷ 5 ∷ 5 ∷ 10 ∷ 31 ∷ 4 ∷ []

abbrev pub head_move : ℕ → ℕ
head_move k = get_or head_moves k refusal

-- a level behind a word
abbrev pub word_moves : ℕ → List ℕ
word_moves k =
    when (atom_code k) 1 ∷ refusal ∷ head_move k ∷ cond (eqb k 9) 18 (head_move k) ∷ when (atom_code k) 4
    ∷ refusal ∷ when (atom_code k) 5 ∷ when (atom_code k) 6 ∷ when (atom_code k) 7
    ∷ when (binder_code k) 7 ∷ when (function_code k) 7 ∷ when (binder_code k) 12 ∷ refusal
    ∷ refusal ∷ when (binder_code k) 13 ∷ when (binder_code k) 14 ∷ when (binder_code k) 15 ∷ when (binder_code k) 16 ∷ []

-- a level behind an opening bracket, within which the other level opens
abbrev pub open_moves : List ℕ
open_moves = 1 ∷ 31 ∷ 31 ∷ 31 ∷ 4 ∷ 31 ∷ 5 ∷ 6 ∷ 7 ∷ 31 ∷ 31 ∷ 31 ∷ 6 ∷ 31 ∷ 31 ∷ 31 ∷ 31 ∷ 31 ∷ []

abbrev pub inner : ℕ → ℕ
inner c = cond (eqb c 0) 3 (cond (eqb c 12) 17 2)

-- 30 where a closing bracket ends the level
abbrev pub close_moves : List ℕ
close_moves = 31 ∷ 31 ∷ 31 ∷ 31 ∷ 30 ∷ 30 ∷ 31 ∷ 31 ∷ 31 ∷ 31 ∷ 31 ∷ 31 ∷ 31 ∷ 30 ∷ 30 ∷ 30 ∷ 30 ∷ 30 ∷ []

unfoldable pub move_of : ℕ → ℕ → ℕ
move_of c k = cond (eqb k 22) (get_or open_moves c refusal) (cond (eqb k 23) (get_or close_moves c refusal) (get_or (word_moves k) c refusal))

-- the levels behind a token: a definition's head sets the outermost level back to a program
abbrev pub reopened : List ℕ → List ℕ
reopened [] = []
reopened (c ∷ ls) = 0 ∷ ls

abbrev pub moved : ℕ → ℕ → ℕ → List ℕ → List ℕ
moved c k m ls = cond (eqb k 22) (inner c ∷ m ∷ ls) (cond (eqb k 23) ls (cond (eqb m 18) (11 ∷ reopened ls) (m ∷ ls)))

unfoldable pub move : List ℕ → ℕ → Option (List ℕ)
move [] k = none
move (c ∷ ls) k = cond (eqb (move_of c k) refusal) none (some (moved c k (move_of c k) ls))

-- levels of outermost forms alone: a first head, a definition's name and parameters
abbrev pub outer : ℕ → Bool
outer c = eqb c 3 || (eqb c 11 || eqb c 12)

-- The levels of a machine: the outermost is a program or nothing, the others are within it
unfoldable pub Formed : List ℕ → Type 0
Formed [] = ⊥
Formed (c ∷ []) = ltb c 2 ≡ true
Formed (c ∷ d ∷ ls) = (leb 2 c && ltb c 18 ≡ true) × (outer c ≡ true → ls ≡ []) × (c ≡ 3 → d ≡ 1) × Formed (d ∷ ls)

-- how many levels there are where the first token is refused, or at the end
abbrev pub levels_by : Option (List ℕ) → ℕ → (List ℕ → ℕ) → ℕ
levels_by none n f = n
levels_by (some ls) n f = f ls

unfoldable pub levels_at : List ℕ → List Token → ℕ
levels_at ls [] = length ls
levels_at ls (t ∷ ts) = levels_by (move ls (token_code t)) (length ls) (λ ls. levels_at ls ts)

-- which words a level takes: 0 none, 1 what stands alone, 2 names, 3 heads and functions; how much of a refused token is shared there
abbrev pub classes : List ℕ
classes = 1 ∷ 0 ∷ 3 ∷ 3 ∷ 1 ∷ 0 ∷ 1 ∷ 1 ∷ 1 ∷ 2 ∷ 3 ∷ 2 ∷ 0 ∷ 0 ∷ 2 ∷ 2 ∷ 2 ∷ 2 ∷ []

abbrev pub class_of : ℕ → ℕ
class_of c = get_or classes c 0

abbrev pub class_front : ℕ → List ℕ → ℕ
class_front k w = cond (eqb k 1) (atom_front w) (cond (eqb k 2) (name_front w) (cond (eqb k 3) (function_front w) 0))

abbrev pub level_front : ℕ → Token → ℕ
level_front c opening = 0
level_front c closing = 0
level_front c (word w) = class_front (class_of c) w

-- how many levels one pass over a text holds
abbrev pub window : ℕ
window = 4096

-- the number of a level outside of them
abbrev pub unheld : ℕ
unheld = 18

-- whether the level of that depth is held; its number put into the array; its number there
abbrev pub held_at : ℕ → ℕ → Bool
held_at base depth = leb base depth && ltb (depth - base) window

abbrev pub put_at : ℕ → ℕ → ℕ → List ℕ → List ℕ
put_at base depth c arr = cond (held_at base depth) (set arr (depth - base) c) arr

abbrev pub level_in : ℕ → ℕ → List ℕ → ℕ
level_in base depth arr = cond (held_at base depth) (get_or arr (depth - base) 0) unheld

-- the array behind a token of that kind and move, at a level of number c
abbrev pub advanced : ℕ → ℕ → Kind → ℕ → ℕ → List ℕ → List ℕ
advanced base depth Opening c m arr = put_at base (suc depth) (inner c) (put_at base depth m arr)
advanced base depth Closing c m arr = arr
advanced base depth Word c m arr = cond (eqb m 18) (put_at base 0 0 (put_at base depth 11 arr)) (put_at base depth m arr)

-- the move that a pass makes at a token of that kind with those bytes, 0 on a level that is not held
abbrev pub judged : ℕ → Kind → List ℕ → ℕ
judged c kind w = cond (eqb c unheld) 0 (move_of c (token_code (token_by kind w)))

-- every number in the array is a level's
abbrev pub Numbered : List ℕ → Type 0
Numbered arr = (i : ℕ) → get_or arr i 0 < 18

-- the first window begins at 0, the others behind a whole one
abbrev pub Based : ℕ → Type 0
Based base = (base ≡ 0) ⊎ (window ≤ base)

-- Behind a token that a window takes: the depth and the array. Of one that it refuses, how much is shared: it has no move, or closes a bracket where none is open
abbrev pub Takes : ℕ → ℕ → Kind → List ℕ → List ℕ → List ℕ → ℕ → Type 0
Takes base depth kind w arr arr' d =
    let c : ℕ = level_in base depth arr in
    let m : ℕ = judged c kind w in
    (m ≡ refusal → ⊥) × (kind ≡ Closing → 0 < depth) × (d ≡ depth_by depth kind) × (arr' ≡ advanced base depth kind c m arr)

abbrev pub Refuses : ℕ → ℕ → Kind → List ℕ → List ℕ → ℕ → Type 0
Refuses base depth kind w arr n =
    let c : ℕ = level_in base depth arr in
    ((judged c kind w ≡ refusal) × (n ≡ level_front c (token_by kind w))) ⊎ ((kind ≡ Closing) × (depth ≡ 0) × (n ≡ 0))
