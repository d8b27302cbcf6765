-- The parts of a program's table, token by token: a node is emitted where its expression ends, a definition where its bracket closes. Nothing is built but the numbers of the operands
-- that wait for their node. `proofs/Emit.antt` proves that the tokens of a fine program give its parts.
use Rattle.std.specs.Prelude.{Bool, false, cond, ◌&&◌, List, [], ◌∷◌, ◌++◌, map, reverse, ℕ, zero, suc, ◌-◌, eqb, length, get_or, take, drop}
use Rattle.std.proofs.Math.Option.{Option, none, some}
use Rattle.notation.specs.Words.{Word, same_word, is_number, bits_of, the_def, Head, plain, slotted, operation, rep, fold, define, call, nothing, head_of}
use Rattle.notation.specs.Grammar.{Token, opening, closing, word, nil, bare}
use Rattle.program.specs.Conditions.{Part, define as a_definition}
use Rattle.translation.specs.Numbering.{byte, Given, of_kind, meant_by, form_part}
use Rattle.lexemes.specs.Lexeme.{depth_after}
use Rattle.vocabulary.specs.Codes.{token_code}
use Rattle.token_scans.specs.Scan.{mode_after, definitions_in, parameters_in, slots_in, reps_in}
use Rattle.rep_around.specs.Meaning.{meaning_at}

-- what was emitted; the numbers of the nodes that no node names yet, the last first; how many nodes there are
pub record Output : Type 0 where
  pub parts : List Part
  pub stack : List ℕ
  pub nodes : ℕ

-- a node takes the place of its k operands
abbrev pub with_node : ℕ → (List ℕ → Part) → Output → Output
with_node k part o = record {
  parts = o.parts ++ part (map byte (reverse (take k o.stack))) ∷ [];
  stack = o.nodes ∷ drop k o.stack;
  nodes = suc o.nodes;
}

-- a definition takes its body
abbrev pub with_definition : ℕ → Output → Output
with_definition count o = record {
  parts = o.parts ++ a_definition (record { count = byte count; body = byte (get_or o.stack 0 0) }) ∷ [];
  stack = drop 1 o.stack;
  nodes = o.nodes;
}

-- a constant, or what the name means: `before` are the tokens before the form that stands at depth 0, `here` those of this form
abbrev pub word_part : List Token → List Token → Word → Part
word_part before here w = cond (is_number w) (of_kind 0 (bits_of w ∷ [])) (meant_by (meaning_at (reps_in before) here w))

-- a form from its end: what is left before its bracket, how many items it has with its head, its head, the word behind that
pub record Around : Type 0 where
  pub rest : List Token
  pub items : ℕ
  pub head : Word
  pub second : Word

-- over the tokens of the form before its closing bracket, the last first; as `rep_around` goes
unfoldable pub around : ℕ → ℕ → Word → Word → List Token → Option Around
around n k u v [] = none
around zero k u v (closing ∷ ts) = around 1 (suc k) u v ts
around (suc n) k u v (closing ∷ ts) = around (suc (suc n)) k u v ts
around zero k u v (opening ∷ ts) = some (record { rest = ts; items = k; head = u; second = v })
around (suc n) k u v (opening ∷ ts) = around n k u v ts
around zero k u v (word x ∷ ts) = around 0 (suc k) x u ts
around (suc n) k u v (word x ∷ ts) = around (suc n) k u v ts

-- how many items lead the operands: the head, the name of a rep, the function of a fold
abbrev pub leads : Head → ℕ
leads (plain kind n) = 1
leads (slotted kind n) = 1
leads operation = 1
leads rep = 2
leads fold = 2
leads define = 1
leads call = 1
leads nothing = 1

-- what was given out before some tokens' end; nodes are counted elsewhere
abbrev pub given_in : List Token → Given
given_in ts = record { slots = slots_in ts; variables = reps_in ts; nodes = 0 }

abbrev pub close_form : List Token → Option Around → Output → Output
close_form before none o = o
close_form before (some a) o =
    with_node (a.items - leads (head_of a.head))
    (λ ns. form_part (definitions_in before) (given_in (before ++ reverse a.rest)) a.head (bare a.second nil) ns (head_of a.head)) o

-- whether a form is a definition, by its head
abbrev pub is_definition : List Token → Bool
is_definition [] = false
is_definition (t ∷ []) = false
is_definition (t ∷ opening ∷ ts) = false
is_definition (t ∷ closing ∷ ts) = false
is_definition (t ∷ word h ∷ ts) = same_word h the_def

-- what a token adds, in its mode and at the depth before it
unfoldable pub emitted : List Token → List Token → ℕ → ℕ → Token → Output → Output
emitted before here mode depth opening o = o
emitted before here mode depth closing o =
    cond (eqb mode 4) o
    (cond (eqb depth 1 && is_definition here) (with_definition (length (parameters_in here)) o)
    (close_form before (around 0 0 [] [] (reverse here)) o))
emitted before here mode depth (word w) o = cond (eqb mode 0) (with_node 0 (λ ns. word_part before here w) o) o

-- what was read, where the next token stands (as `mode_after` has it), how many brackets are open, what was emitted
pub record State : Type 0 where
  pub before : List Token
  pub here : List Token
  pub mode : ℕ
  pub depth : ℕ
  pub out : Output

-- at depth 0 a token begins a form
abbrev pub before_at : ℕ → List Token → List Token → List Token
before_at zero before here = before ++ here
before_at (suc depth) before here = before

abbrev pub here_at : ℕ → List Token → List Token
here_at zero here = []
here_at (suc depth) here = here

-- one token, which stands behind `before` and `here`
unfoldable pub taken : List Token → List Token → ℕ → ℕ → Output → Token → State
taken before here mode depth o t = record {
  before = before;
  here = here ++ t ∷ [];
  mode = mode_after mode (token_code t);
  depth = depth_after depth t;
  out = emitted before here mode depth t o;
}

abbrev pub step : State → Token → State
step s t = taken (before_at s.depth s.before s.here) (here_at s.depth s.here) s.mode s.depth s.out t

unfoldable pub emit : State → List Token → State
emit s [] = s
emit s (t ∷ ts) = emit (step s t) ts

abbrev pub start : State
start = record { before = []; here = []; mode = 0; depth = 0; out = record { parts = []; stack = []; nodes = 0 } }
