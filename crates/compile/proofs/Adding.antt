-- What each token's function adds. Assumes nothing.
use mathlib.Core.Path.{◌≡◌, refl, sym, ap, subst, ◌∙◌}
use mathlib.Core.Bool.{Bool, true, false, cond, ◌&&◌}
use mathlib.Core.List.{List, [], ◌∷◌, ◌++◌, reverse, reverse-reverse}
use mathlib.Core.Option.{Option, some}
use Rattle.std.specs.Prelude.{Some, None}
use Prim.Native.Nat.{ℕ, ◌+◌, ◌-◌, ◌≤◌}
use native.Mathlib.Omega.{arith}
use lib.Dec.{eqb}
use lib.ListN.{length, take, drop, length-set}
use lib.Seq.{take-take}
use borrow.Author.Tests.{ne_eqb, eqb-true, eqb-false}
use denote.Enum.Bare.{sameb}
use Rattle.token_scans.specs.contracts.Mode.{the_type}
use Rattle.token_scans.specs.declared.Mode.{Mode}
use Rattle.token_scans.specs.Sought.{number_of}
use Rattle.token_scans.proofs.Modes.{modes-same}
use Rattle.program.specs.Table.{Node}
use Rattle.program.specs.Conditions.{Part, node, field_bytes}
use Rattle.notation.specs.Words.{Word, between, is_number, bits_of, index_of, operators, operator, Head, plain, slotted, operation, rep, fold, define as aDefine, call, nothing, head_of}
use Rattle.notation.specs.Grammar.{Token, opening, closing, word, nil, bare}
use Rattle.notation.proofs.Lexing.{lex}
use Rattle.notation.proofs.Between.{length-between}
use Rattle.lexemes.specs.Lexeme.{Parted}
use Rattle.vocabulary.specs.Codes.{code_of, head_by_code}
use Rattle.vocabulary.proofs.Laws.{code-head}
use Rattle.translation.specs.Numbering.{byte, Given, Meaning, parameter, variable, of_kind, meant_by, form_part}
use Rattle.token_scans.specs.Scan.{reps_in, definitions_in, parameters_in}
use Rattle.rep_around.specs.Meaning.{meaning_at}
use Rattle.token_scans.proofs.Cuts.{lex-part}
use Rattle.tabling.specs.Fields.{flat_bytes}
use Rattle.tabling.specs.Emit.{Output, Around, word_part, around, leads, given_in, close_form, is_definition, emitted, with_node, with_definition}
use Rattle.forms.specs.declared.Form.{Form}
use Rattle.forms.specs.Closes.{Closes}
use Rattle.parts.specs.Bytes.{word_bytes, form_bytes}
use Rattle.compile.specs.declared.Waiting.{Waiting}
use Rattle.compile.specs.Writes.{last_of, pushed, Able, Adds}
use Rattle.compile.proofs.Writing.{node-written, definition-written}

-- ---- words and forms give nodes
record ANode (p : Part) : Type 0 where
  of : Node
  is : p ≡ node of

meant-node : (m : Meaning) → ANode (meant_by m)
meant-node (parameter p) = record { of = _; is = refl }
meant-node (variable v) = record { of = _; is = refl }

either : (b : Bool) (p q : Part) → ANode p → ANode q → ANode (cond b p q)
either true p q m n = m
either false p q m n = n

word-node : (before here : List Token) (w : Word) → ANode (word_part before here w)
word-node before here w =
    either (is_number w) (of_kind 0 (bits_of w ∷ [])) (meant_by (meaning_at (reps_in before) here w)) (record { of = _; is = refl }) (meant-node (meaning_at (reps_in before) here w))

form-node : (ds : List Word) (g : Given) (h w : Word) (ns : List ℕ) (k : Head) → ANode (form_part ds g h (bare w nil) ns k)
form-node ds g h w ns (plain kind n) = record { of = _; is = refl }
form-node ds g h w ns (slotted kind n) = record { of = _; is = refl }
form-node ds g h w ns operation = record { of = _; is = refl }
form-node ds g h w ns rep = record { of = _; is = refl }
form-node ds g h w ns fold =
    either (operator w) (of_kind 10 (index_of w operators ∷ ns)) (of_kind 11 (byte (index_of w ds) ∷ ns)) (record { of = _; is = refl }) (record { of = _; is = refl })
form-node ds g h w ns aDefine = record { of = _; is = refl }
form-node ds g h w ns call = record { of = _; is = refl }
form-node ds g h w ns nothing = record { of = _; is = refl }

-- ---- a node
module _ (t t' : List ℕ) (o : Waiting) (a : Able t o) (k : ℕ) (part : List ℕ → Part) (n : (ns : List ℕ) → ANode (part ns))
    (g : t' ≡ t ++ flat_bytes (part (between (o.len - k) o.len o.numbers))) where
  adds-node : Adds t o t' (pushed o (o.len - k)) (with_node k part)
  adds-node = record {
    long = length-set o.numbers (o.len - k) (byte o.nodes) ∙ a.long;
    few = (omega arith, omega arith);
    writes = λ q w. node-written t t' o q k part (λ ns. (n ns).of) (λ ns. (n ns).is) w (let x = a.waiting in let y = a.long in omega (arith, x, y)) g;
  }

-- ---- a word
pub word-adds : (s : List ℕ) (top x y : ℕ) (t t' : List ℕ) (o : Waiting) → Able t o → t' ≡ t ++ word_bytes (take top s) (between top x s) (between x y s)
    → Adds t o t' (pushed o o.len) (with_node 0 (λ ns. word_part (lex (take top s)) (lex (between top x s)) (between x y s)))
word-adds s top x y t t' o a g =
    subst (λ (k : ℕ). Adds t o t' (pushed o k) (with_node 0 (λ ns. word_part (lex (take top s)) (lex (between top x s)) (between x y s)))) (let z : o.len - 0 ≡ o.len = omega arith in z)
    (adds-node t t' o a 0 (λ ns. word_part (lex (take top s)) (lex (between top x s)) (between x y s)) (λ ns. word-node (lex (take top s)) (lex (between top x s)) (between x y s)) g)

-- ---- a form
module _ (s : List ℕ) (top at : ℕ) (h : (top ≤ at) × (at ≤ length s)) where
  abbrev before : List Token
  before = lex (take top s)

  abbrev here : List ℕ
  here = between top at s

  pub form-none : (t : List ℕ) (o : Waiting) → Able t o → Closes here None → Adds t o t o (close_form before (around 0 0 [] [] (reverse (lex here))))
  form-none t o a c = record { long = a.long; few = (omega arith, omega arith); writes = λ q w. rw c.same w }

  module _ (f : Form) (c : Closes here (Some f)) where
    abbrev found : Around
    found = record { rest = reverse (lex (take f.«open» here)); items = f.items; head = f.head.now; second = f.second.now }

    pub open-within : f.«open» ≤ at - top
    open-within = let i = c.inside.0 in rw (length-between top at s h.1) at i

    front : take f.«open» here ≡ between top (top + f.«open») s
    front =
        let i = open-within in
        let z : top + f.«open» - top ≡ f.«open» = omega arith in
        rw (z, take-take f.«open» (at - top) (drop top s) i)

    abbrev part : List Token → List ℕ → Part
    part ts ns = form_part (definitions_in before) (given_in ts) f.head.now (bare f.second.now nil) ns (head_of f.head.now)

    given : Parted s top → lex (take (top + f.«open») s) ≡ before ++ reverse found.rest
    given p =
        let i = open-within in
        lex-part s top (top + f.«open») (omega arith) p
        ∙ ap (λ (l : List Token). before ++ l) (sym (reverse-reverse (lex (take f.«open» here)) ∙ ap lex front))

    -- by what the code finds: its code n, its operands k, where they begin
    pub form-adds : Parted s top → (t t' : List ℕ) (o : Waiting) (n k from : ℕ) → Able t o → n ≡ code_of f.head.now → k ≡ f.items - leads (head_by_code n) → from ≡ o.len - k
        → t' ≡ t ++ form_bytes (take top s) (take (top + f.«open») s) f.head.now f.second.now (between from o.len o.numbers)
        → Adds t o t' (pushed o from) (close_form before (around 0 0 [] [] (reverse (lex here))))
    form-adds p t t' o n k from a en ek ef g =
        subst (λ (r : Option Around). Adds t o t' (pushed o from) (close_form before r)) (sym c.same)
        (subst (λ (x : ℕ). Adds t o t' (pushed o x) (close_form before (some found))) (sym ef)
        (subst (λ (i : ℕ). Adds t o t' (pushed o (o.len - k)) (with_node i (part (before ++ reverse found.rest)))) count
        (adds-node t t' o a k (part (before ++ reverse found.rest)) (λ ns. form-node (definitions_in before) (given_in (before ++ reverse found.rest)) f.head.now f.second.now ns (head_of f.head.now))
        (subst (λ (ts : List Token). t' ≡ t ++ flat_bytes (part ts (between (o.len - k) o.len o.numbers))) (given p)
        (subst (λ (x : ℕ). t' ≡ t ++ form_bytes (take top s) (take (top + f.«open») s) f.head.now f.second.now (between x o.len o.numbers)) ef g)))))
      where
        count : k ≡ f.items - leads (head_of f.head.now)
        count = ek ∙ ap (λ (x : ℕ). f.items - leads (head_by_code x)) en ∙ ap (λ (x : Head). f.items - leads x) (sym (code-head f.head.now))

-- ---- a definition
pub definition-adds : (t t' : List ℕ) (o : Waiting) (count n x y : ℕ) → Able t o → n ≡ count → x ≡ byte n → y ≡ last_of o.numbers o.len → t' ≡ t ++ field_bytes 2 (x ∷ y ∷ [])
    → Adds t o t' (record { numbers = o.numbers; len = o.len - 1; nodes = o.nodes; defs = o.defs + 1 }) (with_definition count)
definition-adds t t' o count n x y a en ex ey g = record {
  long = a.long;
  few = (omega arith, omega arith);
  writes = λ q w. definition-written t t' o q count w
      (subst (λ (k : ℕ). t' ≡ t ++ field_bytes 2 (k ∷ last_of o.numbers o.len ∷ [])) (ex ∙ ap byte en) (subst (λ (k : ℕ). t' ≡ t ++ field_bytes 2 (x ∷ k ∷ [])) ey g));
}

-- ---- a token
pub mode-is : (a b : Mode) (r : Bool) → r ≡ sameb the_type a b → r ≡ true → number_of a ≡ number_of b
mode-is a b r e t = eqb-true (number_of a) (number_of b) (sym (modes-same a b) ∙ sym e ∙ t)

pub mode-not : (a b : Mode) (r : Bool) → r ≡ sameb the_type a b → r ≡ false → number_of a ≡ number_of b → ⊥
mode-not a b r e f = eqb-false (number_of a) (number_of b) (sym (modes-same a b) ∙ sym e ∙ f)

pub adds-nothing : (t : List ℕ) (o : Waiting) → Able t o → (f : Output → Output) → ((q : Output) → f q ≡ q) → Adds t o t o f
adds-nothing t o a f e = record { long = a.long; few = (omega arith, omega arith); writes = λ q w. rw (e q) w }

pub adds-as : (t t' : List ℕ) (o o' : Waiting) (f g : Output → Output) → ((q : Output) → f q ≡ g q) → Adds t o t' o' g → Adds t o t' o' f
adds-as t t' o o' f g e a = record { long = a.long; few = a.few; writes = λ q w. rw (e q) (a.writes q w) }

module _ (before here : List Token) (m d : ℕ) (q : Output) where
  pub on-parameters : m ≡ 4 → emitted before here m d closing q ≡ q
  unfolding emitted
  on-parameters e = rw e

  pub on-definition : (m ≡ 4 → ⊥) → (eqb d 1 && is_definition here) ≡ true → emitted before here m d closing q ≡ with_definition (length (parameters_in here)) q
  unfolding emitted
  on-definition n e = rw (ne_eqb m 4 n, e)

  pub on-form : (m ≡ 4 → ⊥) → (eqb d 1 && is_definition here) ≡ false → emitted before here m d closing q ≡ close_form before (around 0 0 [] [] (reverse here)) q
  unfolding emitted
  on-form n e = rw (ne_eqb m 4 n, e)

  pub on_word : (w : Word) → m ≡ 0 → emitted before here m d (word w) q ≡ with_node 0 (λ ns. word_part before here w) q
  unfolding emitted
  on_word w e = rw e

  pub on-name : (w : Word) → (m ≡ 0 → ⊥) → emitted before here m d (word w) q ≡ q
  unfolding emitted
  on-name w e = rw (ne_eqb m 0 e)

  pub on-opening : emitted before here m d opening q ≡ q
  unfolding emitted
  on-opening = refl
