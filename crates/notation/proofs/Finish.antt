-- every stack of the machine can be finished, so a list of tokens begins a program exactly if the machine survives it.
use mathlib.Core.Path.{◌≡◌, refl, sym, subst, ◌∙◌}
use mathlib.Core.Bool.{Bool, true, false, cond}
use mathlib.Core.List.{List, [], ◌∷◌, ◌++◌}
use mathlib.Core.Option.{Option, none, some}
use mathlib.Core.Logic.{◌↔◌}
use Prim.Native.Nat.{ℕ, zero, suc}
use Rattle.decide.proofs.Options.{none-some}
use Rattle.notation.specs.Words.{Word, Piece, an_expression, a_binder, a_function, Role, fixed, calls, definition, no_form, atom, binder, function, role}
use Rattle.notation.specs.Grammar.{Token, opening, closing, word, Program, program_tokens, FineProgram}
use Rattle.notation.specs.Text.{byte_kind, Plain}
use Rattle.decide.proofs.Picks.{not-both}
use Rattle.notation.proofs.Machine.{Symbol, item, head, many, shut, program, form_head, list, params, push, headed, begun, step, onward, run, start, programs-exactly}
use Rattle.notation.proofs.Lexing.{flush, lex_from, lex, lex-plain}
use Rattle.notation.proofs.Viable.{Class, atoms, binders, functions, heads, openers, is_head, is_opener, allowed, empty}
use Rattle.notation.proofs.Extends.{Extends, begins-extends, begins-empty}

-- which words a stack takes
abbrev pub words_of : List Symbol → Option Class
words_of [] = none
words_of (item an_expression ∷ st) = some atoms
words_of (item a_binder ∷ st) = some binders
words_of (item a_function ∷ st) = some functions
words_of (head ∷ st) = some heads
words_of (many ∷ st) = some atoms
words_of (shut ∷ st) = none
words_of (program ∷ st) = some atoms
words_of (form_head ∷ st) = some openers
words_of (list ∷ st) = none
words_of (params zero ∷ st) = none
words_of (params (suc n) ∷ st) = some binders

tested : (c : Bool) (st st' : List Symbol) → cond c (some st) none ≡ some st' → c ≡ true
tested true st st' q = refl
tested false st st' q = none-some q

pub record Takes (st : List Symbol) (w : Word) : Type 0 where
  pub kind : Class
  pub listed : words_of st ≡ some kind
  pub good : allowed kind w ≡ true

pub step-takes : (st st' : List Symbol) (w : Word) → step st (word w) ≡ some st' → Takes st w
unfolding step
step-takes [] st' w q = none-some q
step-takes (item an_expression ∷ st) st' w q = record { kind = atoms; listed = refl; good = tested (atom w) st st' q }
step-takes (item a_binder ∷ st) st' w q = record { kind = binders; listed = refl; good = tested (binder w) st st' q }
step-takes (item a_function ∷ st) st' w q = record { kind = functions; listed = refl; good = tested (function w) st st' q }
step-takes (head ∷ st) st' w q = record { kind = heads; listed = refl; good = go (role w) q }
  where
    go : (r : Role) → headed r st ≡ some st' → is_head r ≡ true
    go (fixed ks) q = refl
    go calls q = refl
    go definition q = none-some q
    go no_form q = none-some q
step-takes (many ∷ st) st' w q = record { kind = atoms; listed = refl; good = tested (atom w) (many ∷ st) st' q }
step-takes (shut ∷ st) st' w q = none-some q
step-takes (program ∷ st) st' w q = record { kind = atoms; listed = refl; good = tested (atom w) st st' q }
step-takes (form_head ∷ st) st' w q = record { kind = openers; listed = refl; good = go (role w) q }
  where
    go : (r : Role) → begun r st ≡ some st' → is_opener r ≡ true
    go (fixed ks) q = refl
    go calls q = refl
    go definition q = refl
    go no_form q = none-some q
step-takes (list ∷ st) st' w q = none-some q
step-takes (params zero ∷ st) st' w q = none-some q
step-takes (params (suc n) ∷ st) st' w q = record { kind = binders; listed = refl; good = tested (binder w) (params n ∷ st) st' q }

-- bytes that finish a stack
pub record Finish (st : List Symbol) : Type 0 where
  pub bytes : List ℕ
  pub ends : run st (lex bytes) ≡ some []

-- a word and a blank, then what finishes the stack behind it
pub lex-word : (w x : Word) → Plain x → empty (w ++ x) ≡ false → (s : List ℕ) → lex_from w (x ++ 32 ∷ s) ≡ word (w ++ x) ∷ lex s
unfolding byte_kind
lex-word w x p f s = lex-plain x w p (32 ∷ s) ∙ go (w ++ x) f
  where
    go : (v : Word) → empty v ≡ false → flush v (lex s) ≡ word v ∷ lex s
    go [] f = not-both f
    go (b ∷ v) f = refl

by_word : (st st' : List Symbol) (x : Word) → Plain x → empty x ≡ false → step st (word x) ≡ some st' → Finish st' → Finish st
by_word st st' x p f h g = record { bytes = x ++ 32 ∷ g.bytes; ends = rw (lex-word [] x p f g.bytes, h) g.ends }

by-class : (c : Class) (st st' : List Symbol) → ((w : Word) → allowed c w ≡ true → step st (word w) ≡ some st') → Finish st' → Finish st
by-class c st st' h g = let x = begins-extends c [] (begins-empty c) in by_word st st' x.more x.plain x.filled (h x.more x.good) g

by-closing : (st st' : List Symbol) → step st closing ≡ some st' → Finish st' → Finish st
unfolding byte_kind
by-closing st st' h f = record { bytes = 41 ∷ f.bytes; ends = rw h f.ends }

by-opening : (st st' : List Symbol) → step st opening ≡ some st' → Finish st' → Finish st
unfolding byte_kind
by-opening st st' h f = record { bytes = 40 ∷ f.bytes; ends = rw h f.ends }

on-item : (k : Piece) (st : List Symbol) → Finish st → Finish (item k ∷ st)
unfolding step
on-item an_expression st f = by-class atoms (item an_expression ∷ st) st (λ w e. rw e) f
on-item a_binder st f = by-class binders (item a_binder ∷ st) st (λ w e. rw e) f
on-item a_function st f = by-class functions (item a_function ∷ st) st (λ w e. rw e) f

on-items : (ks : List Piece) (st : List Symbol) → Finish st → Finish (push ks st)
on-items [] st f = f
on-items (k ∷ ks) st f = on-item k (push ks st) (on-items ks st f)

on-shut : (st : List Symbol) → Finish st → Finish (shut ∷ st)
unfolding step
on-shut st f = by-closing (shut ∷ st) st refl f

on-many : (st : List Symbol) → Finish st → Finish (many ∷ st)
unfolding step
on-many st f = by-closing (many ∷ st) st refl f

on-program : (st : List Symbol) → Finish st → Finish (program ∷ st)
unfolding step
on-program st f = by-class atoms (program ∷ st) st (λ w e. rw e) f

on-params : (n : ℕ) (st : List Symbol) → Finish st → Finish (params n ∷ st)
unfolding step
on-params n st f = by-closing (params n ∷ st) st refl f

on_list : (st : List Symbol) → Finish st → Finish (list ∷ st)
unfolding step
on_list st f = by-opening (list ∷ st) (params 4 ∷ st) refl (on-params 4 st f)

on-head : (st : List Symbol) → Finish st → Finish (head ∷ st)
unfolding step
on-head st f = go (role x.more) refl x.good
  where
    x : Extends heads []
    x = begins-extends heads [] (begins-empty heads)

    go : (r : Role) → role x.more ≡ r → is_head r ≡ true → Finish (head ∷ st)
    go (fixed ks) e q = by_word (head ∷ st) (push ks (shut ∷ st)) x.more x.plain x.filled (rw e) (on-items ks (shut ∷ st) (on-shut st f))
    go calls e q = by_word (head ∷ st) (many ∷ st) x.more x.plain x.filled (rw e) (on-many st f)
    go definition e q = not-both (sym q)
    go no_form e q = not-both (sym q)

on-form_head : (st : List Symbol) → Finish st → Finish (form_head ∷ st)
unfolding step
on-form_head st f = go (role x.more) refl x.good
  where
    x : Extends heads []
    x = begins-extends heads [] (begins-empty heads)

    go : (r : Role) → role x.more ≡ r → is_head r ≡ true → Finish (form_head ∷ st)
    go (fixed ks) e q = by_word (form_head ∷ st) (push ks (shut ∷ st)) x.more x.plain x.filled (rw e) (on-items ks (shut ∷ st) (on-shut st f))
    go calls e q = by_word (form_head ∷ st) (many ∷ st) x.more x.plain x.filled (rw e) (on-many st f)
    go definition e q = not-both (sym q)
    go no_form e q = not-both (sym q)

-- every stack can be finished
pub finish : (st : List Symbol) → Finish st
finish [] = record { bytes = []; ends = refl }
finish (item k ∷ st) = on-item k st (finish st)
finish (head ∷ st) = on-head st (finish st)
finish (many ∷ st) = on-many st (finish st)
finish (shut ∷ st) = on-shut st (finish st)
finish (program ∷ st) = on-program st (finish st)
finish (form_head ∷ st) = on-form_head st (finish st)
finish (list ∷ st) = on_list st (finish st)
finish (params n ∷ st) = on-params n st (finish st)

run-append : (ts us : List Token) (st : List Symbol) → run st (ts ++ us) ≡ onward (run st ts) (λ st. run st us)
run-append [] us st = refl
run-append (t ∷ ts) us st = go (step st t) (run-append ts us)
  where
    go : (o : Option (List Symbol)) → ((st : List Symbol) → run st (ts ++ us) ≡ onward (run st ts) (λ st. run st us))
        → onward o (λ st. run st (ts ++ us)) ≡ onward (onward o (λ st. run st ts)) (λ st. run st us)
    go none ih = refl
    go (some st) ih = ih st

-- a beginning of a program's tokens
pub record Starts (ts : List Token) : Type 0 where
  pub rest : List Token
  pub whole : Program
  pub fine : FineProgram whole
  pub spelt : ts ++ rest ≡ program_tokens whole

pub starts-exactly : (ts : List Token) → Starts ts ↔ ((st : List Symbol) × (run start ts ≡ some st))
starts-exactly ts = (λ h. there h.rest (run start ts) refl (sym (run-append ts h.rest start) ∙ (programs-exactly (ts ++ h.rest)).0 (h.whole, h.fine, h.spelt)), λ h. back h.0 h.1)
  where
    there : (us : List Token) (o : Option (List Symbol)) → run start ts ≡ o → onward o (λ st. run st us) ≡ some [] → (st : List Symbol) × (run start ts ≡ some st)
    there us none e q = none-some q
    there us (some st) e q = (st, e)

    back : (st : List Symbol) → run start ts ≡ some st → Starts ts
    back st e =
        let f = finish st in
        let p = (programs-exactly (ts ++ lex f.bytes)).1 (run-append ts (lex f.bytes) start ∙ rw e f.ends) in
        record { rest = lex f.bytes; whole = p.0; fine = p.1; spelt = p.2 }

-- a word of the class is taken
of-class : (d c : Class) (w : Word) → some d ≡ some c → allowed c w ≡ true → allowed d w ≡ true
of-class d c w l e = let p : d ≡ c = cc in subst (λ (k : Class). allowed k w ≡ true) (sym p) e

taken-head : (r : Role) (st : List Symbol) → is_head r ≡ true → (st' : List Symbol) × (headed r st ≡ some st')
taken-head (fixed ks) st e = (push ks (shut ∷ st), refl)
taken-head calls st e = (many ∷ st, refl)
taken-head definition st e = not-both (sym e)
taken-head no_form st e = not-both (sym e)

taken-begun : (r : Role) (st : List Symbol) → is_opener r ≡ true → (st' : List Symbol) × (begun r st ≡ some st')
taken-begun (fixed ks) st e = (push ks (shut ∷ st), refl)
taken-begun calls st e = (many ∷ st, refl)
taken-begun definition st e = (item a_binder ∷ list ∷ item an_expression ∷ shut ∷ program ∷ st, refl)
taken-begun no_form st e = not-both (sym e)

pub takes_step : (st : List Symbol) (c : Class) (w : Word) → words_of st ≡ some c → allowed c w ≡ true → (st' : List Symbol) × (step st (word w) ≡ some st')
unfolding step
takes_step [] c w l e = none-some l
takes_step (item an_expression ∷ st) c w l e = (st, rw (of-class atoms c w l e))
takes_step (item a_binder ∷ st) c w l e = (st, rw (of-class binders c w l e))
takes_step (item a_function ∷ st) c w l e = (st, rw (of-class functions c w l e))
takes_step (head ∷ st) c w l e = taken-head (role w) st (of-class heads c w l e)
takes_step (many ∷ st) c w l e = (many ∷ st, rw (of-class atoms c w l e))
takes_step (shut ∷ st) c w l e = none-some l
takes_step (program ∷ st) c w l e = (st, rw (of-class atoms c w l e))
takes_step (form_head ∷ st) c w l e = taken-begun (role w) st (of-class openers c w l e)
takes_step (list ∷ st) c w l e = none-some l
takes_step (params zero ∷ st) c w l e = none-some l
takes_step (params (suc n) ∷ st) c w l e = (params n ∷ st, rw (of-class binders c w l e))
