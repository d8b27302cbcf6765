-- What the examples of this crate compute with. Assumes nothing.
use mathlib.Core.Path.{◌≡◌, refl, sym}
use mathlib.Core.Bool.{Bool, true, false, not, ◌&&◌}
use mathlib.Core.List.{List, [], ◌∷◌}
use mathlib.Core.Option.{Option, none, some}
use Prim.Native.Nat.{ℕ}
use Prim.Native.String.{String}
use lib.Dec.{eqb}
use borrow.Author.Tests.{eqb-true}
use Rattle.notation.specs.Words.{ascii, every, index_of, is_letter, is_digit, name_byte, is_name, reserved, own_name, operator, is_count, is_negative, is_number, bits_of, atom, binder}
use Rattle.notation.specs.Words.{function, head_of, role}
use Rattle.notation.specs.Grammar.{tokens, item_tokens, name_tokens, def_tokens, defs_tokens, program_tokens, Fine, Fits, Exprs, Names, FineDefs}
use Rattle.notation.specs.Text.{byte_kind, Text, Longest}
use Rattle.decide.proofs.Picks.{not-both, both}
use Rattle.notation.proofs.Machine.{Symbol, step, run, start}
use Rattle.notation.proofs.Lexing.{lex}
use Rattle.notation.proofs.Viable.{begins_atom, begins_binder, begins_function}
use Rattle.notation.proofs.Place.{texts-exactly, place, place-longest}

unfoldable pub opened : ℕ → ℕ
unfolding index_of is_letter is_digit name_byte is_name reserved own_name operator is_count is_negative is_number bits_of atom binder function head_of role
    tokens item_tokens name_tokens def_tokens defs_tokens program_tokens Fine Fits Exprs Names FineDefs byte_kind step begins_atom begins_binder begins_function place
opened n = n

-- whether the machine is done
abbrev pub done : Option (List Symbol) → Bool
done none = false
done (some []) = true
done (some (x ∷ st)) = false

-- bytes of the grammar, and bytes outside it whose longest beginning has this length: the two lemmas below
abbrev pub inside : List ℕ → Bool
inside s = done (run start (lex s))

abbrev pub outside : List ℕ → ℕ → Bool
outside s n = not (inside s) && eqb (place s) n

pub inside-text : (s : List ℕ) → inside s ≡ true → Text s
inside-text s e = (texts-exactly s).1 (go (run start (lex s)) e)
  where
    go : (o : Option (List Symbol)) → done o ≡ true → o ≡ some []
    go none e = not-both (sym e)
    go (some []) e = refl
    go (some (x ∷ st)) e = not-both (sym e)

pub outside-longest : (s : List ℕ) (n : ℕ) → outside s n ≡ true → (Text s → ⊥) × Longest s n
outside-longest s n e =
    let h = both (not (inside s)) (eqb (place s) n) e in
    ((λ t. not-both (sym (rw ((texts-exactly s).0 t) at h.0))), rw (eqb-true (place s) n h.1) at (place-longest s))

-- texts; and texts outside the grammar with their places
abbrev pub texts : List String → Bool
texts l = every (λ s. inside (ascii s)) l

abbrev pub refusals : List (String × ℕ) → Bool
refusals l = every (λ x. outside (ascii x.0) x.1) l
