-- The notation as trees and how each is spelt; no reader stands in it. Definitions only: nothing is assumed.
use Rattle.std.specs.Prelude.{◌≡◌, true, List, [], ◌∷◌, ◌++◌, ℕ, zero, suc}
use Rattle.notation.specs.Words.{Word, Piece, an_expression, a_binder, a_function, Role, fixed, calls, definition, no_form, the_def, atom, binder, function, role}

pub data Token : Type 0 where
  opening closing : Token
  word : Word → Token

mutual
  pub data Tree : Type 0 where
    leaf : Word → Tree
    form : Word → Items → Tree

  pub data Items : Type 0 where
    nil : Items
    expr : Tree → Items → Items
    bare : Word → Items → Items

pub record Def : Type 0 where
  pub name : Word
  pub params : List Word
  pub body : Tree

pub record Program : Type 0 where
  pub defs : List Def
  pub main : Tree

-- how a tree is written
unfoldable mutual
  pub tokens : Tree → List Token
  tokens (leaf w) = word w ∷ []
  tokens (form h is) = opening ∷ word h ∷ item_tokens is ++ closing ∷ []

  pub item_tokens : Items → List Token
  item_tokens nil = []
  item_tokens (expr t is) = tokens t ++ item_tokens is
  item_tokens (bare w is) = word w ∷ item_tokens is

unfoldable pub name_tokens : List Word → List Token
name_tokens [] = []
name_tokens (w ∷ ws) = word w ∷ name_tokens ws

-- (def NAME (PARAMETERS) BODY)
unfoldable pub def_tokens : Def → List Token
def_tokens d = opening ∷ word the_def ∷ word d.name ∷ opening ∷ name_tokens d.params ++ (closing ∷ tokens d.body ++ closing ∷ [])

unfoldable pub defs_tokens : List Def → List Token
defs_tokens [] = []
defs_tokens (d ∷ ds) = def_tokens d ++ defs_tokens ds

unfoldable pub program_tokens : Program → List Token
program_tokens p = defs_tokens p.defs ++ tokens p.main

abbrev pub ByRole : Role → (List Piece → Type 0) → Type 0 → Type 0
ByRole (fixed ks) f g = f ks
ByRole calls f g = g
ByRole definition f g = ⊥
ByRole no_form f g = ⊥

-- each form has the items of its head, a call any number of expressions
unfoldable mutual
  pub Fine : Tree → Type 0
  Fine (leaf w) = atom w ≡ true
  Fine (form h is) = ByRole (role h) (λ ks. Fits is ks) (Exprs is)

  pub Fits : Items → List Piece → Type 0
  Fits nil [] = Unit {0}
  Fits nil (k ∷ ks) = ⊥
  Fits (expr t is) [] = ⊥
  Fits (expr t is) (an_expression ∷ ks) = Fine t × Fits is ks
  Fits (expr t is) (a_binder ∷ ks) = ⊥
  Fits (expr t is) (a_function ∷ ks) = ⊥
  Fits (bare w is) [] = ⊥
  Fits (bare w is) (an_expression ∷ ks) = ⊥
  Fits (bare w is) (a_binder ∷ ks) = (binder w ≡ true) × Fits is ks
  Fits (bare w is) (a_function ∷ ks) = (function w ≡ true) × Fits is ks

  pub Exprs : Items → Type 0
  Exprs nil = Unit {0}
  Exprs (expr t is) = Fine t × Exprs is
  Exprs (bare w is) = ⊥

-- at most so many names
unfoldable pub Names : ℕ → List Word → Type 0
Names n [] = Unit {0}
Names zero (w ∷ ws) = ⊥
Names (suc n) (w ∷ ws) = (binder w ≡ true) × Names n ws

pub record FineDef (d : Def) : Type 0 where
  pub named : binder d.name ≡ true
  pub at_most_four : Names 4 d.params
  pub fine : Fine d.body

unfoldable pub FineDefs : List Def → Type 0
FineDefs [] = Unit {0}
FineDefs (d ∷ ds) = FineDef d × FineDefs ds

pub record FineProgram (p : Program) : Type 0 where
  pub definitions : FineDefs p.defs
  pub main : Fine p.main
