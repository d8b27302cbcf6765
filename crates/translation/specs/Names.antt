-- Which names resolve: refusal 20. Definitions only: nothing is assumed.
use Rattle.std.specs.Prelude.{Bool, true, false, not, cond, ◌&&◌, ◌||◌, List, [], ◌∷◌, ◌++◌}
use Rattle.notation.specs.Words.{Word, one_of, reserved, own_name, is_number, Head, plain, slotted, operation, rep, fold, define, call, nothing, head_of}
use Rattle.notation.specs.Grammar.{Tree, leaf, form, Items, nil, expr, bare, Def, Program}

-- "a head or fold's function to an earlier definition", ds the names of those; a word of the notation "elsewhere .. is only itself"
abbrev pub known : List Word → Word → Bool
known ds w = not (own_name w) || one_of w ds

abbrev pub is_rep : Head → Bool
is_rep (plain kind n) = false
is_rep (slotted kind n) = false
is_rep operation = false
is_rep rep = true
is_rep fold = false
is_rep define = false
is_rep call = false
is_rep nothing = false

-- What a form binds, in front of what is bound around it: a rep the word that leads its items, other forms nothing. It holds behind the first expression:
-- "a rep binds in its update only", and the initial part comes before it
abbrev pub binding {ℓ} : {A : Type ℓ} → Head → Items → (Word → A) → List A → List A
binding h nil f around = around
binding h (expr t is) f around = around
binding h (bare x is) f around = cond (is_rep h) (f x ∷ around) around

-- the word that leads a form's items: bound by a rep, "where something is bound it is a reserved name", else the function of a fold
abbrev pub lead_good : List Word → Head → Items → Bool
lead_good ds h nil = true
lead_good ds h (expr t is) = true
lead_good ds h (bare w is) = cond (is_rep h) (not (reserved w)) (known ds w)

-- the names of an expression: ds are the definitions before, bs the names bound around it, later those bound around the items behind the first expression
unfoldable mutual
  pub resolves : List Word → List Word → Tree → Bool
  resolves ds bs (leaf w) = is_number w || one_of w bs
  resolves ds bs (form h is) = known ds h && (lead_good ds (head_of h) is && items_resolve ds bs (binding (head_of h) is (λ x. x) bs) is)

  pub items_resolve : List Word → List Word → List Word → Items → Bool
  items_resolve ds bs later nil = true
  items_resolve ds bs later (expr t is) = resolves ds bs t && items_resolve ds later later is
  items_resolve ds bs later (bare w is) = items_resolve ds bs later is

-- no parameter is reserved or stands twice
unfoldable pub parameters_good : List Word → Bool
parameters_good [] = true
parameters_good (x ∷ xs) = not (reserved x) && (not (one_of x xs) && parameters_good xs)

-- a definition behind those named ds: "an earlier definition", so its body does not see its own name
unfoldable pub definition_good : List Word → Def → Bool
definition_good ds d = not (reserved d.name) && (not (one_of d.name ds) && (parameters_good d.params && resolves ds d.params d.body))

unfoldable pub names_from : List Word → List Def → Tree → Bool
names_from ds [] main = resolves ds [] main
names_from ds (d ∷ more) main = definition_good ds d && names_from (ds ++ d.name ∷ []) more main

-- "its names resolve .., none is repeated or reserved"
unfoldable pub names_good : Program → Bool
names_good p = names_from [] p.defs p.main
