-- A list of parts at one of them: what stands before it is the table that it must fit.
use mathlib.Core.Path.{◌≡◌, sym, ◌∙◌, ap, subst}
use mathlib.Core.Logic.{⊎_elim}
use mathlib.Core.List.Memᴰ
use mathlib.Core.List.{List, [], ◌∷◌, ◌++◌, Memᴰ}
use Prim.Native.Nat.{ℕ, ◌≤◌, ◌<◌}
use native.Mathlib.Omega.{arith}
use lib.ListN.{length, length-append, get_or-append}
use Rattle.program.specs.Table.{Node, Definition, Table, no_definition, definition_at}
use Rattle.program.specs.Conditions.{Part, node, define, nodes_of, definitions_of, table_of}
use Rattle.program.proofs.Steps.{grow, joined, joined-none, joined-grow, joined-append, Fits, Ends, Steps}

pub record Splits (ps : List Part) (p : Part) : Type 0 where
  pub before : List Part
  pub after : List Part
  pub same : ps ≡ before ++ p ∷ after

pub splits : {p : Part} {ps : List Part} → Memᴰ p ps → Splits ps p
splits (Memᴰ.head {xs = qs} e) = record { before = []; after = qs; same = ap (λ (q : Part). q ∷ qs) (sym e) }
splits (Memᴰ.tail {x = q} m) =
    let r = splits m in
    record { before = q ∷ r.before; after = r.after; same = ap (λ (qs : List Part). q ∷ qs) r.same }

pub node-part : (ps : List Part) (x : Node) → Memᴰ x (nodes_of ps) → Memᴰ (node x) ps
unfolding nodes_of
node-part [] x m = absurd (Memᴰ.not-nil m)
node-part (define d ∷ ps) x m = Memᴰ.tail (node-part ps x m)
node-part (node y ∷ ps) x m = ⊎_elim (λ e. Memᴰ.head (ap node e)) (λ n. Memᴰ.tail (node-part ps x n)) (Memᴰ.cases_cons m)

pub definition-part : (ps : List Part) (d : Definition) → Memᴰ d (definitions_of ps) → Memᴰ (define d) ps
unfolding definitions_of
definition-part [] d m = absurd (Memᴰ.not-nil m)
definition-part (node x ∷ ps) d m = Memᴰ.tail (definition-part ps d m)
definition-part (define c ∷ ps) d m = ⊎_elim (λ e. Memᴰ.head (ap define e)) (λ n. Memᴰ.tail (definition-part ps d n)) (Memᴰ.cases_cons m)

-- the whole table, seen from a part
pub split-table : {ps : List Part} (before after : List Part) → ps ≡ before ++ after → table_of ps ≡ joined (table_of before) after
unfolding nodes_of definitions_of
split-table before after e = ap table_of e ∙ sym (joined-append (table_of []) before after)

-- a definition given before is the same in the whole table
pub same-definition : {ps : List Part} (before after : List Part) → ps ≡ before ++ after → (d : ℕ) → d < length (definitions_of before)
    → definition_at (table_of ps) d ≡ definition_at (table_of before) d
same-definition before after e d h =
    ap (λ (t : Table). definition_at t d) (split-table before after e) ∙ get_or-append (definitions_of before) (definitions_of after) no_definition d h

-- what is given before is in the whole table
pub whole_length : {ps : List Part} (before after : List Part) → ps ≡ before ++ after
    → (length (nodes_of before) ≤ length (nodes_of ps)) × (length (definitions_of before) ≤ length (definitions_of ps))
whole_length before after e =
    let w = split-table before after e in (
      omega (arith, ap (λ (t : Table). length t.nodes) w, length-append (nodes_of before) (nodes_of after)),
      omega (arith, ap (λ (t : Table). length t.definitions) w, length-append (definitions_of before) (definitions_of after)),
    )

-- from the steps: each part fits what stands before it, and the main node the whole
pub fits-at : (before : List Part) (p : Part) (after : List Part) (main : ℕ) (t : Table) → Steps t (before ++ p ∷ after) main → Fits (joined t before) p
fits-at [] p after main t st = subst (λ (u : Table). Fits u p) (sym (joined-none t)) st.0
fits-at (q ∷ before) p after main t st = subst (λ (u : Table). Fits u p) (joined-grow t q before) (fits-at before p after main (grow t q) st.1)

pub ends_at : (ps : List Part) (main : ℕ) (t : Table) → Steps t ps main → Ends (joined t ps) main
ends_at [] main t st = subst (λ (u : Table). Ends u main) (sym (joined-none t)) st
ends_at (p ∷ ps) main t st = subst (λ (u : Table). Ends u main) (joined-grow t p ps) (ends_at ps main (grow t p) st.1)
