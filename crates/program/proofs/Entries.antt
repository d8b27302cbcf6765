-- The rows of a definition, of the main node and of the table's end, against what they must meet.
use mathlib.Core.Path.{◌≡◌, refl}
use mathlib.Core.Bool.{not}
use mathlib.Core.List.{List, [], ◌∷◌}
use Prim.Native.Nat.{ℕ}
use native.Mathlib.Omega.{arith}
use lib.ListN.{length, get_or}
use borrow.Author.Tests.{eqb-true, leb-false, lt-leb, ltb-false, le-ltb, not-false}
use Rattle.wire.specs.Wire.{Fields, end}
use Rattle.program.specs.Table.{definition_limit, slot, keeps, Definition, Table, all_numbers, named, definition_rows, main_rows, unnamed, is_end, RefusalRows}
use Rattle.program.specs.Conditions.{define}
use Rattle.program.proofs.RefusalRows.{Clear, done, ◌&◌, test}
use Rattle.program.proofs.Names.{fresh-none, fresh-one, one-fresh, among-how_often, how_often-among, unnamed-among, among-unnamed}
use Rattle.program.proofs.Steps.{Fits, Ends}

-- a definition's body that no row refuses, and back
pub definition-bytes : (t : Table) (s : List ℕ) → Clear (definition_rows t s) → s ≡ get_or s 0 0 ∷ get_or s 1 0 ∷ []
definition-bytes t s c = go s (eqb-true (length s) 2 (not-false _ (test c 1)))
  where
    go : (s : List ℕ) → length s ≡ 2 → s ≡ get_or s 0 0 ∷ get_or s 1 0 ∷ []
    go [] l = absurd (omega arith)
    go (a ∷ []) l = absurd (omega arith)
    go (a ∷ b ∷ []) l = refl
    go (a ∷ b ∷ e ∷ s) l = absurd (omega arith)

pub definition-fits : (t : Table) (s : List ℕ) → Clear (definition_rows t s) → Fits t (define (record { count = get_or s 0 0; body = get_or s 1 0 }))
definition-fits t s c = record {
  own = record { room = leb-false 32 (length t.definitions) (test c 0); count = ltb-false 4 (get_or s 0 0) (test c 2) };
  given = leb-false (length t.nodes) (get_or s 1 0) (test c 3);
  fresh = fresh-one (named t) (get_or s 1 0) (test c 4);
  slots = fresh-none (all_numbers slot t.nodes);
  kept = fresh-none (all_numbers keeps t.nodes);
}

pub fits-definition : (t : Table) (d : Definition) → Fits t (define d) → Clear (definition_rows t (d.count ∷ d.body ∷ []))
fits-definition t d f =
    lt-leb definition_limit (length t.definitions) f.own.room
    & refl
    & le-ltb 4 d.count f.own.count
    & lt-leb (length t.nodes) d.body f.given
    & one-fresh (named t) d.body f.fresh
    & done

-- the rows of the table's end
abbrev pub end_rows : Table → ℕ → Fields → RefusalRows
end_rows t main rest = (not (is_end rest), 6) ∷ (unnamed (length t.nodes) (main ∷ named t), 6) ∷ []

pub main-bytes : (t : Table) (s : List ℕ) → Clear (main_rows t s) → s ≡ get_or s 0 0 ∷ []
main-bytes t s c = go s (eqb-true (length s) 1 (not-false _ (test c 0)))
  where
    go : (s : List ℕ) → length s ≡ 1 → s ≡ get_or s 0 0 ∷ []
    go [] l = absurd (omega arith)
    go (a ∷ []) l = refl
    go (a ∷ b ∷ s) l = absurd (omega arith)

pub main-ends : (t : Table) (s : List ℕ) (rest : Fields) → Clear (main_rows t s) → Clear (end_rows t (get_or s 0 0) rest) → Ends t (get_or s 0 0)
main-ends t s rest c e = record {
  given = leb-false (length t.nodes) (get_or s 0 0) (test c 1);
  fresh = fresh-one (named t) (get_or s 0 0) (test c 2);
  all = λ k h. among-how_often k _ (unnamed-among (length t.nodes) _ (test e 1) k h);
}

pub ends-main : (t : Table) (main : ℕ) → Ends t main → Clear (main_rows t (main ∷ []))
ends-main t main e = refl & lt-leb (length t.nodes) main e.given & one-fresh (named t) main e.fresh & done

pub ends-clear : (t : Table) (main : ℕ) → Ends t main → Clear (end_rows t main end)
ends-clear t main e = refl & among-unnamed (length t.nodes) (main ∷ named t) (λ k h. how_often-among k (main ∷ named t) (e.all k h)) & done
