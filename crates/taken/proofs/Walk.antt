-- What walks over numbers and flags come to: whether all are given, and then each is taken in its turn.
use Rattle.std.proofs.Common.{◌≡◌, refl, sym, ◌∙◌, ap, ℕ, zero, suc, ◌+◌, ◌<◌, ◌≤◌, Bool, true, false, not, ◌||◌, List, [], ◌∷◌, length, get_or, take, drop, set, arith, drop-cons, add-one, leb}
use Rattle.std.specs.Prelude.{Result, Ok, Err}
use Rattle.std.specs.List.{list_any}
use Rattle.std.proofs.lemmas.List.Folds.{list_any-append}
use Rattle.std.proofs.Math.ListN.{drop_of_length-le}
use Rattle.std.proofs.Math.Seq.{take-suc}
use Rattle.verdict.specs.declared.Reason.{Reason}
use Rattle.verdict.specs.declared.Reason.TheVariants.{BadField, TooMany, OutOfRange, NotGiven, Taken, BadEnd, WrongSort, Misread, Misused, TooCostly}
use Rattle.verdict.specs.declared.Reason.TheVariants.{Unsound, BadList, ShortSpace, BadItem, Itself, NothingPending, DividedByZero, BadFile, Outside, BadName}
use Rattle.verdict.specs.Outcome.{number_of}
use Rattle.program.specs.Table.{beyond}
use Rattle.taken.specs.Taken.{code, taken_in, with_taken, untaken, Takes, TakesKids}

pub beyond_any : (n : ℕ) (ks : List ℕ) → list_any (leb n) ks ≡ beyond n ks
unfolding beyond
beyond_any n [] = refl
beyond_any n (k ∷ ks) = ap (λ (b : Bool). leb n k || b) (beyond_any n ks)

swap : (a b : Bool) → (a || (b || false)) ≡ (b || a)
swap true true = refl
swap true false = refl
swap false true = refl
swap false false = refl

pub untaken_any : (n : ℕ) (m : List Bool) → n ≤ length m → list_any not (take n m) ≡ untaken n m
unfolding untaken
untaken_any zero m h = refl
untaken_any (suc n) m h =
    ap (list_any not) (take-suc m n false (omega arith))
    ∙ list_any-append not (take n m) (get_or m n false ∷ [])
    ∙ swap (list_any not (take n m)) (not (get_or m n false))
    ∙ ap (λ (b : Bool). not (get_or m n false) || b) (untaken_any n m (omega arith))

-- a refusal has a number
pub numbered : (e : Reason) → number_of e ≡ 0 → ⊥
numbered BadField h = omega arith
numbered TooMany h = omega arith
numbered OutOfRange h = omega arith
numbered NotGiven h = omega arith
numbered Taken h = omega arith
numbered BadEnd h = omega arith
numbered WrongSort h = omega arith
numbered Misread h = omega arith
numbered Misused h = omega arith
numbered TooCostly h = omega arith
numbered Unsound h = omega arith
numbered BadList h = omega arith
numbered ShortSpace h = omega arith
numbered BadItem h = omega arith
numbered Itself h = omega arith
numbered NothingPending h = omega arith
numbered DividedByZero h = omega arith
numbered BadFile h = omega arith
numbered Outside h = omega arith
numbered BadName h = omega arith

-- of the numbers from i on, the first
module _ (m : List Bool) (ks : List ℕ) (i : ℕ) (h : i < length ks) where
  next-taken : taken_in m (drop i ks) ≡ (get_or m (get_or ks i 0) false || taken_in (set m (get_or ks i 0) true) (drop (i + 1) ks))
  unfolding taken_in
  next-taken = rw (add-one, drop-cons ks i 0 h)

  next-with : with_taken m (drop i ks) ≡ with_taken (set m (get_or ks i 0) true) (drop (i + 1) ks)
  unfolding with_taken
  next-with = rw (add-one, drop-cons ks i 0 h)

  module _ {r : Result Unit Reason} {m' : List Bool} (t : Takes (get_or ks i 0) m r m') where
    -- it is taken already
    pub stops : {n : ℕ} {named : List Bool} {e : Reason} → r ≡ Err e → beyond n ks ≡ false → taken_in named ks ≡ taken_in m (drop i ks) → TakesKids ks n named (Err e) m'
    stops {n} {named} {e} q f p = go (get_or m (get_or ks i 0) false) refl
      where
        go : (b : Bool) → get_or m (get_or ks i 0) false ≡ b → TakesKids ks n named (Err e) m'
        go true o =
            let c : number_of e ≡ 5 = ap code (sym q) ∙ t.number ∙ rw o in
            record { number = c ∙ rw (f, p, next-taken, o); after = λ z. absurd (omega arith) }
        go false o = absurd (numbered e (ap code (sym q) ∙ t.number ∙ rw o))

    -- it is not
    free : r ≡ Ok tt → get_or m (get_or ks i 0) false ≡ false
    free q = go (get_or m (get_or ks i 0) false) refl
      where
        go : (b : Bool) → get_or m (get_or ks i 0) false ≡ b → b ≡ false
        go true o = let c : ◌≡◌ {A = ℕ} 0 5 = ap code (sym q) ∙ t.number ∙ rw o in absurd (omega arith)
        go false o = refl

    pub goes-taken : r ≡ Ok tt → taken_in m (drop i ks) ≡ taken_in m' (drop (i + 1) ks)
    goes-taken q = next-taken ∙ rw (free q, t.after (ap code q))

    pub goes-with : r ≡ Ok tt → with_taken m (drop i ks) ≡ with_taken m' (drop (i + 1) ks)
    goes-with q = next-with ∙ rw (t.after (ap code q))

pub all_taken : {ks : List ℕ} {n : ℕ} {named m : List Bool} (i : ℕ) → length ks ≤ i → beyond n ks ≡ false
    → taken_in named ks ≡ taken_in m (drop i ks) → with_taken named ks ≡ with_taken m (drop i ks) → TakesKids ks n named (Ok tt) m
unfolding taken_in with_taken
all_taken {ks} i h f p q =
    let e : drop i ks ≡ [] = drop_of_length-le ks h in
    record { number = rw (f, p, e); after = λ _. sym (q ∙ rw e) }
