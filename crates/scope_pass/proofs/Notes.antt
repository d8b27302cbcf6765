-- What a node's tree reads, from what its operands read. Assumes nothing.
use mathlib.Core.Path.{◌≡◌, refl, sym, ◌∙◌}
use mathlib.Core.Bool.{Bool, true, false, not, cond, ◌||◌, true≢false}
use mathlib.Core.List.{List, [], ◌∷◌}
use Prim.Native.Nat.{ℕ, ◌+◌, ◌-◌, ◌*◌, ◌/◌, ◌%◌, ◌^◌, ◌<◌}
use native.Mathlib.Omega.{arith}
use lib.ListN.{length, get_or, set, length-set}
use lib.Dec.{eqb, ltb}
use lib.Bits.{bit_and, bit_or, or_zero_r}
use borrow.Author.Count.{below_none}
use borrow.Author.Tests.{eqb-false, ltb-true, ltb-false, lt-ltb}
use Rattle.program.specs.Table.{among, node_limit}
use Rattle.decide.proofs.Picks.{neither}
use Rattle.program.specs.Tree.{nothing, misread}
use Rattle.bits.specs.Bits.{has_bit, all_bits}
use Rattle.decide.proofs.Below.{all-below}
use Rattle.bits.proofs.Bits.{same, same-eq, no-bit, or-bit, own-bit, bit-stays, no-high, shifted-high}
use Rattle.words.specs.Form.{constant_form, parameter_form, operator_form}
use Rattle.words.specs.Word.{form, item, word}
use Rattle.words.specs.Trees.{tree_at}
use Rattle.operands.specs.Formed.{width, operand, alone_set, read_set, is_alone, binds, reads, part, part_note, Formed}
use Rattle.operands.proofs.Below.{set_more}
use Rattle.operands.proofs.Alone.{alone_of}
use Rattle.operands.proofs.Views.{view}
use Rattle.scope_pass.specs.Reads.{variables_at, Allowed, Tells, Notes, Within, own_set, own_reads, inner_reads, parts_of, reads_of}
use Rattle.scope_pass.proofs.Misread.{own_list, kept_in, all-misread}

-- ---- what may be read
allowed-none : (count : ℕ) (kept : List ℕ) → Allowed count kept 0
allowed-none count kept =
    record { parameter = λ p h e. absurd (true≢false (sym e ∙ no-bit p)); variable = λ v h e. absurd (true≢false (sym e ∙ no-bit (variables_at + v))) }

-- of a tree that binds nothing: only parameters, below the count
allowed-below : (count m : ℕ) → count < 16 → m / 2 ^ count ≡ 0 → Allowed count [] m
allowed-below count m c z =
    record {
      parameter = λ p h e. go p e (ltb p count) refl;
      variable = λ v h e. absurd (no-high m count (variables_at + v) z (omega arith) e);
    }
  where
    go : (p : ℕ) → has_bit p m ≡ true → (b : Bool) → ltb p count ≡ b → p < count
    go p e true q = ltb-true p count q
    go p e false q = absurd (no-high m count p z (ltb-false p count q) e)

-- of a union, each side
module _ {count : ℕ} {kept : List ℕ} (a b : ℕ) (al : Allowed count kept (bit_or a b)) where
  first : (i : ℕ) → has_bit i a ≡ true → has_bit i (bit_or a b) ≡ true
  first i e = or-bit i a b ∙ rw e

  second : (i : ℕ) → has_bit i b ≡ true → has_bit i (bit_or a b) ≡ true
  second i e = or-bit i a b ∙ rw e (go (has_bit i a))
    where
      go : (x : Bool) → x || true ≡ true
      go true = refl
      go false = refl

  left : Allowed count kept a
  left = record { parameter = λ p h e. al.parameter p h (first p e); variable = λ v h e. al.variable v h (first (variables_at + v) e) }

  right : Allowed count kept b
  right = record { parameter = λ p h e. al.parameter p h (second p e); variable = λ v h e. al.variable v h (second (variables_at + v) e) }

-- under the update of a rep, its variable too
allowed-inner : (w m : ℕ) {count : ℕ} {kept : List ℕ} → Allowed count kept (inner_reads w m) → Allowed count (kept_in w kept) m
unfolding among
allowed-inner w m {count} {kept} al = go (binds w) al
  where
    go : (b : Bool) → Allowed count kept (cond b (bit_and m (all_bits - 2 ^ (variables_at + item w))) m) → Allowed count (cond b (item w ∷ kept) kept) m
    go false al = al
    go true al =
        record {
          parameter = λ p h e. al.parameter p h (bit-stays (variables_at + item w) p m (omega arith) (omega arith) (λ q. omega arith) e);
          variable = λ v h e. bound v h e (eqb v (item w)) refl;
        }
      where
        bound : (v : ℕ) → v < 16 → has_bit (variables_at + v) m ≡ true → (b : Bool) → eqb v (item w) ≡ b → b || among v kept ≡ true
        bound v h e true q = refl
        bound v h e false q =
            let d = eqb-false v (item w) q in
            al.variable v h (bit-stays (variables_at + item w) (variables_at + v) m (omega arith) (omega arith) (λ z. omega arith) e)

-- ---- the forms that read something of themselves: a parameter or those that read a variable, none of which names a node
owns : ℕ → Bool
owns f = same (has_bit f own_set) (eqb f parameter_form || has_bit f read_set)

own_is : (w : ℕ) → has_bit (form w) own_set ≡ eqb (form w) parameter_form || reads w
unfolding owns
own_is w = same-eq _ _ (all-below owns 32 refl (form w) (omega arith))

owned-alone : ℕ → Bool
owned-alone f = not (has_bit f own_set) || has_bit f alone_set

own_alone : (w : ℕ) → has_bit (form w) own_set ≡ true → is_alone w ≡ true
unfolding owned-alone
own_alone w e = rw e at (all-below owned-alone 32 refl (form w) (omega arith))

-- ---- what a node reads, by its form
-- the bit of variable i, as it is shifted to its place
pub high_bit : (i : ℕ) → i < 16 → 65536 * 2 ^ i % 4294967296 ≡ 2 ^ (variables_at + i)
high_bit = shifted-high

module _ (us : List ℕ) (w : ℕ) where
  pub reads_own : has_bit (form w) own_set ≡ true → reads_of us w ≡ own_reads w
  unfolding reads_of
  reads_own e = rw e

  pub reads_parts : has_bit (form w) own_set ≡ false → reads_of us w ≡ parts_of us w
  unfolding reads_of
  reads_parts e = rw e

  pub reads_constant : form w ≡ constant_form → reads_of us w ≡ 0
  unfolding width
  reads_constant h = reads_parts (rw h) ∙ rw h

  pub reads_operator : form w ≡ operator_form → reads_of us w ≡ bit_or (part_note 0 us w 0) (part_note 0 us w 1)
  unfolding width
  reads_operator h = reads_parts (rw h) ∙ rw h (simp or_zero_r)

-- ---- a node's tree misreads nothing wherever what it reads may be read
module _ {ws us : List ℕ} {n : ℕ} (f : Formed ws n) (m : Notes ws us n) (count : ℕ) where
  abbrev w : ℕ
  w = word ws n

  part-clean : (kept : List ℕ) (j : ℕ) → j < 4 → Allowed count kept (part_note 0 us w j) → misread count kept (part ws w j) ≡ []
  unfolding misread
  part-clean kept j h al = go (ltb j (width w)) refl al
    where
      go : (b : Bool) → ltb j (width w) ≡ b → Allowed count kept (cond b (get_or us (operand w j) 0) 0)
          → misread count kept (cond b (tree_at ws (operand w j)) nothing) ≡ []
      go true e al = (m.told (operand w j) (f.operands j h (ltb-true j (width w) e))).none count kept al
      go false e al = refl

  own-clean : (kept : List ℕ) → has_bit (form w) own_set ≡ true → Allowed count kept (own_reads w) → own_list n w count kept ≡ []
  own-clean kept o al = go (eqb (form w) parameter_form) refl al
    where
      go : (b : Bool) → eqb (form w) parameter_form ≡ b → Allowed count kept (cond b (2 ^ item w) (2 ^ (variables_at + item w)))
          → cond b (cond (ltb (item w) count) [] (n ∷ [])) (cond (reads w) (cond (among (item w) kept) [] (n ∷ [])) []) ≡ []
      go true e al = rw (lt-ltb (item w) count (al.parameter (item w) (omega arith) (own-bit (item w) (omega arith))))
      go false e al =
          let r : reads w ≡ true = rw e at (sym (own_is w) ∙ o) in
          rw (r, al.variable (item w) (omega arith) (own-bit (variables_at + item w) (omega arith)))

  together : (kept : List ℕ) → own_list n w count kept ≡ [] → Allowed count kept (parts_of us w) → misread count kept (tree_at ws n) ≡ []
  together kept o al =
      let a = left (bit_or (bit_or (part_note 0 us w 0) (inner_reads w (part_note 0 us w 1))) (part_note 0 us w 2)) (part_note 0 us w 3) al in
      let b = left (bit_or (part_note 0 us w 0) (inner_reads w (part_note 0 us w 1))) (part_note 0 us w 2) a in
      all-misread (view f) count kept
      ∙ rw (
        o,
        part-clean kept 0 (omega arith) (left (part_note 0 us w 0) (inner_reads w (part_note 0 us w 1)) b),
        part-clean (kept_in w kept) 1 (omega arith) (allowed-inner w (part_note 0 us w 1) (right (part_note 0 us w 0) (inner_reads w (part_note 0 us w 1)) b)),
        part-clean kept 2 (omega arith) (right (bit_or (part_note 0 us w 0) (inner_reads w (part_note 0 us w 1))) (part_note 0 us w 2) a),
        part-clean kept 3 (omega arith) (right (bit_or (bit_or (part_note 0 us w 0) (inner_reads w (part_note 0 us w 1))) (part_note 0 us w 2)) (part_note 0 us w 3) al),
      )

  node-clean : (kept : List ℕ) → Allowed count kept (reads_of us w) → misread count kept (tree_at ws n) ≡ []
  unfolding reads_of
  node-clean kept al = go (has_bit (form w) own_set) refl al
    where
      go : (b : Bool) → has_bit (form w) own_set ≡ b → Allowed count kept (cond b (own_reads w) (parts_of us w)) → misread count kept (tree_at ws n) ≡ []
      go true o al = let l = alone_of w (own_alone w o) in together kept (own-clean kept o al) (rw (l.narrow, l.free) (allowed-none count kept))
      go false o al = let (p, r) = neither (eqb (form w) parameter_form) (reads w) (sym (own_is w) ∙ o) in together kept (rw (p, r)) al

-- ---- one more node noted
pub notes-none : {ws us : List ℕ} → length us ≡ node_limit → Notes ws us 0
notes-none e = record { long = e; told = below_none _ }

pub notes-more : {ws us : List ℕ} {n m : ℕ} → n < node_limit → Formed ws n → Notes ws us n → m ≡ reads_of us (word ws n) → Notes ws (set us n m) (n + 1)
notes-more {ws} {us} {n} {m} h f s e =
    record {
      long = length-set us n m ∙ s.long;
      told = set_more (λ k. Tells (tree_at ws k)) us n m 0 (omega (arith, s.long)) s.told
          (record { none = λ count kept al. node-clean f s count kept (rw e at al) });
    }

-- ---- the trees
module _ {ws us : List ℕ} (last : ℕ) (s : Notes ws us (last + 1)) where
  pub body_clean : {body count : ℕ} → Within us last body count → misread count [] (tree_at ws body) ≡ []
  body_clean {body} {count} h = (s.told body (omega (arith, h.noted))).none count [] (allowed-below count (get_or us body 0) h.few h.low)

  pub root-clean : get_or us last 0 ≡ 0 → misread 0 [] (tree_at ws last) ≡ []
  root-clean z = (s.told last (omega arith)).none 0 [] (rw z (allowed-none 0 []))
