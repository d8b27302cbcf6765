-- A word whose first byte is known: as many bytes more as lead behind it. Assumes nothing.
use mathlib.Core.Path.{◌≡◌, refl, ◌∙◌}
use mathlib.Core.Bool.{cond}
use mathlib.Core.List.{List, ◌∷◌}
use Prim.Native.Nat.{ℕ, suc, ◌+◌, ◌≤◌, ◌<◌}
use native.Mathlib.Omega.{arith}
use native.Mathlib.Numerals.{add-one}
use lib.ListN.{length, get_or, drop}
use lib.Seq.{drop-cons}
use Rattle.std.specs.Prelude.{Some}
use Rattle.notation.specs.Text.{ByteKind, blank_byte, left, right, word_byte, byte_kind}
use Rattle.lexemes.specs.declared.Kind.TheVariants.{Word}
use Rattle.lexemes.specs.Lexeme.{word_kind, blank_size, word_size, kind_of, next_lexeme}
use Rattle.lexemes.proofs.Leading.{word-cons, no-blank}
use Rattle.lexemes.proofs.Made.{firm}

pub word-more : (b : ℕ) (v : List ℕ) → blank_size (b ∷ v) ≡ 0 → kind_of (byte_kind b) ≡ Word → word_size (b ∷ v) ≡ suc (word_size v)
word-more b v z k = word-cons b v ∙ go (byte_kind b) refl k
  where
    go : (o : ByteKind) → byte_kind b ≡ o → kind_of o ≡ Word → cond (word_kind o) (suc (word_size v)) 0 ≡ suc (word_size v)
    go blank_byte e k = absurd (no-blank b v z e)
    go left e k = absurd cc
    go right e k = absurd cc
    go word_byte e k = refl

-- the token behind the blanks
pub word-next : (s : List ℕ) (at start b : ℕ) → at ≤ length s → start ≡ at + blank_size (drop at s) → start < length s → b ≡ get_or s start 0 → kind_of (byte_kind b) ≡ Word
    → Some (record { kind = Word; start = start; end = start + 1 + word_size (drop (start + 1) s) }) ≡ next_lexeme s at
word-next s at start b h q l g k =
    let z : blank_size (drop start s) ≡ 0 = rw q (firm s at) in
    let e : drop start s ≡ b ∷ drop (start + 1) s = rw (add-one, g) (drop-cons s start 0 l) in
    let m = word-more b (drop (start + 1) s) (rw e at z) k in
    let n : start + suc (word_size (drop (start + 1) s)) ≡ start + 1 + word_size (drop (start + 1) s) = omega arith in
    rw (← q, e, k, m, n) refl
