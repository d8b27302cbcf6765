-- The brackets that are open behind a token, by its kind. Assumes nothing.
use mathlib.Core.Path.{◌≡◌, refl}
use mathlib.Core.List.{List}
use Prim.Native.Nat.{ℕ, ◌+◌, ◌≤◌}
use native.Mathlib.Omega.{arith}
use Rattle.lexemes.specs.declared.Kind.{Kind}
use Rattle.lexemes.specs.declared.Kind.TheVariants.{Opening, Closing, Word}
use Rattle.lexemes.specs.Lexeme.{token_by, depth_after, depth_by}

pub depth-kind : (d : ℕ) (k : Kind) (w : List ℕ) → depth_after d (token_by k w) ≡ depth_by d k
depth-kind d Opening w = refl
depth-kind d Closing w = refl
depth-kind d Word w = refl

pub depth-most : (d : ℕ) (k : Kind) → depth_by d k ≤ d + 1
depth-most d Opening = omega arith
depth-most d Closing = omega arith
depth-most d Word = omega arith
