-- What `==` says of modes, by their numbers, and of words; a test as a number.
use Rattle.std.specs.Prelude.{◌≡◌, Bool, true, false, cond, ◌&&◌, [], ◌∷◌, ◌≤◌, eqb}
use Rattle.std.proofs.Common.{refl, ap, arith, rules}
use lib.Pointwise.{pointwise}
use mir.Val.{bool_byte}
use denote.Enum.Bare.{sameb}
use Rattle.notation.specs.Words.{Word, same_word}
use Rattle.token_scans.specs.contracts.Mode.{the_type}
use Rattle.token_scans.specs.declared.Mode.{Mode}
use Rattle.token_scans.specs.Sought.{number_of}

pub modes-same : (a b : Mode) → sameb the_type a b ≡ eqb (number_of a) (number_of b)
modes-same a b = search rules

pub words-same : (v w : Word) → pointwise eqb v w ≡ same_word v w
words-same [] [] = refl
words-same [] (y ∷ w) = refl
words-same (x ∷ v) [] = refl
words-same (x ∷ v) (y ∷ w) = ap (λ (b : Bool). eqb x y && b) (words-same v w)

pub byte-cond : (b : Bool) → bool_byte b ≡ cond b 1 0
byte-cond true = refl
byte-cond false = refl

pub byte-small : (b : Bool) → bool_byte b ≤ 1
byte-small true = omega arith
byte-small false = omega arith
