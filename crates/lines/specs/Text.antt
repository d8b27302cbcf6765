-- What the replay prints, as bytes of ASCII. Definitions only: nothing is assumed.
use Rattle.std.specs.Prelude.{cond, List, [], ◌∷◌, ◌++◌, ℕ, zero, suc, ◌+◌, ◌*◌, ◌/◌, ◌%◌, get_or, ltb, ℤ, pos, negsuc}
use Rattle.event.specs.Calls.{answer_width}

-- a digit; the digits of n with none in front that is not needed, k + 1 at the most
abbrev pub digit : ℕ → ℕ
digit d = 48 + d

unfoldable pub spelt : ℕ → ℕ → List ℕ
spelt zero n = digit (n % 10) ∷ []
spelt (suc k) n = cond (ltb n 10) (digit (n % 10) ∷ []) (spelt k (n / 10) ++ (digit (n % 10) ∷ []))

-- a number in decimal: n has at most n + 1 digits
unfoldable pub decimal : ℕ → List ℕ
decimal n = spelt n n

-- a minus before the digits where it is negative
unfoldable pub signed_text : ℤ → List ℕ
signed_text (pos n) = decimal n
signed_text (negsuc n) = 45 ∷ decimal (suc n)

abbrev pub space : List ℕ
space = 32 ∷ []

abbrev pub line_end : List ℕ
line_end = 10 ∷ []

-- "prints per event its index from 0, code and value"
unfoldable pub line : ℕ → ℤ → ℤ → List ℕ
line i code value = decimal i ++ space ++ signed_text code ++ space ++ signed_text value ++ line_end

-- the lines of the n events from i on, whose answers stand in pairs of cells, event i's in pair i
unfoldable pub lines : ℕ → ℕ → List ℤ → List ℕ
lines i zero cells = []
lines i (suc n) cells = line i (get_or cells (answer_width * i) (pos 0)) (get_or cells (answer_width * i + 1) (pos 0)) ++ lines (suc i) n cells

-- "the one line `refused N P`"
abbrev pub word : List ℕ
word = 114 ∷ 101 ∷ 102 ∷ 117 ∷ 115 ∷ 101 ∷ 100 ∷ 32 ∷ []

unfoldable pub refused_line : ℕ → ℕ → List ℕ
refused_line number place = word ++ decimal number ++ space ++ decimal place ++ line_end

-- bytes in which every line fits
abbrev pub line_room : ℕ
line_room = 80
