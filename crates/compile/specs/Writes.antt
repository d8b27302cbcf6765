-- What the table and the numbers that wait are of a table that is being written. Definitions only: nothing is assumed.
use Rattle.std.specs.Prelude.{◌≡◌, cond, List, map, reverse, ℕ, ◌+◌, ◌-◌, ◌≤◌, eqb, length, take, get_or, set}
use Rattle.program.specs.Check.{check}
use Rattle.program.specs.Conditions.{definitions_of}
use Rattle.notation.specs.Grammar.{Program, program_tokens, FineProgram}
use Rattle.notation.proofs.Lexing.{lex}
use Rattle.translation.specs.Numbering.{byte, table}
use Rattle.tabling.specs.Fields.{flat_fields}
use Rattle.tabling.specs.Emit.{Output}
use Rattle.compile.specs.declared.Waiting.{Waiting}

-- the last of the first n numbers, 0 where there is none
abbrev pub last_of : List ℕ → ℕ → ℕ
last_of numbers n = cond (eqb n 0) 0 (get_or numbers (n - 1) 0)

-- a node more, behind the first n numbers
abbrev pub pushed : Waiting → ℕ → Waiting
pushed o n = record { numbers = set o.numbers n (byte o.nodes); len = n + 1; nodes = o.nodes + 1; defs = o.defs }

-- the table's fields, the numbers that wait, and how many there are, are those of the output
pub record Writes (t : List ℕ) (o : Waiting) (q : Output) : Type 0 where
  pub bytes : t ≡ flat_fields q.parts
  pub numbers : take o.len o.numbers ≡ map byte (reverse q.stack)
  pub waiting : o.len ≡ length q.stack
  pub nodes : o.nodes ≡ q.nodes
  pub defs : o.defs ≡ length (definitions_of q.parts)

-- there is room for one part more
pub record Able (t : List ℕ) (o : Waiting) : Type 0 where
  pub long : length o.numbers ≡ 257
  pub waiting : o.len ≤ 256
  pub nodes : o.nodes ≤ 256
  pub defs : o.defs ≤ 32
  pub small : length t + o.len ≤ 2464

-- what a function has added: the output that was written, with f of it, a node and a definition at most
pub record Adds (t : List ℕ) (o : Waiting) (t' : List ℕ) (o' : Waiting) (f : Output → Output) : Type 0 where
  pub long : length o'.numbers ≡ 257
  pub few : (o'.nodes ≤ o.nodes + 1) × (o'.defs ≤ o.defs + 1)
  pub writes : (q : Output) → Writes t o q → Writes t' o' (f q)

-- the bytes are the table of the text's program, or as much of it as the check refuses alike
pub record Compiles (s t : List ℕ) : Type 0 where
  pub same : (p : Program) → FineProgram p → lex s ≡ program_tokens p → check t ≡ check (table p)
  pub whole : (p : Program) → FineProgram p → lex s ≡ program_tokens p → (check (table p)).0 ≡ 0 → t ≡ table p
  pub within : length t ≤ 2560
