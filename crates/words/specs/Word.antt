-- A node as one word of 64 bits: five bits of form, four of item, four operands of ten bits, a body of ten bits, a count of three. Internal: no public
-- contract cites it. Definitions only: nothing is assumed.
use Rattle.std.specs.Prelude.{List, ℕ, ◌/◌, ◌%◌, get_or, ℤ, pos, ◌-ℤ◌}

-- what an operand can name, by its ten bits
abbrev pub node_numbers : ℕ
node_numbers = 1024

-- one of the forms in Form
abbrev pub form : ℕ → ℕ
form w = w % 32

-- the operator, parameter, variable or slot
abbrev pub item : ℕ → ℕ
item w = w / 32 % 16

-- the operands, in the order of the node's children
abbrev pub p1 : ℕ → ℕ
p1 w = w / 512 % node_numbers

abbrev pub p2 : ℕ → ℕ
p2 w = w / 524288 % node_numbers

abbrev pub p3 : ℕ → ℕ
p3 w = w / 536870912 % node_numbers

abbrev pub p4 : ℕ → ℕ
p4 w = w / 549755813888 % node_numbers

-- the body of the definition that is called or folded by, and how many arguments a call has
abbrev pub body : ℕ → ℕ
body w = w / 562949953421312 % node_numbers

abbrev pub count : ℕ → ℕ
count w = w / 576460752303423488 % 8

-- a constant is the word's upper half less 2^31
abbrev pub constant_of : ℕ → ℤ
constant_of w = pos (w / 4294967296) -ℤ pos 2147483648

-- node n's word
abbrev pub word : List ℕ → ℕ → ℕ
word ws n = get_or ws n 0
