-- The digits of a number, and how large a number is.
use Rattle.std.specs.Prelude.{ℕ}

-- "Numbers are decimal"
abbrev pub base : ℕ
base = 10

-- the bytes '0' and '9'

-- the byte of digit 0
abbrev pub digit_zero : ℕ
digit_zero = 48

-- the byte of digit 9
abbrev pub digit_nine : ℕ
digit_nine = 57

-- "Numbers have no leading zeros and 32 bits."
abbrev pub largest : ℕ
largest = 4294967295

-- the digits of a number of 64 bits, as a line's number is one
abbrev pub most_digits : ℕ
most_digits = 20
