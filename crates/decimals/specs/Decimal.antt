-- Document 01, the bench program: "Each output line is line number, answer (0 or a refusal) and value", and "Numbers are decimal".
use Rattle.std.specs.Prelude.{ℕ, zero, suc, ◌+◌, ◌/◌, ◌%◌, cond as if, List, [], ◌∷◌, ◌++◌, ltb}
use Rattle.decimals.specs.Digits.{base, digit_zero, most_digits}

-- "Numbers are decimal": the digits of n, at most so many of them
unfoldable pub digits_in : ℕ → ℕ → List ℕ
digits_in zero n = []
digits_in (suc k) n = if (ltb n base) ((digit_zero + n) ∷ []) (digits_in k (n / base) ++ ((digit_zero + n % base) ∷ []))

-- "Numbers are decimal": the digits of a number of up to 64 bits
unfoldable pub decimal : ℕ → List ℕ
decimal n = digits_in most_digits n
