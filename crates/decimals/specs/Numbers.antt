-- Document 01, the bench program: "Numbers have no leading zeros and 32 bits."
use Rattle.std.specs.Prelude.{ℕ, ◌+◌, ◌-◌, ◌*◌, Bool, ◌&&◌, ◌||◌, cond as if, List, [], ◌∷◌, Option, Some, None, leb, ltb, eqb, length, get_or}
use Rattle.decimals.specs.Digits.{base, digit_zero, digit_nine, largest}

-- "Numbers are decimal": the bytes '0' to '9'
abbrev pub is_digit : ℕ → Bool
is_digit b = leb digit_zero b && leb b digit_nine

-- the value so far, n, and one more digit b
abbrev pub and_digit : ℕ → ℕ → ℕ
and_digit n b = base * n + (b - digit_zero)

-- "Numbers have .. 32 bits": the number that starts with the value n and goes on with these digits
unfoldable pub digits_from : ℕ → List ℕ → Option ℕ
digits_from n [] = Some n
digits_from n (b ∷ bs) = if (is_digit b && leb (and_digit n b) largest) (digits_from (and_digit n b) bs) None

-- "Numbers have no leading zeros": the text starts with '0' and goes on
abbrev pub zero_leads : List ℕ → Bool
zero_leads s = eqb (get_or s 0 0) digit_zero && ltb 1 (length s)

-- "Numbers have no leading zeros and 32 bits.": the number that a field's bytes write, if they write one
unfoldable pub number_in : List ℕ → Option ℕ
number_in s = if (eqb (length s) 0 || zero_leads s) None (digits_from 0 s)
