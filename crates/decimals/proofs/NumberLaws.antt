-- Laws of `number_in`.
use Prim.Native.Nat.{ℕ, ◌<◌, ◌≤◌}
use mathlib.Core.Path.{◌≡◌, refl}
use mathlib.Core.Logic.{◌⊎◌, inl, inr}
use mathlib.Core.Bool.{true, false, and-false}
use mathlib.Core.List.{List, [], ◌∷◌}
use native.Mathlib.Omega.{arith}
use lib.ListN.{length, get_or}
use borrow.Author.Tests.{le-leb, lt-leb, lt-ltb, le-ltb, eq-eqb, ne_eqb}
use Rattle.std.specs.Prelude.{Some, None}
use Rattle.decimals.specs.Digits.{digit_zero, largest}
use Rattle.decimals.specs.Numbers.{is_digit, and_digit, digits_from, number_in}

pub digits_end : (n : ℕ) → digits_from n [] ≡ Some n
unfolding digits_from
digits_end n = refl

module _ (n b : ℕ) (bs : List ℕ) where
  pub digits_other : is_digit b ≡ false → digits_from n (b ∷ bs) ≡ None
  unfolding digits_from
  digits_other h = rw h

  pub digits_over : largest < and_digit n b → digits_from n (b ∷ bs) ≡ None
  unfolding digits_from
  digits_over h = rw (lt-leb (and_digit n b) largest h, and-false (is_digit b))

  pub digits_more : is_digit b ≡ true → and_digit n b ≤ largest → digits_from n (b ∷ bs) ≡ digits_from (and_digit n b) bs
  unfolding digits_from
  digits_more h l = rw (h, le-leb (and_digit n b) largest l)

module _ (s : List ℕ) where
  pub number_empty : length s ≡ 0 → None ≡ number_in s
  unfolding number_in
  number_empty h = rw (eq-eqb (length s) 0 h)

  pub number_leads : get_or s 0 0 ≡ digit_zero → 1 < length s → None ≡ number_in s
  unfolding number_in
  number_leads z h = rw (ne_eqb (length s) 0 (λ e. omega arith), eq-eqb (get_or s 0 0) digit_zero z, lt-ltb 1 (length s) h)

  pub number_starts : (length s ≡ 0 → ⊥) → ◌⊎◌ ((get_or s 0 0 ≡ digit_zero) × (length s ≤ 1)) (get_or s 0 0 ≡ digit_zero → ⊥) → digits_from 0 s ≡ number_in s
  unfolding number_in
  number_starts n (inl h) = rw (ne_eqb (length s) 0 n, eq-eqb (get_or s 0 0) digit_zero h.0, le-ltb 1 (length s) h.1)
  number_starts n (inr h) = rw (ne_eqb (length s) 0 n, ne_eqb (get_or s 0 0) digit_zero h)
