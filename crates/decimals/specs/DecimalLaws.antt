-- Laws of `decimal`, and of what is written one after the other.
use Rattle.std.specs.Prelude.{ℕ, zero, suc, ◌+◌, ◌-◌, ◌/◌, ◌%◌, ◌^◌, ◌<◌, ◌≤◌, ◌≡◌, refl, Bool, true, false, cond as if, List, [], ◌∷◌, ◌++◌, ltb, length, set}
use Rattle.std.proofs.Common.{sym, ap, subst, ◌∙◌, pow-suc, div-lt_iff_lt-mul, add-suc, suc-add, add-zero, arith, length-append, lt-ltb, le-ltb, ltb-true, ltb-false}
use Rattle.std.proofs.lemmas.List.Edits.{sets}
use Rattle.decimals.specs.Digits.{base, digit_zero, most_digits}
use Rattle.decimals.specs.Decimal.{digits_in, decimal}

-- the choice of one digit or more, for either case
length_by : (t : Bool) (x : ℕ) (ds : List ℕ) (y k : ℕ) → length ds ≤ k → length (if t (x ∷ []) (ds ++ (y ∷ []))) ≤ suc k
length_by true x ds y k h = omega arith
length_by false x ds y k h = omega (arith, length-append ds (y ∷ []))

digits_length : (k n : ℕ) → length (digits_in k n) ≤ k
unfolding digits_in
digits_length zero n = omega arith
digits_length (suc k) n = length_by (ltb n base) (digit_zero + n) (digits_in k (n / base)) (digit_zero + n % base) k (digits_length k (n / base))

pub decimal_length : (n : ℕ) → length (decimal n) ≤ most_digits
unfolding decimal
decimal_length n = digits_length most_digits n

digits_one : (k n : ℕ) → n < base → digits_in (suc k) n ≡ (digit_zero + n) ∷ []
unfolding digits_in
digits_one k n h = rw (lt-ltb n base h)

digits_many : (k n : ℕ) → base ≤ n → digits_in (suc k) n ≡ digits_in k (n / base) ++ ((digit_zero + n % base) ∷ [])
unfolding digits_in
digits_many k n h = rw (le-ltb n base h)

room_by : (k n : ℕ) (t : Bool) → ltb n base ≡ t → digits_in (suc k) (n / base) ≡ digits_in (suc (suc k)) (n / base) → digits_in (suc (suc k)) n ≡ digits_in (suc (suc (suc k))) n
room_by k n true e r = digits_one (suc k) n (ltb-true n base e) ∙ sym (digits_one (suc (suc k)) n (ltb-true n base e))
room_by k n false e r =
    digits_many (suc k) n (ltb-false n base e)
    ∙ ap (λ (ds : List ℕ). ds ++ ((digit_zero + n % base) ∷ [])) r
    ∙ sym (digits_many (suc (suc k)) n (ltb-false n base e))

-- room for one digit more changes nothing where the number has no more
digits_room : (k n : ℕ) → n < base ^ suc k → digits_in (suc k) n ≡ digits_in (suc (suc k)) n
digits_room zero n h = digits_one 0 n h ∙ sym (digits_one 1 n h)
digits_room (suc k) n h =
    let l : n / base < base ^ suc k = (div-lt_iff_lt-mul {k = base} {x = n} {y = base ^ suc k} (omega arith)).1 (subst (λ (j : ℕ). n < j) (pow-suc base (suc k)) h) in
    room_by k n (ltb n base) refl (digits_room k (n / base) l)

pub decimal_one : (n : ℕ) → n < base → decimal n ≡ (digit_zero + n) ∷ []
unfolding decimal
decimal_one n h = digits_one (most_digits - 1) n h

pub decimal_more : (n : ℕ) → base ≤ n → n < 2 ^ 64 → decimal n ≡ decimal (n / base) ++ ((digit_zero + n % base) ∷ [])
unfolding decimal
decimal_more n h k = digits_many (most_digits - 1) n h ∙ ap (λ (ds : List ℕ). ds ++ ((digit_zero + n % base) ∷ [])) (digits_room (most_digits - 2) (n / base) (omega arith))

-- a text written after another
pub sets_append : (l : List ℕ) (i : ℕ) (vs ws : List ℕ) → sets l i (vs ++ ws) ≡ sets (sets l i vs) (i + length vs) ws
sets_append l i [] ws = ap (λ (j : ℕ). sets l j ws) (sym (add-zero i))
sets_append l i (v ∷ vs) ws = sets_append (set l i v) (suc i) vs ws ∙ ap (λ (j : ℕ). sets (sets (set l i v) (suc i) vs) j ws) (suc-add i (length vs) ∙ sym (add-suc i (length vs)))

pub width_one : (n : ℕ) → n < base → length (decimal n) ≡ 1
width_one n h = ap length (decimal_one n h)

pub width_more : (n : ℕ) → base ≤ n → n < 2 ^ 64 → length (decimal n) ≡ length (decimal (n / base)) + 1
width_more n h k = ap length (decimal_more n h k) ∙ length-append (decimal (n / base)) ((digit_zero + n % base) ∷ [])

pub one_written : (b : List ℕ) (at n : ℕ) → n < base → set b at (digit_zero + n) ≡ sets b at (decimal n)
one_written b at n h = ap (sets b at) (sym (decimal_one n h))

-- the digits before the last are written, and the last one after them
pub more_written : (b last : List ℕ) (at r n : ℕ) → base ≤ n → n < 2 ^ 64 → r ≡ at + length (decimal (n / base)) → last ≡ sets b at (decimal (n / base))
    → set last r (digit_zero + n % base) ≡ sets b at (decimal n)
more_written b last at r n h k p q =
    ap (λ (l : List ℕ). set l r (digit_zero + n % base)) q
    ∙ ap (λ (j : ℕ). set (sets b at (decimal (n / base))) j (digit_zero + n % base)) p
    ∙ sym (sets_append b at (decimal (n / base)) ((digit_zero + n % base) ∷ []))
    ∙ ap (sets b at) (sym (decimal_more n h k))
