-- A line longer than `set` with four numbers of ten digits is no call.
use Rattle.std.specs.Prelude.{ℕ, suc, ◌+◌, ◌*◌, ◌^◌, ◌<◌, ◌≤◌, ◌≡◌, refl, ◌⊎◌, Bool, true, false, ◌&&◌, ◌||◌, cond as if, List, [], ◌∷◌, Option, Some, None, leb, ltb, eqb, length}
use Rattle.std.proofs.Common.{sym, ap, subst, ◌∙◌, inl, inr, pow-suc, mul-le-mul_right, mul_assoc, mul_comm, one-mul, le_trans, add-zero, add_assoc, eq-or-lt_of_le, arith, leb-true, leb-false, ltb-false}
use Rattle.std.proofs.Math.Nat.{pow-le-pow_right}
use Rattle.std.proofs.lemmas.Bool.{eqb-false}
use Rattle.texts.specs.Text.{comma}
use Rattle.texts.specs.Same.{same}
use Rattle.texts.specs.SameLaws.{same_lengths}
use Rattle.texts.specs.Lines.{onto}
use Rattle.texts.specs.Fields.{fields_of}
use Rattle.decimals.specs.Digits.{base, digit_zero, digit_nine, largest}
use Rattle.decimals.specs.Numbers.{is_digit, and_digit, digits_from, number_in}
use Rattle.bench_names.specs.Names.{begin, commit, abort, lockr, lockw, flush, read, create, set, store, force, empty, pass, step, reopen, restep}
use Rattle.bench_names.specs.Names.{call_alone, call_one, call_two, call_four}
use Rattle.bench_names.specs.declared.Command.TheVariants.{NoCall}
use Rattle.bench_commands.specs.Commands.{and_number, numbers_from, call_of, call_of_fields, command_of}
use Rattle.bench_commands.specs.declared.Numbers.{Numbers}
use Rattle.bench_commands.specs.declared.Numbers.TheVariants.{Zero, One, Two, Three, Four}

-- the most bytes of a number, of a number with its comma, and of a name; those of `set`, the one call with four numbers

abbrev digits : ℕ
digits = 10

abbrev field : ℕ
field = digits + 1

abbrev longest : ℕ
longest = 6

abbrev set_bytes : ℕ
set_bytes = 3

-- the most bytes of a call
abbrev pub call_bytes : ℕ
call_bytes = set_bytes + 4 * field

-- the bytes of the fields, each with a comma
total : List (List ℕ) → ℕ
total [] = 0
total (f ∷ fs) = length f + 1 + total fs

total_onto : (b : ℕ) (fs : List (List ℕ)) → 0 < total fs → total (onto b fs) ≡ suc (total fs)
unfolding total
total_onto b [] h = absurd (omega arith)
total_onto b (f ∷ fs) h = omega arith

total_by : (t : Bool) (b n : ℕ) (fs : List (List ℕ)) → total fs ≡ n + 1 → total (if t ([] ∷ fs) (onto b fs)) ≡ suc n + 1
unfolding total
total_by true b n fs e = omega arith
total_by false b n fs e = omega (arith, total_onto b fs (omega arith))

total_fields : (s : List ℕ) → total (fields_of s) ≡ length s + 1
unfolding total fields_of
total_fields [] = refl
total_fields (b ∷ bs) = total_by (eqb b comma) b (length bs) (fields_of bs) (total_fields bs)

-- tests that are known
not_some : {m : ℕ} → None ≡ Some m → ⊥
not_some e = let z : ◌≡◌ {A = ℕ} 0 1 = cc in omega arith

not_both : false ≡ true → ⊥
not_both e = let z : ◌≡◌ {A = ℕ} 0 1 = cc in omega arith

and_split : (a b : Bool) → a && b ≡ true → (a ≡ true) × (b ≡ true)
and_split true b h = (refl, h)
and_split false b h = absurd (not_both h)

-- digits that follow the value n make at least n with so many zeros
grow_by : (t : Bool) (n k m : ℕ) (bs : List ℕ) → base * n ≤ k → (digits_from k bs ≡ Some m → k * base ^ length bs ≤ m)
    → if t (digits_from k bs) None ≡ Some m → n * base ^ suc (length bs) ≤ m
grow_by false n k m bs h r e = absurd (not_some e)
grow_by true n k m bs h r e =
    let p : n * base ^ suc (length bs) ≡ base * n * base ^ length bs = ap (λ (j : ℕ). n * j) (pow-suc base (length bs) ∙ mul_comm (base ^ length bs) base) ∙ sym (mul_assoc n base (base ^ length bs)) ∙ ap (λ (j : ℕ). j * base ^ length bs) (mul_comm n base) in
    rw p (le_trans (mul-le-mul_right (base ^ length bs) h) (r e))

digits_grow : (n m : ℕ) (s : List ℕ) → digits_from n s ≡ Some m → n * base ^ length s ≤ m
unfolding digits_from
digits_grow n m [] e = let q : n ≡ m = cc in omega arith
digits_grow n m (b ∷ bs) e = grow_by (is_digit b && leb (and_digit n b) largest) n (and_digit n b) m bs (omega arith) (digits_grow (and_digit n b) m bs) e

-- a number has 32 bits
most_by : (d l : Bool) (k m : ℕ) (bs : List ℕ) → (l ≡ true → k ≤ largest) → (digits_from k bs ≡ Some m → k ≤ largest → m ≤ largest)
    → if (d && l) (digits_from k bs) None ≡ Some m → m ≤ largest
most_by false l k m bs h r e = absurd (not_some e)
most_by true false k m bs h r e = absurd (not_some e)
most_by true true k m bs h r e = r e (h refl)

digits_most : (n m : ℕ) (s : List ℕ) → digits_from n s ≡ Some m → n ≤ largest → m ≤ largest
unfolding digits_from
digits_most n m [] e h = let q : n ≡ m = cc in omega arith
digits_most n m (b ∷ bs) e h =
    most_by (is_digit b) (leb (and_digit n b) largest) (and_digit n b) m bs (leb-true (and_digit n b) largest) (digits_most (and_digit n b) m bs) e

-- a first digit other than '0', and ten more
above : (b : ℕ) → (b ≡ digit_zero → ⊥) → (digit_zero ≡ b) ⊎ (digit_zero < b) → digit_zero < b
above b n (inl e) = absurd (n (sym e))
above b n (inr h) = h

first_by : (x y z : Bool) (b m : ℕ) (bs : List ℕ) → (x ≡ true → digit_zero ≤ b) → (z ≡ true → and_digit 0 b ≤ largest) → (b ≡ digit_zero → ⊥) → digits ≤ length bs
    → if (x && y && z) (digits_from (and_digit 0 b) bs) None ≡ Some m → ⊥
first_by false y z b m bs hx hz n l e = not_some e
first_by true false z b m bs hx hz n l e = not_some e
first_by true true false b m bs hx hz n l e = not_some e
first_by true true true b m bs hx hz n l e =
    let v = and_digit 0 b in
    let h : digit_zero < b = above b n (eq-or-lt_of_le (hx refl)) in
    let one : 1 ≤ v = omega arith in
    let p : base ^ digits ≤ base ^ length bs = pow-le-pow_right (omega arith) l in
    let q : 1 * base ^ length bs ≤ v * base ^ length bs = mul-le-mul_right (base ^ length bs) one in
    omega (arith, digits_grow v m bs e, digits_most v m bs e (hz refl), one-mul (base ^ length bs))

first_long : (b m : ℕ) (bs : List ℕ) → (b ≡ digit_zero → ⊥) → digits ≤ length bs → digits_from 0 (b ∷ bs) ≡ Some m → ⊥
unfolding digits_from
first_long b m bs n l e =
    first_by (leb digit_zero b) (leb b digit_nine) (leb (and_digit 0 b) largest) b m bs (leb-true digit_zero b) (leb-true (and_digit 0 b) largest) n l e

-- a number has at most ten digits
short_by : (t u w k : Bool) (b m : ℕ) (bs : List ℕ) → (u ≡ false → b ≡ digit_zero → ⊥) → (w ≡ false → suc (length bs) ≤ 1) → leb (length bs) 9 ≡ k
    → if (t || u && w) None (digits_from 0 (b ∷ bs)) ≡ Some m → suc (length bs) ≤ digits
short_by t u w true b m bs hu hw hk e = omega (arith, leb-true (length bs) 9 hk)
short_by true u w false b m bs hu hw hk e = absurd (not_some e)
short_by false false w false b m bs hu hw hk e = absurd (first_long b m bs (hu refl) (omega (arith, leb-false (length bs) 9 hk)) e)
short_by false true true false b m bs hu hw hk e = absurd (not_some e)
short_by false true false false b m bs hu hw hk e = omega (arith, hw refl)

number_short : (f : List ℕ) (m : ℕ) → number_in f ≡ Some m → length f ≤ digits
unfolding number_in
number_short [] m e = omega arith
number_short (b ∷ bs) m e =
    short_by (eqb (suc (length bs)) 0) (eqb b digit_zero) (ltb 1 (suc (length bs))) (leb (length bs) 9) b m bs
    (eqb-false b digit_zero) (ltb-false 1 (suc (length bs))) refl e

-- the bytes of the fields that these numbers can have been
abbrev Within : Option Numbers → ℕ → Type 0
Within (Some Zero) n = n ≤ 0
Within (Some (One a)) n = n ≤ field
Within (Some (Two a b)) n = n ≤ 2 * field
Within (Some (Three a b c)) n = n ≤ 3 * field
Within (Some (Four a b c d)) n = n ≤ 4 * field
Within None n = Unit {0}

within_number : (ns : Option Numbers) (n : ℕ) (f : List ℕ) (x : Option ℕ) → number_in f ≡ x → Within ns n → Within (and_number ns x) (n + (length f + 1))
within_number ns n f None e h = tt
within_number (Some Zero) n f (Some a) e h = omega (arith, number_short f a e)
within_number (Some (One a)) n f (Some b) e h = omega (arith, number_short f b e)
within_number (Some (Two a b)) n f (Some c) e h = omega (arith, number_short f c e)
within_number (Some (Three a b c)) n f (Some d) e h = omega (arith, number_short f d e)
within_number (Some (Four a b c d)) n f (Some a') e h = tt
within_number None n f (Some a) e h = tt

within_numbers : (ns : Option Numbers) (n : ℕ) (fs : List (List ℕ)) → Within ns n → Within (numbers_from ns fs) (n + total fs)
unfolding total numbers_from
within_numbers ns n [] h = subst (Within ns) (sym (add-zero n)) h
within_numbers ns n (f ∷ fs) h =
    subst (Within (numbers_from (and_number ns (number_in f)) fs)) (add_assoc n (length f + 1) (total fs))
    (within_numbers (and_number ns (number_in f)) (n + (length f + 1)) fs (within_number ns n f (number_in f) refl h))

-- a name longer than every name
module _ (name : List ℕ) (h : longest < length name) where
  other : (t : List ℕ) → length t ≤ longest → same name t ≡ false
  other t k = same_lengths name t (λ e. omega arith)

  alone_long : call_alone name ≡ NoCall
  unfolding call_alone
  alone_long = rw (other force (omega arith), other empty (omega arith), other pass (omega arith), other step (omega arith), other reopen (omega arith), other restep (omega arith))

  one_long : (a : ℕ) → call_one name a ≡ NoCall
  unfolding call_one
  one_long a = rw (other begin (omega arith), other commit (omega arith), other abort (omega arith), other store (omega arith))

  two_long : (a b : ℕ) → call_two name a b ≡ NoCall
  unfolding call_two
  two_long a b = rw (other lockr (omega arith), other lockw (omega arith), other flush (omega arith), other read (omega arith), other create (omega arith))

four_long : (name : List ℕ) (a b c d : ℕ) → set_bytes < length name → call_four name a b c d ≡ NoCall
unfolding call_four
four_long name a b c d h = rw (same_lengths name set (λ e. omega arith))

call_long : (name : List ℕ) (ns : Option Numbers) (n : ℕ) → Within ns n → call_bytes < length name + n → call_of name ns ≡ NoCall
call_long name (Some Zero) n w h = alone_long name (omega arith)
call_long name (Some (One a)) n w h = one_long name (omega arith) a
call_long name (Some (Two a b)) n w h = two_long name (omega arith) a b
call_long name (Some (Three a b c)) n w h = refl
call_long name (Some (Four a b c d)) n w h = four_long name a b c d (omega arith)
call_long name None n w h = refl

fields_long : (fs : List (List ℕ)) → call_bytes + 1 < total fs → call_of_fields fs ≡ NoCall
unfolding total
fields_long [] h = refl
fields_long (name ∷ fs) h =
    call_long name (numbers_from (Some Zero) fs) (0 + total fs) (within_numbers (Some Zero) 0 fs (omega arith)) (omega arith)

pub long_no_call : (line : List ℕ) → call_bytes < length line → command_of line ≡ NoCall
unfolding command_of
long_no_call line h = fields_long (fields_of line) (omega (arith, total_fields line))
