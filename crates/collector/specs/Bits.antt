-- Booleans whose connectives stay shut, so that `_` is solved at a use, and bounded searches. Assumes nothing.
use Rattle.std.specs.Prelude.{ℕ, zero, suc, ◌+◌, ◌≤◌, ◌<◌, ◌≡◌, refl, Bool, true, false, not, cond, ◌⊎◌}
use Rattle.std.proofs.Common.{arith, not-suc-le-zero, sym, inl, inr}
use Rattle.std.proofs.Math.Decide.{ℕ_discrete}

infixl 35 ◌and◌
infixl 30 ◌or◌
unfoldable pub ◌and◌ : Bool → Bool → Bool
true and b = b
false and b = false

unfoldable pub ◌or◌ : Bool → Bool → Bool
true or b = true
false or b = b

pub by_bool : {A : Type 0} (b : Bool) → (b ≡ true → A) → (b ≡ false → A) → A
by_bool true f g = f refl
by_bool false f g = g refl

pub clash : {A : Type 0} {b : Bool} → b ≡ true → b ≡ false → A
clash {A} {b} p q = let z : ◌≡◌ {A = ℕ} 0 1 = cc in absurd (omega arith)

pub and_l : (a b : Bool) → (a and b) ≡ true → a ≡ true
unfolding ◌and◌
and_l true b h = refl
and_l false b h = h

pub and_r : (a b : Bool) → (a and b) ≡ true → b ≡ true
unfolding ◌and◌
and_r true b h = h
and_r false b h = clash h refl

pub and_intro : (a b : Bool) → a ≡ true → b ≡ true → (a and b) ≡ true
unfolding ◌and◌
and_intro true b p q = q
and_intro false b p q = p

pub false_and : (b : Bool) → (false and b) ≡ false
unfolding ◌and◌
false_and b = refl

pub true_and : (b : Bool) → (true and b) ≡ b
unfolding ◌and◌
true_and b = refl

pub and_false : (b : Bool) → (b and false) ≡ false
unfolding ◌and◌
and_false true = refl
and_false false = refl

pub and_true : (b : Bool) → (b and true) ≡ b
unfolding ◌and◌
and_true true = refl
and_true false = refl

pub or_false : (b : Bool) → (b or false) ≡ b
unfolding ◌or◌
or_false true = refl
or_false false = refl

pub or_true : (b : Bool) → (b or true) ≡ true
unfolding ◌or◌
or_true true = refl
or_true false = refl

pub or_l : (a b : Bool) → a ≡ true → (a or b) ≡ true
unfolding ◌or◌
or_l true b h = refl
or_l false b h = clash h refl

pub or_r : (a b : Bool) → b ≡ true → (a or b) ≡ true
unfolding ◌or◌
or_r true b h = refl
or_r false b h = h

pub or_cases : (a b : Bool) → (a or b) ≡ true → (a ≡ true) ⊎ (b ≡ true)
unfolding ◌or◌
or_cases true b h = inl refl
or_cases false b h = inr h

pub or_false_l : (a b : Bool) → (a or b) ≡ false → a ≡ false
unfolding ◌or◌
or_false_l true b h = h
or_false_l false b h = refl

pub or_false_r : (a b : Bool) → (a or b) ≡ false → b ≡ false
unfolding ◌or◌
or_false_r true b h = clash refl h
or_false_r false b h = h

pub or_swap : (a b c : Bool) → (a or b or c) ≡ (a or c or b)
unfolding ◌or◌
or_swap true b c = refl
or_swap false true c = sym (or_true c)
or_swap false false c = sym (or_false c)

pub or_and : (a b c : Bool) → ((a or b) and c) ≡ ((a and c) or (b and c))
unfolding ◌and◌ ◌or◌
or_and true b true = refl
or_and true b false = sym (and_false b)
or_and false b c = refl

pub not_true : (a : Bool) → not a ≡ true → a ≡ false
not_true true h = clash h refl
not_true false h = refl

-- some number below n passes the test; every number below n does
unfoldable pub anyb : ℕ → (ℕ → Bool) → Bool
anyb zero p = false
anyb (suc n) p = p n or anyb n p

unfoldable pub allb : ℕ → (ℕ → Bool) → Bool
allb zero p = true
allb (suc n) p = p n and allb n p

pub anyb_intro : (n : ℕ) (p : ℕ → Bool) (k : ℕ) → k < n → p k ≡ true → anyb n p ≡ true
unfolding anyb
anyb_intro zero p k h e = absurd (not-suc-le-zero h)
anyb_intro (suc n) p k h e = elim (ℕ_discrete k n) [ yes q ↦ or_l _ _ (rw (← q) e) | no q ↦ or_r _ _ (anyb_intro n p k (omega arith) e) ]

pub anyb_elim : {A : Type 0} (n : ℕ) (p : ℕ → Bool) → anyb n p ≡ true → ((k : ℕ) → k < n → p k ≡ true → A) → A
unfolding anyb
anyb_elim zero p h f = clash h refl
anyb_elim (suc n) p h f = elim (or_cases _ _ h) [ inl e ↦ f n (omega arith) e | inr e ↦ anyb_elim n p e (λ k l. f k (omega arith)) ]

pub allb_elim : (n : ℕ) (p : ℕ → Bool) → allb n p ≡ true → (k : ℕ) → k < n → p k ≡ true
unfolding allb
allb_elim zero p h k l = absurd (not-suc-le-zero l)
allb_elim (suc n) p h k l = elim (ℕ_discrete k n) [ yes q ↦ rw q (and_l _ _ h) | no q ↦ allb_elim n p (and_r _ _ h) k (omega arith) ]

-- the first number from k on, among n, that passes the test; k + n where none does
unfoldable pub first : ℕ → ℕ → (ℕ → Bool) → ℕ
first zero k p = k
first (suc n) k p = cond (p k) k (first n (suc k) p)

pub first_none : (n k : ℕ) (p : ℕ → Bool) → p (first n k p) ≡ false → (j : ℕ) → k ≤ j → j < k + n → p j ≡ false
unfolding first
first_none zero k p h j l u = absurd (omega arith)
first_none (suc n) k p h j l u = by_bool (p k)
    (λ e. clash e (rw e at h))
    (λ e. elim (ℕ_discrete j k) [ yes q ↦ rw q e | no q ↦ first_none n (suc k) p (rw e at h) j (omega arith) (omega arith) ])

-- how many numbers below n pass the test
unfoldable pub countb : ℕ → (ℕ → Bool) → ℕ
countb zero p = 0
countb (suc n) p = cond (p n) 1 0 + countb n p
