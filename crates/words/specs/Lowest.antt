-- Laws of the lowest number that passes a test, and of the lowest bit of a word. Assumes nothing.
use Rattle.std.specs.Prelude.{ℕ, zero, suc, ◌/◌, ◌%◌, ◌<◌, ◌≤◌, ◌≡◌, refl, Bool, true, false, eqb, ltb}
use Rattle.std.proofs.Common.{arith, add-one, sym, ap, ◌∙◌, eqb-true, ltb-true, ltb-false}
use Rattle.std.proofs.Math.Decide.{ℕ_discrete}
use Rattle.std.specs.Int.Count.{under, count_trailing_zeros}
use Rattle.std.proofs.lemmas.Nat.{trailing_le}
use Rattle.std.proofs.lemmas.Bool.{eqb-false}
use Rattle.words.specs.Tests.{lowest, by_bool, clash, lowest_next, lowest_found, lowest_passes, lowest_none}
use Rattle.words.specs.Bits.{bit, bit_low, bit_next}

-- where nothing below i passes, the search gets to i
pub lowest_all : (f : ℕ → Bool) (i : ℕ) → ((j : ℕ) → j < i → f j ≡ false) → lowest f i ≡ i
unfolding lowest
lowest_all f zero h = refl
lowest_all f (suc i) h = ap (lowest f) (sym (add-one i)) ∙ lowest_next f i (lowest_all f i (λ j l. h j (omega arith))) (h i (omega arith)) ∙ add-one i

-- what it finds: the number up to n below which nothing passes, and that passes where it is below n
pub lowest_is : (f : ℕ → Bool) (n i : ℕ) → i ≤ n → ((j : ℕ) → j < i → f j ≡ false) → (i < n → f i ≡ true) → lowest f n ≡ i
lowest_is f n i l below passes = by_bool (ltb i n)
    (λ e. lowest_found f n i (ltb-true i n e) (lowest_all f i below) (passes (ltb-true i n e)))
    (λ e. let z : i ≡ n = (let g = ltb-false i n e in omega arith) in rw (← z) (lowest_all f i below))

-- nothing below it passes
pub lowest_first : (f : ℕ → Bool) (n i : ℕ) → i < lowest f n → f i ≡ false
unfolding lowest
lowest_first f zero i h = absurd (omega arith)
lowest_first f (suc n) i h = by_bool (ltb (lowest f n) n)
    (λ t. lowest_first f n i (rw t at h))
    (λ t. by_bool (f n)
    (λ e. lowest_none f n (ltb-false (lowest f n) n t) i (rw (t, e) at h))
    (λ e. let k : i < suc n = rw (t, e) at h in elim (ℕ_discrete i n) [ yes q ↦ rw q e | no q ↦ lowest_none f n (ltb-false (lowest f n) n t) i (omega arith) ]))

-- one that passes bounds it
pub lowest_bound : (f : ℕ → Bool) (n i : ℕ) → f i ≡ true → i < n → lowest f n ≤ i
lowest_bound f n i e l = by_bool (ltb i (lowest f n))
    (λ t. clash e (lowest_first f n i (ltb-true i (lowest f n) t)))
    (λ t. ltb-false i (lowest f n) t)

-- a test that agrees with f below n and passes at n finds what f finds
pub lowest_capped : (f g : ℕ → Bool) (n k : ℕ) → n < k → ((i : ℕ) → i < n → g i ≡ f i) → g n ≡ true → lowest g k ≡ lowest f n
lowest_capped f g n k l same top = by_bool (ltb (lowest f n) n)
    (λ t. let h = ltb-true (lowest f n) n t in
    lowest_is g k (lowest f n) (omega arith) (λ j m. same j (omega arith) ∙ lowest_first f n j m) (λ m. same (lowest f n) h ∙ lowest_passes f n h))
    (λ t. let h = ltb-false (lowest f n) n t in
    let e : lowest f n ≡ n = lowest_all f n (lowest_none f n h) in
    rw e (lowest_is g k n (omega arith) (λ j m. same j m ∙ lowest_none f n h j m) (λ m. top)))

-- two tests that agree find the same
pub lowest_same : (f g : ℕ → Bool) (n : ℕ) → ((k : ℕ) → k < n → f k ≡ g k) → lowest f n ≡ lowest g n
unfolding lowest
lowest_same f g zero h = refl
lowest_same f g (suc n) h = rw (h n (omega arith), lowest_same f g n (λ k l. h k (omega arith)))

-- the machine's count of trailing zeros is the lowest bit
trailing_clear : (k m j : ℕ) → j < count_trailing_zeros k m → bit m j ≡ false
unfolding count_trailing_zeros
trailing_clear zero m j h = absurd (omega arith)
trailing_clear (suc k) m zero h = by_bool (eqb (m % 2) 1)
    (λ e. absurd (let z : 0 < 0 = rw (eqb-true (m % 2) 1 e) at h in omega arith))
    (λ e. bit_low m ∙ e)
trailing_clear (suc k) m (suc j) h = by_bool (eqb (m % 2) 1)
    (λ e. absurd (let z : suc j < 0 = rw (eqb-true (m % 2) 1 e) at h in omega arith))
    (λ e. let z : m % 2 ≡ 0 = (let q = eqb-false (m % 2) 1 e in omega arith) in
    let g : suc j < suc (count_trailing_zeros k (m / 2)) = rw z at h in bit_next m j ∙ trailing_clear k (m / 2) j (omega arith))

trailing_set : (k m : ℕ) → count_trailing_zeros k m < k → bit m (count_trailing_zeros k m) ≡ true
unfolding count_trailing_zeros
trailing_set zero m h = absurd (omega arith)
trailing_set (suc k) m h = by_bool (eqb (m % 2) 1)
    (λ e. ap (λ (d : ℕ). bit m (under d (count_trailing_zeros k (m / 2)))) (eqb-true (m % 2) 1 e) ∙ bit_low m ∙ e)
    (λ e. let z : m % 2 ≡ 0 = (let q = eqb-false (m % 2) 1 e in omega arith) in
    ap (λ (d : ℕ). bit m (under d (count_trailing_zeros k (m / 2)))) z ∙ bit_next m (count_trailing_zeros k (m / 2))
    ∙ trailing_set k (m / 2) (let g : suc (count_trailing_zeros k (m / 2)) < suc k = rw z at h in omega arith))

pub trailing_lowest : (k m : ℕ) → count_trailing_zeros k m ≡ lowest (bit m) k
trailing_lowest k m = sym (lowest_is (bit m) k (count_trailing_zeros k m) (trailing_le k m) (trailing_clear k m) (trailing_set k m))
