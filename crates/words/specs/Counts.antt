-- Laws of counting: none, at most all, one more, and two tests together. Assumes nothing.
use Rattle.std.specs.Prelude.{ℕ, zero, suc, ◌+◌, ◌<◌, ◌≤◌, ◌≡◌, refl, Bool, true, false, ◌||◌}
use Rattle.std.proofs.Common.{arith, sym}
use Rattle.std.proofs.Math.Decide.{ℕ_discrete}
use Rattle.words.specs.Tests.{count, by_bool, count_same}

pub count_none : (f : ℕ → Bool) (n : ℕ) → ((k : ℕ) → f k ≡ false) → count f n ≡ 0
unfolding count
count_none f zero h = refl
count_none f (suc n) h = rw (h n, count_none f n h)

pub count_most : (f : ℕ → Bool) (n : ℕ) → count f n ≤ n
unfolding count
count_most f zero = omega arith
count_most f (suc n) = let m = count_most f n in by_bool (f n) (λ e. rw e (omega arith)) (λ e. rw e (omega arith))

-- one number below n fails the test
pub count_less : (f : ℕ → Bool) (n k : ℕ) → k < n → f k ≡ false → count f n < n
unfolding count
count_less f zero k l e = absurd (omega arith)
count_less f (suc n) k l e = elim (ℕ_discrete k n) [
  | yes q ↦ (let m = count_most f n in rw (rw q at e) (omega arith))
  | no q ↦ (let m = count_less f n k (omega arith) e in by_bool (f n) (λ d. rw d (omega arith)) (λ d. rw d (omega arith)))
]

-- one more number passes
pub count_more : (f g : ℕ → Bool) (n k : ℕ) → k < n → f k ≡ false → g k ≡ true → ((j : ℕ) → (j ≡ k → ⊥) → g j ≡ f j) → count g n ≡ count f n + 1
unfolding count
count_more f g zero k l e d h = absurd (omega arith)
count_more f g (suc n) k l e d h = elim (ℕ_discrete k n) [
  | yes r ↦ (let same = count_same g f n (λ j m. h j (λ z. absurd (omega arith))) in rw (rw r at e, rw r at d, same) (omega arith))
  | no r ↦ (let m = count_more f g n k (omega arith) e d h in rw (h n (λ z. r (sym z)), m) (by_bool (f n) (λ c. rw c (omega arith)) (λ c. rw c (omega arith))))
]

-- two tests that no number passes both of
pub count_either : (f g : ℕ → Bool) (n : ℕ) → ((k : ℕ) → k < n → f k ≡ true → g k ≡ false) → count (λ k. g k || f k) n ≡ count g n + count f n
unfolding count
count_either f g zero h = refl
count_either f g (suc n) h = let e = count_either f g n (λ k l. h k (omega arith)) in by_bool (f n)
    (λ t. rw (t, h n (omega arith) t, e) (omega arith))
    (λ t. rw (t, e) (by_bool (g n) (λ d. rw d (omega arith)) (λ d. rw d (omega arith))))
