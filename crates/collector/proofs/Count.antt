-- Laws of counting. Assumes nothing.
use Prim.Native.Nat.{ℕ, zero, suc, ◌≤◌, ◌<◌}
use native.Mathlib.Omega.{arith}
use native.Mathlib.Nat.{not-suc-le-zero}
use native.Mathlib.Decide.{ℕ_discrete}
use mathlib.Core.Path.{◌≡◌, refl, sym}
use mathlib.Core.Bool.{Bool, true, false}
use Rattle.collector.specs.Bits.{countb, by_bool}

pub countb_same : (n : ℕ) (p q : ℕ → Bool) → ((k : ℕ) → k < n → q k ≡ p k) → countb n q ≡ countb n p
unfolding countb
countb_same zero p q h = refl
countb_same (suc n) p q h = let ih = countb_same n p q (λ k l. h k (omega arith)) in rw (h n (omega arith), ih)

pub countb_none : (n : ℕ) (p : ℕ → Bool) → ((k : ℕ) → k < n → p k ≡ false) → countb n p ≡ 0
unfolding countb
countb_none zero p h = refl
countb_none (suc n) p h = let ih = countb_none n p (λ k l. h k (omega arith)) in rw (h n (omega arith)) (omega arith)

pub countb_most : (n : ℕ) (p : ℕ → Bool) → countb n p ≤ n
unfolding countb
countb_most zero p = omega arith
countb_most (suc n) p = let ih = countb_most n p in by_bool (p n) (λ e. rw e (omega arith)) (λ e. rw e (omega arith))

-- one number below n fails the test
pub countb_less : (n : ℕ) (p : ℕ → Bool) (k : ℕ) → k < n → p k ≡ false → countb n p < n
unfolding countb
countb_less zero p k l e = absurd (not-suc-le-zero l)
countb_less (suc n) p k l e = elim (ℕ_discrete k n) [
  | yes q ↦ (let m = countb_most n p in rw (rw q at e) (omega arith))
  | no q ↦ (let ih = countb_less n p k (omega arith) e in by_bool (p n) (λ d. rw d (omega arith)) (λ d. rw d (omega arith)))
]

-- one more number passes
pub countb_more : (n : ℕ) (p q : ℕ → Bool) (k : ℕ) → k < n → p k ≡ false → q k ≡ true → ((j : ℕ) → (j ≡ k → ⊥) → q j ≡ p j) → countb n q ≡ suc (countb n p)
unfolding countb
countb_more zero p q k l e d h = absurd (not-suc-le-zero l)
countb_more (suc n) p q k l e d h = elim (ℕ_discrete k n) [
  | yes r ↦ (let same = countb_same n p q (λ j m. h j (λ z. absurd (omega arith))) in rw (rw r at e, rw r at d, same) (omega arith))
  | no r ↦ (let ih = countb_more n p q k (omega arith) e d h in rw (h n (λ z. r (sym z)), ih) (by_bool (p n) (λ c. rw c (omega arith)) (λ c. rw c (omega arith))))
]
