-- What the code does to words, as the bits of the definitions. Assumes nothing.
use Rattle.std.specs.Prelude.{ℕ, zero, suc, ◌+◌, ◌*◌, ◌-◌, ◌/◌, ◌%◌, ◌^◌, ◌<◌, ◌≤◌, min, max, ◌≡◌, refl, Bool, true, false, not, ◌&&◌, ◌||◌, eqb, ltb}
use Rattle.std.proofs.Common.{sym, ap, ◌∙◌, pow-suc, arith, eqb-true, eq-eqb, ltb-true, ltb-false, lt-ltb, le-ltb}
use Rattle.std.specs.Int.Bits.{bit_or, and_step, or_step, or_zero_r, or_add_and}
use Rattle.std.proofs.lemmas.Nat.{and_le_l, and_le_r}
use Rattle.std.proofs.Math.Nat.{min-le_left, max-le}
use Rattle.std.proofs.Math.Decide.{ℕ_discrete}
use Rattle.std.proofs.lemmas.Bool.{eqb-false}
use Rattle.words.specs.Tests.{if, by_bool, and_true, and_false}
use Rattle.words.specs.Bits.{bit, with_bit, without_bit, bit_low, bit_next, without_same, without_other, bit_without, without_le, bit_above, bits_same}
use Rattle.pages.specs.Geometry.{slot_count}

by_digit : (P : ℕ → Type 0) → P 0 → P 1 → (x : ℕ) → x < 2 → P x
by_digit P a b zero h = a
by_digit P a b (suc zero) h = b
by_digit P a b (suc (suc x)) h = absurd (omega arith)

-- two words together are 0 where each is
pub or_none : (a b : ℕ) → eqb (bit_or a b) 0 ≡ (eqb a 0 && eqb b 0)
or_none a b = let s = or_add_and a b in let l = and_le_l a b in let r = and_le_r a b in
    by_bool (eqb (bit_or a b) 0)
    (λ e. let z = eqb-true (bit_or a b) 0 e in rw (e, eq-eqb a 0 (omega arith), eq-eqb b 0 (omega arith)))
    (λ e. by_bool (eqb a 0)
    (λ f. by_bool (eqb b 0)
    (λ g. let x = eqb-true a 0 f in let y = eqb-true b 0 g in let z = eqb-false (bit_or a b) 0 e in absurd (z (omega arith)))
    (λ g. rw (e, f, g)))
    (λ f. rw (e, f)))

-- a word and one bit, by the low digit and the rest
or_even : (m b : ℕ) → bit_or m (b * 2) ≡ bit_or (m / 2) b * 2 + m % 2
or_even m b = let h : b * 2 / 2 ≡ b = omega arith in let l : b * 2 % 2 ≡ 0 = omega arith in
    or_step m (b * 2) ∙ rw (h, l) (omega arith)

pub or_bit : (k m : ℕ) → bit_or m (2 ^ k) ≡ with_bit m k
unfolding with_bit
or_bit zero m = or_step m 1 ∙ rw (or_zero_r (m / 2)) (by_bool (eqb (m % 2) 1)
    (λ e. rw (bit_low m, e) (let h = eqb-true (m % 2) 1 e in omega arith))
    (λ e. rw (bit_low m, e) (let h = eqb-false (m % 2) 1 e in omega arith)))
or_bit (suc k) m = ap (bit_or m) (pow-suc 2 k) ∙ or_even m (2 ^ k) ∙ ap (λ (x : ℕ). x * 2 + m % 2) (or_bit k (m / 2)) ∙ by_bool (bit (m / 2) k)
    (λ e. rw (bit_next m k, e) (omega arith))
    (λ e. rw (bit_next m k, e, pow-suc 2 k) (omega arith))

pub or_without : (m k : ℕ) → bit_or m (2 ^ k) - 2 ^ k ≡ without_bit m k
unfolding with_bit without_bit
or_without m k = rw (or_bit k m) (by_bool (bit m k) (λ e. rw e) (λ e. rw e (omega arith)))

pub or_le_r : (a b : ℕ) → b ≤ bit_or a b
or_le_r a b = let s = or_add_and a b in let l = and_le_l a b in omega arith

-- the bits of two words together
pub or_bits : (a b j : ℕ) → bit (bit_or a b) j ≡ (bit a j || bit b j)
or_bits a b zero = bit_low (bit_or a b) ∙ rw (bit_low a, bit_low b, or_step a b)
    (let m : max (a % 2) (b % 2) ≤ 1 = max-le (omega arith) (omega arith) in
    let t : (bit_or (a / 2) (b / 2) * 2 + max (a % 2) (b % 2)) % 2 ≡ max (a % 2) (b % 2) = omega arith in
    rw t (low (a % 2) (b % 2) (omega arith) (omega arith)))
  where
    low : (x y : ℕ) → x < 2 → y < 2 → eqb (max x y) 1 ≡ (eqb x 1 || eqb y 1)
    low x y hx hy = by_digit (λ (x : ℕ). eqb (max x y) 1 ≡ (eqb x 1 || eqb y 1))
        (by_digit (λ (y : ℕ). eqb (max 0 y) 1 ≡ (eqb 0 1 || eqb y 1)) refl refl y hy)
        (by_digit (λ (y : ℕ). eqb (max 1 y) 1 ≡ (eqb 1 1 || eqb y 1)) refl refl y hy) x hx
or_bits a b (suc j) = bit_next (bit_or a b) j
    ∙ ap (λ (x : ℕ). bit x j) (let s = or_step a b in let m : max (a % 2) (b % 2) ≤ 1 = max-le (omega arith) (omega arith) in
    let e : bit_or a b / 2 ≡ bit_or (a / 2) (b / 2) = omega arith in e)
    ∙ or_bits (a / 2) (b / 2) j ∙ rw (bit_next a j, bit_next b j)

-- those of two masks together, without t's
pub or_others : (a b t u : ℕ) → bit (bit_or (without_bit a t) (without_bit b t)) u ≡ (not (eqb u t) && (bit a u || bit b u))
or_others a b t u = or_bits (without_bit a t) (without_bit b t) u ∙ rw (bit_without a t u, bit_without b t u) (either (bit a u) (bit b u) (not (eqb u t)))
  where
    either : (x y z : Bool) → (x && z || y && z) ≡ (z && (x || y))
    either x y true = rw (and_true x, and_true y)
    either x y false = rw (and_false x, and_false y)

-- 'map of freed slots': the map w without the bits below k that m has
unfoldable pub clear_bits : ℕ → ℕ → ℕ → ℕ
clear_bits w m zero = w
clear_bits w m (suc k) = let v = clear_bits w m k in if (bit m k) (without_bit v k) v

pub clear_le : (w m k : ℕ) → clear_bits w m k ≤ w
unfolding clear_bits
clear_le w m zero = omega arith
clear_le w m (suc k) = let h = clear_le w m k in let l = without_le (clear_bits w m k) k in
    by_bool (bit m k) (λ e. rw e (omega arith)) (λ e. rw e h)

pub below_suc : (j k : ℕ) → (j ≡ k → ⊥) → ltb j (suc k) ≡ ltb j k
below_suc j k q = by_bool (ltb j k)
    (λ e. let l = ltb-true j k e in lt-ltb j (suc k) (omega arith) ∙ sym e)
    (λ e. let l = ltb-false j k e in le-ltb j (suc k) (let n : k < j = omega (arith, q) in omega arith) ∙ sym e)

pub clear_bit : (w m k j : ℕ) → bit (clear_bits w m k) j ≡ (bit w j && not (ltb j k && bit m j))
unfolding clear_bits
clear_bit w m zero j = rw (le-ltb j 0 (omega arith)) (sym (and_true (bit w j)))
clear_bit w m (suc k) j = elim (ℕ_discrete j k) [
  | yes q ↦ by_bool (bit m k)
      (λ e. rw (e, q, without_same (clear_bits w m k) k, lt-ltb k (suc k) (omega arith), e) (sym (and_false (bit w k))))
      (λ e. rw (e, clear_bit w m k j, q, le-ltb k k (omega arith), lt-ltb k (suc k) (omega arith), e))
  | no q ↦ let s : ltb j (suc k) ≡ ltb j k = below_suc j k q in by_bool (bit m k)
      (λ e. rw (e, without_other (clear_bits w m k) k j q, clear_bit w m k j, s))
      (λ e. rw (e, clear_bit w m k j, s))
]

-- the bits of a word from which the bits of another are taken, once they are all there
less_step : (w m : ℕ) → bit_or w m - m ≡ 2 * (bit_or (w / 2) (m / 2) - m / 2) + (w % 2 - min (w % 2) (m % 2))
less_step w m = let a = or_add_and w m in let b = or_add_and (w / 2) (m / 2) in let s = and_step w m in
    let l = and_le_l (w / 2) (m / 2) in let t = min-le_left (w % 2) (m % 2) in omega arith

pub less_bit : (w m j : ℕ) → bit (bit_or w m - m) j ≡ (bit w j && not (bit m j))
less_bit w m zero = bit_low (bit_or w m - m) ∙ rw (bit_low w, bit_low m, less_step w m)
    (let t : (2 * (bit_or (w / 2) (m / 2) - m / 2) + (w % 2 - min (w % 2) (m % 2))) % 2 ≡ w % 2 - min (w % 2) (m % 2) = omega arith in
    rw t (low (w % 2) (m % 2) (omega arith) (omega arith)))
  where
    low : (x y : ℕ) → x < 2 → y < 2 → eqb (x - min x y) 1 ≡ (eqb x 1 && not (eqb y 1))
    low x y hx hy = by_digit (λ (x : ℕ). eqb (x - min x y) 1 ≡ (eqb x 1 && not (eqb y 1)))
        (by_digit (λ (y : ℕ). eqb (0 - min 0 y) 1 ≡ (eqb 0 1 && not (eqb y 1))) refl refl y hy)
        (by_digit (λ (y : ℕ). eqb (1 - min 1 y) 1 ≡ (eqb 1 1 && not (eqb y 1))) refl refl y hy) x hx
less_bit w m (suc j) = bit_next (bit_or w m - m) j
    ∙ ap (λ (x : ℕ). bit x j) (let s = less_step w m in let e : (bit_or w m - m) / 2 ≡ bit_or (w / 2) (m / 2) - m / 2 = omega arith in e)
    ∙ less_bit (w / 2) (m / 2) j ∙ rw (bit_next w j, bit_next m j)

pub clear_or : (w m : ℕ) → w < 2 ^ 32 → m < 2 ^ slot_count → bit_or w m - m ≡ clear_bits w m slot_count
clear_or w m hw hm = bits_same 32 (bit_or w m - m) (clear_bits w m slot_count)
    (let a = or_add_and w m in omega arith) (let c = clear_le w m slot_count in omega arith)
    (λ j l. less_bit w m j ∙ sym (clear_bit w m slot_count j ∙ ap (λ (t : Bool). bit w j && not t) (low j)))
  where
    low : (j : ℕ) → (ltb j slot_count && bit m j) ≡ bit m j
    low j = by_bool (ltb j slot_count) (λ e. rw e) (λ e. rw (e, bit_above slot_count m j hm (ltb-false j slot_count e)))
