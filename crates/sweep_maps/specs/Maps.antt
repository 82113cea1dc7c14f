-- Maps of slots: gathered bit by bit, and joined by bitwise and. Assumes nothing.
use Rattle.std.specs.Prelude.{ℕ, zero, suc, ◌+◌, ◌/◌, ◌%◌, ◌^◌, ◌<◌, ◌≤◌, min, ◌≡◌, refl, Bool, ◌&&◌, eqb}
use Rattle.std.proofs.Common.{sym, ap, ◌∙◌, pow_mono, arith}
use Rattle.std.specs.Int.Bits.{bit_and, and_step}
use Rattle.std.proofs.lemmas.Nat.{and_le_l}
use Rattle.std.proofs.Math.Nat.{min-le_left}
use Rattle.words.specs.Tests.{if, and_cong}
use Rattle.words.specs.Bits.{bit, map_of, bit_low, bit_next, bits_same, map_lt, map_bit, map_next}
use Rattle.pages.specs.Geometry.{slot_count}

-- the bits of two words' bitwise and
digits : (x y : ℕ) → x < 2 → y < 2 → eqb (min x y) 1 ≡ (eqb x 1 && eqb y 1)
digits zero zero hx hy = refl
digits zero (suc zero) hx hy = refl
digits zero (suc (suc y)) hx hy = absurd (omega arith)
digits (suc zero) zero hx hy = refl
digits (suc zero) (suc zero) hx hy = refl
digits (suc zero) (suc (suc y)) hx hy = absurd (omega arith)
digits (suc (suc x)) y hx hy = absurd (omega arith)

pub and_bit : (a b j : ℕ) → bit (bit_and a b) j ≡ (bit a j && bit b j)
and_bit a b zero = let s = and_step a b in
    let low : bit_and a b % 2 ≡ min (a % 2) (b % 2) = let t = min-le_left (a % 2) (b % 2) in omega arith in
    bit_low (bit_and a b) ∙ rw (low, bit_low a, bit_low b) (digits (a % 2) (b % 2) (omega arith) (omega arith))
and_bit a b (suc j) = let s = and_step a b in
    let high : bit_and a b / 2 ≡ bit_and (a / 2) (b / 2) = let t = min-le_left (a % 2) (b % 2) in omega arith in
    bit_next (bit_and a b) j ∙ rw high (and_bit (a / 2) (b / 2) j ∙ rw (bit_next a j, bit_next b j))

-- slots that pass two tests are the bitwise and of the two maps
pub map_and : (f g : ℕ → Bool) (k : ℕ) → bit_and (map_of f k) (map_of g k) ≡ map_of (λ s. f s && g s) k
map_and f g k = bits_same k (bit_and (map_of f k) (map_of g k)) (map_of (λ s. f s && g s) k)
    (let l = and_le_l (map_of f k) (map_of g k) in let h = map_lt f k in omega arith) (map_lt (λ s. f s && g s) k)
    (λ j l. and_bit (map_of f k) (map_of g k) j ∙ and_cong (map_bit f k j l) (map_bit g k j l) ∙ sym (map_bit (λ s. f s && g s) k j l))

-- one more slot of a map of sixteen: y is what it adds, by a test b
module _ (f : ℕ → Bool) (s x y : ℕ) (b : Bool) (h : x ≡ map_of f s) (e : y ≡ if b (2 ^ s) 0) (t : b ≡ f s) where
  pub slot_next : x + y ≡ map_of f (s + 1)
  slot_next = rw (h, e, t) (map_next f s)

  pub slot_fits : s < slot_count → x + y < 2 ^ slot_count
  slot_fits l = let e = slot_next in let m = map_lt f (s + 1) in let p : 2 ^ (s + 1) ≤ 2 ^ slot_count = pow_mono {i = s + 1} {j = slot_count} (omega arith) in omega arith

pub map_end : (f : ℕ → Bool) (s k x : ℕ) → x ≡ map_of f s → s ≡ k → x ≡ map_of f k
map_end f s k x h e = h ∙ ap (map_of f) e
