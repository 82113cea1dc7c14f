-- Words that are 0 or not, as tables of bits read them. n is the number of pages. Assumes nothing.
use Prim.Native.Nat.{ℕ, ◌^◌, ◌<◌, ◌+◌}
use native.Mathlib.Omega.{arith}
use mathlib.Core.Path.{◌≡◌, refl, sym, ◌∙◌}
use mathlib.Core.Bool.{true, not}
use mathlib.Core.List.{List}
use native.Mathlib.Decide.{ℕ_discrete}
use lib.Dec.{eqb}
use borrow.Author.Tests.{ne_eqb, lt-ltb}
use Rattle.words.specs.Tests.{by_bool, clash}
use Rattle.words.specs.Bits.{bit, bit_none, no_bits, without_bit, without_same, without_other, without_le}
use Rattle.pages.specs.Geometry.{is_object}
use Rattle.areas.specs.Tables.{at, has, flag}
use Rattle.collector.specs.Bits.{◌and◌, anyb, anyb_intro, anyb_elim, true_and, or_l, or_r, or_cases}
use Rattle.collector.specs.Objects.{txns}
use Rattle.collector.specs.State.{some, carried}
use Rattle.machine_calls.specs.Tables.{object_bit, flag_bit}
use Rattle.records.specs.Records.{txn_count}

-- a word below 2 ^ k is 0 where no bit of it below k is set
pub zero_anyb : (k m : ℕ) → m < 2 ^ k → not (eqb m 0) ≡ anyb k (bit m)
zero_anyb k m h = by_bool (anyb k (bit m))
    (λ e. rw e (anyb_elim k (bit m) e (λ j l b. rw (ne_eqb m 0 (λ z. clash b (rw z (bit_none j)))) refl)))
    (λ e. rw (e, no_bits k m h (λ j l. by_bool (bit m j) (λ b. clash (anyb_intro k (bit m) j l b) e) (λ b. b))) refl)

-- the lower bits of a word whose flag was cleared
pub unflagged_bit : (m t : ℕ) → t < txn_count → bit (without_bit m flag) t ≡ bit m t
unflagged_bit m t l = without_other m flag t (λ z. omega arith)

pub unflagged_anyb : (m : ℕ) → m < 2 ^ (txn_count + 1) → not (eqb (without_bit m flag) 0) ≡ anyb 16 (bit m)
unflagged_anyb m h = zero_anyb 17 (without_bit m flag) (let k = without_le m flag in omega arith) ∙ top
  where
    top : anyb 17 (bit (without_bit m flag)) ≡ anyb 16 (bit m)
    top = by_bool (anyb 16 (bit m))
        (λ e. rw e (anyb_elim 16 (bit m) e (λ j l b. anyb_intro 17 (bit (without_bit m flag)) j (omega arith) (unflagged_bit m j l ∙ b))))
        (λ e. rw e (by_bool (anyb 17 (bit (without_bit m flag)))
        (λ d. anyb_elim 17 (bit (without_bit m flag)) d (λ j l b. elim (ℕ_discrete j 16) [
          | yes q ↦ clash (rw q at b) (without_same m flag)
          | no q ↦ clash (anyb_intro 16 (bit m) j (omega arith) (sym (unflagged_bit m j (omega arith)) ∙ b)) e
        ]))
        (λ d. d)))

module _ (w : List ℕ) (n : ℕ) (place : ℕ → ℕ) (x : ℕ) (ok : is_object n x ≡ true) where
  -- the entries of an object
  pub entry_bit : (t : ℕ) → t < txn_count → object_bit w n place t x ≡ bit (at w (place x)) t
  unfolding object_bit
  entry_bit t l = rw (lt-ltb t txn_count l, ok, true_and (true and has w (place x) t), true_and (has w (place x) t)) refl

  pub flag_is : flag_bit w n place x ≡ bit (at w (place x)) flag
  unfolding flag_bit
  flag_is = rw (ok, true_and (has w (place x) flag)) refl

  pub some_is : some (object_bit w n place) x ≡ anyb 16 (bit (at w (place x)))
  unfolding txns
  some_is = by_bool (anyb 16 (bit (at w (place x))))
      (λ e. rw e (anyb_elim 16 (bit (at w (place x))) e (λ t l b. anyb_intro 16 (λ u. object_bit w n place u x) t l (entry_bit t l ∙ b))))
      (λ e. rw e (by_bool (anyb 16 (λ u. object_bit w n place u x))
      (λ d. anyb_elim 16 (λ u. object_bit w n place u x) d (λ t l b. clash (anyb_intro 16 (bit (at w (place x))) t l (sym (entry_bit t l) ∙ b)) e))
      (λ d. d)))

  -- an entry, flagged or not
  pub carried_is : at w (place x) < 2 ^ (txn_count + 1) → carried (object_bit w n place) (flag_bit w n place) x ≡ not (eqb (at w (place x)) 0)
  carried_is h = by_bool (anyb 17 (bit (at w (place x))))
      (λ e. rw (zero_anyb 17 (at w (place x)) h, e) (anyb_elim 17 (bit (at w (place x))) e (λ j l b. elim (ℕ_discrete j 16) [
        | yes q ↦ or_r _ _ (flag_is ∙ (rw q at b))
        | no q ↦ or_l _ _ (some_is ∙ anyb_intro 16 (bit (at w (place x))) j (omega arith) b)
      ])))
      (λ e. rw (zero_anyb 17 (at w (place x)) h, e) (by_bool (carried (object_bit w n place) (flag_bit w n place) x)
      (λ d. elim (or_cases _ _ d) [
        | mathlib.Core.Logic.inl k ↦ anyb_elim 16 (bit (at w (place x))) (sym some_is ∙ k) (λ t l b. clash (anyb_intro 17 (bit (at w (place x))) t (omega arith) b) e)
        | mathlib.Core.Logic.inr k ↦ clash (anyb_intro 17 (bit (at w (place x))) 16 (omega arith) (sym flag_is ∙ k)) e
      ])
      (λ d. d)))
