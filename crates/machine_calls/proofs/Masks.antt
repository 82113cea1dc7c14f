-- Tables of masks with one bit more, one less, or without a transaction's bits, as the collector machine's tables. n is the number of
-- pages, c the table's first word. Assumes nothing.
use Prim.Native.Nat.{ℕ, ◌+◌, ◌-◌, ◌<◌, ◌≤◌}
use native.Mathlib.Omega.{arith}
use mathlib.Core.Path.{◌≡◌, refl, sym, ap, ◌∙◌, fun_ext}
use mathlib.Core.Bool.{Bool, true, false, not, ◌&&◌, ◌||◌}
use mathlib.Core.List.{List}
use lib.ListN.{length, set}
use lib.Seq.{get_or-set_same, get_or-set_other}
use lib.Dec.{eqb, ltb}
use borrow.Author.Tests.{ltb-true, lt-ltb, eqb-true, eqb-false, eq-eqb, ne_eqb}
use Rattle.words.specs.Tests as Tests
use Rattle.words.specs.Tests.{by_bool}
use Rattle.words.specs.Bits.{bit, with_bit, without_bit, with_other, bit_with, bit_without}
use Rattle.words.specs.Spans.{over, over_inside}
use Rattle.pages.specs.Geometry.{is_object, object_count}
use Rattle.areas.specs.Tables.{at, has, gain, lose, flag}
use Rattle.calls.specs.Transactions.{ended_entry}
use Rattle.collector.specs.Bits.{◌and◌, ◌or◌, or_true, or_false, and_true, and_false}
use Rattle.collector.specs.State.{add, remove, drop}
use Rattle.page_laws.specs.Places.{object_range}
use Rattle.machine_calls.specs.Tables.{page_bit, object_bit, flag_bit}
use Rattle.machine_calls.proofs.Frames.{Beside, under, by_page, by_object, is_object_law}
use Rattle.records.specs.Records.{txn_count}

-- The three changes of one bit, in words of tests: small, the transaction is one; here, the number has a word; txn and same, it is the
-- transaction and the number of the change; old and new, the bit before and after.
joins : (small here old txn same new : Bool) → (txn ≡ true → small ≡ true) → (same ≡ true → here ≡ true)
    → (same ≡ true → new ≡ (old || txn)) → (same ≡ false → here ≡ true → new ≡ old) → (small and (here and new)) ≡ ((small and (here and old)) or (txn and same))
unfolding ◌and◌ ◌or◌
joins small here old true true new a b c d = rw (a refl, b refl, c refl) (Tests.or_true old ∙ sym (or_true old))
joins small here old false true new a b c d = rw (b refl, c refl, Tests.or_false old) (sym (or_false (small and old)))
joins small here old txn false new a b c d = rw (under here (d refl), and_false txn) (sym (or_false (small and (here and old))))

parts : (small here old txn same new : Bool) → (same ≡ true → new ≡ (old && not txn)) → (same ≡ false → here ≡ true → new ≡ old)
    → (small and (here and new)) ≡ (not (txn and same) and (small and (here and old)))
unfolding ◌and◌
parts small here old true true new c d = rw (c refl, Tests.and_false old, and_false here) (and_false small)
parts small here old false true new c d = rw (c refl, Tests.and_true old)
parts small here old txn false new c d = rw (under here (d refl), and_false txn)

drops : (small here old txn new : Bool) → (small ≡ true → here ≡ true → new ≡ (old && not txn))
    → (small and (here and new)) ≡ (not txn and (small and (here and old)))
unfolding ◌and◌
drops true true old true new h = rw (h refl refl) (Tests.and_false old)
drops true true old false new h = rw (h refl refl) (Tests.and_true old)
drops true false old true new h = refl
drops true false old false new h = refl
drops false here old true new h = refl
drops false here old false new h = refl

-- a table whose numbers with a word pass a test, each with a word of its own
module _ (inside : ℕ → Bool) (place : ℕ → ℕ) where
  abbrev bits : List ℕ → ℕ → ℕ → Bool
  bits w t x = ltb t txn_count and (inside x and has w (place x) t)

  module _ (w : List ℕ) (t x : ℕ) (long : place x < length w) where
    here : (m u y : ℕ) → eqb y x ≡ true → has (set w (place x) m) (place y) u ≡ bit m u
    here m u y e = rw (eqb-true y x e) (ap (λ (k : ℕ). bit k u) (get_or-set_same w (place x) m 0 long))

    old_here : (u y : ℕ) → eqb y x ≡ true → has w (place x) u ≡ has w (place y) u
    old_here u y e = rw (eqb-true y x e)

    module _ (apart : (y : ℕ) → inside y ≡ true → place y ≡ place x → y ≡ x) where
      there : (m u y : ℕ) → eqb y x ≡ false → inside y ≡ true → has (set w (place x) m) (place y) u ≡ has w (place y) u
      there m u y e l = ap (λ (k : ℕ). bit k u) (get_or-set_other w (place x) (place y) m 0 (λ z. eqb-false y x e (apart y l z)))

      bits_gain : t < txn_count → inside x ≡ true → bits (gain w (place x) t) ≡ add (bits w) t x
      bits_gain h l = fun_ext (λ u. fun_ext (λ y. joins (ltb u txn_count) (inside y) (has w (place y) u) (eqb u t) (eqb y x) (has (gain w (place x) t) (place y) u)
          (λ e. lt-ltb u txn_count (rw (eqb-true u t e) h))
          (λ e. rw (eqb-true y x e) l)
          (λ e. here _ u y e ∙ bit_with (at w (place x)) t u ∙ ap (λ (b : Bool). b || eqb u t) (old_here u y e))
          (there _ u y)))

      bits_lose : bits (lose w (place x) t) ≡ remove (bits w) t x
      bits_lose = fun_ext (λ u. fun_ext (λ y. parts (ltb u txn_count) (inside y) (has w (place y) u) (eqb u t) (eqb y x) (has (lose w (place x) t) (place y) u)
          (λ e. here _ u y e ∙ bit_without (at w (place x)) t u ∙ ap (λ (b : Bool). b && not (eqb u t)) (old_here u y e))
          (there _ u y)))

  -- each word changed so that t's bit goes and the bits of the other transactions stay
  bits_drop : (w v : List ℕ) (t : ℕ) (f : ℕ → ℕ) → ((m u : ℕ) → u < txn_count → bit (f m) u ≡ (bit m u && not (eqb u t)))
      → ((x : ℕ) → inside x ≡ true → at v (place x) ≡ f (at w (place x))) → bits v ≡ drop (bits w) t
  bits_drop w v t f h e = fun_ext (λ u. fun_ext (λ x. drops (ltb u txn_count) (inside x) (has w (place x) u) (eqb u t) (has v (place x) u)
      (λ s l. ap (λ (m : ℕ). bit m u) (e x l) ∙ h (at w (place x)) u (ltb-true u txn_count s))))

page_apart : (n c p q : ℕ) → ltb q n ≡ true → c + q ≡ c + p → q ≡ p
page_apart n c p q l e = omega arith

object_apart : (n c x y : ℕ) → 1 ≤ x → is_object n y ≡ true → by_object c y ≡ by_object c x → y ≡ x
object_apart n c x y h l e = let k = (object_range n y l).0 in omega arith

module _ (w : List ℕ) (n c t : ℕ) where
  module _ (p : ℕ) (h : p < n) (long : c + n ≤ length w) where
    pub page_gain : t < txn_count → page_bit (gain w (c + p) t) n (by_page c) ≡ add (page_bit w n (by_page c)) t p
    unfolding page_bit
    page_gain s = bits_gain (λ q. ltb q n) (by_page c) w t p (omega arith) (page_apart n c p) s (lt-ltb p n h)

    pub page_lose : page_bit (lose w (c + p) t) n (by_page c) ≡ remove (page_bit w n (by_page c)) t p
    unfolding page_bit
    page_lose = bits_lose (λ q. ltb q n) (by_page c) w t p (omega arith) (page_apart n c p)

  module _ (x : ℕ) (low : 1 ≤ x) (top : x ≤ object_count n) (long : c + object_count n ≤ length w) where
    pub object_gain : t < txn_count → object_bit (gain w (by_object c x) t) n (by_object c) ≡ add (object_bit w n (by_object c)) t x
    unfolding object_bit
    object_gain s = bits_gain (is_object n) (by_object c) w t x (omega arith) (λ y. object_apart n c x y low) s (is_object_law n x low top)

    pub object_lose : object_bit (lose w (by_object c x) t) n (by_object c) ≡ remove (object_bit w n (by_object c)) t x
    unfolding object_bit
    object_lose = bits_lose (is_object n) (by_object c) w t x (omega arith) (λ y. object_apart n c x y low)

  pub page_drop : (v : List ℕ) → ((p : ℕ) → p < n → at v (c + p) ≡ without_bit (at w (c + p)) t) → page_bit v n (by_page c) ≡ drop (page_bit w n (by_page c)) t
  unfolding page_bit
  page_drop v e = bits_drop (λ q. ltb q n) (by_page c) w v t (λ m. without_bit m t) (λ m u s. bit_without m t u) (λ p l. e p (ltb-true p n l))

  pub object_drop : (v : List ℕ) (f : ℕ → ℕ) → ((m u : ℕ) → u < txn_count → bit (f m) u ≡ (bit m u && not (eqb u t)))
      → ((x : ℕ) → is_object n x ≡ true → at v (by_object c x) ≡ f (at w (by_object c x))) → object_bit v n (by_object c) ≡ drop (object_bit w n (by_object c)) t
  unfolding object_bit
  object_drop v f h e = bits_drop (is_object n) (by_object c) w v t f h e

-- What becomes of the words of a run, where words before it changed earlier and words behind it change later: of a table by page, and of
-- one by object.
module _ {a b d e c : ℕ} {w u v : List ℕ} (f : ℕ → ℕ) (n : ℕ) (before : Beside a b w u) (h : b ≤ c) where
  pub over_page : Beside d e (over f u (by_page c 0) n) v → c + n ≤ d → c + n ≤ length w → (p : ℕ) → p < n → at v (by_page c p) ≡ f (at w (by_page c p))
  over_page after l long p k = let z : c + 0 ≡ c = omega arith in after.below (c + p) (omega arith)
      ∙ rw z (over_inside f u c n p (let q = before.same_length in omega arith) k) ∙ ap f (before.above (c + p) (omega arith))

  pub over_object : Beside d e (over f u (by_object c 1) (object_count n)) v → c + object_count n ≤ d → c + object_count n ≤ length w
      → (x : ℕ) → is_object n x ≡ true → at v (by_object c x) ≡ f (at w (by_object c x))
  over_object after l long x k = let low = (object_range n x k).0 in let top = (object_range n x k).1 in let z : c + 0 ≡ c = omega arith in
      after.below (by_object c x) (omega arith)
      ∙ rw z (over_inside f u c (object_count n) (x - 1) (let q = before.same_length in omega arith) (omega arith))
      ∙ ap f (before.above (by_object c x) (omega arith))

-- 'Entries of an ended transaction go .. if no pass runs; otherwise they are flagged'
pub ended_bit : (runs : Bool) (t m u : ℕ) → u < txn_count → bit (ended_entry runs t m) u ≡ (bit m u && not (eqb u t))
ended_bit runs t m u l = by_bool (bit m t)
    (λ e. rw e (by_bool runs
    (λ r. rw r (bit_with (without_bit m t) flag u ∙ rw (ne_eqb u flag (λ z. omega arith), bit_without m t u) (Tests.or_false (bit m u && not (eqb u t)))))
    (λ r. rw r (bit_without m t u))))
    (λ e. rw e (by_bool (eqb u t) (λ q. rw (q, eqb-true u t q, e)) (λ q. rw q (sym (Tests.and_true (bit m u))))))

pub ended_flag : (runs : Bool) (t m : ℕ) → t < txn_count → bit (ended_entry runs t m) flag ≡ (bit m flag || (runs && bit m t))
ended_flag runs t m l = by_bool (bit m t)
    (λ e. rw e (by_bool runs
    (λ r. rw r (bit_with (without_bit m t) flag flag ∙ rw (eq-eqb flag flag refl, Tests.or_true (bit (without_bit m t) flag)) (sym (Tests.or_true (bit m flag)))))
    (λ r. rw r (bit_without m t flag ∙ rw (ne_eqb flag t (λ z. omega arith), Tests.and_true (bit m flag)) (sym (Tests.or_false (bit m flag)))))))
    (λ e. rw (e, Tests.and_false runs) (sym (Tests.or_false (bit m flag))))

flags : (here old runs bits : Bool) → (here and (old || (runs && bits))) ≡ ((here and old) or (runs and (true and (here and bits))))
unfolding ◌and◌ ◌or◌
flags true true runs bits = refl
flags true false true bits = refl
flags true false false bits = refl
flags false old true bits = refl
flags false old false bits = refl

pub flag_ended : (w v : List ℕ) (n c t : ℕ) (runs : Bool) → t < txn_count
    → ((x : ℕ) → is_object n x ≡ true → at v (by_object c x) ≡ ended_entry runs t (at w (by_object c x)))
    → flag_bit v n (by_object c) ≡ (λ x. flag_bit w n (by_object c) x or (runs and object_bit w n (by_object c) t x))
unfolding flag_bit object_bit
flag_ended w v n c t runs h e = fun_ext (λ x. under (is_object n x) (λ l. ap (λ (m : ℕ). bit m flag) (e x l) ∙ ended_flag runs t (at w (by_object c x)) h)
    ∙ rw (lt-ltb t txn_count h) (flags (is_object n x) (has w (by_object c x) flag) runs (has w (by_object c x) t)))

-- the word of active transactions: t enters it, t leaves it
pub active_gain : (w : List ℕ) (i t : ℕ) → i < length w → t < txn_count → (u : ℕ) → (ltb u txn_count and has (gain w i t) i u) ≡ ((ltb u txn_count and has w i u) or eqb u t)
unfolding ◌and◌
active_gain w i t long h u = joins (ltb u txn_count) true (has w i u) (eqb u t) true (has (gain w i t) i u)
    (λ e. lt-ltb u txn_count (rw (eqb-true u t e) h))
    (λ e. refl)
    (λ e. ap (λ (m : ℕ). bit m u) (get_or-set_same w i _ 0 long) ∙ bit_with (at w i) t u)
    (λ e. Tests.clash refl e)
    ∙ ap (λ (b : Bool). (ltb u txn_count and has w i u) or b) (and_true (eqb u t))

pub active_drop : (w v : List ℕ) (i t : ℕ) → at v i ≡ without_bit (at w i) t → (u : ℕ) → (ltb u txn_count and has v i u) ≡ (not (eqb u t) and (ltb u txn_count and has w i u))
unfolding ◌and◌
active_drop w v i t e u = drops (ltb u txn_count) true (has w i u) (eqb u t) (has v i u) (λ s l. ap (λ (m : ℕ). bit m u) e ∙ bit_without (at w i) t u)

-- a transaction's bit that a table gains leaves the flags
pub gain_other : (w : List ℕ) (i j t u : ℕ) → i < length w → (u ≡ t → ⊥) → has (gain w i t) j u ≡ has w j u
gain_other w i j t u long other = by_bool (eqb j i)
    (λ e. rw (eqb-true j i e) (ap (λ (m : ℕ). bit m u) (get_or-set_same w i (with_bit (at w i) t) 0 long) ∙ with_other (at w i) t u other))
    (λ e. ap (λ (m : ℕ). bit m u) (get_or-set_other w i j (with_bit (at w i) t) 0 (eqb-false j i e)))

pub flag_gain : (w : List ℕ) (n i t : ℕ) (place : ℕ → ℕ) → i < length w → t < txn_count → flag_bit (gain w i t) n place ≡ flag_bit w n place
unfolding flag_bit
flag_gain w n i t place long h = fun_ext (λ x. ap (λ (b : Bool). is_object n x and b) (gain_other w i (place x) t flag long (λ z. omega arith)))
