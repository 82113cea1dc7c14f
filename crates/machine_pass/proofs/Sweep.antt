-- A sweeping step, read as the machine's: the slots it frees are the machine's dead objects. n is the number of pages. Assumes nothing.
use Prim.Native.Nat.{ℕ, zero, suc, ◌+◌, ◌*◌, ◌≤◌, ◌<◌, ◌^◌}
use native.Mathlib.Omega.{arith}
use native.Mathlib.Numerals.{add-one}
use mathlib.Core.Path.{◌≡◌, refl, sym, ◌∙◌}
use mathlib.Core.Bool.{Bool, true, false, not, cond, ◌&&◌}
use mathlib.Core.List.{List}
use mathlib.Core.Logic.{◌⊎◌, inl, inr}
use lib.ListN.{length, get_or-eq_default}
use lib.Dec.{ltb, leb, eqb}
use borrow.Author.Tests.{ltb-true, eqb-true, eqb-false, eq-eqb, ne_eqb, le-leb, leb-true, leb-false}
use Rattle.words.specs.Tests.{if, by_bool, clash, and_true, and_false}
use Rattle.words.specs.Bits.{bit, bit_none, map_bit}
use Rattle.pages.specs.Geometry.{is_object, object_at, page_at, page_of, slot_of, page_words, object_count}
use Rattle.pages.specs.Objects.{taken, occupied, released}
use Rattle.areas.specs.Layout.{pass_page_at, steps_at, created_at, colour_at, table_words, steps_top}
use Rattle.areas.specs.Tables.{at, is_white, steps_next}
use Rattle.calls.specs.Pass.{unmarked, sweep_map, advanced}
use Rattle.collector.specs.Bits.{◌and◌}
use Rattle.collector.specs.Objects as O
use Rattle.collector.specs.Objects.{Obj, blank}
use Rattle.collector.specs.State as M
use Rattle.collector.specs.State.{carried}
use Rattle.collector.specs.Calls.{onward}
use Rattle.machine_view.specs.View.{view}
use Rattle.machine_view.proofs.Places.{slot_small}
use Rattle.machine_view.proofs.Effects.{released_view}
use Rattle.machine_calls.specs.Tables.{object_bit, flag_bit, colour_of, colour_at_object, phase_of, locks_of, tables_of, pass_of}
use Rattle.machine_pass.proofs.Masks.{carried_is}
use Rattle.machine_pass.proofs.Mark.{moved_locks, moved_tables, moved_pass, steps_suc}
use Rattle.records.specs.Records.{txn_count}

if_cond : (b : Bool) (v u : Obj) → if b v u ≡ cond b v u
if_cond true v u = refl
if_cond false v u = refl

nobody : (a : List ℕ) → view a 0 ≡ blank
unfolding view
nobody a = refl

white_is : (c : ℕ) → M.is_white (colour_of c) ≡ eqb c 0
white_is zero = refl
white_is (suc zero) = refl
white_is (suc (suc c)) = sym (ne_eqb (suc (suc c)) 0 (omega arith))

module _ (n : ℕ) (copies w : List ℕ) (created : (x : ℕ) → 1 ≤ x → x ≤ object_count n → at w (created_at n x) < 2 ^ (txn_count + 1)) where
  -- the machine's test of an object, without its page
  abbrev pub doomed : ℕ → Bool
  doomed x = (view copies x).occ and M.is_white (colour_at_object w n x) and not (carried (object_bit w n (created_at n)) (flag_bit w n (created_at n)) x)

  white_object : (x : ℕ) → is_object n x ≡ true → M.is_white (colour_at_object w n x) ≡ is_white w n x
  unfolding colour_at_object
  white_object x o = rw o (white_is (at w (colour_at n x)))

  pub slot_doomed : (x p : ℕ) → 1 ≤ x → x ≤ object_count n → page_of x ≡ p → bit (sweep_map copies w n p) (slot_of x) ≡ doomed x
  unfolding sweep_map view ◌and◌
  slot_doomed x p l u e =
      let o : is_object n x ≡ true = rw (le-leb 1 x l, le-leb x (object_count n) u) refl in
      let same : object_at p (slot_of x) ≡ x = omega arith in
      map_bit (λ s. taken copies p s && unmarked w n p s) 16 (slot_of x) (slot_small x)
      ∙ rw (same, ← e, le-leb 1 x l, white_object x o, carried_is w n (created_at n) x o (created x l u)) (regroup (occupied copies x) (is_white w n x) (eqb (at w (created_at n x)) 0))
    where
      regroup : (a b c : Bool) → a && (b && c) ≡ (a and b and not (not c))
      regroup true true true = refl
      regroup true true false = refl
      regroup true false c = refl
      regroup false b c = refl

  -- out of the store nothing is occupied in the copies
  beyond : length copies ≡ page_words * n → (x : ℕ) → (1 ≤ x → x ≤ object_count n → ⊥) → (view copies x).occ ≡ false
  unfolding view blank
  beyond len zero h = refl
  beyond len (suc k) h = rw (le-leb 1 (suc k) (omega arith), get_or-eq_default copies 0 (outside k (h (omega arith)))) (bit_none (slot_of (suc k)))
    where
      outside : (k : ℕ) → (suc k ≤ object_count n → ⊥) → length copies ≤ page_at (page_of (suc k))
      outside k out = let big : object_count n < suc k = by_bool (leb (suc k) (object_count n)) (λ e. absurd (out (leb-true (suc k) (object_count n) e))) (λ e. leb-false (suc k) (object_count n) e) in omega arith

  -- the machine's dead objects of page p
  abbrev pub dead_at : ℕ → ℕ → Bool
  dead_at p x = eqb (O.page_of x) p and (view copies x).occ and M.is_white (colour_at_object w n x) and not (carried (object_bit w n (created_at n)) (flag_bit w n (created_at n)) x)

  pub dead_at_is : length copies ≡ page_words * n → (p x : ℕ) → p < n → dead_at p x ≡ (eqb p (page_of x) && bit (sweep_map copies w n p) (slot_of x) && leb 1 x)
  unfolding O.page_of ◌and◌
  dead_at_is len p x hp = by_bool (eqb (page_of x) p)
      (λ e. let q = eqb-true (page_of x) p e in by_bool (leb 1 x)
      (λ l. let m = leb-true 1 x l in rw (e, eq-eqb p (page_of x) (sym q), l, slot_doomed x p m (omega arith) q) (sym (and_true (doomed x))))
      (λ l. rw (e, l, beyond len x (λ a b. clash (le-leb 1 x a) l)) (sym (and_false (eqb p (page_of x) && bit (sweep_map copies w n p) (slot_of x))))))
      (λ e. rw (e, ne_eqb p (page_of x) (λ z. eqb-false (page_of x) p e (sym z))) refl)

  -- the objects of an area after the sweep of page p
  pub swept_view : length copies ≡ page_words * n → (a : List ℕ) → length a ≡ page_words * n → (p x : ℕ) → p < n
      → view (released a p (sweep_map copies w n p)) x ≡ cond (dead_at p x) blank (view a x)
  swept_view lc a len p zero hp = rw (dead_at_is lc p 0 hp, and_false (eqb p (page_of 0) && bit (sweep_map copies w n p) (slot_of 0))) (nobody (released a p (sweep_map copies w n p)) ∙ sym (nobody a))
  swept_view lc a len p (suc k) hp = released_view n a len p (sweep_map copies w n p) hp (suc k) (omega arith)
      ∙ rw (dead_at_is lc p (suc k) hp, le-leb 1 (suc k) (omega arith), and_true (eqb p (page_of (suc k)) && bit (sweep_map copies w n p) (slot_of (suc k)))) (if_cond (eqb p (page_of (suc k)) && bit (sweep_map copies w n p) (slot_of (suc k))) blank (view a (suc k)))

-- the pass record after the page
module _ (n : ℕ) (w : List ℕ) (len : table_words n ≤ length w) (room : at w steps_at < steps_top n ⊎ (at w pass_page_at + 1 < n → ⊥)) (sweeps : phase_of (at w 2) ≡ M.sweeping) where
  pub on_locks : locks_of (advanced w n (at w pass_page_at)) n ≡ locks_of w n
  unfolding advanced
  on_locks = by_bool (ltb (at w pass_page_at + 1) n) (λ e. rw e (moved_locks n w 2 (at w pass_page_at + 1) (steps_next w n) len)) (λ e. rw e (moved_locks n w 0 0 0 len))

  pub on_tables : tables_of (advanced w n (at w pass_page_at)) n ≡ tables_of w n
  unfolding advanced
  on_tables = by_bool (ltb (at w pass_page_at + 1) n) (λ e. rw e (moved_tables n w 2 (at w pass_page_at + 1) (steps_next w n) len)) (λ e. rw e (moved_tables n w 0 0 0 len))

  steps_on : ltb (at w pass_page_at + 1) n ≡ true → steps_next w n ≡ suc (at w steps_at)
  steps_on e = elim room [ inl l ↦ steps_suc w n l | inr out ↦ absurd (out (ltb-true (at w pass_page_at + 1) n e)) ]

  pub on_pass : pass_of (advanced w n (at w pass_page_at)) n ≡ onward n (pass_of w n)
  unfolding advanced
  on_pass = let q : at w pass_page_at + 1 ≡ suc (at w pass_page_at) = add-one (at w pass_page_at) in by_bool (ltb (at w pass_page_at + 1) n)
      (λ e. let f : ltb (suc (at w pass_page_at)) n ≡ true = rw (← q) e in
      rw (e, f) (moved_pass n w 2 (at w pass_page_at + 1) (steps_next w n) len ∙ rw (steps_on e, q) refl))
      (λ e. let f : ltb (suc (at w pass_page_at)) n ≡ false = rw (← q) e in rw (e, f) (moved_pass n w 0 0 0 len))
