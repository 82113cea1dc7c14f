-- The start of a pass, read as the machine's. n is the number of pages. Assumes nothing.
use Prim.Native.Nat.{ℕ, ◌+◌, ◌-◌, ◌≤◌, ◌<◌, ◌^◌}
use native.Mathlib.Omega.{arith}
use mathlib.Core.Path.{◌≡◌, refl, ap, ◌∙◌}
use mathlib.Core.Bool.{Bool, true, false, cond, ◌||◌}
use mathlib.Core.List.{List}
use lib.ListN.{length}
use lib.Dec.{ltb, eqb}
use borrow.Author.Tests.{ltb-true, eqb-true, le-leb}
use Rattle.words.specs.Tests.{if, by_bool, clash}
use Rattle.words.specs.Bits.{without_bit, without_same}
use Rattle.words.specs.Spans.{over, fill, length_over, length_fill, over_inside, over_outside, fill_inside, fill_outside, room_kept}
use Rattle.pages.specs.Geometry.{is_object, root, object_count}
use Rattle.areas.specs.Layout.{pruned_at, created_at, colour_at, known_at, unflushed_at, table_words, colours_from, pruned_from}
use Rattle.areas.specs.Tables.{at, has, flag}
use Rattle.calls.specs.Pass.{unflagged, first_colour, pass_started}
use Rattle.collector.specs.Bits.{◌and◌, ◌or◌, anyb, anyb_elim, and_l, and_r, false_and, true_and}
use Rattle.collector.specs.Objects.{txns}
use Rattle.collector.specs.State as M
use Rattle.collector.specs.State.{white, grey, some}
use Rattle.machine_calls.specs.Tables.{page_bit, object_bit, flag_bit, colour_of, colour_at_object, locks_of, tables_of, pass_of}
use Rattle.page_laws.specs.Places.{object_range}
use Rattle.machine_pass.proofs.Kept.{locks_kept, known_kept, dirty_kept}
use Rattle.machine_pass.proofs.Masks.{unflagged_bit, unflagged_anyb, some_is}
use Rattle.machine_pass.proofs.Mark.{moved_locks, moved_tables, moved_pass}
use Rattle.records.specs.Records.{txn_count}

module _ (n : ℕ) (w : List ℕ) (len : table_words n ≤ length w) (low : 1 ≤ n) where
  prunes : List ℕ
  prunes = over (λ m. without_bit m flag) w (pruned_at n 1) (object_count n)

  length_prunes : table_words n ≤ length prunes
  unfolding prunes
  length_prunes = room_kept (table_words n) (length_over (λ m. without_bit m flag) w (pruned_at n 1) (object_count n)) len

  length_unflagged : table_words n ≤ length (unflagged w n)
  unfolding unflagged prunes
  length_unflagged = room_kept (table_words n) (length_over (λ m. without_bit m flag) prunes (created_at n 1) (object_count n)) length_prunes

  -- words outside the PRT and the COT
  unflagged_outside : (i : ℕ) → (pruned_from n ≤ i → i < colours_from n → ⊥) → at (unflagged w n) i ≡ at w i
  unfolding unflagged prunes
  unflagged_outside i h = over_outside (λ m. without_bit m flag) prunes (created_at n 1) (object_count n) i 0 (λ k l z. h (omega arith) (omega arith))
      ∙ over_outside (λ m. without_bit m flag) w (pruned_at n 1) (object_count n) i 0 (λ k l z. h (omega arith) (omega arith))

  unflagged_pruned : (x : ℕ) → 1 ≤ x → x ≤ object_count n → at (unflagged w n) (pruned_at n x) ≡ without_bit (at w (pruned_at n x)) flag
  unfolding unflagged prunes
  unflagged_pruned x l u = over_outside (λ m. without_bit m flag) prunes (created_at n 1) (object_count n) (pruned_at n x) 0 (λ k h z. omega arith)
      ∙ (let e : pruned_at n x ≡ pruned_at n 1 + (x - 1) = omega arith in rw e (over_inside (λ m. without_bit m flag) w (pruned_at n 1) (object_count n) (x - 1) (omega arith) (omega arith)))

  unflagged_created : (x : ℕ) → 1 ≤ x → x ≤ object_count n → at (unflagged w n) (created_at n x) ≡ without_bit (at w (created_at n x)) flag
  unfolding unflagged prunes
  unflagged_created x l u = let e : created_at n x ≡ created_at n 1 + (x - 1) = omega arith in
      let inner : at prunes (created_at n 1 + (x - 1)) ≡ at w (created_at n 1 + (x - 1)) =
      over_outside (λ m. without_bit m flag) w (pruned_at n 1) (object_count n) (created_at n 1 + (x - 1)) 0 (λ k h z. omega arith) in
      rw e (over_inside (λ m. without_bit m flag) prunes (created_at n 1) (object_count n) (x - 1) (let k = length_prunes in omega arith) (omega arith) ∙ rw inner refl)

  colours_set : List ℕ
  colours_set = fill (λ k. first_colour (unflagged w n) n (k + 1)) (unflagged w n) (colour_at n 1) (object_count n)

  length_colours : table_words n ≤ length colours_set
  unfolding colours_set
  length_colours = room_kept (table_words n) (length_fill (λ k. first_colour (unflagged w n) n (k + 1)) (unflagged w n) (colour_at n 1) (object_count n)) length_unflagged

  colours_low : (i : ℕ) → i < colours_from n → at colours_set i ≡ at (unflagged w n) i
  unfolding colours_set
  colours_low i l = fill_outside (λ k. first_colour (unflagged w n) n (k + 1)) (unflagged w n) (colour_at n 1) (object_count n) i 0 (λ k h z. omega arith)

  colours_at : (x : ℕ) → 1 ≤ x → x ≤ object_count n → at colours_set (colour_at n x) ≡ first_colour (unflagged w n) n x
  unfolding colours_set
  colours_at x l u = let e : colour_at n x ≡ colour_at n 1 + (x - 1) = omega arith in let d : (x - 1) + 1 ≡ x = omega arith in
      rw e (fill_inside (λ k. first_colour (unflagged w n) n (k + 1)) (unflagged w n) (colour_at n 1) (object_count n) (x - 1) (let k = length_unflagged in omega arith) (omega arith)
      ∙ ap (first_colour (unflagged w n) n) d)

  -- what the words below the PRT and the tables show
  pub start_locks : locks_of (pass_started w n) n ≡ locks_of w n
  unfolding pass_started colours_set
  start_locks = moved_locks n colours_set 1 0 0 length_colours
      ∙ locks_kept colours_set w n (λ i l u. colours_low i (omega arith) ∙ unflagged_outside i (λ a b. omega arith))

  entries : (place : ℕ → ℕ) → ((x : ℕ) → 1 ≤ x → x ≤ object_count n → at colours_set (place x) ≡ without_bit (at w (place x)) flag) → object_bit colours_set n place ≡ object_bit w n place
  unfolding object_bit
  entries place h = λ i t x. go t x i
    where
      go : (t x : ℕ) → (ltb t txn_count and (is_object n x and has colours_set (place x) t)) ≡ (ltb t txn_count and (is_object n x and has w (place x) t))
      go t x = by_bool (ltb t txn_count)
          (λ e. rw e (by_bool (is_object n x)
          (λ o. let r = object_range n x o in rw (o, h x r.0 r.1, unflagged_bit (at w (place x)) t (ltb-true t txn_count e)) refl)
          (λ o. rw (o, false_and (has colours_set (place x) t), false_and (has w (place x) t)) refl)))
          (λ e. rw (e, false_and (is_object n x and has colours_set (place x) t), false_and (is_object n x and has w (place x) t)) refl)

  no_flags : (x : ℕ) → flag_bit colours_set n (created_at n) x ≡ false
  unfolding flag_bit
  no_flags x = by_bool (is_object n x)
      (λ o. let r = object_range n x o in let l = r.0 in let u = r.1 in
      rw (o, true_and (has colours_set (created_at n x) flag), colours_low (created_at n x) (omega arith), unflagged_created x l u) (without_same (at w (created_at n x)) flag))
      (λ o. rw (o, false_and (has colours_set (created_at n x) flag)) refl)

  pub start_tables : tables_of (pass_started w n) n ≡ record {
    kn = object_bit w n (known_at n);
    prt = object_bit w n (pruned_at n);
    cot = object_bit w n (created_at n);
    cot_f = λ x. false;
    dirty = page_bit w n (unflushed_at n);
  }
  unfolding pass_started colours_set
  start_tables = moved_tables n colours_set 1 0 0 length_colours ∙ λ i. record {
    kn = known_kept colours_set w n (λ k l u. colours_low k (omega arith) ∙ unflagged_outside k (λ a b. omega arith)) i;
    prt = entries (pruned_at n) (λ x l u. colours_low (pruned_at n x) (omega arith) ∙ unflagged_pruned x l u) i;
    cot = entries (created_at n) (λ x l u. colours_low (created_at n x) (omega arith) ∙ unflagged_created x l u) i;
    cot_f = λ x. no_flags x i;
    dirty = dirty_kept colours_set w n (λ k l u. colours_low k (omega arith) ∙ unflagged_outside k (λ a b. omega arith)) i;
  }

  module _ (flags : (x : ℕ) → 1 ≤ x → x ≤ object_count n → at w (pruned_at n x) < 2 ^ (txn_count + 1)) where
    none_beyond : (x : ℕ) → is_object n x ≡ false → some (object_bit w n (pruned_at n)) x ≡ false
    unfolding object_bit txns
    none_beyond x o = by_bool (anyb 16 (λ t. ltb t txn_count and (is_object n x and has w (pruned_at n x) t)))
        (λ e. anyb_elim 16 (λ t. ltb t txn_count and (is_object n x and has w (pruned_at n x) t)) e
        (λ t l b. clash (and_l _ _ (and_r _ _ b)) o))
        (λ e. e)

    root_inside : is_object n root ≡ true
    root_inside = rw (le-leb 1 root (omega arith), le-leb root (object_count n) (omega arith)) refl

    first_colours : (x : ℕ) → colour_at_object colours_set n x ≡ M.greyed (eqb x 1 or some (object_bit w n (pruned_at n)) x) white
    unfolding colour_at_object M.greyed ◌or◌
    first_colours x = by_bool (is_object n x)
        (λ o. let r = object_range n x o in rw (
          o,
          colours_at x r.0 r.1,
          o,
          unflagged_pruned x r.0 r.1,
          unflagged_anyb (at w (pruned_at n x)) (flags x r.0 r.1),
          ← (some_is w n (pruned_at n) x o),
        ) (chosen (eqb x 1) (some (object_bit w n (pruned_at n)) x)))
        (λ o. rw (o, none_beyond x o) (by_bool (eqb x 1) (λ e. clash root_inside (rw (eqb-true x 1 e) at o)) (λ e. rw e refl)))
      where
        chosen : (a b : Bool) → colour_of (if (a || b) 1 0) ≡ cond (a or b) grey white
        chosen true b = refl
        chosen false true = refl
        chosen false false = refl

    pub start_pass : pass_of (pass_started w n) n ≡ record { phase = M.marking; at = 0; steps = 0; col = λ x. M.greyed (eqb x 1 or some (object_bit w n (pruned_at n)) x) white }
    unfolding pass_started colours_set
    start_pass = moved_pass n colours_set 1 0 0 length_colours ∙ λ i. record { phase = M.marking; at = 0; steps = 0; col = λ x. first_colours x i }
