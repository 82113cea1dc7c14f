-- The working tables once a transaction has ended, as the collector machine's: n is the number of pages. Assumes nothing.
use Prim.Native.Nat.{ℕ, ◌+◌, ◌<◌, ◌≤◌}
use native.Mathlib.Omega.{arith}
use mathlib.Core.Path.{◌≡◌, ap, ◌∙◌, fun_ext}
use mathlib.Core.Bool.{Bool, true, not}
use mathlib.Core.List.{List}
use mathlib.Core.Logic.{inl, inr}
use lib.ListN.{length}
use lib.Seq.{get_or-set_same, get_or-set_other}
use lib.Dec.{eqb}
use Rattle.words.specs.Bits.{without_bit, bit_without}
use Rattle.pages.specs.Geometry.{is_object, object_count}
use Rattle.areas.specs.Layout.{phase_at, active_at, readers_at, writers_at, unflushed_at, known_at, pruned_at, created_at, colour_at, table_words, mark_count, marked_at, order_at, client_at}
use Rattle.areas.specs.Tables.{at, lose, pass_runs}
use Rattle.words.specs.Spans.{fill, length_fill, fill_inside, fill_outside}
use Rattle.calls.specs.Transactions.{leaves, ended_entry, ended_entries, without_marks, ended_tables}
use Rattle.collector.specs.Bits.{◌and◌, ◌or◌}
use Rattle.collector.specs.Calls.{unlocked, without}
use Rattle.machine_calls.specs.Tables.{object_bit, flag_bit, locks_of, tables_of, pass_of}
use Rattle.machine_calls.proofs.Frames.{Beside, beside_self, beside_set, beside_over, beside_fill, wider, later, locks_ext, tables_ext, locks_kept, tables_kept, pass_kept}
use Rattle.machine_calls.proofs.Masks.{page_drop, object_drop, over_page, over_object, ended_bit, flag_ended, active_drop}
use Rattle.machine_calls.proofs.Phases.{runs_phase}
use Rattle.records.specs.Records.{txn_count}

module _ (w : List ℕ) (n t : ℕ) where
  -- the stages, as the definition has them
  abbrev w1 : List ℕ
  w1 = lose w active_at t

  abbrev w2 : List ℕ
  w2 = leaves t w1 (readers_at n 0) n

  abbrev w3 : List ℕ
  w3 = leaves t w2 (writers_at n 0) n

  abbrev w4 : List ℕ
  w4 = leaves t w3 (unflushed_at n 0) n

  abbrev w5 : List ℕ
  w5 = leaves t w4 (known_at n 1) (object_count n)

  abbrev w6 : List ℕ
  w6 = ended_entries t w5 (pruned_at n 1) (object_count n)

  abbrev w7 : List ℕ
  w7 = ended_entries t w6 (created_at n 1) (object_count n)

  -- each stage changes the words behind those of the stages before it
  one : Beside active_at (readers_at n 0) w w1
  one = wider (beside_set w active_at _) (omega arith) (omega arith)

  two : Beside active_at (writers_at n 0) w w2
  two = later (wider one (omega arith) (omega arith)) (wider (beside_over _ w1 (readers_at n 0) n) (omega arith) (omega arith))

  three : Beside active_at (unflushed_at n 0) w w3
  three = later (wider two (omega arith) (omega arith)) (wider (beside_over _ w2 (writers_at n 0) n) (omega arith) (omega arith))

  four : Beside active_at (known_at n 1) w w4
  four = later (wider three (omega arith) (omega arith)) (wider (beside_over _ w3 (unflushed_at n 0) n) (omega arith) (omega arith))

  five : Beside active_at (pruned_at n 1) w w5
  five = later (wider four (omega arith) (omega arith)) (wider (beside_over _ w4 (known_at n 1) (object_count n)) (omega arith) (omega arith))

  six : Beside active_at (created_at n 1) w w6
  six = later (wider five (omega arith) (omega arith)) (wider (beside_over _ w5 (pruned_at n 1) (object_count n)) (omega arith) (omega arith))

  from6 : Beside (created_at n 1) (colour_at n 1) w6 w7
  from6 = wider (beside_over _ w6 (created_at n 1) (object_count n)) (omega arith) (omega arith)

  from5 : Beside (pruned_at n 1) (colour_at n 1) w5 w7
  from5 = later (wider (beside_over _ w5 (pruned_at n 1) (object_count n)) (omega arith) (omega arith)) (wider from6 (omega arith) (omega arith))

  from4 : Beside (known_at n 1) (colour_at n 1) w4 w7
  from4 = later (wider (beside_over _ w4 (known_at n 1) (object_count n)) (omega arith) (omega arith)) (wider from5 (omega arith) (omega arith))

  from3 : Beside (unflushed_at n 0) (colour_at n 1) w3 w7
  from3 = later (wider (beside_over _ w3 (unflushed_at n 0) n) (omega arith) (omega arith)) (wider from4 (omega arith) (omega arith))

  from2 : Beside (writers_at n 0) (colour_at n 1) w2 w7
  from2 = later (wider (beside_over _ w2 (writers_at n 0) n) (omega arith) (omega arith)) (wider from3 (omega arith) (omega arith))

  from1 : Beside (readers_at n 0) (colour_at n 1) w1 w7
  from1 = later (wider (beside_over _ w1 (readers_at n 0) n) (omega arith) (omega arith)) (wider from2 (omega arith) (omega arith))

  seven : Beside active_at (colour_at n 1) w w7
  seven = later (wider six (omega arith) (omega arith)) (wider from6 (omega arith) (omega arith))

  -- the words of marks and clients stand behind all of these
  abbrev w8 : List ℕ
  w8 = without_marks w7 n t

  abbrev end : ℕ
  end = order_at n t mark_count + client_at n t

  unmarked : Beside (table_words n) end w7 w8
  unfolding without_marks
  unmarked = later (wider (beside_fill (λ m. 0) w7 (marked_at n t 0) mark_count) (omega arith) (omega arith)) (wider (beside_fill (λ m. 0) _ (order_at n t 0) mark_count) (omega arith) (omega arith))

  marks : Beside (table_words n) end w7 (ended_tables w n t)
  unfolding ended_tables
  marks = later unmarked (wider (beside_set w8 (client_at n t) 0) (omega arith) (omega arith))

  pub ended_beside : Beside active_at end w (ended_tables w n t)
  ended_beside = later (wider seven (omega arith) (omega arith)) (wider marks (omega arith) (omega arith))

  pub ended_pass : pass_of (ended_tables w n t) n ≡ pass_of w n
  ended_pass = pass_kept marks n (inr (omega arith)) (inr (omega arith)) ∙ pass_kept seven n (inr (omega arith)) (inl (omega arith))

  -- no mark of t is set, and others' stay
  pub ended_unset : t < txn_count → (m : ℕ) → m < mark_count → order_at n t mark_count ≤ length w → at (ended_tables w n t) (order_at n t m) ≡ 0
  unfolding ended_tables without_marks
  ended_unset small m l len = get_or-set_other w8 (client_at n t) (order_at n t m) 0 0 (λ z. omega arith) ∙ ap (at w8) place ∙ fill_inside (λ m. 0) (fill (λ m. 0) w7 (marked_at n t 0) mark_count) (order_at n t 0) mark_count m
      (let a = seven.same_length in let b = length_fill (λ m. 0) w7 (marked_at n t 0) mark_count in omega arith) l
    where
      place : order_at n t m ≡ order_at n t 0 + m
      place = omega arith

  pub ended_others : (j : ℕ) → table_words n ≤ j → (j ≡ client_at n t → ⊥) → ((m : ℕ) → m < mark_count → (j ≡ marked_at n t m → ⊥) × (j ≡ order_at n t m → ⊥)) → at (ended_tables w n t) j ≡ at w j
  unfolding ended_tables without_marks
  ended_others j l c h = get_or-set_other w8 (client_at n t) j 0 0 c ∙ fill_outside (λ m. 0) (fill (λ m. 0) w7 (marked_at n t 0) mark_count) (order_at n t 0) mark_count j 0 (λ m k z. (h m k).1 (omega arith))
      ∙ fill_outside (λ m. 0) w7 (marked_at n t 0) mark_count j 0 (λ m k z. (h m k).0 (omega arith))
      ∙ seven.above j (omega arith)

  -- the pass runs or not as before
  runs5 : pass_runs w5 ≡ pass_runs w
  runs5 = ap (λ (k : ℕ). not (eqb k 0)) (five.below phase_at (omega arith))

  runs6 : pass_runs w6 ≡ pass_runs w
  runs6 = ap (λ (k : ℕ). not (eqb k 0)) (six.below phase_at (omega arith))

  module _ (len : table_words n ≤ length w) where
    inactive : at w7 active_at ≡ without_bit (at w active_at) t
    inactive = from1.below active_at (omega arith) ∙ get_or-set_same w active_at (without_bit (at w active_at) t) 0 (omega arith)

    pub ended_locks : locks_of (ended_tables w n t) n ≡ unlocked (locks_of w n) t
    ended_locks = locks_kept marks n (inr (omega arith)) ∙ locks_ext (locks_of w7 n) _ (active_drop w w7 active_at t inactive)
        (page_drop w n _ t w7 (over_page (λ m. without_bit m t) n one (omega arith) from2 (omega arith) (omega arith)))
        (page_drop w n _ t w7 (over_page (λ m. without_bit m t) n two (omega arith) from3 (omega arith) (omega arith)))

    pruned_words : (x : ℕ) → is_object n x ≡ true → at w7 (pruned_at n x) ≡ ended_entry (pass_runs w) t (at w (pruned_at n x))
    pruned_words x l = over_object (ended_entry (pass_runs w5) t) n five (omega arith) from6 (omega arith) (omega arith) x l
        ∙ ap (λ (b : Bool). ended_entry b t (at w (pruned_at n x))) runs5

    created_words : (x : ℕ) → is_object n x ≡ true → at w7 (created_at n x) ≡ ended_entry (pass_runs w) t (at w (created_at n x))
    created_words x l = over_object (ended_entry (pass_runs w6) t) n six (omega arith) (beside_self (colour_at n 1) 0 w7) (omega arith) (omega arith) x l
        ∙ ap (λ (b : Bool). ended_entry b t (at w (created_at n x))) runs6

    pub ended_tables_law : t < txn_count → tables_of (ended_tables w n t) n ≡ without (tables_of w n) (pass_of w n).phase t
    ended_tables_law small = tables_kept marks n (inr (omega arith)) ∙ tables_ext (tables_of w7 n) _
        (object_drop w n _ t w7 (λ m. without_bit m t) (λ m u l. bit_without m t u) (over_object (λ m. without_bit m t) n four (omega arith) from5 (omega arith) (omega arith)))
        (object_drop w n _ t w7 (ended_entry (pass_runs w) t) (ended_bit (pass_runs w) t) pruned_words)
        (object_drop w n _ t w7 (ended_entry (pass_runs w) t) (ended_bit (pass_runs w) t) created_words)
        (flag_ended w w7 n _ t (pass_runs w) small created_words
        ∙ fun_ext (λ x. ap (λ (b : Bool). flag_bit w n (created_at n) x or (b and object_bit w n (created_at n) t x)) (runs_phase w)))
        (page_drop w n _ t w7 (over_page (λ m. without_bit m t) n three (omega arith) from4 (omega arith) (omega arith)))
