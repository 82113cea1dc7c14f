-- A transaction's changes undone, newest first, by a walk down the log that appends to the log it reads. n is the number of pages, w the
-- working tables. Assumes nothing.
use Prim.Native.Nat.{ℕ, suc, ◌+◌, ◌*◌, ◌-◌, ◌/◌, ◌<◌, ◌≤◌}
use Rattle.std.specs.Prelude.{◌≡◌, true, set, Option, Some, None}
use Rattle.std.proofs.Math.Path.{refl, ap}
use Rattle.std.proofs.Common.{sym, ◌∙◌, arith}
use mathlib.Core.List.{List, [], ◌∷◌}
use Rattle.std.proofs.Math.ListN.{length, get_or}
use Rattle.std.proofs.Math.Seq.{get_or-set_same}
use Rattle.words.specs.Tests.{and_l}
use Rattle.records.specs.declared.Record.{Record}
use Rattle.pages.specs.Geometry.{page_words}
use Rattle.records.specs.Records.{record_words, max_records, txn_count, record_at, recorded, is_change, aborted_of}
use Rattle.records.specs.Effects.{effect, undoing}
use Rattle.records.specs.Soundness.{record_sound, records_sound}
use Rattle.record_laws.specs.RecordLaws.{Agree, recorded_other, records_sound_at}
use Rattle.record_laws.specs.SoundRecords.{undoing_sound, aborted_sound}
use Rattle.record_ops.specs.InRange.{sound_in_range}
use Rattle.log_turns.specs.Turns.{turn_at, below, left_tells, past_tells, below_all, below_some, below_left, below_past}
use Rattle.areas.specs.Areas.{Areas, count_words, areas, appended}
use Rattle.areas.specs.Layout.{HasUndoing, undoing_at}
use Rattle.areas.specs.Tables.{undoes}
use Rattle.areas.specs.Ranges.{records_in}
use Rattle.calls.specs.Transactions.{rolled_back}
use Rattle.log_ops.specs.Logs.{Kept, Fits, left_in}

-- what the walk needs of the pages a, the log g, the counts k and the tables w of n pages: sound records with an undoing word each, and
-- room for the undoing records and one more
pub record Undoable (a g k w : List ℕ) (n t : ℕ) : Type 0 where
  pub kept : Kept g k
  pub words : HasUndoing w n (get_or k 0 0)
  pub sound : records_sound (length a / page_words) g (get_or k 0 0) ≡ true
  pub txn : t < txn_count
  pub room : get_or k 0 0 + length (left_in g k w n t) + 1 ≤ records_in (length g)
  pub top : records_in (length g) ≤ max_records

module _ (a₀ g₀ k₀ w : List ℕ) (n t : ℕ) where
  -- the changes still to be undone at record i, p of them undone by going back
  abbrev rest : ℕ → ℕ → List ℕ
  rest i p = below (undoes w n) g₀ (get_or k₀ 0 0) t i p

  whole : left_in g₀ k₀ w n t ≡ rest (get_or k₀ 0 0) 0
  whole = below_all (undoes w n) g₀ (get_or k₀ 0 0) t

-- the walk at record i with some changes left, p undone by going back: it started with pages a₀, log g₀ and counts k₀, and is at a, g
-- and k
pub record Rolling (a₀ g₀ k₀ w : List ℕ) (n t : ℕ) (a g k : List ℕ) (i left p : ℕ) : Type 0 where
  pub few : p + i ≤ get_or k₀ 0 0
  pub remain : left ≡ length (rest a₀ g₀ k₀ w n t i p)
  pub pages_len : length a ≡ length a₀
  pub log_len : length g ≡ length g₀
  pub two : length k ≡ count_words
  pub since : get_or k₀ 0 0 ≤ get_or k 0 0
  pub count : get_or k 0 0 + left ≡ get_or k₀ 0 0 + length (left_in g₀ k₀ w n t)
  pub before : Agree g g₀ (get_or k₀ 0 0)
  pub rolls : rolled_back g₀ (rest a₀ g₀ k₀ w n t i p) (areas [] [] a g k []) ≡ rolled_back g₀ (left_in g₀ k₀ w n t) (areas [] [] a₀ g₀ k₀ [])

module _ (a₀ g₀ k₀ w : List ℕ) (n t : ℕ) where
  pub rolling_start : (left : ℕ) → Undoable a₀ g₀ k₀ w n t → left ≡ length (left_in g₀ k₀ w n t) → Rolling a₀ g₀ k₀ w n t a₀ g₀ k₀ (get_or k₀ 0 0) left 0
  rolling_start left u e =
      record {
        few = omega arith;
        remain = e ∙ ap length (whole a₀ g₀ k₀ w n t);
        pages_len = refl;
        log_len = refl;
        two = u.kept.two;
        since = omega arith;
        count = omega arith;
        before = λ i l. refl;
        rolls = ap (λ (l : List ℕ). rolled_back g₀ l (areas [] [] a₀ g₀ k₀ [])) (sym (whole a₀ g₀ k₀ w n t));
      }

  module _ (a g k : List ℕ) (i left p : ℕ) (u : Undoable a₀ g₀ k₀ w n t) (s : Rolling a₀ g₀ k₀ w n t a g k i left p) (some : 0 < left) where
    down : 0 < length (rest a₀ g₀ k₀ w n t i p)
    down = let e = s.remain in omega arith

    pub rolling_some : 0 < i
    rolling_some = below_some (undoes w n) g₀ (get_or k₀ 0 0) t i p down

    -- record i - 1 has its words, and an undoing word
    pub rolling_inside : (record_words * (i - 1) + record_words ≤ length g) × (undoing_at n (i - 1) < length w) × (i - 1 ≤ max_records) × (p ≤ max_records)
    rolling_inside =
        let q = rolling_some in
        let f = s.few in
        let l = s.log_len in
        let h = u.kept.inside in
        let m = u.kept.few in
        let x = u.words.1 in
        (omega arith, omega arith, omega arith, omega arith)

    -- one turn, as the code makes it: r is the record that it read, x the turn
    module _ (r : Record) (read : r ≡ record_at g (i - 1)) (x : Option ℕ) (ex : x ≡ turn_at (undoes w n (i - 1)) r t p) where
      same : r ≡ record_at g₀ (i - 1)
      same = let q = rolling_some in let f = s.few in read ∙ s.before (i - 1) (omega arith)

      turn : (y : Option ℕ) → x ≡ y → turn_at (undoes w n (i - 1)) (record_at g₀ (i - 1)) t p ≡ y
      turn y e = ap (λ (q : Record). turn_at (undoes w n (i - 1)) q t p) (sym same) ∙ sym ex ∙ e

      -- i, as the laws name it
      top : i ≡ (i - 1) + 1
      top = let q = rolling_some in omega arith

      more : 0 < length (rest a₀ g₀ k₀ w n t ((i - 1) + 1) p)
      more = rw (← top) down

      left_next : x ≡ None → rest a₀ g₀ k₀ w n t i p ≡ (i - 1) ∷ rest a₀ g₀ k₀ w n t (i - 1) p
      left_next e = ap (λ (j : ℕ). rest a₀ g₀ k₀ w n t j p) top ∙ below_left (undoes w n) g₀ (get_or k₀ 0 0) t (i - 1) p more (turn None e)

      past_next : (q : ℕ) → x ≡ Some q → rest a₀ g₀ k₀ w n t i p ≡ rest a₀ g₀ k₀ w n t (i - 1) q
      past_next q e = ap (λ (j : ℕ). rest a₀ g₀ k₀ w n t j p) top ∙ below_past (undoes w n) g₀ (get_or k₀ 0 0) t (i - 1) p more q (turn (Some q) e)

      -- a record passed over
      pub rolling_past : (q : ℕ) → x ≡ Some q → Rolling a₀ g₀ k₀ w n t a g k (i - 1) left q
      rolling_past q e =
          let d = rolling_some in
          let f = s.few in
          let l = past_tells (undoes w n (i - 1)) r t p q (sym ex ∙ e) in
          record {
            few = omega arith;
            remain = s.remain ∙ ap length (past_next q e);
            pages_len = s.pages_len;
            log_len = s.log_len;
            two = s.two;
            since = s.since;
            count = s.count;
            before = s.before;
            rolls = ap (λ (l : List ℕ). rolled_back g₀ l (areas [] [] a g k [])) (sym (past_next q e)) ∙ s.rolls;
          }

      -- a change undone, by the record v
      module _ (v : Record) (ev : v ≡ undoing r) (e : x ≡ None) where
        pub rolling_fits : Fits a g k v
        rolling_fits =
            let d = rolling_some in
            let f = s.few in
            let c = (left_tells (undoes w n (i - 1)) r t p (sym ex ∙ e)).0 in
            let o = u.room in
            let m = u.top in
            let b = s.count in
            let l = s.log_len in
            let ch : is_change (record_at g₀ (i - 1)) t ≡ true = ap (λ (q : Record). is_change q t) (sym same) ∙ c in
            record {
              in_range_law = sound_in_range a v (ap (record_sound (length a / page_words)) (ev ∙ ap undoing same) ∙ ap (λ (z : ℕ). record_sound (z / page_words) (undoing (record_at g₀ (i - 1)))) s.pages_len
                  ∙ undoing_sound (length a₀ / page_words) (record_at g₀ (i - 1)) (records_sound_at (length a₀ / page_words) g₀ (get_or k₀ 0 0) (i - 1) u.sound (omega arith)) (and_l _ _ ch));
              two = s.two;
              few = omega arith;
              inside = omega arith;
            }

        pub rolling_left : (c : ℕ) (a' g' k' : List ℕ) → length a' ≡ length a → length g' ≡ length g → length k' ≡ length k →
            (c ≡ get_or k 0 0 + 1) × (a' ≡ effect a v) × (g' ≡ recorded g (get_or k 0 0) v) × (k' ≡ set k 0 (get_or k 0 0 + 1)) →
            Rolling a₀ g₀ k₀ w n t a' g' k' (i - 1) (left - 1) p
        unfolding rolled_back appended
        rolling_left c a' g' k' la lg lk h =
            let d = rolling_some in
            let f = s.few in
            let sn = s.since in
            let ct = s.count in
            let tw = s.two in
            let b : left ≡ suc (length (rest a₀ g₀ k₀ w n t (i - 1) p)) = s.remain ∙ ap length (left_next e) in
            let m : get_or k' 0 0 ≡ get_or k 0 0 + 1 = ap (λ (y : List ℕ). get_or y 0 0) h.3 ∙ get_or-set_same k 0 (get_or k 0 0 + 1) 0 (omega arith) in
            record {
              few = omega arith;
              remain = omega arith;
              pages_len = la ∙ s.pages_len;
              log_len = lg ∙ s.log_len;
              two = lk ∙ s.two;
              since = omega arith;
              count = omega arith;
              before = λ j l. rw h.2 (recorded_other g (get_or k 0 0) v j (λ z. omega arith)) ∙ s.before j l;
              rolls = ap (rolled_back g₀ (rest a₀ g₀ k₀ w n t (i - 1) p)) (rw (h.1, h.2, h.3, ev, same))
                  ∙ ap (λ (l : List ℕ). rolled_back g₀ l (areas [] [] a g k [])) (sym (left_next e)) ∙ s.rolls;
            }

  none : (l : List ℕ) (s : Areas) → 0 ≡ length l → rolled_back g₀ l s ≡ s
  unfolding rolled_back
  none [] s e = refl
  none (i ∷ is) s e = absurd (omega arith)

  pub rolling_end : (a g k : List ℕ) (i left p : ℕ) → Rolling a₀ g₀ k₀ w n t a g k i left p → left ≡ 0 →
      (areas [] [] a g k [] ≡ rolled_back g₀ (left_in g₀ k₀ w n t) (areas [] [] a₀ g₀ k₀ [])) × (get_or k 0 0 ≡ get_or k₀ 0 0 + length (left_in g₀ k₀ w n t))
  rolling_end a g k i left p s e =
      let c = s.count in
      (sym (none (rest a₀ g₀ k₀ w n t i p) (areas [] [] a g k []) (sym e ∙ s.remain)) ∙ s.rolls, omega arith)

-- the end of t, after the undoing records
module _ (a g k w : List ℕ) (n t : ℕ) (a' g' k' : List ℕ) where
  pub end_fits : Undoable a g k w n t → length a' ≡ length a → length g' ≡ length g → length k' ≡ length k →
      get_or k' 0 0 ≡ get_or k 0 0 + length (left_in g k w n t) → Fits a' g' k' (aborted_of t)
  end_fits u la lg lk e =
      let r = u.room in
      let m = u.top in
      record { in_range_law = sound_in_range a' (aborted_of t) (aborted_sound (length a' / page_words) t u.txn); two = lk ∙ u.kept.two; few = omega arith; inside = omega arith }

pub end_logged : (z : Areas) (r : Record) (a g k : List ℕ) (x : ℕ) (a' g' k' : List ℕ) → length k ≡ count_words → areas [] [] a g k [] ≡ z →
    (x ≡ get_or k 0 0 + 1) × (a' ≡ effect a r) × (g' ≡ recorded g (get_or k 0 0) r) × (k' ≡ set k 0 (get_or k 0 0 + 1)) →
    (areas [] [] a' g' k' [] ≡ appended z r) × (x ≡ get_or k' 0 0)
unfolding appended
end_logged z r a g k x a' g' k' l e h =
    (rw (h.1, h.2, h.3) (ap (λ (s : Areas). appended s r) e), h.0 ∙ sym (ap (λ (y : List ℕ). get_or y 0 0) h.3 ∙ get_or-set_same k 0 (get_or k 0 0 + 1) 0 (omega arith)))
