-- Document 01, 'Working ranges': what working words in range say, table by table, and of everything that refusal 1 looks at.
-- Assumes nothing.
use Rattle.std.specs.Prelude.{ℕ, suc, ◌+◌, ◌-◌, ◌^◌, ◌<◌, ◌≤◌, ◌≡◌, Bool, true, false, List, ◌∷◌, get_or, leb, ltb}
use Rattle.std.proofs.Common.{subst, arith, leb-true}
use Rattle.words.specs.Tests.{if, all_at, and_split}
use Rattle.words.specs.Spans.{up_to}
use Rattle.pages.specs.Geometry.{object_count}
use Rattle.pages.specs.Soundness.{area_sound}
use Rattle.records.specs.Records.{txn_count, mask_top}
use Rattle.records.specs.Soundness.{records_sound}
use Rattle.areas.specs.Areas.{Areas, received_count, stable_count}
use Rattle.areas.specs.Layout.{Row, reopening_at, reopening_page_at, phase_at, pass_page_at, steps_at, active_at, readers_at, writers_at, unflushed_at, known_at, pruned_at, created_at, colour_at, mark_count, marked_at, order_at, client_count, client_at, right_at, undoing_at, finished, flagged_top, steps_top, colour_top, changes_top, order_top, client_top, writing, undoing_top}
use Rattle.areas.specs.Tables.{at}
use Rattle.areas.specs.Ranges.{rows_in_range, work_in_range, counts_in_range, in_range}
use Rattle.areas.specs.Entry.{records}

-- a word of a run that is in range
pub up_to_at : (w : List ℕ) (a n top k : ℕ) → up_to w a n top ≡ true → k < n → at w (a + k) ≤ top
unfolding up_to
up_to_at w a n top k h l = leb-true _ _ (all_at (λ j. leb (get_or w (a + j) 0) top) n k h l)

pub up_to_within : (w : List ℕ) (a n top i : ℕ) → up_to w a n top ≡ true → a ≤ i → i < a + n → at w i ≤ top
up_to_within w a n top i h l u = subst (λ (j : ℕ). at w j ≤ top) (omega arith) (up_to_at w a n top (i - a) h (omega arith))

-- one field for each row of the layout
pub record Working (w : List ℕ) (n l : ℕ) : Type 0 where
  pub reopening_word : at w reopening_at ≤ finished
  pub reopening_page : at w reopening_page_at ≤ n
  pub phase : at w phase_at ≤ 2
  pub pass_page : at w pass_page_at < n
  pub steps : at w steps_at ≤ steps_top n
  pub active : at w active_at < 2 ^ txn_count
  pub readers : (p : ℕ) → p < n → at w (readers_at n p) < 2 ^ txn_count
  pub writers : (p : ℕ) → p < n → at w (writers_at n p) < 2 ^ txn_count
  pub unflushed : (p : ℕ) → p < n → at w (unflushed_at n p) < 2 ^ txn_count
  pub known : (o : ℕ) → 1 ≤ o → o ≤ object_count n → at w (known_at n o) < 2 ^ txn_count
  pub pruned : (o : ℕ) → 1 ≤ o → o ≤ object_count n → at w (pruned_at n o) < 2 ^ (txn_count + 1)
  pub created : (o : ℕ) → 1 ≤ o → o ≤ object_count n → at w (created_at n o) < 2 ^ (txn_count + 1)
  pub colours : (o : ℕ) → 1 ≤ o → o ≤ object_count n → at w (colour_at n o) ≤ colour_top
  pub marked : (t m : ℕ) → t < txn_count → m < mark_count → at w (marked_at n t m) ≤ changes_top l
  pub order : (t m : ℕ) → t < txn_count → m < mark_count → at w (order_at n t m) ≤ order_top l
  pub clients : (t : ℕ) → t < txn_count → at w (client_at n t) ≤ client_top l
  pub rights : (c p : ℕ) → c < client_count → p < n → at w (right_at n c p) ≤ writing
  pub undoing : (i : ℕ) → i < l → at w (undoing_at n i) ≤ undoing_top l

-- a row whose words are in range, and the rows after it
row_facts : (w : List ℕ) (r : Row) (rs : List Row) → rows_in_range w (r ∷ rs) ≡ true →
    ((i : ℕ) → r.first ≤ i → i < r.first + r.many → at w i ≤ r.top) × (rows_in_range w rs ≡ true)
unfolding rows_in_range
row_facts w r rs h = let p = and_split (up_to w r.first r.many r.top) (rows_in_range w rs) h in
    (λ i. up_to_within w r.first r.many r.top i p.0, p.1)

below : (a top : ℕ) → a ≤ top → a < suc top
below a top h = omega arith

pub in_rows : (w : List ℕ) (n l : ℕ) → 1 ≤ n → work_in_range w n l ≡ true → Working w n l
unfolding work_in_range
in_rows w n l low h =
    let r1 = row_facts w _ _ h in
    let r2 = row_facts w _ _ r1.1 in
    let r3 = row_facts w _ _ r2.1 in
    let r4 = row_facts w _ _ r3.1 in
    let r5 = row_facts w _ _ r4.1 in
    let r6 = row_facts w _ _ r5.1 in
    let r7 = row_facts w _ _ r6.1 in
    let r8 = row_facts w _ _ r7.1 in
    let r9 = row_facts w _ _ r8.1 in
    let r10 = row_facts w _ _ r9.1 in
    let r11 = row_facts w _ _ r10.1 in
    let r12 = row_facts w _ _ r11.1 in
    let r13 = row_facts w _ _ r12.1 in
    let r14 = row_facts w _ _ r13.1 in
    let r15 = row_facts w _ _ r14.1 in
    let r16 = row_facts w _ _ r15.1 in
    let r17 = row_facts w _ _ r16.1 in
    let r18 = row_facts w _ _ r17.1 in
    record {
      reopening_word = r1.0 reopening_at (omega arith) (omega arith);
      reopening_page = r2.0 reopening_page_at (omega arith) (omega arith);
      phase = r3.0 phase_at (omega arith) (omega arith);
      pass_page = (let e = below _ (n - 1) (r4.0 pass_page_at (omega arith) (omega arith)) in omega arith);
      steps = r5.0 steps_at (omega arith) (omega arith);
      active = below _ mask_top (r6.0 active_at (omega arith) (omega arith));
      readers = λ p l. below _ mask_top (r7.0 (readers_at n p) (omega arith) (omega arith));
      writers = λ p l. below _ mask_top (r8.0 (writers_at n p) (omega arith) (omega arith));
      unflushed = λ p l. below _ mask_top (r9.0 (unflushed_at n p) (omega arith) (omega arith));
      known = λ o a b. below _ mask_top (r10.0 (known_at n o) (omega arith) (omega arith));
      pruned = λ o a b. below _ flagged_top (r11.0 (pruned_at n o) (omega arith) (omega arith));
      created = λ o a b. below _ flagged_top (r12.0 (created_at n o) (omega arith) (omega arith));
      colours = λ o a b. r13.0 (colour_at n o) (omega arith) (omega arith);
      marked = λ t m a b. r14.0 (marked_at n t m) (omega arith) (omega arith);
      order = λ t m a b. r15.0 (order_at n t m) (omega arith) (omega arith);
      clients = λ t a. r16.0 (client_at n t) (omega arith) (omega arith);
      rights = λ c p a b. r17.0 (right_at n c p) (omega arith) (omega arith);
      undoing = λ i a. r18.0 (undoing_at n i) (omega arith) (omega arith);
    }

-- a client is one of the eight
pub client_in : (w : List ℕ) (n l t : ℕ) → Working w n l → t < txn_count → at w (client_at n t) < client_count
client_in w n l t h small = let e = h.clients t small in let d = top_small (ltb 1 l) in omega arith
  where
    top_small : (b : Bool) → if b (client_count - 1) 0 < client_count
    top_small true = omega arith
    top_small false = omega arith

-- the counts, for a log of l records
pub counts_facts : (k : List ℕ) (l : ℕ) → counts_in_range k l ≡ true → (get_or k 1 0 ≤ get_or k 0 0) × (get_or k 0 0 ≤ l)
unfolding counts_in_range
counts_facts k l h = let p = and_split _ _ h in (leb-true _ _ p.1, leb-true _ _ p.0)

-- everything that refusal 1 looks at besides the lengths
pub record Ranged (s : Areas) (n : ℕ) : Type 0 where
  pub stable_le : stable_count s ≤ received_count s
  pub received_le : received_count s ≤ records s
  pub working : Working s.work n (records s)
  pub received_sound : area_sound s.received n ≡ true
  pub copies_sound : area_sound s.copies n ≡ true
  pub records_sound_law : records_sound n s.log (received_count s) ≡ true

pub ranged : (s : Areas) (n : ℕ) → 1 ≤ n → in_range s n (records s) ≡ true → Ranged s n
unfolding in_range
ranged s n low h =
    let h4 = and_split _ _ h in
    let h3 = and_split _ _ h4.0 in
    let h2 = and_split _ _ h3.0 in
    let h1 = and_split _ _ h2.0 in
    let k = counts_facts s.counts (records s) h1.0 in
    record {
      stable_le = k.0;
      received_le = k.1;
      working = in_rows s.work n (records s) low h1.1;
      received_sound = h2.1;
      copies_sound = h3.1;
      records_sound_law = h4.1;
    }
