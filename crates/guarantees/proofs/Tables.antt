-- Working words in range: each word by its place, and that every change a call makes keeps it, in a store of n pages and l log records.
-- Assumes nothing.
use Prim.Native.Nat.{ℕ, zero, suc, ◌+◌, ◌-◌, ◌/◌, ◌%◌, ◌≤◌, ◌<◌, ◌^◌}
use native.Mathlib.Omega.{arith}
use native.Mathlib.Decide.{ℕ_discrete, dec_lt}
use mathlib.Core.Path.{◌≡◌, refl, ◌∙◌}
use mathlib.Core.Bool.{Bool, true, not, ◌&&◌, ◌||◌}
use mathlib.Core.List.{List, [], ◌∷◌}
use lib.ListN.{length, get_or, set, length-set}
use lib.Seq.{get_or-set_same, get_or-set_other, set_out}
use lib.Dec.{eqb, leb, ltb}
use borrow.Author.Tests.{eq-eqb, eqb-false, le-leb, leb-true, lt-ltb, ltb-true, not-true}
use Rattle.words.specs.Tests.{if, all_intro, by_bool, and_split}
use Rattle.words.specs.Bits.{bit, with_bit, without_bit, with_lt, without_le}
use Rattle.words.specs.Spans.{over, fill, up_to}
use Rattle.words.specs.Counts.{count_less}
use Rattle.pages.specs.Geometry.{is_ref, page_of, root, object_count, slot_words}
use Rattle.pages.specs.Objects.{word_of, occupied}
use Rattle.pages.specs.Soundness.{area_sound}
use Rattle.page_laws.specs.SoundFacts.{ref_in_range}
use Rattle.areas.specs.Layout.{phase_at, pass_page_at, steps_at, active_at, readers_at, writers_at, unflushed_at, known_at, pruned_at, created_at, colour_at, marked_at, order_at, undoing_at, Row, table_words, work_words, steps_top, pruned_from, writers_from, known_from, unflushed_from, colours_from, created_from, marked_from, order_from, clients_from, rights_from, undoing_from, mark_count, client_count, client_at, right_at, flagged_top, changes_top, order_top, client_top, writing, undoing_top}
use Rattle.areas.specs.Ranges.{rows_in_range, work_in_range}
use Rattle.areas.specs.Tables.{at, gain, lose, flag, greyed, with_pass, steps_next, can_write, is_white, is_marking, pass_runs, pass_first, pass_end, may_mark}
use Rattle.acceptance.specs.Working.{Working}
use Rattle.calls.specs.Locks.{read_locked, write_locked}
use Rattle.calls.specs.Marks.{order_of, is_set, others_set, moved_up, set_last, taken_back, dropped}
use Rattle.calls.specs.Objects.{learned, pruned, prunes}
use Rattle.calls.specs.Pass.{unflagged, first_colour, pass_started, targets_greyed, scanned, advanced}
use Rattle.calls.specs.Rights.{right_given}
use Rattle.calls.specs.Transactions.{leaves, begun_tables, ended_entry, ended_entries, without_marks, ended_tables}
use Rattle.records.specs.declared.Record.{Record}
use Rattle.records.specs.Records.{txn_count, mask_top, is_create}

-- v is in range at word i
pub data Fits (n l i v : ℕ) : Type 0 where
  word : i ≡ 0 → v ≤ 2 → Fits n l i v
  reopening_page : i ≡ 1 → v ≤ n → Fits n l i v
  phase : i ≡ 2 → v ≤ 2 → Fits n l i v
  pass_page : i ≡ 3 → v < n → Fits n l i v
  steps : i ≡ 4 → v ≤ steps_top n → Fits n l i v
  mask : active_at ≤ i → i < pruned_from n → v < 2 ^ txn_count → Fits n l i v
  flagged : pruned_from n ≤ i → i < colours_from n → v < 2 ^ (txn_count + 1) → Fits n l i v
  colour : colours_from n ≤ i → i < table_words n → v ≤ 2 → Fits n l i v
  marked : table_words n ≤ i → i < order_from n → v ≤ changes_top l → Fits n l i v
  order : order_from n ≤ i → i < clients_from n → v ≤ order_top l → Fits n l i v
  client : clients_from n ≤ i → i < rights_from n → v ≤ client_top l → Fits n l i v
  right : rights_from n ≤ i → i < undoing_from n → v ≤ writing → Fits n l i v
  undoing : undoing_from n ≤ i → v ≤ undoing_top l → Fits n l i v

pub record Within (w : List ℕ) (n l : ℕ) : Type 0 where
  pub size : length w ≡ work_words n l
  pub fits : (i : ℕ) → i < work_words n l → Fits n l i (at w i)

-- what a fitting word is at most
module _ (n l i v : ℕ) where
  fits_low : Fits n l i v → i < 5 → ((i ≡ 0 → v ≤ 2) × (i ≡ 1 → v ≤ n) × (i ≡ 2 → v ≤ 2) × (i ≡ 3 → v < n) × (i ≡ 4 → v ≤ steps_top n))
  fits_low (word e h) a = (λ z. omega arith, λ z. absurd (omega arith), λ z. absurd (omega arith), λ z. absurd (omega arith), λ z. absurd (omega arith))
  fits_low (reopening_page e h) a = (λ z. absurd (omega arith), λ z. omega arith, λ z. absurd (omega arith), λ z. absurd (omega arith), λ z. absurd (omega arith))
  fits_low (phase e h) a = (λ z. absurd (omega arith), λ z. absurd (omega arith), λ z. omega arith, λ z. absurd (omega arith), λ z. absurd (omega arith))
  fits_low (pass_page e h) a = (λ z. absurd (omega arith), λ z. absurd (omega arith), λ z. absurd (omega arith), λ z. omega arith, λ z. absurd (omega arith))
  fits_low (steps e h) a = (λ z. absurd (omega arith), λ z. absurd (omega arith), λ z. absurd (omega arith), λ z. absurd (omega arith), λ z. omega arith)
  fits_low (mask p q h) a = absurd (omega arith)
  fits_low (flagged p q h) a = absurd (omega arith)
  fits_low (colour p q h) a = absurd (omega arith)
  fits_low (marked p q h) a = absurd (omega arith)
  fits_low (order p q h) a = absurd (omega arith)
  fits_low (client p q h) a = absurd (omega arith)
  fits_low (right p q h) a = absurd (omega arith)
  fits_low (undoing p h) a = absurd (omega arith)

  fits_masks : Fits n l i v → active_at ≤ i → i < colours_from n → ((i < pruned_from n → v ≤ mask_top) × (pruned_from n ≤ i → v ≤ flagged_top))
  fits_masks (word e h) a b = absurd (omega arith)
  fits_masks (reopening_page e h) a b = absurd (omega arith)
  fits_masks (phase e h) a b = absurd (omega arith)
  fits_masks (pass_page e h) a b = absurd (omega arith)
  fits_masks (steps e h) a b = absurd (omega arith)
  fits_masks (mask p q h) a b = (λ z. omega arith, λ z. absurd (omega arith))
  fits_masks (flagged p q h) a b = (λ z. absurd (omega arith), λ z. omega arith)
  fits_masks (colour p q h) a b = absurd (omega arith)
  fits_masks (marked p q h) a b = absurd (omega arith)
  fits_masks (order p q h) a b = absurd (omega arith)
  fits_masks (client p q h) a b = absurd (omega arith)
  fits_masks (right p q h) a b = absurd (omega arith)
  fits_masks (undoing p h) a b = absurd (omega arith)

  fits_late : Fits n l i v → colours_from n ≤ i
      → ((i < table_words n → v ≤ 2) × (table_words n ≤ i → i < order_from n → v ≤ changes_top l) × (order_from n ≤ i → i < clients_from n → v ≤ order_top l)
      × (clients_from n ≤ i → i < rights_from n → v ≤ client_top l) × (rights_from n ≤ i → i < undoing_from n → v ≤ writing) × (undoing_from n ≤ i → v ≤ undoing_top l))
  fits_late (word e h) a = absurd (omega arith)
  fits_late (reopening_page e h) a = absurd (omega arith)
  fits_late (phase e h) a = absurd (omega arith)
  fits_late (pass_page e h) a = absurd (omega arith)
  fits_late (steps e h) a = absurd (omega arith)
  fits_late (mask p q h) a = absurd (omega arith)
  fits_late (flagged p q h) a = absurd (omega arith)
  fits_late (colour p q h) a = (λ z. h, λ y z. absurd (omega arith), λ y z. absurd (omega arith), λ y z. absurd (omega arith), λ y z. absurd (omega arith), λ z. absurd (omega arith))
  fits_late (marked p q h) a = (λ z. absurd (omega arith), λ y z. h, λ y z. absurd (omega arith), λ y z. absurd (omega arith), λ y z. absurd (omega arith), λ z. absurd (omega arith))
  fits_late (order p q h) a = (λ z. absurd (omega arith), λ y z. absurd (omega arith), λ y z. h, λ y z. absurd (omega arith), λ y z. absurd (omega arith), λ z. absurd (omega arith))
  fits_late (client p q h) a = (λ z. absurd (omega arith), λ y z. absurd (omega arith), λ y z. absurd (omega arith), λ y z. h, λ y z. absurd (omega arith), λ z. absurd (omega arith))
  fits_late (right p q h) a = (λ z. absurd (omega arith), λ y z. absurd (omega arith), λ y z. absurd (omega arith), λ y z. absurd (omega arith), λ y z. h, λ z. absurd (omega arith))
  fits_late (undoing p h) a = (λ z. absurd (omega arith), λ y z. absurd (omega arith), λ y z. absurd (omega arith), λ y z. absurd (omega arith), λ y z. absurd (omega arith), λ z. h)

-- in range by rows
up_to_law : (w : List ℕ) (a k top : ℕ) → ((i : ℕ) → a ≤ i → i < a + k → at w i ≤ top) → up_to w a k top ≡ true
unfolding up_to
up_to_law w a k top h = all_intro (λ j. leb (get_or w (a + j) 0) top) k (λ j l. le-leb (at w (a + j)) top (h (a + j) (omega arith) (omega arith)))

more_rows : (w : List ℕ) (r : Row) (rs : List Row) → ((i : ℕ) → r.first ≤ i → i < r.first + r.many → at w i ≤ r.top) → rows_in_range w rs ≡ true → rows_in_range w (r ∷ rs) ≡ true
unfolding rows_in_range
more_rows w r rs h k = rw (up_to_law w r.first r.many r.top h) k

no_rows : (w : List ℕ) → rows_in_range w [] ≡ true
unfolding rows_in_range
no_rows w = refl

pub within_rows : (w : List ℕ) (n l : ℕ) → 1 ≤ n → Within w n l → work_in_range w n l ≡ true
unfolding work_in_range
within_rows w n l some h =
    more_rows w _ _ (λ i a b. (fits_low n l i (at w i) (h.fits i (omega arith)) (omega arith)).0 (omega arith))
    (more_rows w _ _ (λ i a b. (fits_low n l i (at w i) (h.fits i (omega arith)) (omega arith)).1 (omega arith))
    (more_rows w _ _ (λ i a b. (fits_low n l i (at w i) (h.fits i (omega arith)) (omega arith)).2 (omega arith))
    (more_rows w _ _ (λ i a b. let z = (fits_low n l i (at w i) (h.fits i (omega arith)) (omega arith)).3 (omega arith) in omega arith)
    (more_rows w _ _ (λ i a b. (fits_low n l i (at w i) (h.fits i (omega arith)) (omega arith)).4 (omega arith))
    (more_rows w _ _ (λ i a b. (fits_masks n l i (at w i) (h.fits i (omega arith)) (omega arith) (omega arith)).0 (omega arith))
    (more_rows w _ _ (λ i a b. (fits_masks n l i (at w i) (h.fits i (omega arith)) (omega arith) (omega arith)).0 (omega arith))
    (more_rows w _ _ (λ i a b. (fits_masks n l i (at w i) (h.fits i (omega arith)) (omega arith) (omega arith)).0 (omega arith))
    (more_rows w _ _ (λ i a b. (fits_masks n l i (at w i) (h.fits i (omega arith)) (omega arith) (omega arith)).0 (omega arith))
    (more_rows w _ _ (λ i a b. (fits_masks n l i (at w i) (h.fits i (omega arith)) (omega arith) (omega arith)).0 (omega arith))
    (more_rows w _ _ (λ i a b. (fits_masks n l i (at w i) (h.fits i (omega arith)) (omega arith) (omega arith)).1 (omega arith))
    (more_rows w _ _ (λ i a b. (fits_masks n l i (at w i) (h.fits i (omega arith)) (omega arith) (omega arith)).1 (omega arith))
    (more_rows w _ _ (λ i a b. (fits_late n l i (at w i) (h.fits i (omega arith)) (omega arith)).0 (omega arith))
    (more_rows w _ _ (λ i a b. (fits_late n l i (at w i) (h.fits i (omega arith)) (omega arith)).1 (omega arith) (omega arith))
    (more_rows w _ _ (λ i a b. (fits_late n l i (at w i) (h.fits i (omega arith)) (omega arith)).2 (omega arith) (omega arith))
    (more_rows w _ _ (λ i a b. (fits_late n l i (at w i) (h.fits i (omega arith)) (omega arith)).3 (omega arith) (omega arith))
    (more_rows w _ _ (λ i a b. (fits_late n l i (at w i) (h.fits i (omega arith)) (omega arith)).4 (omega arith) (omega arith))
    (more_rows w _ _ (λ i a b. (fits_late n l i (at w i) (h.fits i (omega arith)) (omega arith)).5 (omega arith))
    (no_rows w))))))))))))))))))

-- and back
choose : {A : Type 0} (i k : ℕ) → (i < k → A) → (k ≤ i → A) → A
choose i k f g = elim (dec_lt i k) [ yes h ↦ f h | no h ↦ g (omega arith) ]

at_place : (w : List ℕ) (top : ℕ) (i j : ℕ) → i ≡ j → at w j ≤ top → at w i ≤ top
at_place w top i j e h = rw e h

fits_of : (w : List ℕ) (n l : ℕ) → Working w n l → (i : ℕ) → i < work_words n l → Fits n l i (at w i)
fits_of w n l k i h = choose i 1 (λ a. word (omega arith) (at_place w 2 i 0 (omega arith) k.reopening_word))
    (λ b. choose i 2 (λ a. reopening_page (omega arith) (at_place w n i 1 (omega arith) k.reopening_page))
    (λ b. choose i 3 (λ a. phase (omega arith) (at_place w 2 i 2 (omega arith) k.phase))
    (λ b. choose i 4 (λ a. pass_page (omega arith) (let e : i ≡ 3 = omega arith in rw e k.pass_page))
    (λ b. choose i 5 (λ a. steps (omega arith) (at_place w (steps_top n) i 4 (omega arith) k.steps))
    (λ b. choose i 6 (λ a. masked (2 ^ txn_count) i 5 (omega arith) k.active (mask (omega arith) (omega arith)))
    (λ b. choose i (writers_from n) (λ a. masked (2 ^ txn_count) i (readers_at n (i - 6)) (omega arith) (k.readers (i - 6) (omega arith)) (mask (omega arith) (omega arith)))
    (λ b. choose i (unflushed_from n) (λ a. masked (2 ^ txn_count) i (writers_at n (i - (writers_from n))) (omega arith) (k.writers (i - (writers_from n)) (omega arith)) (mask (omega arith) (omega arith)))
    (λ b. choose i (known_from n) (λ a. masked (2 ^ txn_count) i (unflushed_at n (i - (unflushed_from n))) (omega arith) (k.unflushed (i - (unflushed_from n)) (omega arith)) (mask (omega arith) (omega arith)))
    (λ b. choose i (pruned_from n) (λ a. masked (2 ^ txn_count) i (known_at n (i - (known_from n) + 1)) (omega arith) (k.known (i - (known_from n) + 1) (omega arith) (omega arith)) (mask (omega arith) (omega arith)))
    (λ b. choose i (created_from n) (λ a. masked (2 ^ (txn_count + 1)) i (pruned_at n (i - (pruned_from n) + 1)) (omega arith) (k.pruned (i - (pruned_from n) + 1) (omega arith) (omega arith)) (flagged (omega arith) (omega arith)))
    (λ b. choose i (colours_from n) (λ a. masked (2 ^ (txn_count + 1)) i (created_at n (i - (created_from n) + 1)) (omega arith) (k.created (i - (created_from n) + 1) (omega arith) (omega arith)) (flagged (omega arith) (omega arith)))
    (λ b. choose i (table_words n) (λ a. colour b a (at_place w 2 i (colour_at n (i - (colours_from n) + 1)) (omega arith) (k.colours (i - (colours_from n) + 1) (omega arith) (omega arith))))
    (λ b. choose i (order_from n) (λ a. marked b a (at_place w (changes_top l) i (marked_at n ((i - marked_from n) / mark_count) ((i - marked_from n) % mark_count)) (omega arith)
    (k.marked ((i - marked_from n) / mark_count) ((i - marked_from n) % mark_count) (omega arith) (omega arith))))
    (λ b. choose i (clients_from n) (λ a. order b a (at_place w (order_top l) i (order_at n ((i - order_from n) / mark_count) ((i - order_from n) % mark_count)) (omega arith)
    (k.order ((i - order_from n) / mark_count) ((i - order_from n) % mark_count) (omega arith) (omega arith))))
    (λ b. choose i (rights_from n) (λ a. client b a (at_place w (client_top l) i (client_at n (i - clients_from n)) (omega arith) (k.clients (i - clients_from n) (omega arith))))
    (λ b. choose i (undoing_from n) (λ a. right b a (at_place w writing i (right_at n ((i - rights_from n) % client_count) ((i - rights_from n) / client_count)) (omega arith)
    (k.rights ((i - rights_from n) % client_count) ((i - rights_from n) / client_count) (omega arith) (omega arith))))
    (λ b. undoing b (at_place w (undoing_top l) i (undoing_at n (i - undoing_from n)) (omega arith) (k.undoing (i - undoing_from n) (omega arith))))))))))))))))))))
  where
    masked : {A : Type 0} (top i j : ℕ) → i ≡ j → at w j < top → (at w i < top → A) → A
    masked top i j e h f = f (rw e h)

pub working_within : (w : List ℕ) (n l : ℕ) → length w ≡ work_words n l → Working w n l → Within w n l
working_within w n l e k = record { size = e; fits = fits_of w n l k }

-- one word changed
pub set_within : (w : List ℕ) (n l i v : ℕ) → Within w n l → Fits n l i v → Within (set w i v) n l
set_within w n l i v h f = record {
  size = length-set w i v ∙ h.size;
  fits = λ j b. elim (dec_lt i (length w)) [
    | yes k ↦ elim (ℕ_discrete j i) [
      | yes e ↦ rw (e, get_or-set_same w i v 0 k) f
      | no e ↦ rw (get_or-set_other w i j v 0 e) (h.fits j b)
    ]
    | no k ↦ rw (set_out w i v (omega arith)) (h.fits j b)
  ];
}

-- a bit set or cleared in a mask
with_fits : (n l i m t : ℕ) → active_at ≤ i → i < colours_from n → t < txn_count → Fits n l i m → Fits n l i (with_bit m t)
with_fits n l i m t a b small f = let d = fits_masks n l i m f a b in choose i (pruned_from n)
    (λ k. mask a k (with_lt m t txn_count (let z = d.0 k in omega arith) small))
    (λ k. flagged k b (with_lt m t (txn_count + 1) (let z = d.1 k in omega arith) (omega arith)))

without_fits : (n l i m t : ℕ) → active_at ≤ i → i < colours_from n → Fits n l i m → Fits n l i (without_bit m t)
without_fits n l i m t a b f = let d = fits_masks n l i m f a b in let e = without_le m t in choose i (pruned_from n)
    (λ k. mask a k (let z = d.0 k in omega arith))
    (λ k. flagged k b (let z = d.1 k in omega arith))

pub gain_within : (w : List ℕ) (n l i t : ℕ) → Within w n l → active_at ≤ i → i < colours_from n → t < txn_count → Within (gain w i t) n l
gain_within w n l i t h a b small = set_within w n l i (with_bit (at w i) t) h (with_fits n l i (at w i) t a b small (h.fits i (omega arith)))

pub lose_within : (w : List ℕ) (n l i t : ℕ) → Within w n l → active_at ≤ i → i < colours_from n → Within (lose w i t) n l
lose_within w n l i t h a b = set_within w n l i (without_bit (at w i) t) h (without_fits n l i (at w i) t a b (h.fits i (omega arith)))

-- behind the tables 0 fits every word
zero_fits : (n l i : ℕ) → table_words n ≤ i → Fits n l i 0
zero_fits n l i a = choose i (order_from n) (λ b. marked a b (omega arith)) (λ b. choose i (clients_from n) (λ c. order b c (omega arith))
    (λ c. choose i (rights_from n) (λ d. client c d (omega arith)) (λ d. choose i (undoing_from n) (λ e. right d e (omega arith)) (λ e. undoing e (omega arith)))))

pub zero_within : (w : List ℕ) (n l i : ℕ) → Within w n l → table_words n ≤ i → Within (set w i 0) n l
zero_within w n l i h a = set_within w n l i 0 h (zero_fits n l i a)

-- runs of words
pub over_within : (f : ℕ → ℕ) (w : List ℕ) (n l a k : ℕ) → Within w n l → a + k ≤ work_words n l → ((i v : ℕ) → a ≤ i → i < a + k → Fits n l i v → Fits n l i (f v)) → Within (over f w a k) n l
unfolding over
over_within f w n l a zero h b g = h
over_within f w n l a (suc k) h b g =
    let v = over f w a k in
    let r = over_within f w n l a k h (omega arith) (λ i x p q. g i x p (omega arith)) in
    set_within v n l (a + k) (f (at v (a + k))) r (g (a + k) (at v (a + k)) (omega arith) (omega arith) (r.fits (a + k) (omega arith)))

pub fill_within : (g : ℕ → ℕ) (w : List ℕ) (n l a k : ℕ) → Within w n l → ((j : ℕ) → j < k → Fits n l (a + j) (g j)) → Within (fill g w a k) n l
unfolding fill
fill_within g w n l a zero h f = h
fill_within g w n l a (suc k) h f = set_within (fill g w a k) n l (a + k) (g k) (fill_within g w n l a k h (λ j b. f j (omega arith))) (f k (omega arith))

zeros_within : (w : List ℕ) (n l a k : ℕ) → Within w n l → table_words n ≤ a → Within (fill (λ j. 0) w a k) n l
zeros_within w n l a k h b = fill_within (λ j. 0) w n l a k h (λ j c. zero_fits n l (a + j) (omega arith))

leaves_within : (t : ℕ) (w : List ℕ) (n l a k : ℕ) → Within w n l → active_at ≤ a → a + k ≤ colours_from n → Within (leaves t w a k) n l
leaves_within t w n l a k h p q = over_within (λ m. without_bit m t) w n l a k h (omega arith) (λ i v x y f. without_fits n l i v t (omega arith) (omega arith) f)

ended_fits : (n l i : ℕ) (runs : Bool) (t m : ℕ) → pruned_from n ≤ i → i < colours_from n → Fits n l i m → Fits n l i (ended_entry runs t m)
ended_fits n l i runs t m a b f =
    let z = (fits_masks n l i m f (omega arith) b).1 a in let d = without_le m t in
    by_bool (bit m t)
    (λ e. by_bool runs
    (λ r. rw (e, r) (flagged a b (with_lt (without_bit m t) flag (txn_count + 1) (omega arith) (omega arith))))
    (λ r. rw (e, r) (flagged a b (omega arith))))
    (λ e. rw e f)

entries_within : (t : ℕ) (w : List ℕ) (n l a k : ℕ) → Within w n l → pruned_from n ≤ a → a + k ≤ colours_from n → Within (ended_entries t w a k) n l
entries_within t w n l a k h p q = over_within (ended_entry (pass_runs w) t) w n l a k h (omega arith) (λ i v x y f. ended_fits n l i (pass_runs w) t v (omega arith) (omega arith) f)

-- the calls' tables
module _ (w : List ℕ) (n l : ℕ) (some : 1 ≤ n) (h : Within w n l) where
  pub begun_within : (t c : ℕ) → t < txn_count → c < client_count → 1 < l → Within (begun_tables w n t c) n l
  unfolding begun_tables
  begun_within t c small client_small room = set_within _ n l (client_at n t) c (gain_within _ n l (known_at n root) t
      (leaves_within t (gain w active_at t) n l (known_at n 1) (object_count n) (gain_within w n l active_at t h (omega arith) (omega arith) small) (omega arith) (omega arith)) (omega arith) (omega arith) small)
      (client (omega arith) (omega arith) (rw (lt-ltb 1 l room) (omega arith)))

  pub ended_within : (t : ℕ) → Within (ended_tables w n t) n l
  unfolding ended_tables without_marks
  ended_within t =
      let h1 = lose_within w n l active_at t h (omega arith) (omega arith) in
      let h2 = leaves_within t _ n l (readers_at n 0) n h1 (omega arith) (omega arith) in
      let h3 = leaves_within t _ n l (writers_at n 0) n h2 (omega arith) (omega arith) in
      let h4 = leaves_within t _ n l (unflushed_at n 0) n h3 (omega arith) (omega arith) in
      let h5 = leaves_within t _ n l (known_at n 1) (object_count n) h4 (omega arith) (omega arith) in
      let h6 = entries_within t _ n l (pruned_at n 1) (object_count n) h5 (omega arith) (omega arith) in
      let h7 = entries_within t _ n l (created_at n 1) (object_count n) h6 (omega arith) (omega arith) in
      zero_within _ n l (client_at n t) (zeros_within _ n l (order_at n t 0) mark_count (zeros_within _ n l (marked_at n t 0) mark_count h7 (omega arith)) (omega arith)) (omega arith)

  pub read_locked_within : (t p : ℕ) → t < txn_count → p < n → Within (read_locked w n t p) n l
  unfolding read_locked
  read_locked_within t p small m = by_bool (can_write w n t p) (λ e. rw e h) (λ e. rw e (gain_within w n l (readers_at n p) t h (omega arith) (omega arith) small))

  pub write_locked_within : (t p : ℕ) → t < txn_count → p < n → Within (write_locked w n t p) n l
  unfolding write_locked
  write_locked_within t p small m = gain_within _ n l (writers_at n p) t (lose_within w n l (readers_at n p) t h (omega arith) (omega arith)) (omega arith) (omega arith) small

  pub learned_within : (received : List ℕ) (t o : ℕ) → area_sound received n ≡ true → t < txn_count → 1 ≤ o → o ≤ object_count n → (k : ℕ) → k ≤ 8 → Within (learned received w n t o k) n l
  unfolding learned
  learned_within received t o sound small p q zero b = h
  learned_within received t o sound small p q (suc f) b =
      let ih = learned_within received t o sound small p q f (omega arith) in
      let x = word_of received o f in
      by_bool (is_ref received o f && not (eqb x 0))
      (λ e. let d = and_split (is_ref received o f) (not (eqb x 0)) e in
      let top = ref_in_range received n o sound p q f (omega arith) d.0 in
      let low = eqb-false x 0 (not-true (eqb x 0) d.1) in
      rw e (gain_within _ n l (known_at n x) t ih (omega arith) (omega arith) small))
      (λ e. rw e ih)

  pub greyed_within : (o : ℕ) → Within (greyed w n o) n l
  unfolding greyed
  greyed_within o = by_bool (may_mark w n o && is_white w n o)
      (λ e. let d = and_split (leb 1 o) (leb o (object_count n)) (and_split (may_mark w n o) (is_white w n o) e).0 in
      let top = leb-true o (object_count n) d.1 in
      rw e (set_within w n l (colour_at n o) 1 h (colour (omega arith) (omega arith) (omega arith))))
      (λ e. rw e h)

  pub pass_within : (a p k : ℕ) → a ≤ 2 → p < n → k ≤ steps_top n → Within (with_pass w a p k) n l
  pass_within a p k x y z = set_within _ n l steps_at k (set_within _ n l pass_page_at p (set_within w n l phase_at a h (phase refl x)) (pass_page refl y)) (steps refl z)

module _ (w : List ℕ) (n l : ℕ) (some : 1 ≤ n) (h : Within w n l) where
  -- a create's and a set's tables
  pub created_within : (t o : ℕ) → t < txn_count → 1 ≤ o → o ≤ object_count n → Within (gain (gain (gain w (unflushed_at n (page_of o)) t) (known_at n o) t) (created_at n o) t) n l
  created_within t o small p q = gain_within _ n l (created_at n o) t (gain_within _ n l (known_at n o) t (gain_within w n l (unflushed_at n (page_of o)) t h (omega arith) (omega arith) small)
      (omega arith) (omega arith) small) (omega arith) (omega arith) small

  pub pruned_within : (t x : ℕ) → t < txn_count → 1 ≤ x → x ≤ object_count n → Within (pruned w n t x) n l
  unfolding pruned
  pruned_within t x small p q = let g = gain_within w n l (pruned_at n x) t h (omega arith) (omega arith) small in
      by_bool (is_marking w) (λ e. rw e (greyed_within _ n l some g x)) (λ e. rw e g)

  -- a pass' tables
  unflagged_within : Within (unflagged w n) n l
  unfolding unflagged
  unflagged_within = unflag _ (created_at n 1) (unflag w (pruned_at n 1) h (omega arith) (omega arith)) (omega arith) (omega arith)
    where
      unflag : (v : List ℕ) (a : ℕ) → Within v n l → active_at ≤ a → a + object_count n ≤ colours_from n → Within (over (λ m. without_bit m flag) v a (object_count n)) n l
      unflag v a g p q = over_within (λ m. without_bit m flag) v n l a (object_count n) g (omega arith) (λ i x y z f. without_fits n l i x flag (omega arith) (omega arith) f)

  first_le : (v : List ℕ) (o : ℕ) → first_colour v n o ≤ 2
  first_le v o = by_bool (may_mark v n o && (eqb o root || not (eqb (at v (pruned_at n o)) 0))) (λ e. rw e (omega arith)) (λ e. rw e (omega arith))

  pub started_within : Within (pass_started w n) n l
  unfolding pass_started
  started_within = pass_within _ n l some (fill_within (λ k. first_colour (unflagged w n) n (k + 1)) (unflagged w n) n l (colour_at n 1) (object_count n) unflagged_within
      (λ j b. colour (omega arith) (omega arith) (first_le (unflagged w n) (j + 1)))) 1 (pass_first w n) 0 (omega arith) (omega arith) (omega arith)

  targets_within : (copies : List ℕ) (o k : ℕ) → Within (targets_greyed copies w n o k) n l
  unfolding targets_greyed
  targets_within copies o zero = h
  targets_within copies o (suc f) = by_bool (is_ref copies o f)
      (λ e. rw e (greyed_within _ n l some (targets_within copies o f) (word_of copies o f)))
      (λ e. rw e (targets_within copies o f))

  pub scanned_within : (copies : List ℕ) (o : ℕ) → o ≤ object_count n → Within (scanned copies w n o) n l
  unfolding scanned
  scanned_within copies o top = by_bool (occupied copies o)
      (λ e. rw e (set_within _ n l (colour_at n o) 2 (targets_within copies o 8) (colour (omega arith) (omega arith) (omega arith))))
      (λ e. rw e (set_within w n l (colour_at n o) 2 h (colour (omega arith) (omega arith) (omega arith))))

  steps_le : steps_next w n ≤ steps_top n
  steps_le = omega arith

  pub advanced_within : (p : ℕ) → Within (advanced w n p) n l
  unfolding advanced
  advanced_within p = by_bool (ltb (p + 1) (pass_end w n))
      (λ e. let b = ltb-true (p + 1) n e in rw e (pass_within w n l some h 2 (p + 1) (steps_next w n) (omega arith) b steps_le))
      (λ e. rw e (pass_within w n l some h 0 0 0 (omega arith) (omega arith) (omega arith)))

  pub scanning_within : (copies : List ℕ) (o : ℕ) → o ≤ object_count n → Within (with_pass (scanned copies w n o) 1 (at w pass_page_at) (steps_next w n)) n l
  scanning_within copies o top = pass_within _ n l some (scanned_within copies o top) 1 (at w pass_page_at) (steps_next w n) (omega arith)
      ((fits_low n l 3 (at w 3) (h.fits 3 (omega arith)) (omega arith)).3 refl) steps_le

  pub turning_within : Within (with_pass w 2 (pass_first w n) (steps_next w n)) n l
  turning_within = pass_within w n l some h 2 0 (steps_next w n) (omega arith) (omega arith) steps_le

-- a set's tables
pub set_tables_within : (received w : List ℕ) (n l t o f v : ℕ) → 1 ≤ n → Within w n l → area_sound received n ≡ true → t < txn_count → 1 ≤ o → o ≤ object_count n → f < slot_words
    → Within (if (prunes received o f v) (pruned (gain w (unflushed_at n (page_of o)) t) n t (word_of received o f)) (gain w (unflushed_at n (page_of o)) t)) n l
set_tables_within received w n l t o f v some h sound small p q k =
    let g = gain_within w n l (unflushed_at n (page_of o)) t h (omega arith) (omega arith) small in
    let x = word_of received o f in
    by_bool (prunes received o f v)
    (λ e. let d = and_split (is_ref received o f && not (eqb x 0)) (not (eqb x v)) e in
    let c = and_split (is_ref received o f) (not (eqb x 0)) d.0 in
    let top = ref_in_range received n o sound p q f k c.0 in
    let low = eqb-false x 0 (not-true (eqb x 0) c.1) in
    rw e (pruned_within _ n l some g t x small (omega arith) top))
    (λ e. rw e g)

-- a right's
pub granted_within : (w : List ℕ) (n l c p r : ℕ) → Within w n l → c < client_count → p < n → r ≤ writing → Within (right_given w n c p r) n l
unfolding right_given
granted_within w n l c p r h small below top = set_within w n l (right_at n c p) r h (right (omega arith) (omega arith) top)

-- an empty log's tables
pub emptied_within : (w : List ℕ) (n l : ℕ) → Within w n l → (k : ℕ) → Within (fill (λ i. 0) w (undoing_at n 0) k) n l
emptied_within w n l h k = zeros_within w n l (undoing_at n 0) k h (omega arith)

-- a mark's tables: the places of the others move up or stay
moved_le : (a b : ℕ) → moved_up a b ≤ b
moved_le a b = by_bool (not (eqb a 0) && ltb a b) (λ e. rw e (omega arith)) (λ e. rw e (omega arith))

others_below : (w : List ℕ) (n t m : ℕ) → m < mark_count → others_set w n t m < mark_count
unfolding others_set
others_below w n t m c = count_less (λ j. not (eqb j m) && is_set w n t j) mark_count m c (rw (eq-eqb m m refl))

module _ (w : List ℕ) (n l t m : ℕ) (h : Within w n l) (small : t < txn_count) (mark : m < mark_count) (some : 1 < l) where
  moved_fits : (i v : ℕ) → order_at n t 0 ≤ i → i < order_at n t 0 + mark_count → Fits n l i v → Fits n l i (moved_up (order_of w n t m) v)
  moved_fits i v a b f = order (omega arith) (omega arith)
      (let z = (fits_late n l i v f (omega arith)).2 (omega arith) (omega arith) in let y = moved_le (order_of w n t m) v in omega arith)

  last_fits : Fits n l (order_at n t m) (others_set w n t m + 1)
  last_fits = order (omega arith) (omega arith) (let z = others_below w n t m mark in rw (lt-ltb 1 l some) (omega arith))

  set_last_within : Within (set_last w n t m) n l
  unfolding set_last
  set_last_within = set_within _ n l (order_at n t m) (others_set w n t m + 1)
      (over_within (moved_up (order_of w n t m)) w n l (order_at n t 0) mark_count h (omega arith) moved_fits) last_fits

pub mark_within : (w : List ℕ) (n l t m v : ℕ) → Within w n l → t < txn_count → m < mark_count → 1 < l → v ≤ changes_top l → Within (set (set_last w n t m) (marked_at n t m) v) n l
mark_within w n l t m v h small mark some top = set_within _ n l (marked_at n t m) v (set_last_within w n l t m h small mark some) (marked (omega arith) (omega arith) top)

-- going back: marks are dropped, and a change is taken back
pub dropped_within : (w : List ℕ) (n l t : ℕ) → Within w n l → (a j : ℕ) → t < txn_count → j ≤ mark_count → Within (dropped w n t a j) n l
unfolding dropped
dropped_within w n l t h a zero small b = h
dropped_within w n l t h a (suc j) small b =
    let v = dropped w n t a j in
    let r = dropped_within w n l t h a j small (omega arith) in
    by_bool (ltb a (order_of v n t j))
    (λ e. rw e (zero_within _ n l (order_at n t j) (zero_within v n l (marked_at n t j) r (omega arith)) (omega arith)))
    (λ e. rw e r)

pub taken_back_within : (w : List ℕ) (n l : ℕ) → Within w n l → (t c : ℕ) (r : Record) → t < txn_count → 1 ≤ r.object → r.object ≤ object_count n → 3 < l → Within (taken_back w n t c r) n l
unfolding taken_back
taken_back_within w n l h t c r small low top room =
    let g = gain_within w n l (unflushed_at n (page_of r.object)) t h (omega arith) (omega arith) small in
    let f : Fits n l (undoing_at n c) 1 = undoing (omega arith) (rw (lt-ltb 3 l room) (omega arith)) in
    let noted = set_within _ n l (undoing_at n c) 1 g f in
    by_bool (is_create r)
    (λ e. rw e (lose_within _ n l (known_at n r.object) t noted (omega arith) (omega arith)))
    (λ e. rw e noted)

-- clear tables
pub clear_within : (w : List ℕ) (n l : ℕ) → 1 ≤ n → length w ≡ work_words n l → ((i : ℕ) → 2 ≤ i → at w i ≡ 0) → at w 0 ≤ 2 → at w 1 ≤ n → Within w n l
clear_within w n l some e c a b = record {
  size = e;
  fits = λ i h. choose i 1 (λ d. word (omega arith) (at_place w 2 i 0 (omega arith) a))
      (λ d. choose i 2 (λ g. reopening_page (omega arith) (at_place w n i 1 (omega arith) b))
      (λ g. let z = c i (omega arith) in choose i 3 (λ q. phase (omega arith) (omega arith))
      (λ q. choose i 4 (λ j. pass_page (omega arith) (omega arith))
      (λ j. choose i 5 (λ k. steps (omega arith) (omega arith))
      (λ k. choose i (pruned_from n) (λ m. mask k m (omega arith))
      (λ m. choose i (colours_from n) (λ p. flagged m p (omega arith))
      (λ p. choose i (table_words n) (λ r. colour p r (omega arith))
      (λ r. rw z (zero_fits n l i r)))))))));
}
