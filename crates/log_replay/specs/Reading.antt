-- The reader's answer, what reading the log says, and what the check says. n pages, l records, the first c of them. Assumes nothing.
use Rattle.std.specs.Prelude.{ℕ, ◌+◌, ◌<◌, ◌≤◌, Bool, true, false, ◌&&◌, List, leb, Option, Some, None, Result, Ok, Err}
use Rattle.std.proofs.Math.Path.{◌≡◌, sym, ap}
use Rattle.std.proofs.Common.{◌∙◌, le-leb}
use native.Mathlib.Omega.{arith}
use Rattle.std.proofs.lemmas.Bool.{lt-leb}
use Rattle.words.specs.Tests.{if, all, by_bool, if_t, if_f, and_t, and_false, all_none, all_more, all_stop, all_out, all_both}
use Rattle.pages.specs.Soundness.{area_sound}
use Rattle.records.specs.declared.Record.{Record}
use Rattle.records.specs.Records.{record_words, txn_count, record_at}
use Rattle.records.specs.Soundness.{word_sound, record_sound, records_sound}
use Rattle.records.specs.Order.{open_in, open_next, in_order, log_sound}
use Rattle.record_laws.specs.RecordLaws.{words_sound, word_unsound, records_sound_next, record_facts, open_next_law}
use Rattle.areas.specs.declared.Refusal.{Refusal}
use Rattle.areas.specs.declared.Refusal.TheVariants.{Unsound}

-- 'Reopening goes on only where the record read is sound': record i of a log as the reader answers it where the transactions of mask m
-- are open. Its words were looked at before, so that only its order is left to be unsound
unfoldable pub read_of : ℕ → List ℕ → ℕ → Option Record
read_of m g i = if (in_order m (record_at g i)) (Some (record_at g i)) None

-- the order of the first c records
abbrev pub ordered : List ℕ → ℕ → Bool
ordered g c = all (λ i. in_order (open_in g i) (record_at g i)) c

-- 'The log is read record by record from its start to the stable count': the transactions open after the first c records, if these
-- come in order
unfoldable pub scan_of : List ℕ → ℕ → Result ℕ Refusal
scan_of g c = if (ordered g c) (Ok (open_in g c)) (Err Unsound)

-- 'a count above L (reopening looks at the stable one only)', then 'The stored pages are checked first, then the records'
unfoldable pub found_of : ℕ → ℕ → List ℕ → List ℕ → ℕ → Result ℕ Refusal
found_of n l a g c = if (leb c l && area_sound a n && log_sound n g c) (Ok (open_in g c)) (Err Unsound)

-- the words of each record, and their order, are all that a log is looked at for
log_parts : (n : ℕ) (g : List ℕ) (c : ℕ) → log_sound n g c ≡ records_sound n g c && ordered g c
unfolding log_sound records_sound
log_parts n g c = all_both (λ i. record_sound n (record_at g i)) (λ i. in_order (open_in g i) (record_at g i)) c

-- the scan: a record whose words were all passed is one more, and a word that is not ends it

pub scan_none : (n : ℕ) (g : List ℕ) → records_sound n g 0 ≡ true
unfolding records_sound
scan_none n g = all_none _

module _ (n : ℕ) (g : List ℕ) (i : ℕ) (r : Record) (w : ℕ) (e : r ≡ record_at g i) where
  pub scan_next : records_sound n g i ≡ true → w ≤ record_words → record_words ≤ w → all (word_sound n r) w ≡ true → records_sound n g (i + 1) ≡ true
  scan_next h l u p = sym (records_sound_next n g i) ∙ and_t _ _ h ∙ words_sound n r (record_at g i) w e l u p

  pub scan_out : (c : ℕ) → i < c → w < record_words → word_sound n r w ≡ false → false ≡ records_sound n g c
  unfolding records_sound
  scan_out c l k p = all_out (λ j. record_sound n (record_at g j)) c i l (word_unsound n r (record_at g i) w e k p)

-- what the reader's answer tells

module _ (m : ℕ) (g : List ℕ) (i : ℕ) where
  read_bad : read_of m g i ≡ None → in_order m (record_at g i) ≡ false
  unfolding read_of
  read_bad h = by_bool (in_order m (record_at g i))
      (λ t. let k = sym (if_t _ (Some (record_at g i)) None t) ∙ h in let z : ◌≡◌ {A = ℕ} 0 1 = cc in absurd (omega arith))
      (λ t. t)

  read_good : (r : Record) → read_of m g i ≡ Some r → (in_order m (record_at g i) ≡ true) × (r ≡ record_at g i)
  unfolding read_of
  read_good r h = by_bool (in_order m (record_at g i))
      (λ t. let k = sym (if_t _ (Some (record_at g i)) None t) ∙ h in (t, cc))
      (λ t. let k = sym (if_f _ (Some (record_at g i)) None t) ∙ h in let z : ◌≡◌ {A = ℕ} 0 1 = cc in absurd (omega arith))

  pub txn_read : (n c : ℕ) (r : Record) → records_sound n g c ≡ true → i < c → read_of m g i ≡ Some r → r.txn < txn_count
  txn_read n c r h l e = (record_facts n g c i r (read_good r e).1 h l).txn_below

  module _ (o : m ≡ open_in g i) where
    pub ordered_read : (r : Record) → ordered g i ≡ true → read_of m g i ≡ Some r → ordered g (i + 1) ≡ true
    ordered_read r h e = all_more (λ j. in_order (open_in g j) (record_at g j)) i h (ap (λ (x : ℕ). in_order x (record_at g i)) (sym o) ∙ (read_good r e).0)

    pub open_read : (r : Record) → read_of m g i ≡ Some r → open_next m r ≡ open_in g (i + 1)
    open_read r e = open_next_law g i m r o (read_good r e).1

    pub scan_bad : (c : ℕ) → i < c → read_of m g i ≡ None → Err Unsound ≡ scan_of g c
    unfolding scan_of
    scan_bad c l h = sym (if_f _ _ _ (all_stop (λ j. in_order (open_in g j) (record_at g j)) c i l (ap (λ (x : ℕ). in_order x (record_at g i)) (sym o) ∙ read_bad h)))

    pub scan_end : (c : ℕ) → i ≤ c → c ≤ i → ordered g i ≡ true → Ok m ≡ scan_of g c
    unfolding scan_of
    scan_end c l u h = let z : i ≡ c = omega arith in rw (o, ← z, h)

ok_is : {m k : ℕ} → ◌≡◌ {A = Result ℕ Refusal} (Ok m) (Ok k) → m ≡ k
ok_is e = cc

-- the check by its tests
module _ (n l : ℕ) (a g : List ℕ) (c : ℕ) where
  bad : (leb c l && area_sound a n && log_sound n g c) ≡ false → Err Unsound ≡ found_of n l a g c
  unfolding found_of
  bad h = sym (if_f _ _ _ h)

  pub found_count : l < c → Err Unsound ≡ found_of n l a g c
  found_count h = bad (rw (lt-leb c l h))

  pub found_stored : area_sound a n ≡ false → Err Unsound ≡ found_of n l a g c
  found_stored h = bad (rw (h, and_false (leb c l)))

  pub found_words : records_sound n g c ≡ false → Err Unsound ≡ found_of n l a g c
  found_words h = bad (rw (log_parts n g c, h, and_false (leb c l && area_sound a n)))

  pub found_read : c ≤ l → area_sound a n ≡ true → records_sound n g c ≡ true → scan_of g c ≡ found_of n l a g c
  unfolding found_of scan_of
  found_read u s h = rw (le-leb c l u, s, log_parts n g c, h)

  -- and what it tells
  pub found_sound : (m : ℕ) → found_of n l a g c ≡ Ok m → ((leb c l && area_sound a n && log_sound n g c) ≡ true) × (m ≡ open_in g c)
  unfolding found_of
  found_sound m h = by_bool (leb c l && area_sound a n && log_sound n g c)
      (λ t. (t, ok_is (sym h ∙ if_t _ (Ok (open_in g c)) (Err Unsound) t)))
      (λ t. let k = sym h ∙ if_f _ (Ok (open_in g c)) (Err Unsound) t in let z : ◌≡◌ {A = ℕ} 0 1 = cc in absurd (omega arith))

  pub found_unsound : (x : Refusal) → found_of n l a g c ≡ Err x → ((leb c l && area_sound a n && log_sound n g c) ≡ false) × (x ≡ Unsound)
  unfolding found_of
  found_unsound x h = by_bool (leb c l && area_sound a n && log_sound n g c)
      (λ t. let k = sym h ∙ if_t _ (Ok (open_in g c)) (Err Unsound) t in let z : ◌≡◌ {A = ℕ} 0 1 = cc in absurd (omega arith))
      (λ t. let k = sym h ∙ if_f _ (Ok (open_in g c)) (Err Unsound) t in (t, cc))
