-- A power cut keeps the invariant. n is the number of pages. Assumes nothing.
use Prim.Native.Nat.{ℕ, zero, suc, ◌+◌, ◌*◌, ◌≤◌, ◌<◌}
use native.Mathlib.Omega.{arith}
use native.Mathlib.Decide.{dec_lt}
use mathlib.Core.Path.{◌≡◌, refl, sym, ap, ◌∙◌}
use mathlib.Core.Bool.{◌&&◌}
use mathlib.Core.List.{List, [], ◌∷◌, ◌++◌}
use lib.ListN.{length, get_or, take, drop, replicate, length-replicate, get_or-eq_default}
use lib.Seq.{get_or-set_same, set_out}
use Rattle.words.specs.Tests.{all_same}
use Rattle.words.specs.Spans.{zero_at}
use Rattle.records.specs.Records.{made, record_at, record_words}
use Rattle.records.specs.Soundness.{record_sound}
use Rattle.records.specs.Order.{open_in, in_order, log_sound}
use Rattle.areas.specs.Areas.{Areas, stable_count}
use Rattle.calls.specs.Formatting.{cut}
use Rattle.book.specs.Books.{awaiting, Book, stopped}
use Rattle.record_laws.specs.RecordLaws.{open_same}
use Rattle.recovery_proof.proofs.Appending.{recs_same}
use Rattle.demand.proofs.Formatted.{zeros}
use Rattle.demand.proofs.State.{stable, Inv3, cut_store}
use Rattle.demand.proofs.Stopping.{stops, inv_size, waiting_moved}

-- the words before a place, where zeros stand after it
kept_before : (k : ℕ) (g : List ℕ) (j : ℕ) → j < k → get_or (take k g ++ replicate (length (drop k g)) 0) j 0 ≡ get_or g j 0
kept_before zero g j l = absurd (omega arith)
kept_before (suc k) [] j l = refl
kept_before (suc k) (x ∷ g) zero l = refl
kept_before (suc k) (x ∷ g) (suc j) l = kept_before k g j (omega arith)

-- two logs with the same first c records
log_same : (n : ℕ) (g h : List ℕ) (c : ℕ) → ((i : ℕ) → i < c → record_at g i ≡ record_at h i) → log_sound n g c ≡ log_sound n h c
unfolding log_sound
log_same n g h c e = all_same (λ i. record_sound n (record_at g i) && in_order (open_in g i) (record_at g i)) (λ i. record_sound n (record_at h i) && in_order (open_in h i) (record_at h i)) c
    (λ i l z. record_sound n (e i l z) && in_order (open_same g h i (λ j m. e j (omega arith)) z) (e i l z))

module _ (s : Areas) where
  cut_count : stable_count (cut s) ≡ stable_count s
  unfolding cut
  cut_count = elim (dec_lt 1 (length s.counts)) [
    | yes l ↦ get_or-set_same (zeros (length s.counts)) 1 (stable_count s) 0 (rw (length-replicate {A = ℕ} (length s.counts) 0) l)
    | no l ↦ ap (λ (k : List ℕ). get_or k 1 0) (set_out (zeros (length s.counts)) 1 (stable_count s) (rw (length-replicate {A = ℕ} (length s.counts) 0) (omega arith)))
        ∙ zero_at (length s.counts) 1 ∙ sym (get_or-eq_default s.counts 0 (omega arith))
  ]

  cut_record : (i : ℕ) → i < stable_count s → record_at (cut s).log i ≡ record_at s.log i
  unfolding cut
  cut_record i l = λ z. made (word (record_words * i) (omega arith) z) (word (record_words * i + 1) (omega arith) z) (word (record_words * i + 2) (omega arith) z) (word (record_words * i + 3) (omega arith) z) (word (record_words * i + 4) (omega arith) z) (word (record_words * i + 5) (omega arith) z)
    where
      word : (j : ℕ) → j < record_words * stable_count s → get_or (cut s).log j 0 ≡ get_or s.log j 0
      word j m = kept_before (record_words * stable_count s) s.log j m

  cut_stable : stable (cut s) ≡ stable s
  cut_stable = rw cut_count (recs_same (cut s).log s.log (stable_count s) cut_record)

pub cut_kept : (n : ℕ) → 1 ≤ n → (s : Areas) (b : Book) → Inv3 n s b → Inv3 n (cut s) (stopped awaiting b)
unfolding cut
cut_kept n some s b i = let w = stops n s b awaiting i in cut_store (record {
  size = inv_size n s b i;
  stage = refl;
  word = zero_at (length s.work) 0;
  waiting = waiting_moved n s (cut s) (stopped awaiting b) (cut_stable s) refl
      (rw (cut_count s) (log_same n (cut s).log s.log (stable_count s) (cut_record s) ∙ w.order)) w;
})
