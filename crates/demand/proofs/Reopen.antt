-- An accepted reopen keeps the invariant. n is the number of pages. Assumes nothing.
use Prim.Native.Nat.{ℕ, ◌*◌, ◌≤◌}
use native.Mathlib.Omega.{arith}
use mathlib.Core.Path.{◌≡◌, refl, sym, ap, ◌∙◌}
use mathlib.Core.Bool.{true}
use lib.ListN.{length, length-replicate}
use lib.Seq.{get_or-set_same, get_or-set_other}
use Rattle.words.specs.Spans.{zero_at}
use Rattle.records.specs.Recovery.{recovered}
use Rattle.areas.specs.Answers.{accepted}
use Rattle.areas.specs.Areas.{Areas, Out, received_count, stable_count}
use Rattle.areas.specs.Tables.{at}
use Rattle.areas.specs.Entry.{reopening}
use Rattle.calls.specs.Calls.{reopen}
use Rattle.calls.specs.Reopening.{reopened, call_reopen}
use Rattle.acceptance.specs.Lengths.{Sized}
use Rattle.acceptance.specs.Reopening.{ReopenFacts, reopen_facts, reopen_ran, RecoverableFacts, recoverable_facts}
use Rattle.book.specs.Lines.{pages_after}
use Rattle.book.specs.Books.{storing, Book, committed_pages, stopped}
use Rattle.book.specs.Feeding.{fed}
use Rattle.recovery_proof.specs.Shapes.{recs}
use Rattle.recovery_proof.proofs.Maps.{small_sound, small_recovered}
use Rattle.record_laws.specs.EffectLaws.{length_recovered}
use Rattle.recovery_proof.proofs.Reopening.{recovered_view}
use Rattle.book_laws.specs.Seen.{Seen}
use Rattle.book_laws.proofs.Pages.{stop_one}
use Rattle.demand.proofs.State.{Waiting, StoringInv, Inv3, reopening_store}
use Rattle.demand.proofs.HoldsWaiting.{idle_full}
use Rattle.demand.proofs.Shared.{full_ext}
use Rattle.demand.proofs.Stopping.{stops, inv_size, waiting_moved}
use Rattle.demand.proofs.Formatted.{zeros}
use Rattle.pages.specs.Soundness.{area_sound}
use Rattle.pages.specs.Geometry.{page_words}

-- what reopening recovers is the committed state that the stop leaves
pub recovered_committed : (n : ℕ) (s : Areas) (b : Book) → Inv3 n s b → length s.stored ≡ page_words * n → area_sound s.stored n ≡ true
    → recovered s.stored s.log (stable_count s) ≡ committed_pages (stopped (storing 0) b)
recovered_committed n s b i l sound =
    let b' = stopped (storing 0) b in let w = stops n s b (storing 0) i in
    full_ext n b' w.sound (recovered s.stored s.log (stable_count s)) (length_recovered s.stored s.log (stable_count s) ∙ l)
    (small_recovered n s.stored s.log (stable_count s) l (small_sound n s.stored sound) w.order)
    (λ x. recovered_view n s.stored s.log (stable_count s) l w.order x ∙ w.gives x ∙ sym (ap (λ (v : Seen). v.object) (stop_one (storing 0) b x)))
    ∙ ap (pages_after b.origin) (idle_full b' w.idle)

module _ (n : ℕ) (some : 1 ≤ n) (s : Areas) (b : Book) (i : Inv3 n s b) (f : ReopenFacts s) where
  abbrev b' : Book
  b' = stopped (storing 0) b

  size : Sized s n
  size = rw (inv_size n s b i) at f.sized

  recovers : RecoverableFacts n s.stored s.log (stable_count s)
  recovers = recoverable_facts n s.stored s.log (stable_count s) (rw (inv_size n s b i) at f.recovers)

  waits : Waiting n s b'
  waits = stops n s b (storing 0) i

  stable_count_law : stable_count (reopened s) ≡ stable_count s
  unfolding reopened
  stable_count_law = get_or-set_other s.counts 0 1 (stable_count s) 0 (λ z. omega arith)

  received_count_law : received_count (reopened s) ≡ stable_count s
  unfolding reopened
  received_count_law = get_or-set_same s.counts 0 (stable_count s) 0 (let e = size.counts_len in omega arith)

  begun : reopening (reopened s) ≡ 1
  unfolding reopened
  begun = get_or-set_same (zeros (length s.work)) 0 1 0 (let e = size.work_len in rw (length-replicate {A = ℕ} (length s.work) 0) (omega arith))

  clear : (j : ℕ) → 1 ≤ j → at (reopened s).work j ≡ 0
  unfolding reopened
  clear j l = get_or-set_other (zeros (length s.work)) 0 j 1 0 (λ z. omega arith) ∙ zero_at (length s.work) j

  reopened_kept : StoringInv n (reopened s) b' 0
  unfolding reopened
  reopened_kept = record {
    size = inv_size n s b i;
    stage = refl;
    word = begun;
    page = clear 1 (omega arith);
    waiting = waiting_moved n s (reopened s) b' (ap (recs s.log) stable_count_law) refl (rw stable_count_law recovers.log_sound_law) waits;
    received = recovered_committed n s b i size.stored_len recovers.stored_sound;
    copies = recovered_committed n s b i size.stored_len recovers.stored_sound;
    counts = received_count_law ∙ sym stable_count_law;
    stored = λ j l. absurd (omega arith);
    clear = λ j l. clear j (omega arith);
  }

pub reopen_kept : (n : ℕ) → 1 ≤ n → (s : Areas) (b : Book) → Inv3 n s b → accepted (call_reopen s).answer ≡ true
    → Inv3 n (call_reopen s).after (fed n b reopen s.received (call_reopen s).after.received)
unfolding fed
reopen_kept n some s b i a =
    let k = reopen_ran s a in
    let g : (call_reopen s).after ≡ reopened s = ap (λ (x : Out). x.after) k.gives in
    rw g (reopening_store 0 (omega arith) (reopened_kept n some s b i (reopen_facts s k.passed)))
