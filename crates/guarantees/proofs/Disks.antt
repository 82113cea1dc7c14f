-- A disk to start from has the invariants: what is proved of lists from a formatted store on is true from there on. Assumes nothing.
use Prim.Native.Nat.{ℕ, ◌≤◌}
use native.Mathlib.Omega.{arith}
use mathlib.Core.Path.{◌≡◌, refl, sym}
use mathlib.Core.Bool.{true}
use mathlib.Core.List.{List, []}
use lib.ListN.{length}
use Rattle.words.specs.Spans.{zero_at}
use Rattle.records.specs.Soundness.{record_sound}
use Rattle.areas.specs.Areas.{Areas, stable_count}
use Rattle.areas.specs.Entry.{pages, reopening}
use Rattle.calls.specs.Calls.{perform}
use Rattle.calls.specs.Formatting.{cut}
use Rattle.acceptance.specs.Reopening.{ReopenFacts, RecoverableFacts, reopen_ran, reopen_facts, recoverable_facts}
use Rattle.reach.specs.Reaching.{next}
use Rattle.book.specs.Lines.{filtered, pages_after}
use Rattle.book.specs.Books.{Book, awaiting, blank, counts_committed, committed_lines}
use Rattle.book.specs.Pointers.{unbroken, Leads}
use Rattle.book_laws.specs.Seen.{committed_of, seen}
use Rattle.book_laws.specs.Keeping.{Origin}
use Rattle.book_laws.proofs.Invariant.{blank_inv, stage_inv}
use Rattle.book_laws.proofs.Members.{each_nil}
use Rattle.recovery_proof.proofs.Reopening.{recovered_view}
use Rattle.demand.proofs.State.{Waiting, Inv3, cut_store}
use Rattle.demand.proofs.Stopping.{whole_of}
use Rattle.demand.proofs.Start.{blank_sound}
use Rattle.demand.proofs.Recovered.{recovered_origin}
use Rattle.guarantees.specs.Disks.{recovered_pages, from_disk, Disk}
use Rattle.guarantees.proofs.Fine.{Fine}

module _ (s : Areas) (d : Disk s) where
  abbrev n : ℕ
  n = pages s

  abbrev made : List ℕ
  made = recovered_pages (cut s)

  abbrev b : Book
  b = (from_disk s).book

  facts : ReopenFacts (cut s)
  unfolding perform
  facts = reopen_facts (cut s) (reopen_ran (cut s) d.sound).passed

  recovers : RecoverableFacts n (cut s).stored (cut s).log (stable_count (cut s))
  unfolding cut
  recovers = recoverable_facts n (cut s).stored (cut s).log (stable_count (cut s)) facts.recovers

  pub disk_some : 1 ≤ n
  unfolding cut
  disk_some = facts.sized.low

  origin : Origin n made
  unfolding cut
  origin = recovered_origin n (cut s).stored (cut s).log (stable_count (cut s)) facts.sized.stored_len recovers

  leads : Leads made []
  unfolding unbroken
  leads = record { there = λ o f x p r. d.whole x (next f p r); unbrokenly = λ o f x p r. refl }

  waits : Waiting n (cut s) b
  unfolding cut committed_lines filtered pages_after seen
  waits = record {
    book = stage_inv (blank made) (blank_inv made) awaiting;
    sound = blank_sound n made origin;
    idle = λ t. refl;
    forgot = λ t x. refl;
    all_stable = refl;
    whole = whole_of n made origin (counts_committed b) [] (each_nil (λ m. record_sound n m.entry ≡ true)) leads;
    leads = leads;
    order = recovers.log_sound_law;
    gives = λ x. sym (recovered_view n (cut s).stored (cut s).log (stable_count (cut s)) facts.sized.stored_len recovers.log_sound_law x);
  }

  no_word : reopening (cut s) ≡ 0
  unfolding cut
  no_word = zero_at (length s.work) 0

  pub disk_inv : Inv3 n (cut s) b
  unfolding cut
  disk_inv = cut_store (record { size = refl; stage = refl; word = no_word; waiting = waits })

  pub disk_fine : Fine n (cut s) b
  unfolding cut committed_of filtered pages_after
  disk_fine = record {
    sized = facts.sized;
    stored = recovers.stored_sound;
    stable_le = facts.stable_le;
    firm = λ j l. let z : j ≡ 0 = omega arith in rw z origin.sound;
    range = λ no. absurd (no no_word);
    room = λ e. absurd (let z = no_word in omega arith);
  }
