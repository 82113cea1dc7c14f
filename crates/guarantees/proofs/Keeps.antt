-- Every accepted call of an open store keeps it fine. n is the number of pages. Assumes nothing.
use Prim.Native.Nat.{ℕ, ◌+◌, ◌*◌, ◌≤◌, ◌<◌}
use native.Mathlib.Omega.{arith}
use mathlib.Core.Path.{◌≡◌, refl, sym, ap, ◌∙◌}
use mathlib.Core.Bool.{true, false, ◌&&◌}
use mathlib.Core.List.{List}
use mathlib.Core.Logic.{◌⊎◌, inl, inr}
use lib.ListN.{length, set, length-set}
use lib.Seq.{get_or-set_same, get_or-set_other}
use lib.Dec.{eqb}
use borrow.Author.Tests.{eqb-false, eqb-true}
use Rattle.words.specs.Tests.{by_bool, clash, and_false}
use Rattle.words.specs.Spans.{fill}
use Rattle.words.specs.Bits.{bit}
use Rattle.pages.specs.Geometry.{page_of, is_ref_at}
use Rattle.pages.specs.Objects.{occupied, word_of, copied_page}
use Rattle.pages.specs.Soundness.{area_sound}
use Rattle.page_laws.specs.SoundFacts.{occupy_sound, written_sound, released_sound, copied_sound}
use Rattle.page_laws.specs.ViewLaws.{length_copied}
use Rattle.page_laws.specs.Places.{length_released_in}
use Rattle.records.specs.declared.Record.{Record}
use Rattle.records.specs.Records.{begin_of, commit_of, create_of, set_of, sweep_of, record_words, txn_count}
use Rattle.records.specs.Effects.{effect}
use Rattle.records.specs.Soundness.{record_sound}
use Rattle.record_laws.specs.RecordLaws.{sound_record, log_sound_records, records_sound_at, recorded_same, recorded_length}
use Rattle.areas.specs.Areas.{Areas, received_count, stable_count, with_work, with_stored, with_counts, appended}
use Rattle.areas.specs.Layout.{unflushed_at, active_at, undoing_at}
use Rattle.areas.specs.Tables.{at}
use Rattle.areas.specs.Entry.{records}
use Rattle.calls.specs.Objects.{created, word_set, flushed}
use Rattle.calls.specs.Pass.{swept_page}
use Rattle.calls.specs.Stability.{emptied}
use Rattle.calls.specs.Transactions.{begun, committed}
use Rattle.acceptance.specs.Entered.{Open}
use Rattle.acceptance.specs.Room.{Room}
use Rattle.acceptance.specs.Transactions.{BeginFacts, CommitFacts}
use Rattle.acceptance.specs.Objects.{CreateFacts, SetFacts, known_facts}
use Rattle.book.specs.Lines.{line, pages_after}
use Rattle.book.specs.Books.{Book, counts_committed, committed_lines, committed_pages}
use Rattle.book.specs.Feeding.{adds, learns, begins}
use Rattle.collector.proofs.Known.{known_there}
use Rattle.collector.specs.Objects.{Obj}
use Rattle.machine_view.specs.View.{view}
use Rattle.machine_calls.specs.Tables.{locks_of}
use Rattle.machine_calls.proofs.Facts.{act_is, kn_is}
use Rattle.recovery_proof.proofs.Maps.{Small}
use Rattle.machine_view.proofs.Effects.{view_occ}
use Rattle.book_laws.specs.Seen.{Seen, committed_of, seen_committed, seen_full}
use Rattle.book_laws.specs.Keeping.{Runs}
use Rattle.book_laws.specs.After.{committed_by, swept_by}
use Rattle.book_laws.proofs.Ending.{commit_committed}
use Rattle.book_laws.proofs.Feeding.{begin_committed, adds_committed}
use Rattle.book_laws.proofs.Pages.{committed_view, committed_length}
use Rattle.demand.proofs.State.{machine, OpenInv}
use Rattle.demand.proofs.Change.{machine_shows, full_shown}
use Rattle.demand.proofs.Shared.{small_after}
use Rattle.guarantees.proofs.Tables.{Within, working_within, begun_within, ended_within, created_within, set_tables_within, lose_within, emptied_within}
use Rattle.guarantees.proofs.Reserve.{held, held_same, held_begin, held_adds, held_end, held_sweep}
use Rattle.guarantees.proofs.Sound.{either_sound, Firm, firm_more, firm_idle, swept_lines}
use Rattle.guarantees.proofs.Fine.{Fine, resized, open_fine, reserved_held, added_fine}

module _ (n : ℕ) (some : 1 ≤ n) (s : Areas) (b : Book) (i : OpenInv n s b) (f : Fine n s b) (h : Open s n) where
  pub within : Within s.work n (records s)
  within = working_within s.work n (records s) h.sized.work_len h.ranged.working

  -- 'need 2 beyond used and reserved', by the book
  beyond : (k : ℕ) → Room s n k → received_count s + held b + k ≤ records s
  beyond k r = rw (reserved_held n s b i) at r

  long : (k : ℕ) → 1 ≤ k → received_count s + k ≤ records s → record_words * received_count s + record_words ≤ length s.log
  long k l m = let e = h.sized.log_len in omega arith

  pub runs : (t : ℕ) → t < txn_count → bit (at s.work active_at) t ≡ true → Runs b t
  runs t l a = i.active t (act_is s n (machine n s b) (machine_shows n s b) t l ∙ a)

  committed_sound : area_sound (committed_pages b) n ≡ true
  unfolding committed_lines committed_of
  committed_sound = f.firm 0 (omega arith)

  -- begin
  pub begun_fine : (t c : ℕ) → BeginFacts s n t c → OpenInv n (begun s n t c) (begins b t) → Fine n (begun s n t c) (begins b t)
  unfolding begun effect
  begun_fine t c k j =
      let room = beyond 2 k.room in
      let hold = held_begin b i.book t k.txn in
      let idle : b.running t ≡ 0 = stopped_one t k in
      added_fine n some s b (begins b t) (begin_of t) _ j f h (begun_within s.work n (records s) some within t c k.txn k.client (let r = k.room in omega arith)) h.ranged.received_sound
      (firm_idle n b (begins b t) (line (begin_of t) (b.begun + 1)) refl refl refl i.book.stable (begin_committed b i.book t k.txn idle) f.firm) (omega arith)
    where
      stopped_one : (t : ℕ) → BeginFacts s n t c → b.running t ≡ 0
      stopped_one t k = by_bool (eqb (b.running t) 0) (λ e. eqb-true _ _ e)
          (λ e. clash (sym (act_is s n (machine n s b) (machine_shows n s b) t k.txn) ∙ i.runs t (eqb-false _ _ e)) k.inactive)

  -- create and set
  pub created_fine : (t o : ℕ) → CreateFacts s n t o → OpenInv n (created s n t o) (learns (adds b t (create_of t o)) t (eqb o)) → Fine n (created s n t o) (learns (adds b t (create_of t o)) t (eqb o))
  unfolding created effect
  created_fine t o k j =
      let room = beyond 2 k.room in
      let run = runs t k.txn k.active in
      let hold = held_adds b i.book t run k.txn (learns (adds b t (create_of t o)) t (eqb o)) (create_of t o) refl refl in
      added_fine n some s b (learns (adds b t (create_of t o)) t (eqb o)) (create_of t o) _ j f h (created_within s.work n (records s) some within t o k.txn k.object.low k.object.top)
      (occupy_sound n s.received h.sized.received_len h.ranged.received_sound o k.object.low k.object.top)
      (firm_idle n b (learns (adds b t (create_of t o)) t (eqb o)) (line (create_of t o) (b.running t)) refl refl refl i.book.stable
      (adds_committed b i.book t run (create_of t o) refl refl) f.firm) (omega arith)

  pub set_fine : (t o g v : ℕ) → SetFacts s n t o g v → (r : Record) → r ≡ set_of t o g (word_of s.received o g) v → OpenInv n (word_set s n t o g v) (adds b t r) → Fine n (word_set s n t o g v) (adds b t r)
  unfolding word_set effect is_ref_at
  set_fine t o g v k r e j =
      let room = beyond 2 k.room in
      let q = set_of t o g (word_of s.received o g) v in
      let run = runs t k.txn k.active in
      let hold = held_adds b i.book t run k.txn (adds b t r) r refl refl in
      let there : occupied s.received o ≡ true = sym (view_occ s.received o k.object.low) ∙ ap (λ (x : Obj). x.occ) (sym (full_shown n s b i o))
      ∙ known_there (machine n s b) i.collector t o (kn_is s n (machine n s b) (machine_shows n s b) t o k.txn ∙ k.known) in
      added_fine n some s b (adds b t r) q _ j f h (set_tables_within s.received s.work n (records s) t o g v some within h.ranged.received_sound k.txn k.object.low k.object.top k.field)
      (written_sound n s.received h.sized.received_len h.ranged.received_sound o k.object.low k.object.top g v k.field there
      (λ y. elim (k.may y) [ inl z ↦ omega arith | inr z ↦ (known_facts s.work n t v z).object.top ]))
      (firm_idle n b (adds b t r) (line r (b.running t)) refl refl refl i.book.stable
      (adds_committed b i.book t run r (rw e refl) (rw e refl)) f.firm) (omega arith)

  -- pages that show the full objects on t's pages and the committed ones elsewhere, or the other way round
  mixed_sound : (a : List ℕ) → Small n a → ((x : ℕ) → (view a x ≡ view s.received x) ⊎ (view a x ≡ view (committed_pages b) x)) → area_sound a n ≡ true
  mixed_sound a small e = either_sound n some s.received (committed_pages b) a h.ranged.received_sound committed_sound small e

  shown_full : (x : ℕ) → (seen_full b x).object ≡ view s.received x
  shown_full x = full_shown n s b i x

  shown_committed : (x : ℕ) → (seen_committed b x).object ≡ view (committed_pages b) x
  shown_committed x = sym (committed_view n b i.sound x)

  -- commit
  pub committed_fine : (t : ℕ) → CommitFacts s n t → OpenInv n (committed s n t) (committed_by b t) → Fine n (committed s n t) (committed_by b t)
  unfolding committed effect committed_lines committed_of
  committed_fine t k j =
      let run = runs t k.txn k.active in
      let hold = held_end b i.book t run k.txn (committed_by b t) (commit_of t) refl refl in
      let room = f.room h.finished in
      added_fine n some s b (committed_by b t) (commit_of t) _ j f h (ended_within s.work n (records s) some within t) h.ranged.received_sound
      (firm_more n b (committed_by b t) (line (commit_of t) (b.running t)) refl refl refl i.book.stable
      (mixed_sound (committed_pages (committed_by b t)) (small_after n b.origin j.sound.origin (counts_committed (committed_by b t)) (committed_by b t).lines j.sound.lines) (λ x. either x run)) f.firm) (omega arith)
    where
      either : (x : ℕ) → Runs b t → (view (committed_pages (committed_by b t)) x ≡ view s.received x) ⊎ (view (committed_pages (committed_by b t)) x ≡ view (committed_pages b) x)
      either x run =
          let e = committed_view n (committed_by b t) j.sound x ∙ ap (λ (v : Seen). v.object) (commit_committed b i.book (locks_of s.work n).wr i.writers t run x) in
          by_bool ((locks_of s.work n).wr t (page_of x))
          (λ d. inl (rw d at e ∙ shown_full x))
          (λ d. inr (rw d at e ∙ shown_committed x))

  -- flush and store page
  pub flushed_fine : (t p : ℕ) → t < txn_count → p < n → OpenInv n (flushed s n t p) b → Fine n (flushed s n t p) b
  unfolding flushed
  flushed_fine t p l m j =
      let v = lose_within s.work n (records s) (unflushed_at n p) t within (omega arith) (omega arith) in
      open_fine n some (flushed s n t p) b j
      (resized n s (flushed s n t p) h.sized refl (length_copied n s.received s.copies p h.sized.received_len h.sized.copies_len m ∙ sym h.sized.copies_len) refl refl refl v.size)
      f.stored v h.ranged.received_sound
      (copied_sound n s.received s.copies p h.sized.received_len h.sized.copies_len m h.ranged.received_sound h.ranged.copies_sound)
      f.firm (f.room h.finished)

  pub stored_fine : (p : ℕ) → p < n → OpenInv n (with_stored s (copied_page s.copies s.stored p)) b → Fine n (with_stored s (copied_page s.copies s.stored p)) b
  stored_fine p m j =
      open_fine n some (with_stored s (copied_page s.copies s.stored p)) b j
      (resized n s (with_stored s (copied_page s.copies s.stored p)) h.sized
      (length_copied n s.copies s.stored p h.sized.copies_len h.sized.stored_len m ∙ sym h.sized.stored_len) refl refl refl refl h.sized.work_len)
      (copied_sound n s.copies s.stored p h.sized.copies_len h.sized.stored_len m h.ranged.copies_sound f.stored) within h.ranged.received_sound h.ranged.copies_sound
      f.firm (f.room h.finished)

  -- counts and words alone
  counted_fine : (b' : Book) (k w : List ℕ) → length k ≡ length s.counts → Within w n (records s) → OpenInv n (with_work (with_counts s k) w) b' → Firm n b'
      → received_count (with_counts s k) + held b' ≤ records s → Fine n (with_work (with_counts s k) w) b'
  counted_fine b' k w e v j firm room =
      open_fine n some (with_work (with_counts s k) w) b' j (resized n s (with_work (with_counts s k) w) h.sized refl refl refl refl e v.size) f.stored v
      h.ranged.received_sound h.ranged.copies_sound firm room

  pub forced_fine : (b' : Book) → b'.origin ≡ b.origin → b'.lines ≡ b.lines → b'.stable ≡ b.stable + 1 → b'.running ≡ b.running
      → OpenInv n (with_counts s (set s.counts 1 (stable_count s + 1))) b' → Fine n (with_counts s (set s.counts 1 (stable_count s + 1))) b'
  forced_fine b' o e d r j = counted_fine b' (set s.counts 1 (stable_count s + 1)) s.work (length-set s.counts 1 (stable_count s + 1)) within j
      (λ k l. rw (o, e) (f.firm k (let z : length b'.lines ≡ length b.lines = ap length e in omega arith)))
      (rw (get_or-set_other s.counts 1 0 (stable_count s + 1) 0 (λ z. omega arith), held_same b b' e r) (f.room h.finished))

  pub emptied_fine : OpenInv n (emptied s n) b → Fine n (emptied s n) b
  emptied_fine j = counted_fine b (set (set s.counts 0 0) 1 0) (fill (λ k. 0) s.work (undoing_at n 0) (records s)) (length-set (set s.counts 0 0) 1 0 ∙ length-set s.counts 0 0)
      (emptied_within s.work n (records s) within (records s)) j f.firm
      (let z : received_count (emptied s n) ≡ 0 = get_or-set_other (set s.counts 0 0) 1 0 0 0 (λ y. omega arith) ∙ get_or-set_same s.counts 0 0 0 (let e = h.sized.counts_len in omega arith) in
      let y = f.room h.finished in omega arith)

  -- a sweep
  pub swept_fine : (p m : ℕ) (w : List ℕ) → p < n → Room s n 1 → Within w n (records s) → OpenInv n (with_work (swept_page s p m) w) (swept_by b p m) → Fine n (with_work (swept_page s p m) w) (swept_by b p m)
  unfolding swept_page appended effect committed_lines committed_of
  swept_fine p m w l room v j =
      let s' = with_work (swept_page s p m) w in
      let room' = beyond 1 room in
      let c = received_count s in
      let lg = long 1 (omega arith) (omega arith) in
      let count : received_count s' ≡ c + 1 = get_or-set_same s.counts 0 (c + 1) 0 (let e = h.sized.counts_len in omega arith) in
      let g : length s'.log ≡ length s.log = recorded_length s.log c (sweep_of p m) in
      let ok : record_sound n (sweep_of p m) ≡ true = rw (recorded_same s.log c (sweep_of p m) lg) at
      (records_sound_at n s'.log (received_count s') c (log_sound_records n s'.log (received_count s') j.log.order) (omega arith)) in
      let root_kept : p ≡ 0 → bit m 0 ≡ false = (sound_record n (sweep_of p m) ok).sweep_root refl in
      let hold = held_sweep b i.book (swept_by b p m) (line (sweep_of p m) 0) refl refl (λ x. and_false (eqb 0 x && true)) in
      open_fine n some s' (swept_by b p m) j
      (resized n s s' h.sized refl (length_released_in s.copies p m 16) (length_released_in s.received p m 16) g (length-set s.counts 0 (c + 1)) (rw g v.size))
      f.stored (rw g v)
      (released_sound n s.received h.sized.received_len h.ranged.received_sound p m l root_kept)
      (released_sound n s.copies h.sized.copies_len h.ranged.copies_sound p m l root_kept)
      (firm_more n b (swept_by b p m) (line (sweep_of p m) 0) refl refl refl i.book.stable
      (rw (swept_lines b.origin b.lines p m) (released_sound n (pages_after b.origin (committed_of b.lines)) (committed_length n b i.sound) (f.firm 0 (omega arith)) p m l root_kept)) f.firm)
      (rw (count, g) (omega arith))
