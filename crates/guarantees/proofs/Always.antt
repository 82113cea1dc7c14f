-- A store is fine at every point of every list of calls and cuts. n is the number of pages. Assumes nothing.
use Rattle.std.specs.Prelude.{Ok}
use Prim.Native.Nat.{ℕ, zero, suc, ◌+◌, ◌*◌, ◌≤◌, ◌<◌}
use native.Mathlib.Omega.{arith}
use mathlib.Core.Path.{◌≡◌, refl, sym, ap, ◌∙◌, subst}
use mathlib.Core.Bool.{Bool, true, false}
use mathlib.Core.List.{List, [], ◌∷◌, ◌++◌}
use lib.ListN.{length, set, take, drop, replicate, length-set, length-replicate}
use lib.Seq.{get_or-set_same, get_or-set_other}
use lib.Dec.{eqb, ltb}
use borrow.Author.Tests.{ltb-true, leb-true, eqb-false, ne_eqb}
use Rattle.words.specs.Tests.{by_bool}
use Rattle.words.specs.Spans.{fill, length_fill, zero_at}
use Rattle.pages.specs.Geometry.{slot_words, page_words, max_pages}
use Rattle.pages.specs.Objects.{word_of, formatted_pages}
use Rattle.pages.specs.Soundness.{area_sound}
use Rattle.page_laws.specs.SoundFacts.{copied_sound}
use Rattle.page_laws.specs.ViewLaws.{length_copied}
use Rattle.record_laws.specs.RecordLaws.{log_sound_records}
use Rattle.record_laws.specs.EffectLaws.{length_recovered}
use Rattle.areas.specs.Answers.{accepted, Test, verdict}
use Rattle.areas.specs.Areas.{Areas, Out, received_count, stable_count}
use Rattle.areas.specs.Layout.{reopening_page_at, phase_at, pass_page_at, undoing_at, work_words}
use Rattle.areas.specs.Tables.{at}
use Rattle.areas.specs.Entry.{pages, records, reopening}
use Rattle.calls.specs.Calls.{Call, reopens, perform}
use Rattle.calls.specs.Calls.Call.{begin, commit, abort, grant, lock_read, lock_write, read, create, set_word, flush, force, store, empty, pass, step, reopen, restep, mark, back, look}
use Rattle.calls.specs.Marks.{back_to}
use Rattle.calls.specs.Formatting.{formatted, cut}
use Rattle.calls.specs.Pass.{advanced, freed_map, sweep_map, locked, sweep_tests, lowest_grey, call_step}
use Rattle.calls.specs.Reopening.{call_reopen, reopened, page_stored, reopening_over, call_restep}
use Rattle.acceptance.specs.Calls.{refused_keeps}
use Rattle.acceptance.specs.Entered.{Open, opened}
use Rattle.acceptance.specs.Lengths.{Sized}
use Rattle.acceptance.specs.Working.{Working}
use Rattle.acceptance.specs.Ran.{Outcome}
use Rattle.acceptance.specs.Transactions.{begin_outcome, begin_facts, commit_outcome, commit_facts, abort_outcome, abort_facts}
use Rattle.acceptance.specs.Rights.{grant_outcome, grant_facts}
use Rattle.acceptance.specs.Locks.{lock_read_outcome, lock_read_facts, lock_write_outcome, lock_write_facts}
use Rattle.acceptance.specs.Objects.{read_outcome, read_facts, create_outcome, create_facts, set_outcome, set_facts, flush_outcome, flush_facts}
use Rattle.acceptance.specs.Stability.{force_outcome, store_outcome, store_facts, empty_outcome}
use Rattle.acceptance.specs.Pass.{pass_outcome, step_outcome, step_facts, step_way, StepWay, scans, turns, sweeps, sweep_map_of, sweeping, sweep_facts, stepped}
use Rattle.acceptance.specs.Marks.{mark_outcome, mark_facts, back_outcome, back_facts}
use Rattle.acceptance.specs.Room.{Room}
use Rattle.acceptance.specs.Reopening.{reopen_ran, ReopenFacts, reopen_facts, restep_outcome, restep_facts}
use Rattle.book.specs.Lines.{pages_after, filtered}
use Rattle.book.specs.Books.{Book, blank, awaiting, storing, committed_lines, committed_pages, stopped}
use Rattle.book.specs.Feeding.{fed, goes_back}
use Rattle.book.specs.Demand.{Event, call, power, Point, accepts, after, start}
use Rattle.collector.specs.State as M
use Rattle.machine_calls.specs.Tables.{phase_of}
use Rattle.records.specs.Records.{set_of, record_words, max_records}
use Rattle.book_laws.specs.Seen.{committed_of}
use Rattle.book_laws.proofs.Sweeps.{sweep_kept}
use Rattle.demand.proofs.State.{OpenInv, StoringInv, Inv3, open_store, cut_store, reopening_store}
use Rattle.demand.proofs.Finished.{accepted_open}
use Rattle.demand.proofs.Begin.{open_begin}
use Rattle.demand.proofs.Commit.{open_commit}
use Rattle.demand.proofs.Abort.{open_abort}
use Rattle.demand.proofs.Rights.{open_grant}
use Rattle.demand.proofs.Locks.{open_lock_read, open_lock_write}
use Rattle.demand.proofs.Reading.{open_read}
use Rattle.demand.proofs.Create.{open_create}
use Rattle.demand.proofs.Write.{open_set}
use Rattle.demand.proofs.Flush.{open_flush}
use Rattle.demand.proofs.Stability.{open_force, open_store as open_store_page, open_empty}
use Rattle.demand.proofs.Passing.{open_pass, open_step}
use Rattle.demand.proofs.Marks as Marks
use Rattle.demand.proofs.Marks.{open_mark, open_back}
use Rattle.demand.proofs.Holds.{sweeping_phase}
use Rattle.demand.proofs.HoldsWaiting.{step_entered}
use Rattle.demand.proofs.Sweep.{open_sweep, lines_fed}
use Rattle.demand.proofs.Formatted.{zeros, formatted_length, formatted_sound}
use Rattle.demand.proofs.Reopen.{reopen_kept}
use Rattle.demand.proofs.Restep.{restep_kept}
use Rattle.demand.proofs.Start.{start_inv}
use Rattle.demand.proofs.Theorem.{keep}
use Rattle.guarantees.proofs.Through.{through}
use Rattle.guarantees.proofs.Tables.{Within, set_within, word, reopening_page, granted_within, read_locked_within, write_locked_within, learned_within, started_within, scanning_within, turning_within, advanced_within, emptied_within, clear_within}
use Rattle.guarantees.proofs.Sound.{Firm, firm_stop}
use Rattle.guarantees.proofs.Fine.{Fine, resized, in_range_law, open_fine, quiet_fine}
use Rattle.guarantees.proofs.Reserve.{held_none}
use Rattle.guarantees.proofs.Keeps.{within, begun_fine, created_fine, set_fine, committed_fine, flushed_fine, stored_fine, forced_fine, emptied_fine, swept_fine}
use Rattle.guarantees.proofs.Undone.{aborted_fine, marked_fine, back_fine}
use Rattle.acceptance.specs.Looks.{look_keeps}

-- the invariant, by the reopening word
pub as_open : (n : ℕ) (s : Areas) (b : Book) → Inv3 n s b → reopening s ≡ 2 → OpenInv n s b
as_open n s b (open_store i) e = i
as_open n s b (cut_store i) e = absurd (let z = i.word in omega arith)
as_open n s b (reopening_store k l i) e = absurd (let z = i.word in omega arith)

-- an accepted step of a reopening finds one that runs
pub as_storing : (n : ℕ) (s : Areas) (b : Book) → Inv3 n s b → accepted (call_restep s).answer ≡ true → (k : ℕ) × StoringInv n s b k
as_storing n s b (open_store i) a = absurd (let e = (restep_facts s ((restep_outcome s).ran a).passed).running in let w = i.word in omega arith)
as_storing n s b (cut_store i) a = absurd (let e = (restep_facts s ((restep_outcome s).ran a).passed).running in let w = i.word in omega arith)
as_storing n s b (reopening_store k l i) a = (k, i)

-- a reopening that runs
storing_fine : (n : ℕ) → 1 ≤ n → (s : Areas) (b : Book) → Inv3 n s b → reopening s ≡ 1 → Sized s n → area_sound s.stored n ≡ true → stable_count s ≤ records s → Firm n b → Fine n s b
unfolding committed_lines committed_of
storing_fine n some s b (open_store i) e z st k f = absurd (let w = i.word in omega arith)
storing_fine n some s b (cut_store i) e z st k f = absurd (let w = i.word in omega arith)
storing_fine n some s b (reopening_store j l i) e z st k f =
    let c = i.counts in
    let sound : area_sound (committed_pages b) n ≡ true = f 0 (omega arith) in
    record {
      sized = z;
      stored = st;
      stable_le = k;
      firm = f;
      range = λ no. in_range_law n s some (omega arith) (omega arith) (clear_within s.work n (records s) some z.work_len i.clear (omega arith) (let p = i.page in omega arith))
          (rw i.received sound) (rw i.copies sound) (rw c (log_sound_records n s.log (stable_count s) i.waiting.order));
      room = λ d. absurd (omega arith);
    }

-- a reopen
reopened_fine : (n : ℕ) → 1 ≤ n → (s : Areas) (b : Book) → Fine n s b → ReopenFacts s → Inv3 n (reopened s) (stopped (storing 0) b) → Fine n (reopened s) (stopped (storing 0) b)
unfolding reopened
reopened_fine n some s b f k j =
    let z = f.sized in
    let e = length_recovered s.stored s.log (stable_count s) in
    let c : stable_count (reopened s) ≡ stable_count s = get_or-set_other s.counts 0 1 (stable_count s) 0 (λ y. omega arith) in
    storing_fine n some (reopened s) (stopped (storing 0) b) j
    (get_or-set_same (zeros (length s.work)) 0 1 0 (let l = z.work_len in rw (length-replicate {A = ℕ} (length s.work) 0) (omega arith)))
    (resized n s (reopened s) z refl (e ∙ z.stored_len ∙ sym z.copies_len) (e ∙ z.stored_len ∙ sym z.received_len) refl (length-set s.counts 0 (stable_count s))
    (length-set (zeros (length s.work)) 0 1 ∙ length-replicate {A = ℕ} (length s.work) 0 ∙ z.work_len))
    f.stored (rw c f.stable_le) (firm_stop n (storing 0) b f.firm)

-- its steps
module _ (n : ℕ) (some : 1 ≤ n) (s : Areas) (b : Book) (k : ℕ) (i : StoringInv n s b k) (f : Fine n s b) (a : accepted (call_restep s).answer ≡ true) where
  page_fine : (b' : Book) (p : ℕ) → b'.origin ≡ b.origin → b'.lines ≡ b.lines → b'.stable ≡ b.stable → p < n → Inv3 n (page_stored s p) b' → Fine n (page_stored s p) b'
  unfolding page_stored committed_lines committed_of
  page_fine b' p o e d l j = let z = f.sized in
      let sound : area_sound s.copies n ≡ true = rw i.copies (f.firm 0 (omega arith)) in
      storing_fine n some (page_stored s p) b' j (get_or-set_other s.work 1 0 (p + 1) 0 (λ y. omega arith) ∙ i.word)
      (resized n s (page_stored s p) z (length_copied n s.copies s.stored p z.copies_len z.stored_len l ∙ sym z.stored_len) refl refl refl refl (length-set s.work 1 (p + 1) ∙ z.work_len))
      (copied_sound n s.copies s.stored p z.copies_len z.stored_len l sound f.stored)
      f.stable_le (rw (o, e, d) f.firm)

  over_fine : (b' : Book) → b'.origin ≡ b.origin → b'.lines ≡ b.lines → b'.stable ≡ b.stable → b'.running ≡ b.running → Inv3 n (reopening_over s n) b' → Fine n (reopening_over s n) b'
  unfolding reopening_over committed_lines committed_of
  over_fine b' o e d r j = let z = f.sized in
      let sound : area_sound (committed_pages b) n ≡ true = f.firm 0 (omega arith) in
      let w : Within s.work n (records s) = clear_within s.work n (records s) some z.work_len i.clear (let y = i.word in omega arith) (let y = entered.reopening_page in y) in
      let v : Within (reopening_over s n).work n (records s) = set_within _ n (records s) 1 0 (set_within _ n (records s) 0 2 (emptied_within s.work n (records s) w (records s)) (word refl (omega arith))) (reopening_page refl (omega arith)) in
      let count : received_count (reopening_over s n) ≡ 0 = get_or-set_other (set s.counts 0 0) 1 0 0 0 (λ y. omega arith) ∙ get_or-set_same s.counts 0 0 0 (let y = z.counts_len in omega arith) in
      let none = held_none b' (λ t. ap (λ (g : ℕ → ℕ). g t) r ∙ i.waiting.idle t) in
      let w₀ = fill (λ t. 0) s.work (undoing_at n 0) (records s) in
      let two : reopening (reopening_over s n) ≡ 2 = get_or-set_other (set w₀ 0 2) 1 0 0 0 (λ y. omega arith)
      ∙ get_or-set_same w₀ 0 2 0 (let x = length_fill (λ t. 0) s.work (undoing_at n 0) (records s) in let y = z.work_len in omega arith) in
      open_fine n some (reopening_over s n) b' (as_open n (reopening_over s n) b' j two)
      (resized n s (reopening_over s n) z refl refl refl refl (length-set (set s.counts 0 0) 1 0 ∙ length-set s.counts 0 0) v.size)
      f.stored v (rw i.received sound) (rw i.copies sound) (rw (o, e, d) f.firm) (omega arith)
    where
      entered : Working s.work n (records s)
      entered = ((step_entered n some s b k i a).0.ranged (λ y. let w = i.word in omega arith)).working

restep_fine : (n : ℕ) → 1 ≤ n → (s : Areas) (b : Book) → Fine n s b → Inv3 n s b → accepted (call_restep s).answer ≡ true
    → Inv3 n (call_restep s).after (fed n b restep s.received (call_restep s).after.received) → Fine n (call_restep s).after (fed n b restep s.received (call_restep s).after.received)
unfolding fed
restep_fine n some s b f v a j =
    let k = (as_storing n s b v a).0 in
    let i = (as_storing n s b v a).1 in
    let p = at s.work reopening_page_at in
    let g = (step_entered n some s b k i a).1 in
    by_bool (ltb p n)
    (λ e. let d : (call_restep s).after ≡ page_stored s p = g ∙ rw e refl in rw d (page_fine n some s b k i f a _ p refl refl refl (ltb-true p n e) (rw d at j)))
    (λ e. let d : (call_restep s).after ≡ reopening_over s n = g ∙ rw e refl in rw d (over_fine n some s b k i f a _ refl refl refl refl (rw d at j)))

-- an accepted call of an open store, by what it went through
fine_through : (own : Bool) (s : Areas) (tests : ℕ → List Test) (o : Out) (k : ℕ → Out) (n : ℕ) (b' : Book) → Outcome true own s tests o k → accepted o.answer ≡ true → pages s ≡ n
    → OpenInv n o.after b' → (Open s n → verdict (tests n) ≡ Ok tt → OpenInv n (k n).after b' → Fine n (k n).after b') → Fine n o.after b'
fine_through own s tests o k n b' h a size j f = through own s tests o k n (λ x. OpenInv n x b' → Fine n x b') h a size f j

-- a pass step
sweep_fine : (n : ℕ) → 1 ≤ n → (s : Areas) (b : Book) → OpenInv n s b → Fine n s b → Open s n → phase_of (at s.work phase_at) ≡ M.sweeping → verdict (sweep_tests s n (sweep_map_of s n)) ≡ Ok tt → (sweep_map_of s n ≡ 0 → ⊥)
    → OpenInv n (sweeping s n).after (fed n b step s.received (sweeping s n).after.received) → Fine n (sweeping s n).after (fed n b step s.received (sweeping s n).after.received)
unfolding fed freed_map
sweep_fine n some s b i f h ph check on j = let p = at s.work pass_page_at in by_bool (locked s.work n p)
    (λ e. absurd (on (rw e refl)))
    (λ e. let m = sweep_map s.copies s.work n p in
    let z : m ≡ 0 → ⊥ = rw e at on in
    let r : Room s n 1 = (sweep_facts s n (sweep_map_of s n) check).room on in
    rw (e, ne_eqb m 0 z, lines_fed n some s b i h ph e z r)
    (swept_fine n some s b i f h p m (advanced s.work n p) h.ranged.working.pass_page r (advanced_within s.work n (records s) some (within n some s b i f h) p)
    (rw (e, ne_eqb m 0 z, lines_fed n some s b i h ph e z r) at j)))

step_fine : (n : ℕ) → 1 ≤ n → (s : Areas) (b : Book) → OpenInv n s b → Fine n s b → Open s n → (at s.work phase_at ≡ 0 → ⊥) → (o : Out) → StepWay s n o
    → OpenInv n o.after (fed n b step s.received o.after.received) → Fine n o.after (fed n b step s.received o.after.received)
unfolding fed
step_fine n some s b i f h ph o (scans m l d) j = rw d (quiet_fine n some s b _ _ (rw d at j) f h (scanning_within s.work n (records s) some (within n some s b i f h) s.copies (lowest_grey s.work n) (leb-true _ _ l))
    refl (sweep_kept s.received s.received b.lines n (λ q k. refl)) refl refl)
step_fine n some s b i f h ph o (turns m l d) j = rw d (quiet_fine n some s b _ _ (rw d at j) f h (turning_within s.work n (records s) some (within n some s b i f h))
    refl (sweep_kept s.received s.received b.lines n (λ q k. refl)) refl refl)
step_fine n some s b i f h ph o (sweeps m c d) j = rw d (by_bool (eqb (sweep_map_of s n) 0)
    (λ e. rw e (quiet_fine n some s b _ _ (rw (d, e) at j) f h (advanced_within s.work n (records s) some (within n some s b i f h) (at s.work pass_page_at))
    refl (sweep_kept s.received s.received b.lines n (λ q k. refl)) refl refl))
    (λ e. sweep_fine n some s b i f h (sweeping_phase (at s.work phase_at) ph m) c (eqb-false _ _ e) (rw d at j)))

-- every accepted call
module _ (n : ℕ) (some : 1 ≤ n) (s : Areas) (b : Book) (f : Fine n s b) (v : Inv3 n s b) where
  here : (c : Call) → reopens c ≡ false → accepted (perform s c).answer ≡ true → OpenInv n s b
  here c r a = as_open n s b v (accepted_open s c r a)

  table : OpenInv n s b → Open s n → Within s.work n (records s)
  table i h = within n some s b i f h

  pub accepted_fine : (c : Call) → accepted (perform s c).answer ≡ true → Fine n (perform s c).after (fed n b c s.received (perform s c).after.received)
  unfolding perform fed
  accepted_fine (begin t c) a = let i = here (begin t c) refl a in
      fine_through true s _ _ _ n _ (begin_outcome s t c) a i.size (open_begin n some s b i t c a) (λ h k j. begun_fine n some s b i f h t c (begin_facts s n t c k) j)
  accepted_fine (commit t) a = let i = here (commit t) refl a in
      fine_through true s _ _ _ n _ (commit_outcome s t) a i.size (open_commit n some s b i t a) (λ h k j. committed_fine n some s b i f h t (commit_facts s n t k) j)
  accepted_fine (abort t) a = let i = here (abort t) refl a in
      fine_through true s _ _ _ n _ (abort_outcome s t) a i.size (open_abort n some s b i t a) (λ h k j. aborted_fine n some s b i f h t (abort_facts s n t k))
  accepted_fine (grant c p r) a = let i = here (grant c p r) refl a in
      fine_through true s _ _ _ n _ (grant_outcome s c p r) a i.size (open_grant n some s b i c p r a)
      (λ h k j. let g = grant_facts s n c p r k in quiet_fine n some s b b _ j f h (granted_within s.work n (records s) c p r (table i h) g.client g.page g.right) refl refl refl refl)
  accepted_fine (lock_read t p) a = let i = here (lock_read t p) refl a in
      fine_through true s _ _ _ n _ (lock_read_outcome s t p) a i.size (open_lock_read n some s b i t p a)
      (λ h k j. let g = lock_read_facts s n t p k in quiet_fine n some s b b _ j f h (read_locked_within s.work n (records s) some (table i h) t p g.txn g.page) refl refl refl refl)
  accepted_fine (lock_write t p) a = let i = here (lock_write t p) refl a in
      fine_through true s _ _ _ n _ (lock_write_outcome s t p) a i.size (open_lock_write n some s b i t p a)
      (λ h k j. let g = lock_write_facts s n t p k in quiet_fine n some s b b _ j f h (write_locked_within s.work n (records s) some (table i h) t p g.txn g.page) refl refl refl refl)
  accepted_fine (read t x buffer) a = let i = here (read t x buffer) refl a in
      fine_through (eqb (length buffer) slot_words) s _ _ _ n _ (read_outcome s t x buffer) a i.size (open_read n some s b i t x buffer a)
      (λ h k j. let g = read_facts s n t x k in quiet_fine n some s b _ _ j f h
      (learned_within s.work n (records s) some (table i h) s.received t x h.ranged.received_sound g.txn g.object.low g.object.top 8 (omega arith)) refl refl refl refl)
  accepted_fine (create t x) a = let i = here (create t x) refl a in
      fine_through true s _ _ _ n _ (create_outcome s t x) a i.size (open_create n some s b i t x a) (λ h k j. created_fine n some s b i f h t x (create_facts s n t x k) j)
  accepted_fine (set_word t x g w) a = let i = here (set_word t x g w) refl a in
      fine_through true s _ _ _ n _ (set_outcome s t x g w) a i.size (open_set n some s b i t x g w a)
      (λ h k j. set_fine n some s b i f h t x g w (set_facts s n t x g w k) _ (ap (λ (p : List ℕ). set_of t x g (word_of p x g) w) (sym i.full)) j)
  accepted_fine (flush t p image) a = let i = here (flush t p image) refl a in
      fine_through (eqb (length image) page_words) s _ _ _ n _ (flush_outcome s t p image) a i.size (open_flush n some s b i t p image a)
      (λ h k j. let g = flush_facts s n t p image k in flushed_fine n some s b i f h t p g.txn g.page j)
  accepted_fine force a = let i = here force refl a in
      fine_through true s _ _ _ n _ (force_outcome s) a i.size (open_force n some s b i a) (λ h k j. forced_fine n some s b i f h _ refl refl refl refl j)
  accepted_fine (store p) a = let i = here (store p) refl a in
      fine_through true s _ _ _ n _ (store_outcome s p) a i.size (open_store_page n some s b i p a) (λ h k j. stored_fine n some s b i f h p (store_facts s n p k).page j)
  accepted_fine empty a = let i = here empty refl a in
      fine_through true s _ _ _ n _ (empty_outcome s) a i.size (open_empty n some s b i a) (λ h k j. emptied_fine n some s b i f h j)
  accepted_fine (mark t m) a = let i = here (mark t m) refl a in
      fine_through true s _ _ _ n _ (mark_outcome s t m) a i.size (open_mark n some s b i t m a) (λ h k j. marked_fine n some s b i f h t m (mark_facts s t m k) j)
  accepted_fine (back t m) a = let i = here (back t m) refl a in
      fine_through true s _ _ _ n _ (back_outcome s t m) a i.size (open_back n some s b i t m a)
      (λ h k j. let g = back_facts s n t m k in let e = Marks.count n some s b i h t m g in
      subst (λ (c : ℕ). Fine n (back_to s n t m) (goes_back c b t)) e (back_fine n some s b i f h t m g (subst (λ (c : ℕ). OpenInv n (back_to s n t m) (goes_back c b t)) (sym e) j)))
  accepted_fine (look q) a = rw (look_keeps s q) f
  accepted_fine pass a = let i = here pass refl a in
      fine_through true s _ _ _ n _ (pass_outcome s) a i.size (open_pass n some s b i a) (λ h k j. quiet_fine n some s b b _ j f h (started_within s.work n (records s) some (table i h)) refl refl refl refl)
  accepted_fine step a = let i = here step refl a in
      let k = (step_outcome s).ran a in
      let p = opened true s k.n k.ready in
      let e : k.n ≡ n = sym p.sized.count ∙ i.size in
      let g : call_step s ≡ stepped s n = k.gives ∙ ap (stepped s) e in
      step_fine n some s b i f (rw e at p) (step_facts s k.passed).one_runs (call_step s) (step_way s n (call_step s) a g) (open_step n some s b i (open_sweep n some s b i) a)
  accepted_fine reopen a =
      let k = reopen_ran s a in
      let g : (call_reopen s).after ≡ reopened s = ap (λ (x : Out). x.after) k.gives in
      rw g (reopened_fine n some s b f (reopen_facts s k.passed) (rw g at (reopen_kept n some s b v a)))
  accepted_fine restep a = restep_fine n some s b f v a (restep_kept n some s b v a)

-- a cut
cut_length : (k : ℕ) (g : List ℕ) → length (take k g ++ replicate (length (drop k g)) 0) ≡ length g
cut_length zero g = length-replicate {A = ℕ} (length g) 0
cut_length (suc k) [] = refl
cut_length (suc k) (x ∷ g) = ap suc (cut_length k g)

cut_fine : (n : ℕ) (s : Areas) (b : Book) → Fine n s b → Fine n (cut s) (stopped awaiting b)
unfolding cut
cut_fine n s b f =
    let z = f.sized in
    let g : length (cut s).log ≡ length s.log = cut_length (record_words * stable_count s) s.log in
    let c : stable_count (cut s) ≡ stable_count s =
    get_or-set_same (zeros (length s.counts)) 1 (stable_count s) 0 (rw (length-replicate {A = ℕ} (length s.counts) 0) (let e = z.counts_len in omega arith)) in
    let none : reopening (cut s) ≡ 0 = zero_at (length s.work) 0 in
    record {
      sized = resized n s (cut s) z refl (length-replicate {A = ℕ} (length s.copies) 0) (length-replicate {A = ℕ} (length s.received) 0) g
          (length-set (zeros (length s.counts)) 1 (stable_count s) ∙ length-replicate {A = ℕ} (length s.counts) 0) (length-replicate {A = ℕ} (length s.work) 0 ∙ rw g z.work_len);
      stored = f.stored;
      stable_le = rw (c, g) f.stable_le;
      firm = firm_stop n awaiting b f.firm;
      range = λ no. absurd (no none);
      room = λ e. absurd (omega arith);
    }

-- a freshly formatted store
module _ (n l : ℕ) (some : 1 ≤ n) (most : n ≤ max_pages) (low : 1 ≤ l) (few : l ≤ max_records) where
  pub start_fine : Fine n (formatted n l) (blank (formatted_pages n))
  unfolding formatted committed_of filtered pages_after
  start_fine =
      let s = formatted n l in
      let w : length s.work ≡ work_words n l = length-set (zeros (work_words n l)) 0 2 ∙ length-replicate {A = ℕ} (work_words n l) 0 in
      let two : reopening s ≡ 2 = get_or-set_same (zeros (work_words n l)) 0 2 0 (rw (length-replicate {A = ℕ} (work_words n l) 0) (omega arith)) in
      let p : length s.stored ≡ page_words * n = formatted_length n some in
      let g : length s.log ≡ record_words * l = length-replicate {A = ℕ} (record_words * l) 0 in
      let e : records s ≡ l = rw g (omega arith) in
      let b = blank (formatted_pages n) in
      let none = held_none b (λ t. refl) in
      open_fine n some s b (as_open n s b (start_inv n l some) two)
      (record {
        count = rw p (omega arith);
        low = some;
        top = most;
        stored_len = p;
        copies_len = p;
        received_len = p;
        log_low = omega arith;
        log_top = omega arith;
        log_len = omega arith;
        counts_len = refl;
        work_len = rw e w;
        tables = (most, omega arith);
        undoing = (most, omega arith);
      })
      (formatted_sound n some)
      (clear_within s.work n (records s) some (rw e w) (λ i h. get_or-set_other (zeros (work_words n l)) 0 i 2 0 (λ z. omega arith) ∙ zero_at (work_words n l) i) (omega arith)
      (let z = get_or-set_other (zeros (work_words n l)) 0 1 2 0 (λ y. omega arith) ∙ zero_at (work_words n l) 1 in omega arith))
      (formatted_sound n some) (formatted_sound n some) (λ j h. let z : j ≡ 0 = omega arith in rw z (formatted_sound n some)) (omega arith)

-- every event
pub record Sure (n : ℕ) (q : Point) : Type 0 where
  pub inv : Inv3 n q.store q.book
  pub fine : Fine n q.store q.book

keep_fine : (n : ℕ) → 1 ≤ n → (q : Point) (e : Event) → Sure n q → Fine n (after n q e).store (after n q e).book
unfolding after
keep_fine n some q (call c) u = by_bool (accepts q c)
    (λ a. rw a (accepted_fine n some q.store q.book u.fine u.inv c a))
    (λ a. rw (a, refused_keeps q.store c a) u.fine)
keep_fine n some q power u = cut_fine n q.store q.book u.fine

pub keep_sure : (n : ℕ) → 1 ≤ n → (q : Point) (e : Event) → Sure n q → Sure n (after n q e)
keep_sure n some q e u = record { inv = keep n some q e u.inv; fine = keep_fine n some q e u }

pub start_sure : (n l : ℕ) → 1 ≤ n → n ≤ max_pages → 1 ≤ l → l ≤ max_records → Sure n (start n l)
start_sure n l some most low few = record { inv = start_inv n l some; fine = start_fine n l some most low few }
