-- Document 02, L8: an accepted call, and a cut, make no own number in the received pages, the copies and the stored pages. n is the number
-- of pages. Assumes nothing.
use Prim.Native.Nat.{ℕ, ◌+◌, ◌*◌, ◌≤◌, ◌<◌}
use native.Mathlib.Omega.{arith}
use mathlib.Core.Path.{◌≡◌, refl, sym, ap, ◌∙◌}
use mathlib.Core.Bool.{Bool, true, false, ◌&&◌}
use mathlib.Core.List.{List, [], ◌∷◌}
use lib.ListN.{length}
use lib.Dec.{eqb, leb, ltb}
use borrow.Author.Tests.{leb-true, ltb-true, le-leb, lt-ltb, eq-eqb}
use Rattle.words.specs.Tests.{by_bool, clash, and_split}
use Rattle.words.specs.Bits.{bit}
use Rattle.words.specs.Spans.{zero_at}
use Rattle.pages.specs.Geometry.{page_at, page_words, slot_at, page_of, slot_of, slot_words}
use Rattle.pages.specs.Objects.{word_of, released}
use Rattle.page_laws.specs.SoundFacts.{ref_same}
use Rattle.records.specs.Records.{set_of}
use Rattle.records.specs.Effects.{effect}
use Rattle.areas.specs.Answers.{accepted}
use Rattle.areas.specs.Areas.{Areas, Out, appended}
use Rattle.areas.specs.Layout.{reopening_page_at, pass_page_at}
use Rattle.areas.specs.Tables.{at}
use Rattle.calls.specs.Calls.{Call, perform}
use Rattle.calls.specs.Calls.Call.{begin, commit, abort, grant, lock_read, lock_write, read, create, set_word, flush, force, store, empty, pass, step, reopen, restep, mark, back, look}
use Rattle.calls.specs.Formatting.{cut}
use Rattle.calls.specs.Marks.{went_back, back_to}
use Rattle.calls.specs.Objects.{names_itself, created, word_set, flushed}
use Rattle.calls.specs.Pass.{call_step, swept_page}
use Rattle.calls.specs.Reopening.{reopened, call_reopen, page_stored, reopening_over, call_restep}
use Rattle.calls.specs.Transactions.{changes_of, aborted}
use Rattle.acceptance.specs.Calls.{refused_keeps}
use Rattle.acceptance.specs.Entered.{Open, opened}
use Rattle.acceptance.specs.Transactions.{AbortFacts, abort_outcome, abort_facts}
use Rattle.acceptance.specs.Objects.{create_outcome, set_outcome, set_facts, flush_outcome, flush_facts}
use Rattle.acceptance.specs.Marks.{back_outcome, back_facts}
use Rattle.acceptance.specs.Pass.{step_outcome, step_way, StepWay, scans, turns, sweeps, stepped, sweep_map_of}
use Rattle.acceptance.specs.Reopening.{reopen_ran}
use Rattle.reach.specs.Reaching.{Refers}
use Rattle.book.specs.Lines.{line}
use Rattle.book.specs.Books as Books
use Rattle.book.specs.Books.{Book, counts_committed, counts_full, full_pages}
use Rattle.book.specs.Feeding.{fed}
use Rattle.book.specs.Demand.{Event, call, power, Point, accepts, after}
use Rattle.collector.specs.Objects as O
use Rattle.collector.specs.Objects.{Obj, blank}
use Rattle.collector.specs.State.{mix}
use Rattle.machine_view.specs.View.{view}
use Rattle.machine_view.proofs.Effects.{view_word, released_view}
use Rattle.machine_calls.specs.Tables.{locks_of}
use Rattle.book_laws.specs.Keeping.{Each}
use Rattle.book_laws.proofs.Pages.{committed_view}
use Rattle.book_laws.proofs.Soundness.{stop_each}
use Rattle.demand.proofs.State.{OpenInv, Inv3, open_store, cut_store, reopening_store}
use Rattle.demand.proofs.Abort as Abort
use Rattle.demand.proofs.Change.{full_shown}
use Rattle.demand.proofs.Copying.{copied_view}
use Rattle.demand.proofs.HoldsWaiting.{step_entered, awaiting_opened, awaiting_storing}
use Rattle.demand.proofs.Marks as Marks
use Rattle.demand.proofs.Restored.{restored_view}
use Rattle.demand.proofs.Theorem.{accepted_keeps}
use Rattle.guarantees.specs.Points.{AtEvery, last, then}
use Rattle.guarantees.specs.Stable.{PageStored, OneStore, page, count}
use Rattle.guarantees.proofs.Stable.{one_stable_store}
use Rattle.guarantees.proofs.Through.{through}
use Rattle.guarantees.proofs.Always.{Sure, as_storing, keep_sure}
use Rattle.guarantees.proofs.Closing.{here, closed_after}
use Rattle.guarantees.proofs.Untouched.{quiet, quiet_areas}
use Rattle.guarantees.proofs.OwnLines.{Ref, fed_origin, OwnAt, OwnOf, OwnLine, seen_own, fed_own}

-- an area's own numbers, by its words and by its objects
module _ (G : ℕ → ℕ → Type 0) (a : List ℕ) where
  pub by_words : ((x f : ℕ) → 1 ≤ x → f < slot_words → Ref x f → word_of a x f ≡ x → G x f) → OwnOf G (view a)
  unfolding view
  by_words h x f low r e = by_bool (ltb f slot_words)
      (λ l. h x f low (ltb-true f slot_words l) r (rw (le-leb 1 x low, l) at e))
      (λ l. absurd (let z : 0 ≡ x = rw (le-leb 1 x low, l) at e in omega arith))

  pub words_by : OwnOf G (view a) → (x f : ℕ) → 1 ≤ x → f < slot_words → Ref x f → word_of a x f ≡ x → G x f
  words_by o x f low l r e = o x f low r (view_word a x low f l ∙ e)

  pub refers_by : OwnOf G (view a) → (x f : ℕ) → Refers a x f x → G x f
  refers_by o x f r = words_by o x f (let z = r.some in omega arith) r.word (ref_same a [] (page_of x) (slot_of x) f r.reference) r.target

-- no word of zeros is an own number
pub zeros_own : (G : ℕ → ℕ → Type 0) (a : List ℕ) → ((x f : ℕ) → word_of a x f ≡ 0) → OwnOf G (view a)
zeros_own G a z = by_words G a (λ x f low l r e. absurd (let y = z x f in omega arith))

-- an object that is as another map has it
same_own : (G : ℕ → ℕ → Type 0) (x : ℕ) (v w : Obj) → w ≡ v → OwnAt G x v → OwnAt G x w
same_own G x v w e o = rw e o

-- g: the pages that the book starts from; G: where pages may have an own number; H: where stored pages may
module _ (g : List ℕ) (G H : ℕ → ℕ → Type 0) (up : (x f : ℕ) → G x f → H x f) (first : OwnOf G (view g)) where
  pub record Owned (s : Areas) (b : Book) : Type 0 where
    pub origin : b.origin ≡ g
    pub lines : Each (OwnLine G) b.lines
    pub received : OwnOf G (view s.received)
    pub copies : OwnOf G (view s.copies)
    pub stored : OwnOf H (view s.stored)

  -- an accepted call
  module _ (n : ℕ) (some : 1 ≤ n) (s : Areas) (b : Book) (v : Inv3 n s b) (o : Owned s b) where
    abbrev Fed : Call → Book
    Fed c = fed n b c s.received (perform s c).after.received

    -- the line of a set
    set_own : (t x f w : ℕ) → accepted (perform s (set_word t x f w)).answer ≡ true → OwnLine G (line (set_of t x f (word_of (full_pages b) x f) w) (b.running t))
    unfolding perform
    set_own t x f w a =
        let i = here n some s b v (set_word t x f w) refl a in
        let other : names_itself s.received x f w ≡ false = through true s _ _ _ n (λ z. names_itself s.received x f w ≡ false) (set_outcome s t x f w) a i.size (λ h k. (set_facts s n t x f w k).other) in
        let field : f < slot_words = through true s _ _ _ n (λ z. f < slot_words) (set_outcome s t x f w) a i.size (λ h k. (set_facts s n t x f w k).field) in
        record {
          new = λ k low r e. clash (rw (ref_same [] s.received (page_of x) (slot_of x) f r, eq-eqb w x e) refl) other;
          old = λ k low r e. words_by G s.received o.received x f low field r (ap (λ (d : List ℕ). word_of d x f) i.full ∙ e);
        }

    lines_after : (c : Call) → accepted (perform s c).answer ≡ true → Each (OwnLine G) (Fed c).lines
    lines_after c a = fed_own G n b o.lines s.received (perform s c).after.received c (λ t x f w e. set_own t x f w (rw e at a))

    -- no accepted call leaves a store that awaits its reopening
    not_awaiting : (c : Call) → accepted (perform s c).answer ≡ true → (Fed c).stage ≡ Books.awaiting → ⊥
    unfolding fed perform
    not_awaiting c a e = closed_after n some s b v (λ c. (Fed c).stage ≡ Books.awaiting → ⊥)
        (λ h z. awaiting_storing (sym z))
        (λ h z. let k = as_storing n s b v h in by_bool (ltb k.0 n)
        (λ l. awaiting_storing (sym (rw (k.1.stage, l) at z)))
        (λ l. awaiting_opened (sym (rw (k.1.stage, l) at z))))
        c a (perform s c).after.received (λ z. awaiting_opened (sym e ∙ z)) e

    origin_after : (c : Call) → (Fed c).origin ≡ g
    origin_after c = fed_origin n b s.received (perform s c).after.received c ∙ o.origin

    received_after : (c : Call) → accepted (perform s c).answer ≡ true → OwnOf G (view (perform s c).after.received)
    received_after c a x = from (accepted_keeps n some s b c v a)
      where
        from : Inv3 n (perform s c).after (Fed c) → OwnAt G x (view (perform s c).after.received x)
        from (open_store j) = same_own G x _ _ (sym (full_shown n (perform s c).after (Fed c) j x)) (seen_own G (Fed c).origin (counts_full (Fed c)) (Fed c).lines (lines_after c a) (rw (origin_after c) first) x)
        from (cut_store j) = absurd (not_awaiting c a j.stage)
        from (reopening_store k l j) = same_own G x _ _ (ap (λ (d : List ℕ). view d x) j.received ∙ committed_view n (Fed c) j.waiting.sound x)
            (seen_own G (Fed c).origin (counts_committed (Fed c)) (Fed c).lines (lines_after c a) (rw (origin_after c) first) x)

    -- the copies: those of before, but for what a flush or an abort takes from the received pages and what a sweep clears
    abbrev Copied : Areas → Type 0
    Copied z = OwnOf G (view z.copies)

    mixed : (f : ℕ → Bool) (r c : ℕ → Obj) → OwnOf G r → OwnOf G c → OwnOf G (mix f r c)
    mixed f r c p q x = by_bool (f x) (λ e. rw e (p x)) (λ e. rw e (q x))

    swept_own : (a : List ℕ) → length a ≡ page_words * n → (p m : ℕ) → p < n → OwnOf G (view a) → OwnOf G (view (released a p m))
    unfolding blank
    swept_own a len p m hp h x f low = by_bool (eqb p (page_of x) && bit m (slot_of x))
        (λ e r z. absurd (let y : 0 ≡ x = rw (released_view n a len p m hp x low, e) at z in omega arith))
        (λ e r z. h x f low r (rw (released_view n a len p m hp x low, e) at z))

    step_own : Open s n → (z : Out) → StepWay s n z → Copied z.after
    unfolding swept_page
    step_own h z (scans m g d) = rw d o.copies
    step_own h z (turns m g d) = rw d o.copies
    step_own h z (sweeps m c d) = rw d (by_bool (eqb (sweep_map_of s n) 0)
        (λ e. rw e o.copies)
        (λ e. rw e (swept_own s.copies h.sized.copies_len (at s.work pass_page_at) (sweep_map_of s n) h.ranged.working.pass_page o.copies)))

    aborted_own : Open s n → OpenInv n s b → (t : ℕ) → AbortFacts s n t → OwnOf G (view (aborted s n t).received) → Copied (aborted s n t)
    unfolding appended effect
    aborted_own h i t f =
        let w = Abort.gone n some s b i h t f in
        let a = went_back s.log (changes_of s n t) s n t in
        rw (Abort.areas_same n some s b i h t f) (λ own x.
        same_own G x _ _ (restored_view s.work n t a.received s.copies w.sized.received_len h.sized.copies_len f.txn x)
        (mixed (λ y. (locks_of s.work n).wr t (O.page_of y)) (view a.received) (view s.copies) own o.copies x))

    still : (c : Call) → quiet c ≡ true → accepted (perform s c).answer ≡ true → Copied (perform s c).after
    still c q a = rw (quiet_areas n some s b v c q a).1 o.copies

    copies_after : (c : Call) → accepted (perform s c).answer ≡ true → Copied (perform s c).after
    unfolding perform created word_set flushed appended back_to reopened page_stored reopening_over
    copies_after (begin t c) a = still (begin t c) refl a
    copies_after (commit t) a = still (commit t) refl a
    copies_after (abort t) a = let i = here n some s b v (abort t) refl a in
        through true s _ _ _ n (λ z. OwnOf G (view z.received) → Copied z) (abort_outcome s t) a i.size (λ h k. aborted_own h i t (abort_facts s n t k)) (received_after (abort t) a)
    copies_after (grant c p r) a = still (grant c p r) refl a
    copies_after (lock_read t p) a = still (lock_read t p) refl a
    copies_after (lock_write t p) a = still (lock_write t p) refl a
    copies_after (read t x buffer) a = still (read t x buffer) refl a
    copies_after (create t x) a = through true s _ _ _ n Copied (create_outcome s t x) a (here n some s b v (create t x) refl a).size (λ h k. o.copies)
    copies_after (set_word t x f w) a = through true s _ _ _ n Copied (set_outcome s t x f w) a (here n some s b v (set_word t x f w) refl a).size (λ h k. o.copies)
    copies_after (flush t p image) a = through (eqb (length image) page_words) s _ _ _ n Copied (flush_outcome s t p image) a (here n some s b v (flush t p image) refl a).size
        (λ h k x. same_own G x _ _ (copied_view n s.received s.copies p h.sized.received_len h.sized.copies_len (flush_facts s n t p image k).page x) (mixed (λ y. eqb (O.page_of y) p) (view s.received) (view s.copies) o.received o.copies x))
    copies_after force a = still force refl a
    copies_after (store p) a = still (store p) refl a
    copies_after empty a = still empty refl a
    copies_after pass a = still pass refl a
    copies_after step a =
        let i = here n some s b v step refl a in
        let r = (step_outcome s).ran a in
        let h = opened true s r.n r.ready in
        let e : r.n ≡ n = sym h.sized.count ∙ i.size in
        let z : call_step s ≡ stepped s n = r.gives ∙ ap (stepped s) e in
        step_own (rw e at h) (call_step s) (step_way s n (call_step s) a z)
    copies_after reopen a = let g : (call_reopen s).after ≡ reopened s = ap (λ (z : Out). z.after) (reopen_ran s a).gives in rw g (rw g at (received_after reopen a))
    copies_after restep a = let k = as_storing n s b v a in let g = (step_entered n some s b k.0 k.1 a).1 in by_bool (ltb (at s.work reopening_page_at) n)
        (λ e. let d : (call_restep s).after ≡ page_stored s (at s.work reopening_page_at) = g ∙ rw e refl in rw d o.copies)
        (λ e. let d : (call_restep s).after ≡ reopening_over s n = g ∙ rw e refl in rw d o.copies)
    copies_after (mark t m) a = still (mark t m) refl a
    copies_after (back t m) a = let i = here n some s b v (back t m) refl a in
        through true s _ _ _ n Copied (back_outcome s t m) a i.size (λ h k. rw (Marks.gone n some s b i h t m (back_facts s n t m k)).copies o.copies)
    copies_after (look q) a = still (look q) refl a

    -- 'Each call .. makes at most one stable store': a page of the copies
    page_own : (z : Areas) (p : ℕ) → PageStored s z p → OwnOf H (view z.stored)
    page_own z p k = by_words H z.stored (λ x f low l r e. let i = slot_at (page_of x) (slot_of x) f in by_bool (leb (page_at p) i && ltb i (page_at p + page_words))
        (λ c. let d = and_split (leb (page_at p) i) (ltb i (page_at p + page_words)) c in
        up x f (words_by G s.copies o.copies x f low l r (sym (k.whole i (leb-true _ _ d.0, ltb-true _ _ d.1)) ∙ e)))
        (λ c. words_by H s.stored o.stored x f low l r (sym (k.others i (λ d. clash (rw (le-leb _ _ d.0, lt-ltb _ _ d.1) refl) c)) ∙ e)))

    stored_after : (c : Call) → OwnOf H (view (perform s c).after.stored)
    stored_after c = from (one_stable_store s c).store
      where
        from : OneStore s (perform s c).after → OwnOf H (view (perform s c).after.stored)
        from (page p k e) = page_own (perform s c).after p k
        from (count e) = rw e o.stored

    pub accepted_owned : (c : Call) → accepted (perform s c).answer ≡ true → Owned (perform s c).after (Fed c)
    accepted_owned c a = record { origin = origin_after c; lines = lines_after c a; received = received_after c a; copies = copies_after c a; stored = stored_after c }

  -- every event
  cut_owned : (s : Areas) (b : Book) → Owned s b → Owned (cut s) (Books.stopped Books.awaiting b)
  unfolding cut
  cut_owned s b o = record {
    origin = o.origin;
    lines = stop_each (OwnLine G) b o.lines;
    received = zeros_own G (cut s).received (λ x f. zero_at (length s.received) _);
    copies = zeros_own G (cut s).copies (λ x f. zero_at (length s.copies) _);
    stored = o.stored;
  }

  keep_owned : (n : ℕ) → 1 ≤ n → (q : Point) (e : Event) → Sure n q → Owned q.store q.book → Owned (after n q e).store (after n q e).book
  unfolding after
  keep_owned n some q (call c) u o = by_bool (accepts q c)
      (λ a. rw a (accepted_owned n some q.store q.book u.inv o c a))
      (λ a. rw (a, refused_keeps q.store c a) o)
  keep_owned n some q power u o = cut_owned q.store q.book o

  pub every_owned : (Q : Point → Type 0) → ((q : Point) → Owned q.store q.book → Q q)
      → (n : ℕ) → 1 ≤ n → (es : List Event) (q : Point) → Sure n q → Owned q.store q.book → AtEvery n Q q es
  every_owned Q f n some [] q u o = last (f q o)
  every_owned Q f n some (e ∷ es) q u o = then (f q o) (every_owned Q f n some es (after n q e) (keep_sure n some q e u) (keep_owned n some q e u o))
