-- Document 02, L9: reads hand out, and a transaction's calls change, only what its client's rights allow, at every point of every list. n is
-- the number of pages. Assumes nothing.
use Prim.Native.Nat.{ℕ, ◌-◌, ◌/◌, ◌%◌, ◌≤◌, ◌<◌}
use native.Mathlib.Omega.{arith}
use native.Mathlib.Decide.{ℕ_discrete}
use mathlib.Core.Path.{◌≡◌, refl, sym, ap, ◌∙◌, subst}
use mathlib.Core.Bool.{true, false, ◌&&◌}
use mathlib.Core.List.{List}
use lib.ListN.{length}
use lib.Dec.{eqb}
use borrow.Author.Tests.{eq-eqb, eqb-true, lt-ltb, le-leb}
use Rattle.words.specs.Tests.{by_bool, clash, and_split, any, any_intro, any_elim}
use Rattle.words.specs.Bits.{bit, bits_same}
use Rattle.pages.specs.Geometry.{page_words, slot_words, slot_count, page_at, slot_at, object_at, page_of, slot_of}
use Rattle.pages.specs.Objects.{map_at, slot_word}
use Rattle.pages.specs.Soundness.{area_sound}
use Rattle.page_laws.specs.SoundFacts.{sound_facts}
use Rattle.page_laws.specs.Tables.{row_at}
use Rattle.records.specs.Records.{txn_count}
use Rattle.areas.specs.Answers.{accepted}
use Rattle.areas.specs.Areas.{Areas, Out, done, with_work, appended}
use Rattle.areas.specs.Layout.{client_count, reading, writing}
use Rattle.areas.specs.Tables.{at, is_active}
use Rattle.areas.specs.Entry.{pages, called_passed}
use Rattle.calls.specs.Calls.{Call, reopens, perform}
use Rattle.calls.specs.Calls.Call.{begin, commit, abort, grant, lock_read, lock_write, read, create, set_word, flush, force, store, empty, pass, step, reopen, restep, mark, back, look}
use Rattle.calls.specs.Marks.{mark_set, since_mark, back_to}
use Rattle.calls.specs.Objects.{call_read, object_words, buffer_after, created, word_set, flushed}
use Rattle.calls.specs.Rights.{client_of, has_active, grant_tests, right_given, call_grant}
use Rattle.calls.specs.Transactions.{begun, committed, changes_of, aborted}
use Rattle.acceptance.specs.Calls.{refused_keeps}
use Rattle.acceptance.specs.Entered.{opened}
use Rattle.acceptance.specs.Working.{Ranged, ranged}
use Rattle.acceptance.specs.Transactions.{begin_outcome, commit_outcome, abort_outcome}
use Rattle.acceptance.specs.Rights.{grant_outcome, grant_facts, grant_passes}
use Rattle.acceptance.specs.Locks.{lock_read_outcome, lock_write_outcome}
use Rattle.acceptance.specs.Objects.{read_outcome, read_facts, create_outcome, set_outcome, flush_outcome}
use Rattle.acceptance.specs.Marks.{mark_outcome, back_outcome}
use Rattle.book.specs.Books.{Book}
use Rattle.book.specs.Books as Books
use Rattle.book.specs.Feeding.{fed}
use Rattle.book.specs.Demand.{Event, call, power, Point, accepts, after}
use Rattle.machine_calls.specs.Tables.{locks_of, tables_of}
use Rattle.machine_calls.proofs.Facts.{act_is}
use Rattle.demand.proofs.State.{machine, OpenInv, Inv3}
use Rattle.demand.proofs.State.{open_store, cut_store, reopening_store}
use Rattle.demand.proofs.Change.{machine_shows}
use Rattle.demand.proofs.GoneBack.{rolled_went}
use Rattle.demand.proofs.HoldsWaiting.{awaiting_opened, storing_opened}
use Rattle.guarantees.specs.Sameness.{SameObject}
use Rattle.guarantees.specs.Stable.{OfPage}
use Rattle.guarantees.specs.Permits.{Permits, permits, right_of}
use Rattle.guarantees.specs.Holders.{Granted, nothing, granting, Running}
use Rattle.guarantees.specs.Readers.{own}
use Rattle.guarantees.specs.Rights.{PageStays, HandsOut, Isolated, AlwaysIsolated}
use Rattle.guarantees.specs.Ledgers.{kept}
use Rattle.guarantees.proofs.Always.{Sure, keep_sure}
use Rattle.guarantees.proofs.Closing.{here, closed_after}
use Rattle.guarantees.proofs.Through.{through}
use Rattle.guarantees.proofs.Refusals.{formed}
use Rattle.guarantees.proofs.Stable.{rolled_stored}
use Rattle.guarantees.proofs.Untouched.{Stays, unwritten_stays}
use Rattle.guarantees.proofs.Restoring.{same_object}
use Rattle.guarantees.proofs.Recall.{shows}
use Rattle.guarantees.proofs.Holders.{holds_bit, active_in, active_bit, open_running}
use Rattle.guarantees.proofs.Permitted.{Lawful, keep_lawful, start_lawful, disk_lawful}
use Rattle.guarantees.proofs.Ledgers.{always_kept}

-- a page of two sound areas that have the same objects there has the same words
module _ (n : ℕ) (a b : List ℕ) (p : ℕ) (below : p < n) (sa : area_sound a n ≡ true) (sb : area_sound b n ≡ true) (same : (x : ℕ) → 1 ≤ x → page_of x ≡ p → SameObject x a b) where
  slot_place : (k : ℕ) → k < slot_count → (page_of (object_at p k) ≡ p) × (slot_of (object_at p k) ≡ k)
  slot_place k l = (omega arith, omega arith)

  same_map : map_at a p ≡ map_at b p
  same_map = bits_same slot_count (map_at a p) (map_at b p) ((sound_facts a n sa).map p below) ((sound_facts b n sb).map p below)
      (λ k l. let e = slot_place k l in subst (λ (q : ℕ). bit (map_at a q) k ≡ bit (map_at b q) k) e.0
      (subst (λ (j : ℕ). bit (map_at a (page_of (object_at p k))) j ≡ bit (map_at b (page_of (object_at p k))) j) e.1 (same (object_at p k) (omega arith) e.0).slot))

  same_word : (k f : ℕ) → k < slot_count → f < slot_words → slot_word a p k f ≡ slot_word b p k f
  same_word k f l m = let e = slot_place k l in subst (λ (q : ℕ). slot_word a q k f ≡ slot_word b q k f) e.0
      (subst (λ (j : ℕ). slot_word a (page_of (object_at p k)) j f ≡ slot_word b (page_of (object_at p k)) j f) e.1 ((same (object_at p k) (omega arith) e.0).words f m))

  page_words_law : (i : ℕ) → OfPage p i → at a i ≡ at b i
  page_words_law i o = elim (ℕ_discrete i (page_at p)) [
    | yes e ↦ rw e same_map
    | no e ↦ (let l = o.0 in let u = o.1 in let k = (i - page_at p - 1) / slot_words in let f = (i - page_at p - 1) % slot_words in
        let d : slot_at p k f ≡ i = omega arith in subst (λ (j : ℕ). at a j ≡ at b j) d (same_word k f (omega arith) (omega arith)))
  ]

-- a transaction's own call is no reopening, and nobody else's
own_one : (t : ℕ) (c : Call) → own t c ≡ true → (reopens c ≡ false) × ((u : ℕ) → own u c ≡ true → u ≡ t)
own_one t (begin x c) e = (refl, λ u d. sym (eqb-true x u d) ∙ eqb-true x t e)
own_one t (commit x) e = (refl, λ u d. sym (eqb-true x u d) ∙ eqb-true x t e)
own_one t (abort x) e = (refl, λ u d. sym (eqb-true x u d) ∙ eqb-true x t e)
own_one t (grant c p r) e = clash e refl
own_one t (lock_read x p) e = (refl, λ u d. sym (eqb-true x u d) ∙ eqb-true x t e)
own_one t (lock_write x p) e = (refl, λ u d. sym (eqb-true x u d) ∙ eqb-true x t e)
own_one t (read x o buffer) e = (refl, λ u d. sym (eqb-true x u d) ∙ eqb-true x t e)
own_one t (create x o) e = (refl, λ u d. sym (eqb-true x u d) ∙ eqb-true x t e)
own_one t (set_word x o f v) e = (refl, λ u d. sym (eqb-true x u d) ∙ eqb-true x t e)
own_one t (flush x p image) e = (refl, λ u d. sym (eqb-true x u d) ∙ eqb-true x t e)
own_one t force e = clash e refl
own_one t (store p) e = clash e refl
own_one t empty e = clash e refl
own_one t pass e = clash e refl
own_one t step e = clash e refl
own_one t reopen e = clash e refl
own_one t restep e = clash e refl
own_one t (mark x m) e = (refl, λ u d. sym (eqb-true x u d) ∙ eqb-true x t e)
own_one t (back x m) e = (refl, λ u d. sym (eqb-true x u d) ∙ eqb-true x t e)
own_one t (look q) e = clash e refl

-- it stores no page
module _ (n : ℕ) (some : 1 ≤ n) (s : Areas) (b : Book) (v : Inv3 n s b) where
  abbrev Same : Areas → Type 0
  Same a = a.stored ≡ s.stored

  size : (c : Call) → reopens c ≡ false → accepted (perform s c).answer ≡ true → pages s ≡ n
  size c r a = (here n some s b v c r a).size

  own_stored : (t : ℕ) (c : Call) → own t c ≡ true → accepted (perform s c).answer ≡ true → Same (perform s c).after
  unfolding perform begun committed aborted created word_set flushed mark_set back_to appended
  own_stored t (begin x c) e a = through true s _ _ _ n Same (begin_outcome s x c) a (size (begin x c) refl a) (λ h k. refl)
  own_stored t (commit x) e a = through true s _ _ _ n Same (commit_outcome s x) a (size (commit x) refl a) (λ h k. refl)
  own_stored t (abort x) e a = through true s _ _ _ n Same (abort_outcome s x) a (size (abort x) refl a) (λ h k. rolled_stored s.log (changes_of s n x) s)
  own_stored t (grant c p r) e a = clash e refl
  own_stored t (lock_read x p) e a = through true s _ _ _ n Same (lock_read_outcome s x p) a (size (lock_read x p) refl a) (λ h k. refl)
  own_stored t (lock_write x p) e a = through true s _ _ _ n Same (lock_write_outcome s x p) a (size (lock_write x p) refl a) (λ h k. refl)
  own_stored t (read x o buffer) e a = through (eqb (length buffer) slot_words) s _ _ _ n Same (read_outcome s x o buffer) a (size (read x o buffer) refl a) (λ h k. refl)
  own_stored t (create x o) e a = through true s _ _ _ n Same (create_outcome s x o) a (size (create x o) refl a) (λ h k. refl)
  own_stored t (set_word x o f w) e a = through true s _ _ _ n Same (set_outcome s x o f w) a (size (set_word x o f w) refl a) (λ h k. refl)
  own_stored t (flush x p image) e a = through (eqb (length image) page_words) s _ _ _ n Same (flush_outcome s x p image) a (size (flush x p image) refl a) (λ h k. refl)
  own_stored t force e a = clash e refl
  own_stored t (store p) e a = clash e refl
  own_stored t empty e a = clash e refl
  own_stored t pass e a = clash e refl
  own_stored t step e a = clash e refl
  own_stored t reopen e a = clash e refl
  own_stored t restep e a = clash e refl
  own_stored t (mark x m) e a = through true s _ _ _ n Same (mark_outcome s x m) a (size (mark x m) refl a) (λ h k. refl)
  own_stored t (back x m) e a = through true s _ _ _ n Same (back_outcome s x m) a (size (back x m) refl a)
      (λ h k. let is = since_mark s n x m in sym (ap (λ (z : Areas). z.stored) (rolled_went s.log is n x s s.work)) ∙ rolled_stored s.log is s)
  own_stored t (look q) e a = clash e refl

-- a store whose book is not shut is open
open_after : (n : ℕ) (s : Areas) (b : Book) → Inv3 n s b → ((b.stage ≡ Books.opened → ⊥) → ⊥) → OpenInv n s b
open_after n s b (open_store i) f = i
open_after n s b (cut_store i) f = absurd (f (λ e. awaiting_opened (sym i.stage ∙ e)))
open_after n s b (reopening_store k l i) f = absurd (f (λ e. storing_opened (sym i.stage ∙ e)))

-- at a point
module _ (n : ℕ) (q : Point) (g : Granted) (l : Permits) (z : Sure n q) (j : Lawful n q (g, l)) where
  abbrev s : Areas
  s = q.store

  abbrev b : Book
  b = q.book

  some : 1 ≤ n
  some = z.fine.sized.low

  read_right : (t o : ℕ) (buffer : List ℕ) → accepts q (read t o buffer) ≡ true → reading ≤ right_of l t (page_of o)
  unfolding perform
  read_right t o buffer a =
      let k = (read_outcome s t o buffer).ran a in
      let p = opened (eqb (length buffer) slot_words) s k.n k.ready in
      let e : k.n ≡ n = sym p.sized.count ∙ z.fine.sized.count in
      let f = rw e at (read_facts s k.n t o k.passed) in
      j.permitted.reads t (page_of o) (holds_bit n s.work g j.ledgered.agrees (page_of o) f.object.page t f.txn ∙ f.lock)

  hands_out : (t o : ℕ) (buffer : List ℕ) → accepts q (read t o buffer) ≡ true → HandsOut s t o buffer
  unfolding perform buffer_after
  hands_out t o buffer a =
      let k = (read_outcome s t o buffer).ran a in
      let d = ap (λ (x : Out). x.answer) k.gives in
      let e = shows (call_read s t o buffer).answer _ d (object_words s.received o) buffer in
      record {
        many = ap length e;
        words = λ f h. ap (λ (w : List ℕ). at w f) e ∙ row_at s.received (page_of o) (slot_of o) f h;
        value = d;
      }

  -- who may not write the page does not
  unwritten : (t p : ℕ) → right_of l t p < writing → (locks_of s.work n).wr t p ≡ false
  unwritten t p r = by_bool ((locks_of s.work n).wr t p)
      (λ e. absurd (let m = j.permitted.writes t p (j.ledgered.agrees.writers t p ∙ e) in omega arith))
      (λ e. e)

  module _ (t p : ℕ) (c : Call) (e : own t c ≡ true) (below : p < n) (r : right_of l t p < writing) (a : accepts q c ≡ true) where
    abbrev s' : Areas
    s' = (perform s c).after

    fed_on : Point
    fed_on = after n q (call c)

    sure : Sure n (record { store = s'; book = fed n b c s.received s'.received })
    unfolding after
    sure = rw a at (keep_sure n some q (call c) z)

    before : OpenInv n s b
    before = here n some s b z.inv c (own_one t c e).0 a

    behind : OpenInv n s' (fed n b c s.received s'.received)
    behind = open_after n s' _ sure.inv (λ shut. closed_after n some s b z.inv (λ d. own t d ≡ true → ⊥) (λ x y. clash y refl) (λ x y. clash y refl) c a s'.received shut e)

    sound : (x : Areas) (d : Book) → Sure n (record { store = x; book = d }) → OpenInv n x d → Ranged x n
    sound x d u i = ranged x n some (u.fine.range (λ o. let w = i.word in omega arith))

    stays : (x : ℕ) → page_of x ≡ p → Stays s s' x
    stays x d = unwritten_stays n some s b z.inv x c (λ u o. rw (d, (own_one t c e).1 u o) (unwritten t p r)) (own_one t c e).0 (λ o. absurd_step o) a
      where
        absurd_step : c ≡ step → (u : ℕ) × ((tables_of s.work n).kn u x ≡ true)
        absurd_step o = clash (rw o at e) refl

    page_stays : PageStays p s s'
    page_stays = let x = sound s b z before in let y = sound s' _ sure behind in record {
      received = page_words_law n s'.received s.received p below y.received_sound x.received_sound (λ o low d. same_object o low _ _ (stays o d).0);
      copies = page_words_law n s'.copies s.copies p below y.copies_sound x.copies_sound (λ o low d. same_object o low _ _ (stays o d).1);
      stored = λ i o. ap (λ (k : List ℕ). at k i) (own_stored n some s b z.inv t c e a);
    }

  writes_so : (t p : ℕ) (c : Call) → own t c ≡ true → p < pages s → right_of l t p < writing → PageStays p s (perform s c).after
  writes_so t p c e below r = by_bool (accepts q c)
      (λ a. page_stays t p c e (rw z.fine.sized.count at below) r a)
      (λ a. rw (refused_keeps s c a) (record { received = λ i o. refl; copies = λ i o. refl; stored = λ i o. refl }))

  -- the client of a running transaction has an active one
  steady_so : (t p r : ℕ) → Running q t → accepts q (grant (l.client t) p r) ≡ false
  unfolding perform has_active
  steady_so t p r run = by_bool (accepts q (grant (l.client t) p r))
      (λ a. let k = (grant_outcome s (l.client t) p r).ran a in
      let o = opened true s k.n k.ready in
      let e : k.n ≡ n = sym o.sized.count ∙ z.fine.sized.count in
      let f = rw e at (grant_facts s k.n (l.client t) p r k.passed) in
      let i = open_running n s b z.inv t run in
      let small = active_in n s b i z.fine g j.ledgered.agrees t run in
      clash (any_intro (λ u. is_active s.work u && eqb (client_of s.work n u) (l.client t)) txn_count t small
      (rw (active_bit n s b i z.fine g j.ledgered.agrees t run) (eq-eqb (client_of s.work n t) (l.client t) (j.permitted.clients t small run)))) f.idle)
      (λ a. a)

  -- a client's active transaction runs as that client
  idle : OpenInv n s b → (c : ℕ) → ((t : ℕ) → Running q t → l.client t ≡ c → ⊥) → has_active s.work n c ≡ false
  unfolding has_active
  idle i c none = by_bool (any (λ u. is_active s.work u && eqb (client_of s.work n u) c) txn_count)
      (λ e. any_elim (λ u. is_active s.work u && eqb (client_of s.work n u) c) txn_count e (λ t small d.
      let k = and_split (is_active s.work t) (eqb (client_of s.work n t) c) d in
      let run = i.active t (act_is s n (machine n s b) (machine_shows n s b) t small ∙ k.0) in
      absurd (none t run (sym (j.permitted.clients t small run) ∙ eqb-true _ _ k.1))))
      (λ e. e)

  changes_so : (c p r : ℕ) → c < client_count → p < pages s → r ≤ writing → b.stage ≡ Books.opened → ((t : ℕ) → Running q t → l.client t ≡ c → ⊥) → accepts q (grant c p r) ≡ true
  unfolding perform call_grant
  changes_so c p r small below top st none =
      let i = open_after n s b z.inv (λ f. f st) in
      sym (ap (λ (o : Out). accepted o.answer) (called_passed true true s (λ m. grant_tests s m c p r) (λ m. done 0 (with_work s (right_given s.work m c p r))) (formed n s b z.fine true refl) (eq-eqb _ _ i.word)
      (grant_passes s (pages s) c p r (rw (lt-ltb c client_count small, lt-ltb p (pages s) below) (le-leb r writing top)) (rw i.size (idle i c none)))))

  isolated : Isolated q l
  isolated = record { reads = read_right; shows = hands_out; writes = writes_so; steady = steady_so; changes = changes_so }

-- with the ledger of locks beside it
record Beside (n : ℕ) (q : Point) (l : Permits) : Type 0 where
  granted : Granted
  lawful : Lawful n q (granted, l)

keep_beside : (n : ℕ) → 1 ≤ n → (q : Point) (l : Permits) (e : Event) → Sure n q → Beside n q l → Beside n (after n q e) (kept permits q l e)
unfolding kept
keep_beside n some q l (call c) u j = let k = keep_lawful n some q (j.granted, l) (call c) u j.lawful in by_bool (accepts q c)
    (λ a. rw a (record { granted = granting j.granted c; lawful = rw a at k }))
    (λ a. rw a (record { granted = j.granted; lawful = rw a at k }))
keep_beside n some q l power u j = record { granted = nothing; lawful = keep_lawful n some q (j.granted, l) power u j.lawful }

pub always_isolated : AlwaysIsolated
always_isolated = always_kept Permits permits Beside Isolated keep_beside (λ n q l u j. isolated n q j.granted l u j.lawful)
    (λ n k. record { granted = nothing; lawful = start_lawful n k }) (λ s. record { granted = nothing; lawful = disk_lawful s })
