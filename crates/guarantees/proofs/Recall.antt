-- Document 02, L6: what a transaction saw of an object it sees again. n is the number of pages. Assumes nothing.
use Rattle.std.specs.Prelude.{Ok}
use Prim.Native.Nat.{ℕ, zero, suc, ◌≤◌, ◌<◌}
use native.Mathlib.Omega.{arith}
use mathlib.Core.Path.{◌≡◌, refl, sym, ap, ◌∙◌}
use mathlib.Core.Bool.{Bool, true, false, not, ◌&&◌}
use mathlib.Core.List.{List}
use mathlib.Core.Logic.{inl, inr}
use lib.ListN.{length, get_or}
use lib.Dec.{eqb}
use borrow.Author.Tests.{eqb-true, eq-eqb, lt-ltb, le-leb, not-true}
use Rattle.words.specs.Tests.{by_bool, clash, and_split, or_cases, or_l, or_true, eqb_swap}
use Rattle.pages.specs.Geometry.{page_of, slot_of, slot_words, object_count}
use Rattle.page_laws.specs.Tables.{row_at}
use Rattle.records.specs.Records.{txn_count}
use Rattle.areas.specs.Answers.{accepted, verdict, need_holds, all_passed, Answer}
use Rattle.areas.specs.Areas.{Areas, Out}
use Rattle.areas.specs.Layout.{readers_at}
use Rattle.areas.specs.Tables.{has, can_read, knows}
use Rattle.areas.specs.Entry.{called_passed}
use Rattle.calls.specs.Objects.{read_tests, call_read, if_accepted, buffer_after}
use Rattle.calls.specs.Calls.{Call, reopens, perform}
use Rattle.calls.specs.Calls.Call.{begin, commit, abort, grant, lock_read, lock_write, read, create, set_word, flush, force, store, empty, pass, step, reopen, restep, mark, back, look}
use Rattle.acceptance.specs.Calls.{refused_keeps}
use Rattle.acceptance.specs.Entered.{opened}
use Rattle.acceptance.specs.Objects.{ObjectFacts, known_facts, ReadFacts, CreateFacts, read_outcome, read_facts, create_outcome, create_facts}
use Rattle.book.specs.Books as Books
use Rattle.book.specs.Books.{Book}
use Rattle.book.specs.Feeding.{learns, goes_back, fed}
use Rattle.book.specs.Demand.{Event, call, power, Point, accepts, after}
use Rattle.collector.specs.Objects.{Obj, fresh, put}
use Rattle.machine_view.specs.View.{view}
use Rattle.machine_view.proofs.Effects.{view_word}
use Rattle.machine_calls.specs.Tables.{locks_of, tables_of}
use Rattle.machine_calls.proofs.Facts as Facts
use Rattle.demand.proofs.State.{machine, OpenInv, Inv3, open_store, cut_store, reopening_store}
use Rattle.demand.proofs.Change.{machine_shows}
use Rattle.demand.proofs.HoldsWaiting.{awaiting_opened, storing_opened}
use Rattle.demand.proofs.Reading.{open_learns}
use Rattle.demand.proofs.Theorem.{Kept, accepted_keeps}
use Rattle.guarantees.specs.Ledgers.{kept}
use Rattle.guarantees.specs.Holders.{Granted, granting, holds}
use Rattle.guarantees.specs.Readers.{own}
use Rattle.guarantees.specs.Recall.{Recalled, these, forgets, recalling, recollection, SeenAgain, AlwaysSeenAgain}
use Rattle.guarantees.proofs.Always.{Sure, as_storing}
use Rattle.guarantees.proofs.Untouched.{quiet, quiet_areas, flush_received, create_received, set_received, foreign_stays}
use Rattle.guarantees.proofs.Closing.{here, closed_after}
use Rattle.guarantees.proofs.Granted.{Agrees, accepted_agrees}
use Rattle.guarantees.proofs.Holders.{holds_bit, active_in, active_bit, runs_so}
use Rattle.guarantees.proofs.Ledgers.{always_kept}
use Rattle.guarantees.proofs.Refusals.{formed}

-- t begins, ends or goes back
abbrev over : ℕ → Call → Bool
over t (begin u c) = eqb u t
over t (commit u) = eqb u t
over t (abort u) = eqb u t
over t (grant c p r) = false
over t (lock_read u p) = false
over t (lock_write u p) = false
over t (read u x buffer) = false
over t (create u x) = false
over t (set_word u x f v) = false
over t (flush u p image) = false
over t force = false
over t (store p) = false
over t empty = false
over t pass = false
over t step = false
over t reopen = false
over t restep = false
over t (mark u m) = false
over t (back u m) = eqb u t
over t (look q) = false

swap : (u t : ℕ) → eqb u t ≡ false → eqb t u ≡ false
swap u t d = eqb_swap t u ∙ d

-- any other call leaves the locks of t
module _ (l : Granted) (t p : ℕ) (h : holds l t p ≡ true) where
  locks_stay : (c : Call) → over t c ≡ false → reopens c ≡ false → holds (granting l c) t p ≡ true
  locks_stay (begin u c) d r = h
  locks_stay (commit u) d r = rw (swap u t d) h
  locks_stay (abort u) d r = rw (swap u t d) h
  locks_stay (grant c q x) d r = h
  locks_stay (lock_read u q) d r = elim (or_cases (l.reads t p) (l.writes t p) h) [ inl e ↦ rw e refl | inr e ↦ rw e (or_true ((granting l (lock_read u q)).reads t p)) ]
  locks_stay (lock_write u q) d r = elim (or_cases (l.reads t p) (l.writes t p) h) [ inl e ↦ rw e refl | inr e ↦ rw e (or_true (l.reads t p)) ]
  locks_stay (read u x buffer) d r = h
  locks_stay (create u x) d r = h
  locks_stay (set_word u x f v) d r = h
  locks_stay (flush u q image) d r = h
  locks_stay force d r = h
  locks_stay (store q) d r = h
  locks_stay empty d r = h
  locks_stay pass d r = h
  locks_stay step d r = h
  locks_stay reopen d r = clash refl r
  locks_stay restep d r = clash refl r
  locks_stay (mark u m) d r = h
  locks_stay (back u m) d r = h
  locks_stay (look q) d r = h

-- and what t knows, by the book
goes_knowing : (k : ℕ) (b : Book) (u t x : ℕ) → eqb t u ≡ false → (goes_back k b u).known t x ≡ b.known t x
unfolding goes_back
goes_knowing zero b u t x d = refl
goes_knowing (suc k) b u t x d = goes_knowing k _ u t x d ∙ rw d refl

learns_more : (b : Book) (u t x : ℕ) (f : ℕ → Bool) → b.known t x ≡ true → (learns b u f).known t x ≡ true
learns_more b u t x f k = by_bool (eqb t u) (λ e. rw (e, ← (eqb-true t u e)) (or_l _ _ k)) (λ e. rw e k)

module _ (n : ℕ) (b : Book) (t x : ℕ) (k : b.known t x ≡ true) (r₀ r₁ : List ℕ) where
  still_known : (c : Call) → over t c ≡ false → reopens c ≡ false → (fed n b c r₀ r₁).known t x ≡ true
  unfolding fed
  still_known (begin u c) d r = rw (swap u t d) k
  still_known (commit u) d r = rw (swap u t d) k
  still_known (abort u) d r = rw (swap u t d) k
  still_known (grant c p x) d r = k
  still_known (lock_read u p) d r = k
  still_known (lock_write u p) d r = k
  still_known (read u y buffer) d r = learns_more b u t x _ k
  still_known (create u y) d r = learns_more b u t x _ k
  still_known (set_word u y f v) d r = k
  still_known (flush u p image) d r = k
  still_known force d r = k
  still_known (store p) d r = k
  still_known empty d r = k
  still_known pass d r = k
  still_known step d r = k
  still_known reopen d r = clash refl r
  still_known restep d r = clash refl r
  still_known (mark u m) d r = k
  still_known (back u m) d r = goes_knowing _ b u t x (swap u t d) ∙ k
  still_known (look q) d r = k

-- the locks of the tables, as a ledger of locks
abbrev granted : List ℕ → ℕ → Granted
granted w n = record { reads = (locks_of w n).rd; writes = (locks_of w n).wr }

agreed : (w : List ℕ) (n : ℕ) → Agrees n w (granted w n)
agreed w n = record { writers = λ u p. refl; holders = λ u p. refl }

-- what holds of t and x where the ledger has them
record OfRead (n : ℕ) (s : Areas) (b : Book) (l : Recalled) (t x : ℕ) : Type 0 where
  stage : b.stage ≡ Books.opened
  low : 1 ≤ x
  knows : (tables_of s.work n).kn t x ≡ true
  lock : holds (granted s.work n) t (page_of x) ≡ true
  same : (f : ℕ) → f < slot_words → (view s.received x).word f ≡ l.word t x f

-- an accepted call
module _ (n : ℕ) (some : 1 ≤ n) (s : Areas) (b : Book) (v : Inv3 n s b) (l : Recalled) (t x : ℕ) where
  abbrev After : (c : Call) → Recalled → Type 0
  After c k = OfRead n (perform s c).after (fed n b c s.received (perform s c).after.received) k t x

  -- the store is open after it too
  open_after : (d : Book) → OpenInv n s d → (c : Call) → reopens c ≡ false → accepted (perform s c).answer ≡ true → OpenInv n (perform s c).after (fed n d c s.received (perform s c).after.received)
  open_after d i c r a = from (accepted_keeps n some s d c (open_store i) a)
    where
      shut : {A : Type 0} → ((fed n d c s.received (perform s c).after.received).stage ≡ Books.opened → ⊥) → A
      shut w = absurd (closed_after n some s d (open_store i) (λ c. reopens c ≡ false → ⊥) (λ h z. clash refl z) (λ h z. clash refl z) c a _ w r)

      from : Kept n s d c → OpenInv n (perform s c).after (fed n d c s.received (perform s c).after.received)
      from (open_store j) = j
      from (cut_store j) = shut (λ e. awaiting_opened (sym j.stage ∙ e))
      from (reopening_store k h j) = shut (λ e. storing_opened (sym j.stage ∙ e))

  stage_after : (c : Call) → reopens c ≡ false → accepted (perform s c).answer ≡ true → (fed n b c s.received (perform s c).after.received).stage ≡ Books.opened
  stage_after c r a = (open_after b (here n some s b v c r a) c r a).stage

  -- what the tables know they know after it: told so, the book does
  knows_after : (c : Call) → over t c ≡ false → reopens c ≡ false → accepted (perform s c).answer ≡ true → (tables_of s.work n).kn t x ≡ true → (tables_of (perform s c).after.work n).kn t x ≡ true
  knows_after c d r a k =
      let told = learns b t (eqb x) in
      let i = open_learns n s b t (eqb x) (here n some s b v c r a) (λ y e. rw (← (eqb-true x y e)) k) in
      (open_after told i c r a).known t x (still_known n told t x (rw (eq-eqb t t refl, eq-eqb x x refl) (or_true (b.known t x))) _ _ c d r)

  locked_after : (c : Call) → over t c ≡ false → reopens c ≡ false → accepted (perform s c).answer ≡ true → holds (granted s.work n) t (page_of x) ≡ true → holds (granted (perform s c).after.work n) t (page_of x) ≡ true
  locked_after c d r a h = sym ((accepted_agrees n some s b v (granted s.work n) (agreed s.work n) c a).holders t (page_of x)) ∙ locks_stay (granted s.work n) t (page_of x) h c d r

  -- an entry that stays
  abbrev Words : Recalled → Type 0
  Words k = (f : ℕ) → k.word t x f ≡ l.word t x f

  entry_stays : (c : Call) → over t c ≡ false → reopens c ≡ false → accepted (perform s c).answer ≡ true → view (perform s c).after.received x ≡ view s.received x
      → (k : Recalled) → Words k → OfRead n s b l t x → After c k
  entry_stays c d r a e k words o = record {
    stage = stage_after c r a;
    low = o.low;
    knows = knows_after c d r a o.knows;
    lock = locked_after c d r a o.lock;
    same = λ f h. ap (λ (z : Obj). z.word f) e ∙ o.same f h ∙ sym (words f);
  }

  quiet_stays : (c : Call) → quiet c ≡ true → over t c ≡ false → reopens c ≡ false → accepted (perform s c).answer ≡ true → (k : Recalled) → Words k → OfRead n s b l t x → After c k
  quiet_stays c z d r a = entry_stays c d r a (ap (λ (w : List ℕ). view w x) (quiet_areas n some s b v c z a).0)

  other_stays : (c : Call) → own t c ≡ false → over t c ≡ false → reopens c ≡ false → accepted (perform s c).answer ≡ true → (k : Recalled) → Words k → OfRead n s b l t x → After c k
  other_stays c z d r a k words o = entry_stays c d r a (foreign_stays n some s b v (granted s.work n) (agreed s.work n) t x o.lock c z r (λ e. o.knows) a).0 k words o

  -- an entry that t makes
  held : ObjectFacts n x → t < txn_count → can_read s.work n t (page_of x) ≡ true → holds (granted s.work n) t (page_of x) ≡ true
  held f small k = holds_bit n s.work (granted s.work n) (agreed s.work n) (page_of x) f.page t small ∙ k

  read_found : (buffer : List ℕ) → accepted (perform s (read t x buffer)).answer ≡ true → ReadFacts s n t x
  unfolding perform
  read_found buffer a =
      let k = (read_outcome s t x buffer).ran a in
      let e : k.n ≡ n = sym (opened (eqb (length buffer) slot_words) s k.n k.ready).sized.count ∙ (here n some s b v (read t x buffer) refl a).size in
      rw e at (read_facts s k.n t x k.passed)

  own_read : (buffer : List ℕ) → accepted (perform s (read t x buffer)).answer ≡ true → After (read t x buffer) (recalling l (read t x buffer) s.received)
  own_read buffer a = let f = read_found buffer a in record {
    stage = stage_after (read t x buffer) refl a;
    low = f.object.low;
    knows = knows_after (read t x buffer) refl refl a (Facts.read_facts s n (machine n s b) (machine_shows n s b) t x f).known;
    lock = locked_after (read t x buffer) refl refl a (held f.object f.txn f.lock);
    same = λ h w. rw (eq-eqb t t refl, eq-eqb x x refl) (ap (λ (z : List ℕ). (view z x).word h) (quiet_areas n some s b v (read t x buffer) refl a).0 ∙ view_word s.received x f.object.low h w);
  }

  create_found : accepted (perform s (create t x)).answer ≡ true → CreateFacts s n t x
  unfolding perform
  create_found a =
      let k = (create_outcome s t x).ran a in
      let e : k.n ≡ n = sym (opened true s k.n k.ready).sized.count ∙ (here n some s b v (create t x) refl a).size in
      rw e at (create_facts s k.n t x k.passed)

  created_known : (fed n b (create t x) s.received (perform s (create t x)).after.received).known t x ≡ true
  unfolding fed
  created_known = rw (eq-eqb t t refl, eq-eqb x x refl) (or_true (b.known t x))

  own_create : accepted (perform s (create t x)).answer ≡ true → After (create t x) (recalling l (create t x) s.received)
  unfolding fresh
  own_create a = let f = create_found a in record {
    stage = stage_after (create t x) refl a;
    low = f.object.low;
    knows = (open_after b (here n some s b v (create t x) refl a) (create t x) refl a).known t x created_known;
    lock = locked_after (create t x) refl refl a (held f.object f.txn (rw f.lock (or_true (has s.work (readers_at n (page_of x)) t))));
    same = λ h w. rw (eq-eqb t t refl, eq-eqb x x refl) (ap (λ (z : Obj). z.word h) (rw (eq-eqb x x refl) at (create_received n some s b v t x a x)));
  }

  own_set : (f w : ℕ) → accepted (perform s (set_word t x f w)).answer ≡ true → OfRead n s b l t x → After (set_word t x f w) (recalling l (set_word t x f w) s.received)
  unfolding put
  own_set f w a o = record {
    stage = stage_after (set_word t x f w) refl a;
    low = o.low;
    knows = knows_after (set_word t x f w) refl refl a o.knows;
    lock = locked_after (set_word t x f w) refl refl a o.lock;
    same = λ h k. rw (eq-eqb t t refl, eq-eqb x x refl) (ap (λ (z : Obj). z.word h) (rw (eq-eqb x x refl) at (set_received n some s b v t x f w a x)) ∙ by_bool (eqb h f) (λ e. rw e refl) (λ e. rw e (o.same h k)));
  }

  -- every call; old: what holds before it, where the ledger has t and x
  module _ (old : l.has t x ≡ true → OfRead n s b l t x) where
    -- t and x are not those of a create or a set
    elsewhere : (u y : ℕ) (c : Call) → own t c ≡ eqb u t → over t c ≡ false → reopens c ≡ false → these u y t x ≡ false → accepted (perform s c).answer ≡ true
        → (eqb x y ≡ false → view (perform s c).after.received x ≡ view s.received x) → (k : Recalled) → Words k → OfRead n s b l t x → After c k
    elsewhere u y c o d r away a e k words = by_bool (eqb u t)
        (λ z. entry_stays c d r a (e (rw (eqb_swap t u ∙ z) at away)) k words)
        (λ z. other_stays c (o ∙ z) d r a k words)

    -- u begins, ends or goes back
    ended : (u : ℕ) (c : Call) → own t c ≡ eqb u t → over t c ≡ eqb u t → reopens c ≡ false → accepted (perform s c).answer ≡ true → not (eqb t u) && l.has t x ≡ true → After c (forgets l u)
    ended u c o d r a e =
        let p = and_split (not (eqb t u)) (l.has t x) e in
        let z : eqb u t ≡ false = eqb_swap u t ∙ not-true (eqb t u) p.0 in
        other_stays c (o ∙ z) (d ∙ z) r a _ (λ f. refl) (old p.1)

    accepted_seen : (c : Call) → accepted (perform s c).answer ≡ true → (recalling l c s.received).has t x ≡ true → After c (recalling l c s.received)
    unfolding perform
    accepted_seen (begin u c) a e = ended u (begin u c) refl refl refl a e
    accepted_seen (commit u) a e = ended u (commit u) refl refl refl a e
    accepted_seen (abort u) a e = ended u (abort u) refl refl refl a e
    accepted_seen (grant c p x) a e = quiet_stays (grant c p x) refl refl refl a l (λ f. refl) (old e)
    accepted_seen (lock_read u p) a e = quiet_stays (lock_read u p) refl refl refl a l (λ f. refl) (old e)
    accepted_seen (lock_write u p) a e = quiet_stays (lock_write u p) refl refl refl a l (λ f. refl) (old e)
    accepted_seen (read u y buffer) a e = by_bool (these u y t x)
        (λ z. let p = and_split (eqb t u) (eqb x y) z in let d = sym (eqb-true t u p.0) in let w = sym (eqb-true x y p.1) in rw (d, w) (own_read buffer (rw (d, w) at a)))
        (λ z. quiet_stays (read u y buffer) refl refl refl a _ (λ f. rw z refl) (old (rw z at e)))
    accepted_seen (create u y) a e = by_bool (these u y t x)
        (λ z. let p = and_split (eqb t u) (eqb x y) z in let d = sym (eqb-true t u p.0) in let w = sym (eqb-true x y p.1) in rw (d, w) (own_create (rw (d, w) at a)))
        (λ z. elsewhere u y (create u y) refl refl refl z a (λ d. create_received n some s b v u y a x ∙ rw d) _ (λ f. rw z refl) (old (rw z at e)))
    accepted_seen (set_word u y f w) a e = by_bool (these u y t x)
        (λ z. let p = and_split (eqb t u) (eqb x y) z in let d = sym (eqb-true t u p.0) in let k = sym (eqb-true x y p.1) in rw (d, k) (own_set f w (rw (d, k) at a) (old e)))
        (λ z. elsewhere u y (set_word u y f w) refl refl refl z a (λ d. set_received n some s b v u y f w a x ∙ rw d) _ (λ h. rw z refl) (old e))
    accepted_seen (flush u p image) a e = entry_stays (flush u p image) refl refl a (ap (λ (w : List ℕ). view w x) (flush_received n some s b v u p image a)) l (λ f. refl) (old e)
    accepted_seen force a e = quiet_stays force refl refl refl a l (λ f. refl) (old e)
    accepted_seen (store p) a e = quiet_stays (store p) refl refl refl a l (λ f. refl) (old e)
    accepted_seen empty a e = quiet_stays empty refl refl refl a l (λ f. refl) (old e)
    accepted_seen pass a e = quiet_stays pass refl refl refl a l (λ f. refl) (old e)
    accepted_seen step a e = other_stays step refl refl refl a l (λ f. refl) (old e)
    accepted_seen reopen a e = clash e refl
    accepted_seen restep a e = storing_opened (sym (as_storing n s b v a).1.stage ∙ (old e).stage)
    accepted_seen (mark u m) a e = quiet_stays (mark u m) refl refl refl a l (λ f. refl) (old e)
    accepted_seen (back u m) a e = ended u (back u m) refl refl refl a e
    accepted_seen (look q) a e = quiet_stays (look q) refl refl refl a l (λ f. refl) (old e)

-- the invariant
abbrev Recallable : ℕ → Point → Recalled → Type 0
Recallable n q l = (t x : ℕ) → l.has t x ≡ true → OfRead n q.store q.book l t x

keep_recallable : (n : ℕ) → 1 ≤ n → (q : Point) (l : Recalled) (e : Event) → Sure n q → Recallable n q l → Recallable n (after n q e) (kept recollection q l e)
unfolding after kept
keep_recallable n some q l (call c) u j t x h = by_bool (accepts q c)
    (λ a. rw a (accepted_seen n some q.store q.book u.inv l t x (j t x) c a (rw a at h)))
    (λ a. rw (a, refused_keeps q.store c a) (j t x (rw a at h)))
keep_recallable n some q l power u j t x h = clash h refl

-- an accepted read shows the object's words
pub shows : (r : Answer) (v : ℕ) → r ≡ Ok v → (words buffer : List ℕ) → if_accepted r words buffer ≡ words
shows r v e words buffer = rw e

module _ (n : ℕ) (q : Point) (l : Recalled) (z : Sure n q) (j : Recallable n q l) (t x : ℕ) (buffer : List ℕ) (fits : length buffer ≡ slot_words) (h : l.has t x ≡ true) where
  abbrev s : Areas
  s = q.store

  abbrev b : Book
  b = q.book

  o : OfRead n s b l t x
  o = j t x h

  i : OpenInv n s b
  i = from z.inv
    where
      from : Inv3 n s b → OpenInv n s b
      from (open_store k) = k
      from (cut_store k) = awaiting_opened (sym k.stage ∙ o.stage)
      from (reopening_store m w k) = storing_opened (sym k.stage ∙ o.stage)

  runs : b.running t ≡ 0 → ⊥
  runs = runs_so n s b i z.fine (granted s.work n) (agreed s.work n) t (page_of x) o.lock

  small : t < txn_count
  small = active_in n s b i z.fine (granted s.work n) (agreed s.work n) t runs

  known : knows s.work n t x ≡ true
  known = sym (Facts.kn_is s n (machine n s b) (machine_shows n s b) t x small) ∙ o.knows

  object : ObjectFacts n x
  object = (known_facts s.work n t x known).object

  taken : (Ok tt) ≡ verdict (read_tests s n t x)
  unfolding read_tests
  taken = all_passed
      ∙ need_holds _ _ _ _ known
      ∙ need_holds _ _ _ _ (sym (holds_bit n s.work (granted s.work n) (agreed s.work n) (page_of x) object.page t small) ∙ o.lock)
      ∙ need_holds _ _ _ _ (active_bit n s b i z.fine (granted s.work n) (agreed s.work n) t runs)
      ∙ need_holds _ _ _ _ (rw (lt-ltb t txn_count small, le-leb 1 x object.low) (le-leb x (object_count n) object.top))

  answered : (call_read s t x buffer).answer ≡ Ok (l.word t x 0)
  unfolding call_read
  answered = ap (λ (k : Out). k.answer) (sym (called_passed true (eqb (length buffer) slot_words) s (λ m. read_tests s m t x) _ (formed n s b z.fine _ (eq-eqb _ _ fits)) (eq-eqb _ _ i.word) (rw i.size taken)))
      ∙ ap Ok (sym (view_word s.received x o.low 0 (omega arith)) ∙ o.same 0 (omega arith))

  shown_again : (f : ℕ) → f < slot_words → get_or (buffer_after s t x buffer) f 0 ≡ l.word t x f
  unfolding buffer_after
  shown_again f w = ap (λ (k : List ℕ). get_or k f 0) (shows (call_read s t x buffer).answer _ answered _ buffer) ∙ row_at s.received (page_of x) (slot_of x) f w
      ∙ sym (view_word s.received x o.low f w) ∙ o.same f w

seen_again : (n : ℕ) (q : Point) (l : Recalled) → Sure n q → Recallable n q l → SeenAgain q l
unfolding perform
seen_again n q l z j = record { answered = answered n q l z j; shown = shown_again n q l z j }

pub always_seen_again : AlwaysSeenAgain
always_seen_again = always_kept Recalled recollection Recallable SeenAgain keep_recallable seen_again (λ n k t x e. clash e refl) (λ s t x e. clash e refl)
