-- An accepted force, store page and empty log keep the invariant. n is the number of pages. Assumes nothing.
use Prim.Native.Nat.{ℕ, ◌+◌, ◌-◌, ◌≤◌, ◌<◌}
use native.Mathlib.Omega.{arith}
use native.Mathlib.Numerals.{add-one}
use native.Mathlib.Decide.{dec_lt}
use mathlib.Core.Path.{◌≡◌, refl, sym, ap, ◌∙◌, subst}
use mathlib.Core.Bool.{true, false, not}
use mathlib.Core.Logic.{inr}
use mathlib.Core.List.{List, [], ◌∷◌}
use lib.ListN.{length, get_or, set, take, drop, length-set, get_or-eq_default}
use lib.Seq.{get_or-set_same, get_or-set_other, ext_get_or}
use lib.Dec.{eqb, ltb}
use borrow.Author.Tests.{eqb-true}
use Rattle.words.specs.Tests.{all_at, all_none, by_bool, clash}
use Rattle.words.specs.Bits.{bit_none}
use Rattle.words.specs.Spans.{same, fill, length_fill, fill_inside}
use Rattle.pages.specs.Objects.{copied_page}
use Rattle.page_laws.specs.ViewLaws.{length_copied}
use Rattle.records.specs.Records.{record_at, txn_count}
use Rattle.records.specs.Order.{open_in, log_sound}
use Rattle.areas.specs.Answers.{accepted}
use Rattle.areas.specs.Areas.{Areas, Out, received_count, stable_count, with_counts, with_stored, with_work}
use Rattle.areas.specs.Layout.{reopening_at, mark_count, marked_at, order_at, undoing_at, undoing_from}
use Rattle.areas.specs.Tables.{at, undoes}
use Rattle.areas.specs.Entry.{records}
use Rattle.calls.specs.Calls.{force, store, empty}
use Rattle.calls.specs.Stability.{call_force, call_store, emptied, call_empty}
use Rattle.calls.specs.Marks.{order_of}
use Rattle.acceptance.specs.Entered.{Open, opened}
use Rattle.acceptance.specs.Stability as Accepted
use Rattle.acceptance.specs.Stability.{force_outcome, store_outcome, empty_outcome}
use Rattle.book.specs.Books.{Book, runs}
use Rattle.book.specs.Feeding.{fed, forced}
use Rattle.collector.specs.Bits.{and_false}
use Rattle.collector.specs.Objects.{Obj, page_of}
use Rattle.collector.specs.State.{Locks, Tables, mix}
use Rattle.collector.proofs.Tables.{is_false}
use Rattle.machine_view.specs.View.{view}
use Rattle.machine_calls.specs.Tables.{locks_of}
use Rattle.machine_calls.proofs.Frames.{Beside, beside_fill, wider, locks_kept, tables_kept, pass_kept}
use Rattle.recovery_proof.specs.Lines as Log
use Rattle.recovery_proof.specs.Shapes.{shapes, recs, writes_occ, writes_word}
use Rattle.recovery_proof.proofs.Invariant as Recovery
use Rattle.recovery_proof.proofs.Decided.{SameCells, same_longer}
use Rattle.recovery_proof.proofs.Cells.{same_self, same_eq}
use Rattle.recovery_proof.proofs.Naming.{stable_cells}
use Rattle.recovery_proof.proofs.Steps.{log_fresh}
use Rattle.book_laws.specs.Seen.{seen_committed}
use Rattle.book_laws.specs.Striking.{entries}
use Rattle.book_laws.specs.Keeping.{Runs}
use Rattle.book_laws.proofs.Invariant.{force_inv}
use Rattle.demand.proofs.State.{machine, received, stable, logged, LogInv, OpenInv}
use Rattle.demand.proofs.Notes.{Notes, notes_quiet}
use Rattle.demand.proofs.Unlogged.{open_unlocked, open_noted}
use Rattle.demand.proofs.Copying.{copied_view}

-- one more record of the log
recs_next : (g : List ℕ) (c : ℕ) → recs g (c + 1) ≡ record_at g c ∷ recs g c
unfolding recs
recs_next g c = ap (recs g) (add-one c)

-- force: one more record, and one more line, is stable
module _ (n : ℕ) (s : Areas) (b : Book) (i : OpenInv n s b) (h : Open s n) (f : Accepted.ForceFacts s) where
  abbrev s' : Areas
  s' = with_counts s (set s.counts 1 (stable_count s + 1))

  abbrev b' : Book
  b' = forced b

  received_count_law : received_count s' ≡ received_count s
  received_count_law = get_or-set_other s.counts 1 0 (stable_count s + 1) 0 (λ z. omega arith)

  stable_count_law : stable_count s' ≡ stable_count s + 1
  stable_count_law = get_or-set_same s.counts 1 (stable_count s + 1) 0 (let e = h.sized.counts_len in omega arith)

  fewer : (j : ℕ) → j ≤ received_count s' - stable_count s' → j ≤ received_count s - stable_count s
  fewer j l = let r = received_count_law in let c = stable_count_law in let u = f.unstable in omega arith

  force_log : LogInv n s' b' i.base
  unfolding runs
  force_log = record {
    inv = rw received_count_law i.log.inv;
    few = rw received_count_law i.log.few;
    same = rw received_count_law i.log.same;
    stable_few = let r = received_count_law in let c = stable_count_law in let u = f.unstable in omega arith;
    stable_same = let r = received_count_law in let c = stable_count_law in let u = f.unstable in let e = i.log.stable_same in omega arith;
    order = rw received_count_law i.log.order;
    open_ones = rw received_count_law i.log.open_ones;
    part = λ j l x. ap (λ (c : ℕ). Log.book i.base x Log.nobody (shapes (drop j (recs s.log c)))) received_count_law ∙ i.log.part j (fewer j l) x;
    leads = λ j l. i.log.leads j (fewer j l);
    stored = rw (stable_count_law, recs_next s.log (stable_count s)) (same_longer (record_at s.log (stable_count s) ∷ []) (stable s) i.log.stored);
    copies = rw received_count_law i.log.copies;
  }

  force_kept : OpenInv n s' b'
  force_kept = open_noted n s b i s.stored s'.counts (b.stable + 1) b.known b.marked refl
      (force_inv b i.book (let u = f.unstable in let e = i.log.stable_same in omega arith)) i.known
      (notes_quiet n s b s' b' refl received_count_law (λ j l. refl) refl refl refl i.going.notes) i.base force_log

pub open_force : (n : ℕ) → 1 ≤ n → (s : Areas) (b : Book) → OpenInv n s b → accepted (call_force s).answer ≡ true
    → OpenInv n (call_force s).after (fed n b force s.received (call_force s).after.received)
unfolding fed
open_force n some s b i a =
    let k = (force_outcome s).ran a in
    let h = opened true s k.n k.ready in
    let e : k.n ≡ n = sym h.sized.count ∙ i.size in
    rw (ap (λ (x : Out). x.after) k.gives) (force_kept n s b i (rw e at h) (Accepted.force_facts s k.passed))

-- store page: the last record that names the page is stable
module _ (n : ℕ) (s : Areas) (b : Book) (i : OpenInv n s b) (h : Open s n) (p : ℕ) (f : Accepted.StoreFacts s n p) where
  abbrev s'' : Areas
  s'' = with_stored s (copied_page s.copies s.stored p)

  shown_stored : (x : ℕ) → view s''.stored x ≡ mix (λ y. eqb (page_of y) p) (view s.copies) (view s.stored) x
  shown_stored = copied_view n s.copies s.stored p h.sized.copies_len h.sized.stored_len f.page

  -- on the page, the received records write no more than the stable ones
  named : (x : ℕ) → eqb (page_of x) p ≡ true → (writes_occ (received s) x ≡ writes_occ (stable s) x) × ((g : ℕ) → writes_word (received s) x g ≡ writes_word (stable s) x g)
  unfolding page_of
  named x e = stable_cells s.log (stable_count s) p (let l = f.page in let u = h.sized.top in omega arith) (received_count s) i.log.stable_few f.stable x (eqb-true _ _ e)

  store_cells : SameCells (stable s) (view s''.stored) i.base
  store_cells = record {
    occ = λ x u. ap (λ (v : Obj). v.occ) (shown_stored x) ∙ by_bool (eqb (page_of x) p)
        (λ e. rw e (i.log.copies.occ x ((named x e).0 ∙ u)))
        (λ e. rw e (i.log.stored.occ x u));
    word = λ x g u. ap (λ (v : Obj). v.word g) (shown_stored x) ∙ by_bool (eqb (page_of x) p)
        (λ e. rw e (i.log.copies.word x g ((named x e).1 g ∙ u)))
        (λ e. rw e (i.log.stored.word x g u));
  }

  store_kept : OpenInv n s'' b
  store_kept = open_noted n s b i s''.stored s.counts b.stable b.known b.marked
      (length_copied n s.copies s.stored p h.sized.copies_len h.sized.stored_len f.page ∙ sym h.sized.stored_len)
      i.book i.known (notes_quiet n s b s'' b refl refl (λ j l. refl) refl refl refl i.going.notes) i.base (record {
        inv = i.log.inv;
        few = i.log.few;
        same = i.log.same;
        stable_few = i.log.stable_few;
        stable_same = i.log.stable_same;
        order = i.log.order;
        open_ones = i.log.open_ones;
        part = i.log.part;
        leads = i.log.leads;
        stored = store_cells;
        copies = i.log.copies;
      })

pub open_store : (n : ℕ) → 1 ≤ n → (s : Areas) (b : Book) → OpenInv n s b → (p : ℕ) → accepted (call_store s p).answer ≡ true
    → OpenInv n (call_store s p).after (fed n b (store p) s.received (call_store s p).after.received)
unfolding fed
open_store n some s b i p a =
    let k = (store_outcome s p).ran a in
    let h = opened true s k.n k.ready in
    let e : k.n ≡ n = sym h.sized.count ∙ i.size in
    rw (ap (λ (x : Out). x.after) k.gives) (store_kept n s b i (rw e at h) p (rw e at (Accepted.store_facts s k.n p k.passed)))

-- empty log: the base becomes the committed objects
module _ (n : ℕ) (s : Areas) (b : Book) (i : OpenInv n s b) (h : Open s n) (f : Accepted.EmptyFacts s) where
  abbrev committed : ℕ → Obj
  committed x = (seen_committed b x).object

  idle : (t : ℕ) → (locks_of s.work n).act t ≡ false
  idle t = rw (f.none_active, bit_none t) (and_false (ltb t txn_count))

  unwritten : (t p : ℕ) → (locks_of s.work n).wr t p ≡ false
  unwritten t p = is_false ((locks_of s.work n).wr t p) (λ w. clash (i.collector.exclusive.writer t p w).0 (idle t))

  copied : (x : ℕ) → view s.copies x ≡ committed x
  copied x = i.collector.agreed.free_c x (λ t. unwritten t (page_of x))

  all_stored : s.stored ≡ s.copies
  unfolding same
  all_stored = sym (ext_get_or 0 s.copies s.stored (h.sized.copies_len ∙ sym h.sized.stored_len)
      (λ k l. let z : 0 + k ≡ k = omega arith in
      let q : eqb (get_or s.copies (0 + k) 0) (get_or s.stored (0 + k) 0) ≡ true =
      all_at (λ j. eqb (get_or s.copies (0 + j) 0) (get_or s.stored (0 + j) 0)) (length s.stored) k f.all_stored
      (let e = h.sized.copies_len in let d = h.sized.stored_len in omega arith) in
      eqb-true (get_or s.copies k 0) (get_or s.stored k 0) (rw z at q)))

  abbrev v : List ℕ
  v = fill (λ k. 0) s.work (undoing_at n 0) (records s)

  abbrev e : Areas
  e = emptied s n

  locks_after : locks_of v n ≡ locks_of s.work n
  locks_after = locks_kept (beside_fill (λ k. 0) s.work (undoing_at n 0) (records s)) n (inr (omega arith))

  idle_after : (t : ℕ) → (locks_of v n).act t ≡ false
  idle_after t = ap (λ (l : Locks). l.act t) locks_after ∙ idle t

  unwritten_after : (t p : ℕ) → (locks_of v n).wr t p ≡ false
  unwritten_after t p = ap (λ (l : Locks). l.wr t p) locks_after ∙ unwritten t p

  none_received : received_count e ≡ 0
  none_received = get_or-set_other (set s.counts 0 0) 1 0 0 0 (λ z. omega arith) ∙ get_or-set_same s.counts 0 0 0 (let e = h.sized.counts_len in omega arith)

  none_stable : stable_count e ≡ 0
  none_stable = get_or-set_same (set s.counts 0 0) 1 0 0 (let e = h.sized.counts_len in let d = length-set s.counts 0 0 in omega arith)

  no_records : received e ≡ []
  unfolding recs
  no_records = ap (recs s.log) none_received

  empty_inv : Recovery.Inv committed (logged n e b)
  unfolding shapes
  empty_inv = Recovery.carried committed _ (logged n e b) (λ x. sym (i.collector.agreed.free_r x (λ t. unwritten t (page_of x)))) (λ x. refl)
      (λ t p. sym (unwritten_after t p)) (λ t. sym (idle_after t)) (sym (ap shapes no_records)) (log_fresh committed)

  none_left : (j : ℕ) → j ≤ received_count e - stable_count e → j ≡ 0
  none_left j l = let r = none_received in omega arith

  empty_log : LogInv n e b committed
  unfolding entries open_in log_sound
  empty_log = record {
    inv = empty_inv;
    few = let r = none_received in omega arith;
    same = ap (λ (c : ℕ). entries (take c b.lines)) none_received ∙ sym no_records;
    stable_few = let r = none_received in let c = none_stable in omega arith;
    stable_same = let r = none_received in let c = none_stable in let e = i.log.stable_same in let d = f.all_stable in omega arith;
    order = rw none_received (all_none _);
    open_ones = λ t l. rw none_received (bit_none t ∙ sym (idle_after t));
    part = λ j l x. rw (none_left j l) (empty_inv.booked x);
    leads = λ j l. rw (none_left j l) (i.log.leads 0 (omega arith));
    stored = same_eq (stable e) (view s.stored) committed committed (λ x. ap (λ (a : List ℕ). view a x) all_stored ∙ copied x) (same_self (stable e) committed);
    copies = same_eq (received e) (view s.copies) committed committed copied (same_self (received e) committed);
  }

  -- nobody runs: no change is left, and no record is noted
  quiet : (t : ℕ) → Runs b t → ⊥
  quiet t r = clash (i.runs t r) (idle t)

  behind : Beside (undoing_from n) (undoing_from n + records s) s.work v
  behind = wider (beside_fill (λ k. 0) s.work (undoing_at n 0) (records s)) (omega arith) (omega arith)

  word_none : (j : ℕ) → at v (undoing_at n j) ≡ 0
  word_none j = elim (dec_lt j (records s)) [
    | yes l ↦ (let z : undoing_at n 0 + j ≡ undoing_at n j = omega arith in
        subst (λ (k : ℕ). at v k ≡ 0) z (fill_inside (λ k. 0) s.work (undoing_at n 0) (records s) j (let q = h.sized.work_len in omega arith) l))
    | no l ↦ get_or-eq_default v 0 (let q = h.sized.work_len in let d = length_fill (λ k. 0) s.work (undoing_at n 0) (records s) in omega arith)
  ]

  noted_none : (j : ℕ) → undoes v n j ≡ false
  noted_none j = ap (λ (k : ℕ). not (eqb k 0)) (word_none j)

  cleared_marks : (t m : ℕ) → t < txn_count → m < mark_count → (order_of v n t m ≡ 0 → ⊥) → at v (marked_at n t m) ≡ b.marked t m
  cleared_marks t m a c z = behind.below (marked_at n t m) (omega arith) ∙ i.going.notes.marks t m a c (λ y. z (behind.below (order_at n t m) (omega arith) ∙ y))

  notes_of : (x : Areas) → x.work ≡ v → Notes n x b
  notes_of x q = record { left = λ t r. absurd (quiet t r); fresh = λ j l. rw q (noted_none j); marks = rw q cleared_marks }

  -- the words first, then the counts
  cleared_kept : OpenInv n (with_work s v) b
  cleared_kept = open_unlocked n s b i s.copies v (machine n s b)
      (record {
        shows = record {
          count = refl;
          locks = sym (locks_kept behind n (inr (omega arith)));
          tables = sym (tables_kept behind n (inr (omega arith)));
          pass = sym (pass_kept behind n (inr (omega arith)) (inr (omega arith)));
        };
        keeps = i.going.deep;
        pages = refl;
        tags = refl;
        word = behind.below reopening_at (omega arith);
        knows = λ t x k. ap (λ (a : Tables). a.kn t x) (tables_kept behind n (inr (omega arith))) ∙ k;
        cells = i.log.copies;
        notes = notes_of (with_work s v) refl;
      })
      (locks_kept behind n (inr (omega arith)))

  empty_kept : OpenInv n e b
  empty_kept = open_noted n (with_work s v) b cleared_kept s.stored e.counts b.stable b.known b.marked refl i.book cleared_kept.known (notes_of e refl) committed empty_log

pub open_empty : (n : ℕ) → 1 ≤ n → (s : Areas) (b : Book) → OpenInv n s b → accepted (call_empty s).answer ≡ true
    → OpenInv n (call_empty s).after (fed n b empty s.received (call_empty s).after.received)
unfolding fed
open_empty n some s b i a =
    let k = (empty_outcome s).ran a in
    let h = opened true s k.n k.ready in
    let e : k.n ≡ n = sym h.sized.count ∙ i.size in
    rw (ap (λ (x : Out). x.after) k.gives ∙ ap (emptied s) e) (empty_kept n s b i (rw e at h) (Accepted.empty_facts s k.passed))
