-- A store whose transactions are stopped, by a cut or by a reopening: what it holds of the book then. n is the number of pages.
-- Assumes nothing.
use Prim.Native.Nat.{ℕ, suc, ◌-◌}
use native.Mathlib.Omega.{arith}
use mathlib.Core.Path.{◌≡◌, refl, sym, ap, ◌∙◌}
use mathlib.Core.Bool.{Bool, true, ◌&&◌}
use mathlib.Core.List.{List, [], ◌∷◌}
use lib.ListN.{length}
use lib.Dec.{eqb}
use borrow.Author.Tests.{eqb-true}
use Rattle.words.specs.Tests.{by_bool, clash, and_split, and_t}
use Rattle.words.specs.Bits.{bit}
use Rattle.pages.specs.Geometry.{page_of, slot_of, root, object_count}
use Rattle.page_laws.specs.SoundFacts.{sound_facts}
use Rattle.records.specs.declared.Record.{Record}
use Rattle.records.specs.Order.{log_sound}
use Rattle.areas.specs.Areas.{Areas, received_count, stable_count}
use Rattle.areas.specs.Entry.{pages}
use Rattle.book.specs.Lines.{Line, filtered, pages_after}
use Rattle.book.specs.Books.{Stage, Book, counts_committed, committed_lines, committed_pages, surviving, stopped}
use Rattle.book.specs.Pointers.{sweeps, Leads}
use Rattle.collector.specs.Objects.{Obj, fresh, put, Whole}
use Rattle.machine_view.specs.View.{view, names, applied}
use Rattle.record_laws.specs.RecordLaws.{SoundRecord, sound_record}
use Rattle.record_laws.specs.SoundRecords.{sweep_spares}
use Rattle.recovery_proof.specs.Lines as Log
use Rattle.recovery_proof.specs.Shapes.{shapes}
use Rattle.recovery_proof.proofs.Appending.{recs_drop, log_prefix}
use Rattle.recovery_proof.proofs.Decided.{decided}
use Rattle.machine_view.proofs.Effects.{view_occ}
use Rattle.recovery_proof.proofs.Steps.{log_recs}
use Rattle.book_laws.specs.Seen.{counted, committed_of, seen}
use Rattle.book_laws.specs.Keeping.{here, later, SoundLines, Origin, SoundBook, BookInv}
use Rattle.book_laws.proofs.Folds.{after_view}
use Rattle.book_laws.proofs.Invariant.{stop_inv}
use Rattle.book_laws.proofs.Pages.{stop_objects}
use Rattle.book_laws.proofs.Soundness.{stop_sound}
use Rattle.book_laws.proofs.Stops.{stable_lines, stop_committed}
use Rattle.demand.proofs.State.{stable, OpenInv, Waiting, Inv3, open_store, cut_store, reopening_store}
use Rattle.demand.proofs.Pointing.{whole_in}

-- no sound record frees the root
pub root_kept : {n : ℕ} (r : Record) → SoundRecord n r → (b : Obj) → b.occ ≡ true → (applied r root b).occ ≡ true
unfolding applied fresh put
root_kept {n} r h b e = by_bool (names 2 r root) (λ q. rw q refl) (λ q. rw q (by_bool (names 3 r root) (λ d. rw d e) (λ d. rw d (by_bool (names 6 r root)
    (λ k. let z = and_split (eqb r.kind 6) (eqb r.object root) k in let u = (h.uncreate (eqb-true r.kind 6 z.0)).0 in let e = eqb-true r.object root z.1 in absurd (omega arith))
    (λ k. rw k (by_bool (sweeps r root) (λ z. freed z) (λ z. rw z e)))))))
  where
    freed : {A : Type 0} → sweeps r root ≡ true → A
    freed z = let p = and_split (eqb r.kind 7 && eqb r.object (page_of root)) (bit r.new (slot_of root)) z in
        let q = and_split (eqb r.kind 7) (eqb r.object (page_of root)) p.0 in
        clash (and_t (eqb r.object (page_of root)) (bit r.new (slot_of root)) q.1 ∙ p.1) (sweep_spares n r h (eqb-true r.kind 7 q.0))

pub root_there : (n : ℕ) (a : List ℕ) → Origin n a → (c : Line → Bool) (ls : List Line) → SoundLines n ls → (seen a c ls root).object.occ ≡ true
unfolding seen
root_there n a o c [] h = view_occ a root (omega arith) ∙ (sound_facts a n o.sound).rooted
root_there n a o c (l ∷ ls) h = let ih = root_there n a o c ls (λ m i. h m (later i)) in by_bool (c l)
    (λ e. rw e (root_kept l.entry (sound_record n l.entry (h l here)) (seen a c ls root).object ih))
    (λ e. rw e ih)

-- a stop keeps the book sound
stopped_sound : (n : ℕ) (b : Book) (g : Stage) → SoundBook n b → SoundBook n (stopped g b)
stopped_sound n b g h = record { origin = h.origin; lines = stop_sound n b h.lines }

module _ (n : ℕ) where
  -- pointers that lead make a state whole: the root is there
  pub whole_of : (a : List ℕ) → Origin n a → (c : Line → Bool) (ls : List Line) → SoundLines n ls → Leads (pages_after a (filtered c ls)) (filtered c ls)
      → Whole (object_count n) (suc (length ls)) (λ x. (seen a c ls x).object) (λ x. (seen a c ls x).tag)
  whole_of a first c ls ok h = whole_in n a first c ls ok h
      (sym (view_occ (pages_after a (filtered c ls)) root (omega arith)) ∙ ap (λ (o : Obj). o.occ) (after_view n a first.size c ls (λ l j e. ok l j) root) ∙ root_there n a first c ls ok)

  -- a store by what a stop needs
  stop_waits : (s : Areas) (b : Book) (g : Stage) → BookInv b → SoundBook n b
      → Leads (pages_after b.origin (committed_of (stable_lines b))) (committed_of (stable_lines b))
      → log_sound n s.log (stable_count s) ≡ true
      → ((x : ℕ) → Log.undo x Log.everyone (shapes (stable s)) (Log.replay (view s.stored) x (shapes (stable s))) ≡ (seen b.origin (counted (stable_lines b)) (stable_lines b) x).object)
      → Waiting n s (stopped g b)
  unfolding committed_lines
  stop_waits s b g i ok h order gives = let k : Leads (committed_pages (stopped g b)) (committed_lines (stopped g b)) = rw (stop_committed g b) h in record {
    book = stop_inv g b i;
    sound = stopped_sound n b g ok;
    idle = λ t. refl;
    forgot = λ t x. refl;
    all_stable = refl;
    whole = whole_of b.origin ok.origin (counts_committed (stopped g b)) (surviving b) (stop_sound n b ok.lines) k;
    leads = k;
    order = order;
    gives = λ x. gives x ∙ sym (stop_objects g b x);
  }

  open_stops : (s : Areas) (b : Book) (g : Stage) → OpenInv n s b → Waiting n s (stopped g b)
  open_stops s b g i =
      let l = i.log in
      let k = received_count s - stable_count s in
      let e : length b.lines - b.stable ≡ k = let f = l.stable_few in let d = l.stable_same in omega arith in
      stop_waits s b g i.book i.sound
      (rw e (l.leads k (omega arith)))
      (log_prefix n s.log (received_count s) (stable_count s) l.stable_few l.order)
      (λ x. ap (Log.undo x Log.everyone (shapes (stable s))) (decided (stable s) (view s.stored) i.base l.stored x)
      ∙ log_recs i.base _ _ _ _ s.log (received_count s) (stable_count s) l.inv l.stable_few x
      ∙ rw (e, ← (recs_drop s.log (received_count s) (stable_count s) l.stable_few)) (l.part k (omega arith) x))

  waiting_stops : (s : Areas) (b : Book) (g : Stage) → Waiting n s b → Waiting n s (stopped g b)
  unfolding committed_of committed_lines
  waiting_stops s b g w =
      let e : length b.lines - b.stable ≡ 0 = let d = w.all_stable in omega arith in
      stop_waits s b g w.book w.sound (rw e w.leads) w.order (λ x. rw e (w.gives x))

  -- whatever stage the store is in
  pub stops : (s : Areas) (b : Book) (g : Stage) → Inv3 n s b → Waiting n s (stopped g b)
  stops s b g (open_store i) = open_stops s b g i
  stops s b g (cut_store i) = waiting_stops s b g i.waiting
  stops s b g (reopening_store k l i) = waiting_stops s b g i.waiting

pub inv_size : (n : ℕ) (s : Areas) (b : Book) → Inv3 n s b → pages s ≡ n
inv_size n s b (open_store i) = i.size
inv_size n s b (cut_store i) = i.size
inv_size n s b (reopening_store k l i) = i.size

-- the same stored pages and stable records
pub waiting_moved : (n : ℕ) (s s' : Areas) (b : Book) → stable s' ≡ stable s → s'.stored ≡ s.stored → log_sound n s'.log (stable_count s') ≡ true → Waiting n s b → Waiting n s' b
waiting_moved n s s' b e d order w = record {
  book = w.book;
  sound = w.sound;
  idle = w.idle;
  forgot = w.forgot;
  all_stable = w.all_stable;
  whole = w.whole;
  leads = w.leads;
  order = order;
  gives = λ x. rw (e, d) (w.gives x);
}
