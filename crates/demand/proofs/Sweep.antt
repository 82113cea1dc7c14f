-- A sweeping step that frees objects of its page keeps the invariant. n is the number of pages. Assumes nothing.
use Rattle.std.specs.Prelude.{Ok}
use Prim.Native.Nat.{ℕ, zero, suc, ◌+◌, ◌*◌, ◌≤◌, ◌<◌, ◌^◌}
use native.Mathlib.Omega.{arith}
use mathlib.Core.Path.{◌≡◌, refl, sym, ap, ◌∙◌}
use mathlib.Core.Bool.{Bool, true, false, cond, ◌&&◌}
use mathlib.Core.List.{List, ◌∷◌}
use lib.ListN.{length, drop}
use lib.Seq.{get_or-set_same}
use lib.Dec.{eqb, leb}
use borrow.Author.Tests.{eqb-true, eq-eqb, ne_eqb, le-leb}
use Rattle.words.specs.Tests.{if, by_bool, clash, and_split, and_true, and_false}
use Rattle.words.specs.Bits.{bit, map_lt}
use Rattle.pages.specs.Geometry as Geometry
use Rattle.pages.specs.Geometry.{slot_of, object_at, root, slot_count}
use Rattle.pages.specs.Objects.{taken, occupied, released}
use Rattle.records.specs.declared.Record.{Record}
use Rattle.records.specs.Records.{sweep_of, txn_count, record_words, recorded}
use Rattle.records.specs.Effects.{effect}
use Rattle.records.specs.Soundness.{record_sound}
use Rattle.records.specs.Order.{open_in, open_next}
use Rattle.areas.specs.Answers.{verdict}
use Rattle.areas.specs.Areas.{Areas, received_count, with_work, appended}
use Rattle.areas.specs.Layout.{phase_at, pass_page_at}
use Rattle.areas.specs.Tables.{at, undoes}
use Rattle.calls.specs.Calls.{step}
use Rattle.calls.specs.Pass.{sweep_map, freed_map, locked, unmarked, advanced, swept_page, sweep_tests}
use Rattle.acceptance.specs.Entered.{Open}
use Rattle.acceptance.specs.Pass.{sweep_map_of, sweeping, sweep_facts}
use Rattle.acceptance.specs.Room.{Room}
use Rattle.book.specs.Lines.{Line, line, has_commit, filtered, pages_after}
use Rattle.book.specs.Books.{Book, runs, counts_full, full_lines, full_pages}
use Rattle.book.specs.Feeding.{fed, sweep_lines}
use Rattle.book.specs.Pointers.{sweeps, makes_or_frees, writes}
use Rattle.collector.specs.Bits as Bits
use Rattle.collector.specs.Objects.{Obj, blank, born_at, page_of}
use Rattle.collector.specs.State as M
use Rattle.collector.specs.State.{Locks, Tables}
use Rattle.collector.specs.Calls as C
use Rattle.collector.proofs.Facts.{dead_facts}
use Rattle.collector.proofs.Worlds.{Deep, inv_of, deep_same}
use Rattle.collector.proofs.Depths.{deep_sweep}
use Rattle.machine_view.specs.View.{view, applied}
use Rattle.machine_view.proofs.Places.{page_of_at, slot_of_at}
use Rattle.machine_calls.specs.Tables.{phase_of, locks_of, tables_of}
use Rattle.machine_pass.proofs.PassFacts.{unlocked_unwritten}
use Rattle.machine_pass.proofs.Sweep.{dead_at_is, swept_view, on_tables}
use Rattle.recovery_proof.proofs.Decided.{SameCells, some_first}
use Rattle.recovery_proof.proofs.Invariant as Recovery
use Rattle.machine_view.proofs.Effects.{view_occ}
use Rattle.record_laws.specs.SoundRecords.{sweep_sound}
use Rattle.recovery_proof.proofs.Steps.{log_of, log_sweep}
use Rattle.book_laws.specs.After.{swept_by}
use Rattle.book_laws.specs.Seen.{touches, Seen, acted, seen_committed, seen_full}
use Rattle.book_laws.specs.Striking.{entries}
use Rattle.book_laws.proofs.Backing.{every_map}
use Rattle.book_laws.specs.Keeping.{SoundBook}
use Rattle.book_laws.proofs.Acts.{freed_at, sweep_acts}
use Rattle.book_laws.proofs.Committed.{filtered_same, alike_self}
use Rattle.book_laws.proofs.Feeding.{sweep_committed, sweep_full}
use Rattle.book_laws.proofs.Invariant.{sweep_inv}
use Rattle.book_laws.proofs.Members.{each_cons}
use Rattle.book_laws.proofs.Openness as Openness
use Rattle.book_laws.proofs.Sweeps.{sweep_released}
use Rattle.demand.proofs.State.{machine, received, Going, OpenInv}
use Rattle.demand.proofs.OneRecord.{Appends, log_after}
use Rattle.demand.proofs.Change.{full_shown}
use Rattle.demand.proofs.Passing.{advance_passed, sweep_room_law, advance_word, advance_behind, advance_same}
use Rattle.demand.proofs.LeftRecords.{left_records}
use Rattle.demand.proofs.Notes.{Behind, behind_notes, undoes_same, marks_same, left_other, fresh_more}
use Rattle.demand.proofs.Going.{items_own, backs_past}

chosen : (c : Bool) (u v : Seen) → if c u v ≡ record { object = cond c u.object v.object; tag = cond c u.tag v.tag }
chosen true u v = refl
chosen false u v = refl

-- a step that frees slots of page `page`, which nobody has locked
module _ (n : ℕ) (some : 1 ≤ n) (s : Areas) (b : Book) (i : OpenInv n s b) (h : Open s n) (ph : phase_of (at s.work phase_at) ≡ M.sweeping)
    (free : locked s.work n (at s.work pass_page_at) ≡ false) (frees : sweep_map s.copies s.work n (at s.work pass_page_at) ≡ 0 → ⊥) (room : Room s n 1) where
  abbrev page : ℕ
  page = at s.work pass_page_at

  abbrev map : ℕ
  map = sweep_map s.copies s.work n page

  abbrev r : Record
  r = sweep_of page map

  abbrev m : ℕ
  m = suc (length b.lines)

  abbrev w : List ℕ
  w = advanced s.work n page

  abbrev s' : Areas
  s' = with_work (swept_page s page map) w

  abbrev b' : Book
  b' = swept_by b page map

  abbrev dead : ℕ → Bool
  dead x = C.dead (machine n s b) x

  below : page < n
  below = h.ranged.working.pass_page

  unwritten : (t : ℕ) → (locks_of s.work n).wr t page ≡ false
  unwritten t = unlocked_unwritten s.work n page free t

  -- the slots freed are the dead objects'
  dead_is : (x : ℕ) → dead x ≡ (eqb page (Geometry.page_of x) && bit map (slot_of x) && leb 1 x)
  dead_is x = dead_at_is n s.copies s.work h.ranged.working.created h.sized.copies_len page x below

  root_alive : dead root ≡ false
  root_alive = by_bool (dead root) (λ d. clash (dead_facts (machine n s b) root d).white (i.collector.marks (rw ph refl)).top) (λ d. d)

  spared : (eqb page (Geometry.page_of root) && bit map (slot_of root)) ≡ false
  spared = sym (and_true (eqb page (Geometry.page_of root) && bit map (slot_of root))) ∙ sym (dead_is root) ∙ root_alive

  freed : (x : ℕ) → (eqb page (Geometry.page_of x) && bit map (slot_of x)) ≡ dead x
  freed zero = spared ∙ sym (dead_is 0 ∙ and_false (eqb page (Geometry.page_of 0) && bit map (slot_of 0)))
  freed (suc k) = sym (dead_is (suc k) ∙ rw (le-leb 1 (suc k) (omega arith)) (and_true (eqb page (Geometry.page_of (suc k)) && bit map (slot_of (suc k)))))

  small : map < 2 ^ slot_count
  unfolding sweep_map
  small = map_lt (λ k. taken s.copies page k && unmarked s.work n page k) 16

  ok : record_sound n r ≡ true
  ok = sweep_sound n page map below small spared

  -- what the book shows
  swept_at : (x : ℕ) (v : Seen) → acted m r x v ≡ record { object = cond (dead x) blank v.object; tag = cond (dead x) (born_at m) v.tag }
  swept_at x v = sweep_acts m x v page map ∙ ap (λ (c : Bool). if c (freed_at m) v) (freed x) ∙ chosen (dead x) (freed_at m) v

  committed_after : (x : ℕ) → seen_committed b' x ≡ record { object = cond (dead x) blank (seen_committed b x).object; tag = cond (dead x) (born_at m) (seen_committed b x).tag }
  committed_after x = sweep_committed b page map x ∙ swept_at x (seen_committed b x)

  full_after : (x : ℕ) → seen_full b' x ≡ record { object = cond (dead x) blank (seen_full b x).object; tag = cond (dead x) (born_at m) (seen_full b x).tag }
  full_after x = sweep_full b page map x ∙ swept_at x (seen_full b x)

  copies_after : (x : ℕ) → view (released s.copies page map) x ≡ cond (dead x) blank (view s.copies x)
  copies_after x = swept_view n s.copies s.work h.ranged.working.created h.sized.copies_len s.copies h.sized.copies_len page x below

  -- the collector's part
  locks : locks_of w n ≡ locks_of s.work n
  locks = advance_same n some s b i h ph

  tables : tables_of w n ≡ tables_of s.work n
  tables = on_tables n s.work h.sized.tables.1 (sweep_room_law n some s b i h ph) ph

  machine_after : Deep (machine n s' b') i.going.stack
  unfolding swept_page
  machine_after = deep_same (C.swept (machine n s b) m) (machine n s' b') i.going.stack refl
      (λ z. record { cmt = λ x. (committed_after x z).object; rec = λ x. (full_after x z).object; cop = λ x. copies_after x z })
      (λ z. record { cmt_tag = λ x. (committed_after x z).tag; rec_tag = λ x. (full_after x z).tag; now = suc m })
      locks tables (advance_passed n some s b i h ph)
      (deep_sweep m (machine n s b) i.going.stack (record { phase = ph; free = unwritten; line = omega arith }) i.going.deep)

  act_same : (u : ℕ) → (locks_of w n).act u ≡ (locks_of s.work n).act u
  act_same u = ap (λ (a : Locks). a.act u) locks

  wr_same : (u p : ℕ) → (locks_of w n).wr u p ≡ (locks_of s.work n).wr u p
  wr_same u p = ap (λ (a : Locks). a.wr u p) locks

  -- the log's part
  appends : Appends n s b r (line r 0) s' b'
  unfolding swept_page appended
  appends = record {
    entry = refl;
    log = refl;
    counts = refl;
    stored = refl;
    origin = refl;
    older = b.lines;
    lines = refl;
    entries_same = refl;
    alike = λ j. alike_self (drop j b.lines);
    stable = refl;
    room = omega arith;
    ok = ok;
    order = refl;
  }

  open_after : (u : ℕ) → u < txn_count → bit (open_next (open_in s.log (received_count s)) r) u ≡ (locks_of w n).act u
  open_after u l = i.log.open_ones u l ∙ sym (act_same u)

  page_free : (o : ℕ) → sweeps r o ≡ true → (t : ℕ) → (locks_of s.work n).wr t (page_of o) ≡ false
  unfolding page_of
  page_free o e t = rw (← (eqb-true page (Geometry.page_of o) (and_split (eqb page (Geometry.page_of o)) (bit map (slot_of o)) e).0)) (unwritten t)

  inv_after : Recovery.Inv i.base (log_of (λ x. (seen_full b' x).object) (λ x. (seen_committed b' x).object) (locks_of w n).wr (locks_of w n).act (r ∷ received s))
  inv_after = Recovery.carried i.base
      (log_of (λ x. applied r x (seen_full b x).object) (λ x. applied r x (seen_committed b x).object) (locks_of s.work n).wr (locks_of s.work n).act (r ∷ received s)) _
      (λ x. sym (ap (λ (v : Seen). v.object) (sweep_full b page map x)))
      (λ x. sym (ap (λ (v : Seen). v.object) (sweep_committed b page map x)))
      (λ u p. sym (wr_same u p)) (λ u. sym (act_same u)) refl
      (log_sweep i.base _ _ _ _ (received s) i.log.inv r refl page_free)

  -- an object that the record does not free is copied as before
  copy_left : (x : ℕ) → makes_or_frees r x ≡ false → view (released s.copies page map) x ≡ view s.copies x
  copy_left x e = copies_after x ∙ ap (λ (c : Bool). cond c blank (view s.copies x)) (sym (freed x) ∙ e)

  cells_after : SameCells (r ∷ received s) (view (released s.copies page map)) i.base
  cells_after = record {
    occ = λ x e. let k = some_first (λ q. makes_or_frees q x) r (received s) e in ap (λ (o : Obj). o.occ) (copy_left x k.0) ∙ i.log.copies.occ x k.1;
    word = λ x f e. let k = some_first (λ q. writes q x f) r (received s) e in ap (λ (o : Obj). o.word f) (copy_left x k.0) ∙ i.log.copies.word x f k.1;
  }

  full_lines_law : full_lines b' ≡ line r 0 ∷ full_lines b
  unfolding full_lines filtered runs has_commit
  full_lines_law = ap (λ (ls : List Line). line r 0 ∷ ls) (filtered_same (counts_full b') (counts_full b) b.lines (λ l j. refl))

  received_shown : s'.received ≡ full_pages b'
  unfolding swept_page appended pages_after
  received_shown = ap (λ (a : List ℕ). effect a r) i.full ∙ sym (ap (pages_after b.origin) full_lines_law)

  -- what transactions can take back is on other pages
  pub spares_items : (u x : ℕ) → (locks_of s.work n).wr u (Geometry.page_of x) ≡ true → touches r x ≡ false
  unfolding page_of
  spares_items u x w = by_bool (eqb page (Geometry.page_of x) && bit map (slot_of x))
      (λ e. clash w (page_free x e u))
      (λ e. rw e refl)

  going_after : Going n s' b'
  unfolding swept_page appended runs has_commit filtered entries
  going_after = let q = undoes_same n s.work w (behind_notes n s.work w behind) in record {
    stack = i.going.stack;
    deep = machine_after;
    backs = λ u run. backs_past b.origin (counts_full b) (counts_full b') (b.running u) (line r 0) b.lines (i.going.stack u)
        (and_false (eqb 0 (b.running u) && true))
        (λ d. every_map (i.going.stack u) (λ x. spares_items u x) (items_own n s b i.going i.writers u run))
        (λ l j x d. refl) (i.going.backs u run);
    notes = record {
      left = λ u run. ap (left_records (undoes w n) (recorded s.log (received_count s) r) u) count_more ∙ left_other n s b i.going.notes w r long q u run refl refl
          ∙ sym (rw (and_false (eqb 0 (b.running u) && true)) refl);
      fresh = fresh_more n s b i.going.notes w r long q (received_count s') count_more;
      marks = marks_same n s.work w b.marked (behind_notes n s.work w behind) i.going.notes.marks;
    };
  }
    where
      behind : Behind n s.work w
      behind = advance_behind n some s b i h ph

      long : record_words * received_count s + record_words ≤ length s.log
      long = let e = h.sized.log_len in let q = room in omega arith

      count_more : received_count s' ≡ received_count s + 1
      count_more = get_or-set_same s.counts 0 (received_count s + 1) 0 (let e = h.sized.counts_len in omega arith)

  sweep_kept : OpenInv n s' b'
  unfolding swept_page appended
  sweep_kept = let sound : SoundBook n b' = record { origin = i.sound.origin; lines = each_cons ok i.sound.lines } in record {
    size = i.size;
    stage = i.stage;
    word = advance_word n some s b i h ph ∙ i.word;
    collector = inv_of (machine_after 0);
    going = going_after;
    book = sweep_inv b i.book page map;
    sound = sound;
    full = received_shown;
    known = λ t x e. ap (λ (a : Tables). a.kn t x) tables ∙ i.known t x e;
    active = λ t e. i.active t (sym (act_same t) ∙ e);
    runs = λ t e. act_same t ∙ i.runs t e;
    writers = record {
      writes = λ t x e. wr_same t (Geometry.page_of x) ∙ i.writers.writes t x (Openness.open_sweep b t x page map e);
      one = λ t u p e d. i.writers.one t u p (sym (wr_same t p) ∙ e) (sym (wr_same u p) ∙ d);
    };
    base = i.base;
    log = log_after n s b i.base i.log h.sized r (line r 0) s' b' appends inv_after (inv_of (machine_after 0)) sound open_after cells_after;
  }

  -- the slots freed were taken in the received pages
  was_taken : (k : ℕ) → k < slot_count → bit map k ≡ true → taken s.received page k ≡ true
  unfolding page_of
  was_taken k l e =
      let x = object_at page k in
      let p : Geometry.page_of x ≡ page = page_of_at page k l in
      let q : slot_of x ≡ k = slot_of_at page k l in
      let d : dead x ≡ true = sym (freed x) ∙ rw (p, q, eq-eqb page page refl) e in
      let u : (t : ℕ) → (locks_of s.work n).wr t (page_of x) ≡ false = λ t. rw p (unwritten t) in
      let c : (view s.copies x).occ ≡ true = Bits.and_r _ _ (Bits.and_l _ _ (Bits.and_l _ _ d)) in
      let f : view s.received x ≡ view s.copies x = sym (full_shown n s b i x) ∙ i.collector.agreed.free_r x u ∙ sym (i.collector.agreed.free_c x u) in
      let o : occupied s.received x ≡ true = sym (view_occ s.received x (omega arith)) ∙ ap (λ (v : Obj). v.occ) f ∙ c in
      rw (p, q) at o

  -- the book's line
  pub lines_fed : sweep_lines s.received s'.received b.lines n ≡ line r 0 ∷ b.lines
  unfolding swept_page appended effect
  lines_fed = sweep_released n s.received h.sized.received_len b.lines page map below small frees was_taken

pub open_sweep : (n : ℕ) → 1 ≤ n → (s : Areas) (b : Book) → OpenInv n s b → Open s n → phase_of (at s.work phase_at) ≡ M.sweeping
    → verdict (sweep_tests s n (sweep_map_of s n)) ≡ Ok tt → (sweep_map_of s n ≡ 0 → ⊥)
    → OpenInv n (sweeping s n).after (fed n b step s.received (sweeping s n).after.received)
unfolding fed freed_map
open_sweep n some s b i h ph check on = by_bool (locked s.work n (at s.work pass_page_at))
    (λ e. absurd (on (rw e refl)))
    (λ e. let z : sweep_map s.copies s.work n (at s.work pass_page_at) ≡ 0 → ⊥ = rw e at on in
    let r : Room s n 1 = (sweep_facts s n (sweep_map_of s n) check).room on in
    rw (e, ne_eqb (sweep_map s.copies s.work n (at s.work pass_page_at)) 0 z, lines_fed n some s b i h ph e z r) (sweep_kept n some s b i h ph e z r))
