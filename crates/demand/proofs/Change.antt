-- A create or a set of a running transaction: the book, the log and the invariant after it. n is the number of pages. Assumes nothing.
use Prim.Native.Nat.{ℕ, suc, ◌+◌, ◌*◌, ◌≤◌, ◌<◌}
use native.Mathlib.Omega.{arith}
use mathlib.Core.Path.{◌≡◌, refl, sym, ap, ◌∙◌}
use mathlib.Core.Bool.{Bool, true, false, not, ◌||◌}
use mathlib.Core.List.{List, [], ◌∷◌}
use mathlib.Core.Logic.{inl, inr}
use lib.ListN.{length, drop}
use lib.Seq.{get_or-set_same}
use lib.Dec.{eqb}
use borrow.Author.Tests.{eqb-true, eqb-false, eq-eqb, ne_eqb}
use Rattle.words.specs.Tests.{if, by_bool, and_false, or_r}
use Rattle.words.specs.Bits.{bit}
use Rattle.pages.specs.Geometry as Geometry
use Rattle.records.specs.declared.Record.{Record}
use Rattle.records.specs.Records.{is_begin, is_create, is_sweep, txn_count, record_words, recorded}
use Rattle.records.specs.Effects.{effect}
use Rattle.records.specs.Soundness.{record_sound, names_object}
use Rattle.records.specs.Order.{open_in, open_next, in_order}
use Rattle.areas.specs.Areas.{Areas, received_count, with_work, appended}
use Rattle.areas.specs.Layout.{unflushed_at, table_words}
use Rattle.areas.specs.Tables.{is_active, undoes}
use Rattle.acceptance.specs.Entered.{Open}
use Rattle.acceptance.specs.Room.{Room}
use Rattle.book.specs.Lines.{Line, line, is_left, filtered, pages_after, has_commit}
use Rattle.book.specs.Books.{Book, runs, full_lines, full_pages, counts_committed, counts_full}
use Rattle.collector.specs.Objects.{Obj, Tag, page_of}
use Rattle.collector.specs.State.{St, Locks}
use Rattle.collector.specs.Undo.{Item, Stacks, push, item_of}
use Rattle.collector.proofs.Worlds.{Deep, inv_of, deep_same}
use Rattle.machine_view.specs.View.{view, applied, unapplied}
use Rattle.machine_calls.specs.Tables.{locks_of, tables_of}
use Rattle.machine_calls.proofs.Frames.{Beside, locks_kept, reopening_kept}
use Rattle.machine_calls.proofs.Facts.{act_is}
use Rattle.machine_calls.proofs.Shows.{Shows}
use Rattle.recovery_proof.proofs.Invariant as Recovery
use Rattle.recovery_proof.proofs.Decided.{SameCells, same_longer}
use Rattle.recovery_proof.proofs.Reversal.{Change, change_kind}
use Rattle.recovery_proof.proofs.Steps.{log_of, log_change}
use Rattle.book_laws.specs.Seen.{touches, Seen, acted, seen_committed, seen_full}
use Rattle.book_laws.specs.Striking.{entries, Backs, here}
use Rattle.book_laws.specs.Keeping.{SoundBook, Runs, BookInv, Writers, openly}
use Rattle.book_laws.proofs.Members.{each_cons}
use Rattle.book_laws.proofs.Folds.{seen_agree}
use Rattle.book_laws.proofs.Backing.{every_map, change_other, backs_agree}
use Rattle.book_laws.proofs.Committed.{filtered_same, alike_self}
use Rattle.book_laws.proofs.Running.{runs_it}
use Rattle.book_laws.proofs.Feeding.{adds_committed, adds_full}
use Rattle.book_laws.proofs.Openness.{open_adds}
use Rattle.book_laws.proofs.Pages.{full_view}
use Rattle.demand.proofs.State.{machine, received, OpenInv}
use Rattle.demand.proofs.LeftRecords.{left_records}
use Rattle.demand.proofs.Notes.{left_entries, Notes, Behind, behind_notes, undoes_same, marks_same, left_other, left_own, fresh_more}
use Rattle.demand.proofs.Going.{items_own, backs_past}
use Rattle.demand.proofs.OneRecord.{Appends, log_after}

-- the machine shows the working words
pub machine_shows : (n : ℕ) (s : Areas) (b : Book) → Shows s.work n (machine n s b)
machine_shows n s b = record { count = refl; locks = refl; tables = refl; pass = refl }

-- the received pages show the full objects
pub full_shown : (n : ℕ) (s : Areas) (b : Book) → OpenInv n s b → (x : ℕ) → (seen_full b x).object ≡ view s.received x
full_shown n s b i x = sym (full_view n b i.sound x) ∙ ap (λ (a : List ℕ). view a x) (sym i.full)

-- what a create and a set are not
record Plain (r : Record) : Type 0 where
  begins : eqb r.kind 1 ≡ false
  commits : eqb r.kind 4 ≡ false
  sweeps : is_sweep r ≡ false
  names : names_object r ≡ true

plain : (r : Record) → Change r → Plain r
plain r (inl k) = record { begins = rw k refl; commits = rw k refl; sweeps = rw k refl; names = rw k refl }
plain r (inr k) = record { begins = rw k refl; commits = rw k refl; sweeps = rw k refl; names = rw k refl }

change_order : (m : ℕ) (r : Record) → Change r → bit m r.txn ≡ true → in_order m r ≡ true
change_order m r (inl k) h = rw k h
change_order m r (inr k) h = rw k h

change_open : (m : ℕ) (r : Record) → Change r → open_next m r ≡ m
change_open m r (inl k) = rw k refl
change_open m r (inr k) = rw k refl

filtered_on : (c : Line → Bool) (l : Line) (ls : List Line) → c l ≡ true → filtered c (l ∷ ls) ≡ l ∷ filtered c ls
unfolding filtered
filtered_on c l ls e = rw e refl

-- the areas after record r, with the working words w; the book after t's record r, with what is known by k
abbrev pub areas_after : Areas → Record → List ℕ → Areas
areas_after s r w = with_work (appended s r) w

abbrev pub book_after : Book → ℕ → Record → (ℕ → ℕ → Bool) → Book
book_after b t r k = record { origin = b.origin; lines = line r (b.running t) ∷ b.lines; stable = b.stable; begun = b.begun; running = b.running; known = k; marked = b.marked; stage = b.stage }

-- t's record r, which can be taken back, on a page that t writes; w: the working words after it
pub record Changing (n : ℕ) (s : Areas) (b : Book) (t : ℕ) (r : Record) (w : List ℕ) : Type 0 where
  pub kind : Change r
  pub txn : r.txn ≡ t
  pub small : t < txn_count
  pub active : is_active s.work t ≡ true
  pub ok : record_sound n r ≡ true
  pub room : Room s n 2
  pub own : (locks_of s.work n).wr t (page_of r.object) ≡ true
  pub back : unapplied r r.object (applied r r.object (seen_full b r.object).object) ≡ (seen_full b r.object).object
  pub there : (seen_full b r.object).object.occ ≡ not (is_create r)
  pub beside : Beside (unflushed_at n 0) (table_words n) s.work w

module _ (n : ℕ) (some : 1 ≤ n) (s : Areas) (b : Book) (i : OpenInv n s b) (h : Open s n) (t : ℕ) (r : Record) (w : List ℕ) (c : Changing n s b t r w) (k : ℕ → ℕ → Bool) where
  abbrev s' : Areas
  s' = areas_after s r w

  abbrev b' : Book
  b' = book_after b t r k

  is : Plain r
  is = plain r c.kind

  act : (locks_of s.work n).act t ≡ true
  act = act_is s n (machine n s b) (machine_shows n s b) t c.small ∙ c.active

  pub change_runs : Runs b t
  change_runs = i.active t act

  locks : locks_of w n ≡ locks_of s.work n
  locks = locks_kept c.beside n (inr (omega arith))

  act_same : (u : ℕ) → (locks_of w n).act u ≡ (locks_of s.work n).act u
  act_same u = ap (λ (a : Locks). a.act u) locks

  wr_same : (u p : ℕ) → (locks_of w n).wr u p ≡ (locks_of s.work n).wr u p
  wr_same u p = ap (λ (a : Locks). a.wr u p) locks

  -- what the book shows
  committed_same : (x : ℕ) → seen_committed b' x ≡ seen_committed b x
  committed_same x = (adds_committed b i.book t change_runs r is.commits is.sweeps).shows b.origin x

  full_after : (x : ℕ) → seen_full b' x ≡ acted (suc (length b.lines)) r x (seen_full b x)
  unfolding runs
  full_after x = adds_full b i.book t change_runs r is.commits is.sweeps x

  counts : (l : Line) → counts_full b' l ≡ counts_full b l
  unfolding runs has_commit
  counts l = rw is.commits

  new_counts : counts_full b' (line r (b.running t)) ≡ true
  unfolding runs
  new_counts = or_r (counts_committed b' (line r (b.running t))) (runs b' (b.running t)) (runs_it b i.book t change_runs)

  full_lines_law : full_lines b' ≡ line r (b.running t) ∷ full_lines b
  unfolding full_lines
  full_lines_law = filtered_on (counts_full b') (line r (b.running t)) b.lines new_counts
      ∙ ap (λ (ls : List Line). line r (b.running t) ∷ ls) (filtered_same (counts_full b') (counts_full b) b.lines (λ l j. counts l))

  received_shown : s'.received ≡ full_pages b'
  unfolding appended pages_after
  received_shown = ap (λ (a : List ℕ). effect a r) i.full ∙ sym (ap (pages_after b.origin) full_lines_law)

  sound_after : SoundBook n b'
  sound_after = record { origin = i.sound.origin; lines = each_cons c.ok i.sound.lines }

  -- the collector's part: st shows the words, and these objects with their lines
  pub collector_after : (us : Stacks) (st : St) → Shows w n st → Deep st us → (F : ℕ → Obj) (G : ℕ → Tag)
      → st.pages ≡ record { cmt = λ x. (seen_committed b x).object; rec = F; cop = view s.copies }
      → st.tags ≡ record { cmt_tag = λ x. (seen_committed b x).tag; rec_tag = G; now = suc (suc (length b.lines)) }
      → ((x : ℕ) → acted (suc (length b.lines)) r x (seen_full b x) ≡ record { object = F x; tag = G x })
      → Deep (machine n s' b') us
  unfolding appended
  collector_after us st e j F G p q d = deep_same st (machine n s' b') us (sym e.count) (objects ∙ sym p) (tags ∙ sym q) (sym e.locks) (sym e.tables) (sym e.pass) j
    where
      sees : (x : ℕ) → seen_full b' x ≡ record { object = F x; tag = G x }
      sees x = full_after x ∙ d x

      objects : (machine n s' b').pages ≡ record { cmt = λ x. (seen_committed b x).object; rec = F; cop = view s.copies }
      objects = λ z. record { cmt = λ x. (committed_same x z).object; rec = λ x. (sees x z).object; cop = view s.copies }

      tags : (machine n s' b').tags ≡ record { cmt_tag = λ x. (seen_committed b x).tag; rec_tag = G; now = suc (suc (length b.lines)) }
      tags = λ z. record { cmt_tag = λ x. (committed_same x z).tag; rec_tag = λ x. (sees x z).tag; now = suc (suc (length b.lines)) }

  -- the log's part
  order : in_order (open_in s.log (received_count s)) r ≡ true
  order = change_order (open_in s.log (received_count s)) r c.kind (rw c.txn (i.log.open_ones t c.small ∙ act))

  appends : Appends n s b r (line r (b.running t)) s' b'
  unfolding appended
  appends = record {
    entry = refl;
    log = refl;
    counts = refl;
    stored = refl;
    origin = refl;
    older = b.lines;
    lines = refl;
    entries_same = refl;
    alike = λ j. alike_self (drop j b.lines);
    stable = refl;
    room = let q = c.room in omega arith;
    ok = c.ok;
    order = order;
  }

  open_after : (u : ℕ) → u < txn_count → bit (open_next (open_in s.log (received_count s)) r) u ≡ (locks_of w n).act u
  open_after u l = ap (λ (m : ℕ). bit m u) (change_open (open_in s.log (received_count s)) r c.kind) ∙ i.log.open_ones u l ∙ sym (act_same u)

  inv_after : Recovery.Inv i.base (log_of (λ x. (seen_full b' x).object) (λ x. (seen_committed b' x).object) (locks_of w n).wr (locks_of w n).act (r ∷ received s))
  inv_after = Recovery.carried i.base
      (log_of (λ x. applied r x (seen_full b x).object) (λ x. (seen_committed b x).object) (locks_of s.work n).wr (locks_of s.work n).act (r ∷ received s)) _
      (λ x. sym (ap (λ (v : Seen). v.object) (full_after x)))
      (λ x. sym (ap (λ (v : Seen). v.object) (committed_same x)))
      (λ u p. sym (wr_same u p))
      (λ u. sym (act_same u))
      refl
      (log_change i.base _ _ _ _ (received s) i.log.inv r is.names (rw c.txn c.own) c.back)

  copies_after : SameCells (r ∷ received s) (view s.copies) i.base
  copies_after = same_longer (r ∷ []) (received s) i.log.copies

  writers_after : Writers b' (locks_of w n).wr
  unfolding openly page_of
  writers_after = record {
    writes = λ u x e. wr_same u (Geometry.page_of x) ∙ elim (open_adds b i.book t change_runs r u x e) [
      | inl o ↦ i.writers.writes u x o
      | inr o ↦ rw (o.0, ← o.2) c.own
    ];
    one = λ u v p e d. i.writers.one u v p (sym (wr_same u p) ∙ e) (sym (wr_same v p) ∙ d);
  }

  -- what can be taken back then: the object as it was, and what could before
  abbrev item : Item
  item = item_of (machine n s b) r.object

  abbrev stack : Stacks
  stack = push i.going.stack t item

  left_line : is_left (b.running t) (line r (b.running t)) ≡ true
  left_line = rw (eq-eqb (b.running t) (b.running t) refl) (change_kind r c.kind)

  -- of another
  foreign : (u : ℕ) → Runs b u → eqb u t ≡ false → is_left (b.running u) (line r (b.running t)) ≡ false
  foreign u run e = rw (ne_eqb (b.running t) (b.running u) (λ z. eqb-false u t e (sym (i.book.distinct t u change_runs z))))

  apart : (u x : ℕ) → eqb u t ≡ false → (locks_of s.work n).wr u (Geometry.page_of x) ≡ true → touches r x ≡ false
  unfolding page_of
  apart u x e w = change_other (b.running t) (line r (b.running t)) left_line x
      (ne_eqb x r.object (λ z. eqb-false u t e (i.writers.one u t (Geometry.page_of x) w (rw z c.own))))

  backs_after : (u : ℕ) → Runs b' u → Backs b.origin (counts_full b') (b.running u) (line r (b.running t) ∷ b.lines) (stack u)
  backs_after u run = by_bool (eqb u t)
      (λ e. rw (e, eqb-true u t e) (here left_line new_counts
      (record {
        object = refl;
        was = seen_agree b.origin (counts_full b') (counts_full b) b.lines r.object (λ l j d. counts l);
        fits = c.back;
        there = c.there;
      })
      (backs_agree b.origin (counts_full b) (counts_full b') (b.running t) b.lines (i.going.stack t) (λ l j x d. counts l) (i.going.backs t change_runs))))
      (λ e. rw e (backs_past b.origin (counts_full b) (counts_full b') (b.running u) (line r (b.running t)) b.lines (i.going.stack u) (foreign u run e)
      (λ d. every_map (i.going.stack u) (λ x. apart u x e) (items_own n s b i.going i.writers u run))
      (λ l j x d. counts l) (i.going.backs u run)))

  long : record_words * received_count s + record_words ≤ length s.log
  long = let e = h.sized.log_len in let q = c.room in omega arith

  behind : Behind n s.work w
  behind j l = c.beside.above j l

  entries_more : (u : ℕ) → left_entries b' u ≡ if (is_left (b.running u) (line r (b.running t))) (r ∷ left_entries b u) (left_entries b u)
  unfolding filtered entries
  entries_more u = by_bool (is_left (b.running u) (line r (b.running t))) (λ e. rw e) (λ e. rw e)

  unbegun : (u : ℕ) → is_begin r u ≡ false
  unbegun u = rw is.begins

  notes_after : Notes n s' b'
  unfolding appended
  notes_after = let q = undoes_same n s.work w (behind_notes n s.work w behind) in record {
    left = λ u run. ap (left_records (undoes w n) (recorded s.log (received_count s) r) u) count_more ∙ by_bool (eqb u t)
        (λ e. rw (eqb-true u t e) (left_own n s b i.going.notes w r long q t change_runs (unbegun t) (rw (change_kind r c.kind, eq-eqb r.txn t c.txn))
        ∙ sym (entries_more t ∙ rw left_line)))
        (λ e. left_other n s b i.going.notes w r long q u run (unbegun u) (rw (ne_eqb r.txn u (λ z. eqb-false u t e (sym z ∙ c.txn)), and_false (eqb r.kind 2 || eqb r.kind 3)))
        ∙ sym (entries_more u ∙ rw (foreign u run e)));
    fresh = fresh_more n s b i.going.notes w r long q (received_count s') count_more;
    marks = marks_same n s.work w b.marked (behind_notes n s.work w behind) i.going.notes.marks;
  }
    where
      count_more : received_count s' ≡ received_count s + 1
      count_more = get_or-set_same s.counts 0 (received_count s + 1) 0 (let e = h.sized.counts_len in omega arith)

  pub open_change : Deep (machine n s' b') stack → BookInv b' → ((u x : ℕ) → k u x ≡ true → (tables_of w n).kn u x ≡ true) → OpenInv n s' b'
  unfolding appended
  open_change d q known = let m = inv_of (d 0) in record {
    size = i.size;
    stage = i.stage;
    word = (reopening_kept c.beside n (omega arith)).0 ∙ i.word;
    collector = m;
    going = record { stack = stack; deep = d; backs = backs_after; notes = notes_after };
    book = q;
    sound = sound_after;
    full = received_shown;
    known = known;
    active = λ u e. i.active u (sym (act_same u) ∙ e);
    runs = λ u e. act_same u ∙ i.runs u e;
    writers = writers_after;
    base = i.base;
    log = log_after n s b i.base i.log h.sized r (line r (b.running t)) s' b' appends inv_after m sound_after open_after copies_after;
  }
