-- The newest change that t has left is undone: the store with the undoing record, and the book with its line, keep the invariant. n is the
-- number of pages. Assumes nothing.
use Prim.Native.Nat.{ℕ, suc, ◌+◌, ◌*◌, ◌≤◌, ◌<◌}
use native.Mathlib.Omega.{arith}
use mathlib.Core.Path.{◌≡◌, refl, sym, ap, ◌∙◌, subst}
use mathlib.Core.Bool.{Bool, true, false, not, ◌||◌}
use mathlib.Core.List.{List, [], ◌∷◌}
use mathlib.Core.Logic.{inl, inr}
use lib.ListN.{length, drop, length-set}
use lib.Seq.{get_or-set_same}
use lib.Dec.{eqb}
use borrow.Author.Tests.{eqb-true, eqb-false, eq-eqb, ne_eqb, not-true}
use Rattle.words.specs.Tests.{if, by_bool, clash, and_split, and_false, or_cases}
use Rattle.words.specs.Bits.{bit}
use Rattle.pages.specs.Geometry as Geometry
use Rattle.pages.specs.Geometry.{object_count, page_words}
use Rattle.pages.specs.Objects.{occupied}
use Rattle.records.specs.declared.Record.{Record}
use Rattle.records.specs.Records.{recorded, record_words, txn_count, is_create, changes_object}
use Rattle.records.specs.Effects.{effect, undoing}
use Rattle.records.specs.Soundness.{record_sound}
use Rattle.records.specs.Order.{open_in, open_next}
use Rattle.record_laws.specs.RecordLaws.{sound_record, recorded_length}
use Rattle.record_laws.specs.SoundRecords.{undoing_sound}
use Rattle.record_laws.specs.EffectLaws.{length_effect}
use Rattle.areas.specs.Areas.{Areas, received_count, with_work, appended}
use Rattle.areas.specs.Layout.{table_words, marked_at, order_at, undoing_at}
use Rattle.areas.specs.Tables.{at, undoes}
use Rattle.areas.specs.Entry.{records}
use Rattle.acceptance.specs.Lengths.{Sized}
use Rattle.calls.specs.Marks.{taken_back}
use Rattle.book.specs.Lines.{Line, line, struck_out, is_left, left, struck_newest, has_commit, newest_creates}
use Rattle.book.specs.Books.{Book, counts_full, full_lines, full_pages}
use Rattle.book.specs.Feeding as Feeding
use Rattle.collector.specs.Bits.{◌and◌, ◌or◌, and_intro}
use Rattle.collector.specs.Objects.{Obj, page_of}
use Rattle.collector.specs.Objects as Collected
use Rattle.collector.specs.State.{Phase, Locks, Tables, St}
use Rattle.collector.specs.Calls as Calls
use Rattle.collector.specs.Calls.{without}
use Rattle.collector.specs.Undo.{Item, Stacks, with, popped}
use Rattle.collector.proofs.Worlds.{Deep, inv_of, deep_same, taken}
use Rattle.collector.proofs.Depths.{deep_later}
use Rattle.machine_view.specs.View.{view, applied, unapplied}
use Rattle.machine_view.proofs.Effects.{view_occ}
use Rattle.machine_view.proofs.Records.{effect_view}
use Rattle.machine_calls.specs.Tables.{locks_of, tables_of}
use Rattle.machine_calls.proofs.Frames.{reopening_kept}
use Rattle.machine_calls.proofs.TakenBack.{back_beside, back_locks, back_tables, back_pass, back_above, back_noted}
use Rattle.machine_calls.proofs.Shows.{Shows, back_shows}
use Rattle.recovery_proof.proofs.Invariant as Recovery
use Rattle.recovery_proof.proofs.Decided.{same_longer}
use Rattle.recovery_proof.proofs.Maps.{Small, small_effect}
use Rattle.recovery_proof.proofs.Reversal.{Change, undoing_names, undoing_object, undoing_was, undoing_back, undoing_order, undoing_open}
use Rattle.recovery_proof.proofs.Shapes.{unnamed}
use Rattle.recovery_proof.proofs.Steps.{log_of, log_change}
use Rattle.book_laws.specs.Seen.{touches, Seen, seen, seen_committed, seen_full}
use Rattle.book_laws.specs.Striking.{undoing_line, Strikes, Backs, past}
use Rattle.book_laws.specs.Keeping.{In, Runs, SoundBook, Writers}
use Rattle.book_laws.proofs.Acts.{picked_object, picked_tag}
use Rattle.book_laws.proofs.Undoing.{struck_not_left, strikes_newest, strikes_length, strikes_entries, Newest, newest, newest_one}
use Rattle.book_laws.proofs.Folds.{seen_agree, seen_out}
use Rattle.book_laws.proofs.Finishing.{undo_lines, undo_inv, newest_txn}
use Rattle.book_laws.proofs.Ends.{left_facts, unended, undoing_kind}
use Rattle.book_laws.proofs.Committed.{Alike, alike_undoing, alike_below}
use Rattle.book_laws.proofs.Backing.{every_map, change_other, shows, Undone, backs_undone, backs_strikes, backs_length, backs_agree}
use Rattle.book_laws.proofs.Openness.{open_intro, open_undo}
use Rattle.book_laws.proofs.Soundness.{undo_sound}
use Rattle.book_laws.proofs.GoneBack.{undo_own, undo_other, undo_committed, undo_counts}
use Rattle.demand.proofs.State.{machine, received, OpenInv}
use Rattle.demand.proofs.LeftRecords.{left_next, left_records, left_append, left_same}
use Rattle.demand.proofs.Notes.{left_entries, Notes}
use Rattle.demand.proofs.Going.{items_own}
use Rattle.demand.proofs.Went.{Went, sized_same}
use Rattle.demand.proofs.OneRecord.{Appends, log_after}
use Rattle.demand.proofs.Change.{machine_shows, full_shown}
use Rattle.demand.proofs.Shared.{small_after, full_ext}

-- the first of some items
split : (us : List Item) (k : ℕ) → length us ≡ suc k → (u : Item) × (r : List Item) × (us ≡ u ∷ r)
split [] k e = absurd (omega arith)
split (u ∷ us) k e = (u, us, refl)

-- an object that is not the one uncreated, and another's
spare : (c y : Bool) → (c ≡ true → y ≡ true → ⊥) → (not c or not (true and y)) ≡ true
unfolding ◌and◌ ◌or◌
spare true true h = absurd (h refl refl)
spare true false h = refl
spare false y h = refl

spare_other : (c y : Bool) → (not c or not (false and y)) ≡ true
unfolding ◌and◌ ◌or◌
spare_other true y = refl
spare_other false y = refl

-- t's own bits do not matter once t has ended
known_gone : (a b c y : Bool) → (not a and (b and (c or not (a and y)))) ≡ (not a and b)
unfolding ◌and◌ ◌or◌
known_gone true b c y = refl
known_gone false true true y = refl
known_gone false true false y = refl
known_gone false false c y = refl

dirty_gone : (a b y : Bool) → (not a and (b or (a and y))) ≡ (not a and b)
unfolding ◌and◌ ◌or◌
dirty_gone true b y = refl
dirty_gone false true y = refl
dirty_gone false false y = refl

-- what an undoing record is to others: nothing
module _ (r : Record) (t : ℕ) (mine : r.txn ≡ t) where
  undoing_own : changes_object (undoing r) t ≡ true
  unfolding undoing
  undoing_own = by_bool (eqb r.kind 2) (λ e. rw (e, mine, eq-eqb t t refl)) (λ e. rw (e, mine, eq-eqb t t refl))

  module _ (u : ℕ) (n : eqb u t ≡ false) where
    away : eqb (undoing r).txn u ≡ false
    away = ne_eqb (undoing r).txn u (λ z. eqb-false u t n (sym z ∙ (undoing_kind r).txn ∙ mine))

    pub left_undoing : (b : Bool) (before : List Record) → left_next b u (undoing r) before ≡ before
    left_undoing b before = rw (
      away,
      and_false (eqb (undoing r).kind 1),
      and_false (eqb (undoing r).kind 2 || eqb (undoing r).kind 3 || eqb (undoing r).kind 6),
      and_false (eqb (undoing r).kind 2 || eqb (undoing r).kind 3),
      and_false b,
    )

module _ (n : ℕ) (some : 1 ≤ n) (s : Areas) (b : Book) (i : OpenInv n s b) (z : Sized s n) (t : ℕ) (run : Runs b t) (small : t < txn_count)
    (k : ℕ) (more : left (b.running t) b.lines ≡ suc k) (room : received_count s + 1 ≤ records s) where
  abbrev j : ℕ
  j = b.running t

  abbrev l : Line
  l = (newest j b.lines k more).0

  abbrev top : Newest j b.lines l
  top = (newest j b.lines k more).1

  abbrev r : Record
  r = l.entry

  abbrev q : Record
  q = undoing r

  abbrev w : List ℕ
  w = taken_back s.work n t (received_count s) r

  abbrev pub s' : Areas
  s' = with_work (appended s q) w

  abbrev pub b' : Book
  b' = Feeding.undoes b t

  -- the item that is taken back
  items : (u : Item) × (us : List Item) × (i.going.stack t ≡ u ∷ us)
  items = split (i.going.stack t) k (backs_length b.origin (counts_full b) j b.lines (i.going.stack t) (i.going.backs t run) ∙ more)

  abbrev u : Item
  u = items.0

  abbrev us : List Item
  us = items.1

  abbrev stack : Stacks
  stack = with i.going.stack t us

  mute : (m : Line) (h : ℕ) → is_left h m ≡ true → counts_full b (struck_out m) ≡ false
  mute m h e = rw (left_facts h m e).unswept refl

  und : Undone b.origin (counts_full b) j b.lines u us
  und = backs_undone b.origin (counts_full b) j (λ m e. mute m j e) b.lines u us (subst (λ (x : List Item). Backs b.origin (counts_full b) j b.lines x) items.2 (i.going.backs t run))

  same_line : und.l ≡ l
  same_line = newest_one j b.lines und.l l und.top top

  object : r.object ≡ u.o
  object = ap (λ (m : Line). m.entry.object) (sym same_line) ∙ und.object

  there : u.was.occ ≡ not (is_create r)
  there = und.there ∙ ap (λ (m : Line). not (is_create m.entry)) same_line

  change : Change r
  change = elim (or_cases (eqb r.kind 2) (eqb r.kind 3) (left_facts j l top.is_left_law).kind) [ inl e ↦ inl (eqb-true r.kind 2 e) | inr e ↦ inr (eqb-true r.kind 3 e) ]

  txn : r.txn ≡ t
  txn = newest_txn b i.book t run k more

  sound_r : record_sound n r ≡ true
  sound_r = i.sound.lines l top.there

  pub ok : record_sound n q ≡ true
  ok = undoing_sound n r sound_r (left_facts j l top.is_left_law).kind

  pub ranged : (1 ≤ r.object) × (r.object ≤ object_count n)
  ranged = let f = sound_record n r sound_r in elim change [ inl e ↦ (let p = f.create e in (omega arith, p.1)) | inr e ↦ f.write e ]

  own : (locks_of s.work n).wr t (Geometry.page_of r.object) ≡ true
  own = i.writers.writes t r.object (open_intro b t r.object run l top.there top.is_left_law refl)

  -- what the book shows
  struck : Strikes j b.lines (struck_newest j b.lines)
  struck = strikes_newest j b.lines

  lines : b'.lines ≡ undoing_line j l ∷ struck_newest j b.lines
  lines = undo_lines b i.book t run k more

  none : has_commit j b.lines ≡ false
  none = unended j b.lines (i.book.unended t run)

  counts : (m : Line) → counts_full b' m ≡ counts_full b m
  counts = undo_counts b i.book t run k more

  new_out : counts_full b (undoing_line j l) ≡ false
  new_out = rw (undoing_kind r).unswept refl

  full_after : (x : ℕ) → seen_full b' x ≡ if (eqb x u.o) (shows u) (seen_full b x)
  full_after x = seen_agree b.origin (counts_full b') (counts_full b) b'.lines x (λ m h e. counts m)
      ∙ ap (λ (ls : List Line). seen b.origin (counts_full b) ls x) lines
      ∙ seen_out b.origin (counts_full b) (undoing_line j l) (struck_newest j b.lines) x new_out
      ∙ und.without x

  committed_same : (x : ℕ) → seen_committed b' x ≡ seen_committed b x
  committed_same = undo_committed b i.book t run k more

  -- the collector's part
  abbrev m : ℕ
  m = suc (length b'.lines)

  pub longer : length b'.lines ≡ suc (length b.lines)
  longer = ap length lines ∙ ap suc (strikes_length j struck)

  abbrev st : St
  st = Calls.dated (popped (machine n s b) t u) m

  tables_len : table_words n ≤ length s.work
  tables_len = z.tables.1

  shown : Shows w n st
  shown = back_shows s.work n tables_len (machine n s b) (machine_shows n s b) t (received_count s) r small ranged.0 ranged.1 u (sym object) there m

  deep_after : Deep (machine n s' b') stack
  unfolding appended
  deep_after = deep_same st (machine n s' b') stack refl
      (λ h. record { cmt = λ x. (committed_same x h).object; rec = λ x. (ap (λ (v : Seen). v.object) (full_after x) ∙ picked_object (eqb x u.o) (shows u) (seen_full b x)) h; cop = view s.copies })
      (λ h. record { cmt_tag = λ x. (committed_same x h).tag; rec_tag = λ x. (ap (λ (v : Seen). v.tag) (full_after x) ∙ picked_tag (eqb x u.o) (shows u) (seen_full b x)) h; now = m })
      (sym shown.locks) (sym shown.tables) (sym shown.pass)
      (deep_later m (popped (machine n s b) t u) stack (let e = longer in omega arith) (taken (machine n s b) i.going.stack t u us items.2 i.going.deep))

  locks : locks_of w n ≡ locks_of s.work n
  locks = back_locks s.work n t (received_count s) r ranged.0 ranged.1

  act_same : (v : ℕ) → (locks_of w n).act v ≡ (locks_of s.work n).act v
  act_same v = ap (λ (a : Locks). a.act v) locks

  wr_same : (v p : ℕ) → (locks_of w n).wr v p ≡ (locks_of s.work n).wr v p
  wr_same v p = ap (λ (a : Locks). a.wr v p) locks

  -- the log's part
  sound_after : SoundBook n b'
  sound_after = record { origin = i.sound.origin; lines = undo_sound n b i.book t run k more i.sound.lines }

  appends : Appends n s b q (undoing_line j l) s' b'
  unfolding appended
  appends = record {
    entry = refl;
    log = refl;
    counts = refl;
    stored = refl;
    origin = refl;
    older = struck_newest j b.lines;
    lines = lines;
    entries_same = strikes_entries j struck;
    alike = alike_below j l none struck;
    stable = refl;
    room = room;
    ok = ok;
    order = undoing_order r (open_in s.log (received_count s)) change (rw txn (i.log.open_ones t small ∙ i.runs t run));
  }

  open_after : (v : ℕ) → v < txn_count → bit (open_next (open_in s.log (received_count s)) q) v ≡ (locks_of w n).act v
  open_after v h = ap (λ (a : ℕ). bit a v) (undoing_open r (open_in s.log (received_count s)) change) ∙ i.log.open_ones v h ∙ sym (act_same v)

  -- the object as the record leaves it, and the others
  fits_r : unapplied r r.object (applied r r.object u.was) ≡ u.was
  fits_r = subst (λ (h : ℕ). unapplied r h (applied r h u.was) ≡ u.was) (sym object)
      (subst (λ (h : Line). unapplied h.entry u.o (applied h.entry u.o u.was) ≡ u.was) same_line und.fits)

  now : (seen_full b r.object).object ≡ applied r r.object u.was
  now = subst (λ (h : ℕ). (seen_full b h).object ≡ applied r h u.was) (sym object)
      (subst (λ (h : Line). (seen_full b u.o).object ≡ applied h.entry u.o u.was) same_line und.shown)

  applied_after : (x : ℕ) → applied q x (seen_full b x).object ≡ (seen_full b' x).object
  applied_after x = by_bool (eqb x u.o)
      (λ e. let d : x ≡ r.object = eqb-true x u.o e ∙ sym object in
      subst (λ (h : ℕ). applied q h (seen_full b h).object ≡ u.was) (sym d) (undoing_was r change u.was (seen_full b r.object).object fits_r now)
      ∙ sym (ap (λ (v : Seen). v.object) (full_after x) ∙ rw e refl))
      (λ e. (unnamed q x (seen_full b x).object (undoing_names r) (ne_eqb q.object x (λ y. eqb-false x u.o e (sym y ∙ undoing_object r ∙ object)))).0
      ∙ sym (ap (λ (v : Seen). v.object) (full_after x) ∙ rw e refl))

  back_q : unapplied q q.object (applied q q.object (seen_full b q.object).object) ≡ (seen_full b q.object).object
  back_q = subst (λ (h : ℕ). unapplied q h (applied q h (seen_full b h).object) ≡ (seen_full b h).object) (sym (undoing_object r))
      (undoing_back r change u.was (seen_full b r.object).object fits_r now)

  inv_after : Recovery.Inv i.base (log_of (λ x. (seen_full b' x).object) (λ x. (seen_committed b' x).object) (locks_of w n).wr (locks_of w n).act (q ∷ received s))
  unfolding page_of
  inv_after = Recovery.carried i.base
      (log_of (λ x. applied q x (seen_full b x).object) (λ x. (seen_committed b x).object) (locks_of s.work n).wr (locks_of s.work n).act (q ∷ received s)) _
      applied_after
      (λ x. sym (ap (λ (v : Seen). v.object) (committed_same x)))
      (λ v p. sym (wr_same v p))
      (λ v. sym (act_same v))
      refl
      (log_change i.base _ _ _ _ (received s) i.log.inv q (undoing_names r) (rw ((undoing_kind r).txn ∙ txn, undoing_object r) own) back_q)

  -- the received pages
  area_len : length s.received ≡ page_words * n
  area_len = z.received_len

  pub area_small : Small n s.received
  unfolding full_lines
  area_small = rw i.full (small_after n b.origin i.sound.origin (counts_full b) b.lines i.sound.lines)

  full_received : s'.received ≡ full_pages b'
  unfolding appended
  full_received = full_ext n b' sound_after (effect s.received q) (length_effect s.received q ∙ area_len) (small_effect n s.received area_len q ok area_small)
      (λ x. effect_view n s.received area_len q ok x ∙ ap (applied q x) (sym (full_shown n s b i x)) ∙ applied_after x)

  -- a set finds its object there
  pub there_then : q.kind ≡ 3 → occupied s.received q.object ≡ true
  unfolding undoing applied Collected.put
  there_then h = by_bool (eqb r.kind 2)
      (λ e. absurd (let z : q.kind ≡ 6 = rw e refl in omega arith))
      (λ e. let set_r : r.kind ≡ 3 = elim change [ inl c ↦ absurd (eqb-false r.kind 2 e c) | inr c ↦ c ] in rw (undoing_object r)
      (sym (view_occ s.received r.object ranged.0) ∙ ap (λ (x : Obj). x.occ) (sym (full_shown n s b i r.object) ∙ now)
      ∙ rw (set_r, eq-eqb r.object r.object refl) (there ∙ rw e refl)))

  -- a cut may leave any part of it
  pub alike_all : Alike b'.lines b.lines
  alike_all = rw lines (alike_undoing j l none struck)

  pub alike_part : (h : ℕ) → Alike (drop (suc h) b'.lines) (drop h b.lines)
  alike_part h = rw lines (alike_below j l none struck h)

  -- what is known
  known_after : (v x : ℕ) → b'.known v x ≡ true → (tables_of w n).kn v x ≡ true
  known_after v x e = ap (λ (a : Tables). a.kn v x) (back_tables s.work n t (received_count s) r ranged.0 ranged.1 tables_len small) ∙ by_bool (eqb v t)
      (λ d. let p = and_split (b.known t x) (not (newest_creates j b.lines x)) (rw d at e) in
      and_intro _ _ (i.known v x (rw (eqb-true v t d) p.0)) (rw d (spare (is_create r) (eqb x r.object)
      (λ c y. clash (top.creates x ∙ rw (c, eq-eqb r.object x (sym (eqb-true x r.object y))) refl) (not-true _ p.1)))))
      (λ d. and_intro _ _ (i.known v x (rw d at e)) (rw d (spare_other (is_create r) (eqb x r.object))))

  -- what can be taken back then
  backs_after : (v : ℕ) → Runs b v → Backs b.origin (counts_full b') (b.running v) b'.lines (stack v)
  backs_after v rv = subst (λ (ls : List Line). Backs b.origin (counts_full b') (b.running v) ls (stack v)) (sym lines)
      (backs_agree b.origin (counts_full b) (counts_full b') (b.running v) (undoing_line j l ∷ struck_newest j b.lines) (stack v) (λ y h x e. counts y)
      (past (struck_not_left (b.running v) (line q j)) (λ e. clash e new_out) (by_bool (eqb v t)
      (λ e. rw (e, eqb-true v t e) und.backs)
      (λ e. rw e (backs_strikes b.origin (counts_full b) (b.running v) j (λ y c d. foreign v rv e y c d) (λ y c. mute y j c) (i.going.stack v) struck
      (λ y h c. every_map (i.going.stack v) (λ x. apart v e y h c x) (items_own n s b i.going i.writers v rv)) (i.going.backs v rv))))))
    where
      foreign : (v : ℕ) → Runs b v → eqb v t ≡ false → (y : Line) → is_left (b.running v) y ≡ true → is_left j y ≡ true → ⊥
      foreign v rv e y c d = eqb-false v t e (i.book.distinct v t rv (sym (left_facts (b.running v) y c).owner ∙ (left_facts j y d).owner))

      apart : (v : ℕ) → eqb v t ≡ false → (y : Line) → In y b.lines → is_left j y ≡ true → (x : ℕ) → (locks_of s.work n).wr v (Geometry.page_of x) ≡ true → touches y.entry x ≡ false
      apart v e y h c x d = change_other j y c x (ne_eqb x y.entry.object (λ f. eqb-false v t e (i.writers.one v t (Geometry.page_of x) d
          (rw f (i.writers.writes t y.entry.object (open_intro b t y.entry.object run y h c refl))))))

  -- the words
  long : record_words * received_count s + record_words ≤ length s.log
  long = let e = z.log_len in omega arith

  pub count_more : received_count s' ≡ received_count s + 1
  unfolding appended
  count_more = get_or-set_same s.counts 0 (received_count s + 1) 0 (let e = z.counts_len in omega arith)

  word_same : (x : ℕ) → table_words n ≤ x → (x ≡ undoing_at n (received_count s) → ⊥) → at w x ≡ at s.work x
  word_same x = back_above s.work n t (received_count s) r ranged.0 ranged.1 x

  undoes_same : (x : ℕ) → (x ≡ received_count s → ⊥) → undoes w n x ≡ undoes s.work n x
  undoes_same x h = ap (λ (c : ℕ). not (eqb c 0)) (word_same (undoing_at n x) (omega arith) (λ e. h (omega arith)))

  noted : undoes w n (received_count s) ≡ true
  noted = ap (λ (c : ℕ). not (eqb c 0)) (back_noted s.work n t (received_count s) r ranged.0 ranged.1 (let e = z.work_len in omega arith))

  pub entries_own : left_entries b' t ≡ drop 1 (left_entries b t)
  entries_own = undo_own b i.book t run k more 0

  pub entries_other : (v : ℕ) → Runs b v → eqb v t ≡ false → left_entries b' v ≡ left_entries b v
  entries_other v rv e = undo_other b i.book t run k more v rv (eqb-false v t e)

  left_own : left_records (undoes w n) (recorded s.log (received_count s) q) t (received_count s + 1) ≡ left_entries b' t
  left_own = left_append (undoes s.work n) (undoes w n) s.log t (received_count s) q long (λ x h. undoes_same x (λ e. omega arith))
      ∙ rw (noted, (undoing_kind r).unbegun, undoing_own r t txn) (ap (drop 1) (i.going.notes.left t run)) ∙ sym entries_own

  -- by any test of what was noted
  pub left_others : (c : ℕ → Bool) (v : ℕ) → eqb v t ≡ false → left_records c s'.log v (received_count s') ≡ left_records c s.log v (received_count s)
  unfolding appended
  left_others c v e = ap (left_records c (recorded s.log (received_count s) q) v) count_more ∙ left_append c c s.log v (received_count s) q long (λ x h. refl)
      ∙ left_undoing r t txn v e (c (received_count s)) (left_records c s.log v (received_count s))

  notes_after : Notes n s' b'
  unfolding appended
  notes_after = record {
    left = λ v rv. by_bool (eqb v t)
        (λ e. rw (eqb-true v t e) (ap (left_records (undoes w n) (recorded s.log (received_count s) q) t) count_more ∙ left_own))
        (λ e. left_others (undoes w n) v e ∙ left_same (undoes s.work n) (undoes w n) s.log s.log v (received_count s) (λ x h. undoes_same x (λ y. omega arith)) (λ x h. refl)
        ∙ i.going.notes.left v rv ∙ sym (entries_other v rv e));
    fresh = λ x h. undoes_same x (λ e. let c = count_more in omega arith) ∙ i.going.notes.fresh x (let c = count_more in omega arith);
    marks = λ v y a c d. word_same (marked_at n v y) (omega arith) (λ e. omega arith)
        ∙ i.going.notes.marks v y a c (λ e. d (word_same (order_at n v y) (omega arith) (λ f. omega arith) ∙ e));
  }

  writers_after : Writers b' (locks_of w n).wr
  writers_after = record {
    writes = λ v x e. wr_same v (Geometry.page_of x) ∙ i.writers.writes v x (open_undo b i.book t run k more v x e);
    one = λ v y p e d. i.writers.one v y p (sym (wr_same v p) ∙ e) (sym (wr_same y p) ∙ d);
  }

  pub undone_kept : OpenInv n s' b'
  unfolding appended
  undone_kept = record {
    size = i.size;
    stage = i.stage;
    word = (reopening_kept (back_beside s.work n t (received_count s) r ranged.0 ranged.1) n (omega arith)).0 ∙ i.word;
    collector = inv_of (deep_after 0);
    going = record { stack = stack; deep = deep_after; backs = backs_after; notes = notes_after };
    book = undo_inv b i.book t run k more;
    sound = sound_after;
    full = full_received;
    known = known_after;
    active = λ v e. i.active v (sym (act_same v) ∙ e);
    runs = λ v e. act_same v ∙ i.runs v e;
    writers = writers_after;
    base = i.base;
    log = log_after n s b i.base i.log z q (undoing_line j l) s' b' appends inv_after (inv_of (deep_after 0)) sound_after open_after (same_longer (q ∷ []) (received s) i.log.copies);
  }

  -- the parts that stay
  tables_once : (ph : Phase) → without (tables_of w n) ph t ≡ without (tables_of s.work n) ph t
  tables_once ph = ap (λ (a : Tables). without a ph t) (back_tables s.work n t (received_count s) r ranged.0 ranged.1 tables_len small)
      ∙ (λ h. record {
        kn = λ v x. known_gone (eqb v t) ((tables_of s.work n).kn v x) (not (is_create r)) (eqb x r.object) h;
        prt = (without (tables_of s.work n) ph t).prt;
        cot = (without (tables_of s.work n) ph t).cot;
        cot_f = (without (tables_of s.work n) ph t).cot_f;
        dirty = λ v p. dirty_gone (eqb v t) ((tables_of s.work n).dirty v p) (eqb p (page_of r.object)) h;
      })

  pub undone_once : Went n t s b s' b'
  unfolding appended
  undone_once = record {
    kept = undone_kept;
    sized = sized_same s s' n refl refl (length_effect s.received q) (recorded_length s.log (received_count s) q) (length-set s.counts 0 (received_count s + 1))
        (back_beside s.work n t (received_count s) r ranged.0 ranged.1).same_length z;
    running = refl;
    marked = refl;
    opens = open_undo b i.book t run k more;
    others = left_others;
    lines_others = entries_other;
    longer = let c = count_more in omega arith;
    locks = locks;
    pass = back_pass s.work n t (received_count s) r ranged.0 ranged.1;
    tables = tables_once;
    marks = λ x h e. word_same x h (λ y. omega arith);
    size = recorded_length s.log (received_count s) q;
    copies = refl;
  }
