-- An accepted abort keeps the invariant: all changes left are undone, then t ends. n is the number of pages. Assumes nothing.
use Prim.Native.Nat.{ℕ, suc, ◌+◌, ◌≤◌, ◌<◌}
use native.Mathlib.Omega.{arith}
use mathlib.Core.Path.{◌≡◌, refl, sym, ap, ◌∙◌, subst}
use mathlib.Core.Bool.{Bool, true, false}
use mathlib.Core.List.{List, [], ◌∷◌}
use lib.ListN.{length, take, drop}
use lib.Seq.{take_all}
use borrow.Author.Tests.{ne_eqb}
use Rattle.words.specs.Tests.{by_bool}
use Rattle.words.specs.Bits.{bit}
use Rattle.records.specs.declared.Record.{Record}
use Rattle.records.specs.Records.{txn_count, aborted_of}
use Rattle.records.specs.Effects.{effect}
use Rattle.records.specs.Order.{open_in, open_next}
use Rattle.record_laws.specs.SoundRecords.{aborted_sound}
use Rattle.areas.specs.Answers.{accepted}
use Rattle.areas.specs.Areas.{Areas, Out, received_count, with_work, with_copies, appended}
use Rattle.areas.specs.Layout.{table_words}
use Rattle.areas.specs.Ranges.{records_in}
use Rattle.areas.specs.Tables.{undoes}
use Rattle.areas.specs.Entry.{records}
use Rattle.calls.specs.Calls.{abort}
use Rattle.calls.specs.Transactions.{call_abort, aborted, ended_tables, changes_of, restored}
use Rattle.calls.specs.Marks.{went_back}
use Rattle.acceptance.specs.Entered.{Open, opened}
use Rattle.acceptance.specs.Transactions as Accepted
use Rattle.book.specs.Lines.{line, left, undone_lines, filtered}
use Rattle.book.specs.Books.{Book, counts_full, full_pages, full_lines}
use Rattle.book.specs.Feeding as Feeding
use Rattle.book.specs.Feeding.{fed, goes_back, put}
use Rattle.collector.specs.Objects.{Obj, page_of}
use Rattle.collector.specs.State.{St, Locks, Pass, mix}
use Rattle.collector.specs.Calls as Calls
use Rattle.collector.specs.Undo.{Stacks, with}
use Rattle.collector.proofs.Worlds.{Deep, inv_of, deep_same}
use Rattle.collector.proofs.Depths.{deep_abort}
use Rattle.machine_view.specs.View.{view}
use Rattle.machine_calls.specs.Tables.{locks_of, tables_of, pass_of}
use Rattle.machine_calls.proofs.Ended.{ended_locks, ended_tables_law, ended_pass}
use Rattle.machine_calls.proofs.Facts.{act_is}
use Rattle.recovery_proof.specs.Lines as Log
use Rattle.recovery_proof.specs.Shapes.{shapes}
use Rattle.recovery_proof.proofs.Invariant as Recovery
use Rattle.recovery_proof.proofs.Cells.{same_eq, same_mix, replay_cells}
use Rattle.recovery_proof.proofs.Changes.{changes_left_law}
use Rattle.recovery_proof.proofs.Decided.{SameCells, same_longer}
use Rattle.recovery_proof.proofs.Maps.{Small}
use Rattle.recovery_proof.proofs.Steps.{log_of, log_end}
use Rattle.book_laws.specs.Seen.{Seen, seen_committed, seen_full}
use Rattle.book_laws.specs.Keeping.{Runs, SoundBook}
use Rattle.book_laws.specs.After.{aborted_by}
use Rattle.book_laws.proofs.Members.{each_cons}
use Rattle.book_laws.proofs.Undoing.{left_length}
use Rattle.book_laws.proofs.Committed.{alike_self}
use Rattle.book_laws.proofs.Ending.{abort_committed, abort_agree, abort_full, abort_own}
use Rattle.book_laws.proofs.Finishing.{abort_inv}
use Rattle.book_laws.proofs.GoingBack.{went_left, aborted_book}
use Rattle.book_laws.proofs.Openness as Openness
use Rattle.demand.proofs.State.{machine, received, OpenInv}
use Rattle.demand.proofs.LeftRecords.{records_of, records_left, records_length, left_same}
use Rattle.demand.proofs.Notes.{left_entries}
use Rattle.demand.proofs.Change.{machine_shows, full_shown}
use Rattle.demand.proofs.Shared.{small_after, full_ext}
use Rattle.demand.proofs.OneRecord.{Appends, log_after, length_entries}
use Rattle.demand.proofs.Ending.{EndsBy, end_marks, end_undoes, end_going, end_word, end_opens, end_known, end_active, end_runs, end_writers}
use Rattle.demand.proofs.Restored.{restored_view}
use Rattle.demand.proofs.Went.{Went}
use Rattle.demand.proofs.GoneBack.{rolled_went, went_count, went}

-- the records of the changes left, by the words and by the book
module _ (n : ℕ) (s : Areas) (b : Book) (i : OpenInv n s b) (t : ℕ) (small : t < txn_count) (run : Runs b t) where
  pub words_left : records_of s.log (changes_of s n t) ≡ left_entries b t
  words_left = ap (records_of s.log) (changes_left_law s.log t (undoes s.work n) (received_count s) (i.log.open_ones t small ∙ i.runs t run))
      ∙ records_left (undoes s.work n) s.log t (received_count s) ∙ i.going.notes.left t run

  pub words_count : length (changes_of s n t) ≡ left (b.running t) b.lines
  words_count = sym (records_length s.log (changes_of s n t)) ∙ ap length words_left ∙ length_entries (filtered _ b.lines) ∙ left_length (b.running t) b.lines

module _ (n : ℕ) (some : 1 ≤ n) (s : Areas) (b : Book) (i : OpenInv n s b) (h : Open s n) (t : ℕ) (f : Accepted.AbortFacts s n t) where
  abbrev is : List ℕ
  is = changes_of s n t

  pub run : Runs b t
  run = i.active t (act_is s n (machine n s b) (machine_shows n s b) t f.txn ∙ f.active)

  -- all changes undone
  abbrev s₁ : Areas
  s₁ = went_back s.log is s n t

  abbrev b₁ : Book
  b₁ = goes_back (length is) b t

  pub records_all : records_of s.log is ≡ take (length is) (left_entries b t)
  records_all = words_left n s b i t f.txn run ∙ sym (all_of (left_entries b t) (length is) (sym (ap length (words_left n s b i t f.txn run)) ∙ records_length s.log is))
    where
      all_of : (es : List Record) (k : ℕ) → length es ≡ k → take k es ≡ es
      all_of es k e = take_all k es (omega arith)

  pub gone : Went n t s b s₁ b₁
  gone = went n some t f.txn s.log is s b i h.sized run records_all (let e = words_count n s b i t f.txn run in omega arith) (let r = f.room in omega arith)

  i₁ : OpenInv n s₁ b₁
  i₁ = gone.kept

  pub run₁ : Runs b₁ t
  run₁ z = run (sym (ap (λ (g : ℕ → ℕ). g t) gone.running) ∙ z)

  pub none_left : left (b₁.running t) b₁.lines ≡ 0
  none_left = ap (λ (g : ℕ → ℕ). left (g t) b₁.lines) gone.running
      ∙ (let e = words_count n s b i t f.txn run in let d = went_left (length is) b i.book t run (omega arith) in omega arith)

  -- the end
  abbrev e : Record
  e = aborted_of t

  abbrev w : List ℕ
  w = ended_tables s.work n t

  abbrev c : List ℕ
  c = restored s.work n t s₁.received s.copies n

  abbrev s' : Areas
  s' = with_work (with_copies (appended s₁ e) c) w

  abbrev b' : Book
  b' = aborted_by b₁ t

  abbrev own : ℕ → Bool
  own o = (locks_of s₁.work n).wr t (page_of o)

  abbrev K : ℕ → Obj
  K x = (seen_committed b₁ x).object

  abbrev F : ℕ → Obj
  F x = (seen_full b₁ x).object

  still : effect s₁.received e ≡ s₁.received
  unfolding effect
  still = refl

  committed_same : (x : ℕ) → seen_committed b' x ≡ seen_committed b₁ x
  committed_same x = (abort_committed b₁ i₁.book t run₁).shows b₁.origin x

  full_same : (x : ℕ) → seen_full b' x ≡ seen_full b₁ x
  full_same x = abort_full b₁ i₁.book (locks_of s₁.work n).wr i₁.writers t run₁ none_left x

  -- t's pages are as committed
  as_committed : (x : ℕ) → own x ≡ true → seen_full b₁ x ≡ seen_committed b₁ x
  unfolding page_of
  as_committed x = abort_own b₁ i₁.book (locks_of s₁.work n).wr i₁.writers t run₁ none_left x

  mixed : (x : ℕ) → (seen_full b' x).object ≡ mix own K F x
  mixed x = ap (λ (v : Seen). v.object) (full_same x) ∙ by_bool (own x) (λ d. rw d (ap (λ (v : Seen). v.object) (as_committed x d))) (λ d. rw d refl)

  mixed_tags : (x : ℕ) → (seen_full b' x).tag ≡ mix own (λ o. (seen_committed b₁ o).tag) (λ o. (seen_full b₁ o).tag) x
  mixed_tags x = ap (λ (v : Seen). v.tag) (full_same x) ∙ by_bool (own x) (λ d. rw d (ap (λ (v : Seen). v.tag) (as_committed x d))) (λ d. rw d refl)

  copies_after : (x : ℕ) → view c x ≡ mix own (view s₁.received) (view s₁.copies) x
  copies_after x = restored_view s.work n t s₁.received s.copies gone.sized.received_len h.sized.copies_len f.txn x
      ∙ ap (λ (l : Locks). mix (λ o. l.wr t (page_of o)) (view s₁.received) (view s.copies) x) (sym gone.locks)
      ∙ ap (λ (a : List ℕ). mix own (view s₁.received) (view a) x) (sym gone.copies)

  copied : (x : ℕ) → view c x ≡ mix own K (view s₁.copies) x
  copied x = copies_after x ∙ by_bool (own x)
      (λ d. rw d (sym (full_shown n s₁ b₁ i₁ x) ∙ ap (λ (v : Seen). v.object) (as_committed x d)))
      (λ d. rw d refl)

  -- the collector's state then
  abbrev m : ℕ
  m = suc (suc (length b₁.lines))

  abbrev st : St
  st = Calls.aborted (machine n s₁ b₁) t m

  len : table_words n ≤ length s.work
  len = h.sized.tables.1

  locks : locks_of w n ≡ Calls.unlocked (locks_of s₁.work n) t
  locks = ended_locks s.work n t len ∙ ap (λ (l : Locks). Calls.unlocked l t) (sym gone.locks)

  pass : pass_of w n ≡ pass_of s₁.work n
  pass = ended_pass s.work n t ∙ sym gone.pass

  tables : tables_of w n ≡ Calls.without (tables_of s₁.work n) (pass_of s₁.work n).phase t
  tables = ended_tables_law s.work n t len f.txn ∙ sym (gone.tables (pass_of s.work n).phase)
      ∙ ap (λ (p : Pass). Calls.without (tables_of s₁.work n) p.phase t) (sym gone.pass)

  abbrev stack : Stacks
  stack = with i₁.going.stack t []

  deep_after : Deep (machine n s' b') stack
  deep_after = deep_same st (machine n s' b') stack refl
      (λ j. record { cmt = λ x. (committed_same x j).object; rec = λ x. mixed x j; cop = λ x. copied x j })
      (λ j. record { cmt_tag = λ x. (committed_same x j).tag; rec_tag = λ x. mixed_tags x j; now = m })
      locks tables pass
      (deep_abort t m (machine n s₁ b₁) i₁.going.stack (record { line = omega arith }) i₁.going.deep)

  room₁ : received_count s₁ + 1 ≤ records s₁
  room₁ = let r = f.room in let d : records s₁ ≡ records s = ap records_in gone.size in let k = went_count s.log is n t s (let e = h.sized.counts_len in omega arith) in omega arith

  -- the log's part
  sound_after : SoundBook n b'
  sound_after = record { origin = i₁.sound.origin; lines = each_cons (aborted_sound n t f.txn) i₁.sound.lines }

  appends : Appends n s₁ b₁ e (line e (b₁.running t)) s' b'
  unfolding appended
  appends = record {
    entry = refl;
    log = refl;
    counts = refl;
    stored = refl;
    origin = refl;
    older = b₁.lines;
    lines = refl;
    entries_same = refl;
    alike = λ j. alike_self (drop j b₁.lines);
    stable = refl;
    room = room₁;
    ok = aborted_sound n t f.txn;
    order = i₁.log.open_ones t f.txn ∙ i₁.runs t run₁;
  }

  act_same : (u : ℕ) → (locks_of s₁.work n).act u ≡ (locks_of s.work n).act u
  act_same u = ap (λ (l : Locks). l.act u) gone.locks

  opens_after : (u : ℕ) → u < txn_count → bit (open_next (open_in s₁.log (received_count s₁)) e) u ≡ (locks_of w n).act u
  opens_after = end_opens n s b i len t f.txn (open_in s₁.log (received_count s₁)) (λ u l. i₁.log.open_ones u l ∙ act_same u)

  inv_after : Recovery.Inv i₁.base (log_of (λ x. (seen_full b' x).object) (λ x. (seen_committed b' x).object) (locks_of w n).wr (locks_of w n).act (e ∷ received s₁))
  inv_after = Recovery.carried i₁.base _ _
      (λ x. sym (ap (λ (v : Seen). v.object) (full_same x)))
      (λ x. sym (ap (λ (v : Seen). v.object) (committed_same x)))
      (λ u p. sym (ap (λ (l : Locks). l.wr u p) locks))
      (λ u. sym (ap (λ (l : Locks). l.act u) locks))
      refl
      (log_end i₁.base _ _ _ _ (received s₁) i₁.log.inv t (λ x d. ap (λ (v : Seen). v.object) (as_committed x d)))

  cells_after : SameCells (e ∷ received s₁) (view c) i₁.base
  cells_after = same_longer (e ∷ []) (received s₁) (same_eq (received s₁) (view c) (mix own (view s₁.received) (view s₁.copies)) i₁.base copies_after
      (same_mix (received s₁) own (view s₁.received) (view s₁.copies) i₁.base
      (same_eq (received s₁) (view s₁.received) (λ x. Log.replay i₁.base x (shapes (received s₁))) i₁.base
      (λ x. sym (full_shown n s₁ b₁ i₁ x) ∙ sym (i₁.log.inv.full x))
      (replay_cells (received s₁) i₁.base))
      i₁.log.copies))

  area_small : Small n s₁.received
  unfolding full_lines
  area_small = rw i₁.full (small_after n b₁.origin i₁.sound.origin (counts_full b₁) b₁.lines i₁.sound.lines)

  full_received : s'.received ≡ full_pages b'
  unfolding appended
  full_received = still ∙ full_ext n b' sound_after s₁.received gone.sized.received_len area_small
      (λ x. sym (full_shown n s₁ b₁ i₁ x) ∙ sym (ap (λ (v : Seen). v.object) (full_same x)))

  -- the book that the call is fed
  running_after : b'.running ≡ put b.running t 0
  running_after = ap (λ (g : ℕ → ℕ). put g t 0) gone.running

  known_after : b'.known ≡ put b.known t (λ o. false)
  known_after = rw (words_count n s b i t f.txn run) (ap (λ (d : Book). d.known) (sym (aborted_book t b)))

  ends_by : EndsBy n s₁ b₁ i₁ gone.sized t e b' w
  ends_by = record {
    quiet = λ x. refl;
    unchanging = refl;
    uncreating = refl;
    unbegun = refl;
    room = room₁;
    origin = refl;
    lines = refl;
    running = refl;
    marked = refl;
    agree = λ l j x d. abort_agree b₁ i₁.book (locks_of s₁.work n).wr i₁.writers t run₁ none_left x l j d;
    left = λ u r d. gone.others (undoes w n) u (ne_eqb u t d)
        ∙ left_same (undoes s.work n) (undoes w n) s.log s.log u (received_count s) (λ j l. end_undoes n s.work t f.txn j) (λ j l. refl)
        ∙ i.going.notes.left u (λ y. r (ap (λ (g : ℕ → ℕ). g u) gone.running ∙ y))
        ∙ sym (gone.lines_others u (λ y. r (ap (λ (g : ℕ → ℕ). g u) gone.running ∙ y)) (ne_eqb u t d));
    fresh = λ j l. end_undoes n s.work t f.txn j ∙ i.going.notes.fresh j (let k = gone.longer in omega arith);
    marks = rw gone.marked (end_marks n s.work t f.txn (let d = h.sized.work_len in omega arith) b.marked i.going.notes.marks);
  }

  pub aborted_inv : OpenInv n s' b'
  unfolding appended
  aborted_inv = record {
    size = i₁.size;
    stage = i₁.stage;
    word = end_word n s b i len t f.txn;
    collector = inv_of (deep_after 0);
    going = end_going n s₁ b₁ i₁ gone.sized t e b' w ends_by s' refl refl refl deep_after;
    book = abort_inv b₁ i₁.book t run₁;
    sound = sound_after;
    full = full_received;
    known = end_known n s b i len t f.txn b' running_after known_after;
    active = end_active n s b i len t f.txn b' running_after known_after;
    runs = end_runs n s b i len t f.txn b' running_after known_after;
    writers = end_writers n s b i len t f.txn b' running_after known_after
        (λ u x d. let k = Openness.open_abort b₁ i₁.book t run₁ u x d in (k.0, gone.opens u x k.1));
    base = i₁.base;
    log = log_after n s₁ b₁ i₁.base i₁.log gone.sized e (line e (b₁.running t)) s' b' appends inv_after (inv_of (deep_after 0)) sound_after opens_after cells_after;
  }

  -- the book and the areas that the call leaves
  pub book_same : b' ≡ Feeding.ends (Feeding.adds (Feeding.with_lines b (undone_lines (b.running t) (left (b.running t) b.lines) b.lines)) t e) t
  book_same = ap (λ (k : ℕ). aborted_by (goes_back k b t) t) (words_count n s b i t f.txn run) ∙ sym (aborted_book t b)

  pub areas_same : aborted s n t ≡ s'
  unfolding aborted appended effect
  areas_same = rw (rolled_went s.log is n t s s.work) refl

  aborted_fed : OpenInv n s' (Feeding.ends (Feeding.adds (Feeding.with_lines b (undone_lines (b.running t) (left (b.running t) b.lines) b.lines)) t e) t)
  aborted_fed = subst (λ (d : Book). OpenInv n s' d) book_same aborted_inv

pub open_abort : (n : ℕ) → 1 ≤ n → (s : Areas) (b : Book) → OpenInv n s b → (t : ℕ) → accepted (call_abort s t).answer ≡ true
    → OpenInv n (call_abort s t).after (fed n b (abort t) s.received (call_abort s t).after.received)
unfolding fed
open_abort n some s b i t c =
    let k = (Accepted.abort_outcome s t).ran c in
    let o = opened true s k.n k.ready in
    let e : k.n ≡ n = sym o.sized.count ∙ i.size in
    let h : Open s n = rw e at o in
    let f : Accepted.AbortFacts s n t = rw e at (Accepted.abort_facts s k.n t k.passed) in
    let g : (call_abort s t).after ≡ aborted s n t = ap (λ (q : Out). q.after) k.gives ∙ ap (λ (m : ℕ). aborted s m t) e in
    subst (λ (a : Areas). OpenInv n a (Feeding.ends (Feeding.adds (Feeding.with_lines b (undone_lines (b.running t) (left (b.running t) b.lines) b.lines)) t (aborted_of t)) t)) (sym (g ∙ areas_same n some s b i h t f)) (aborted_fed n some s b i h t f)
