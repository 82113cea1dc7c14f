-- An accepted commit keeps the invariant. n is the number of pages. Assumes nothing.
use Prim.Native.Nat.{ℕ, suc, ◌≤◌}
use native.Mathlib.Omega.{arith}
use mathlib.Core.Path.{◌≡◌, refl, sym, ap, ◌∙◌}
use mathlib.Core.Bool.{true}
use mathlib.Core.List.{List, [], ◌∷◌}
use lib.ListN.{length}
use Rattle.records.specs.Records.{commit_of}
use Rattle.records.specs.Effects.{effect}
use Rattle.areas.specs.Answers.{accepted}
use Rattle.areas.specs.Areas.{Areas, Out, received_count, with_work, appended}
use Rattle.areas.specs.Tables.{undoes}
use Rattle.calls.specs.Calls.{commit}
use Rattle.calls.specs.Transactions.{call_commit, committed, ended_tables}
use Rattle.acceptance.specs.Entered.{Open, opened}
use Rattle.acceptance.specs.Transactions as Accepted
use Rattle.book.specs.Lines.{line}
use Rattle.book.specs.Books.{Book}
use Rattle.book.specs.Feeding.{fed}
use Rattle.collector.specs.Objects.{page_of}
use Rattle.collector.specs.State.{St, Locks, mix}
use Rattle.collector.specs.Calls as Calls
use Rattle.collector.specs.Undo.{Stacks, with}
use Rattle.collector.proofs.Worlds.{Deep, inv_of, deep_same}
use Rattle.collector.proofs.Depths.{deep_commit}
use Rattle.machine_view.specs.View.{view}
use Rattle.machine_calls.specs.Tables.{locks_of}
use Rattle.machine_calls.proofs.Facts.{act_is, commit_facts}
use Rattle.machine_calls.proofs.Shows.{Shows, commit_shows}
use Rattle.recovery_proof.proofs.Invariant as Recovery
use Rattle.recovery_proof.proofs.Steps.{log_of, log_commit}
use Rattle.book_laws.specs.Seen.{Seen, seen_committed, seen_full}
use Rattle.book_laws.specs.Keeping.{Runs}
use Rattle.book_laws.specs.After.{committed_by}
use Rattle.record_laws.specs.SoundRecords.{commit_sound}
use Rattle.book_laws.proofs.Ending.{commit_all, commit_full, commit_committed}
use Rattle.book_laws.proofs.Finishing.{commit_inv}
use Rattle.book_laws.proofs.Openness as Openness
use Rattle.demand.proofs.State.{machine, received, Going, OpenInv}
use Rattle.demand.proofs.Change.{machine_shows}
use Rattle.demand.proofs.Shared.{picked}
use Rattle.demand.proofs.LeftRecords.{left_same}
use Rattle.demand.proofs.Ending.{EndsBy, end_marks, end_undoes, end_going, end_word, end_opens, end_known, end_active, end_runs, end_writers}
use Rattle.demand.proofs.Bound.{Bounding, bound_sound, bound_full, bound_log}

module _ (n : ℕ) (some : 1 ≤ n) (s : Areas) (b : Book) (i : OpenInv n s b) (h : Open s n) (t : ℕ) (f : Accepted.CommitFacts s n t) where
  abbrev w : List ℕ
  w = ended_tables s.work n t

  abbrev s' : Areas
  s' = with_work (appended s (commit_of t)) w

  abbrev b' : Book
  b' = committed_by b t

  act : (locks_of s.work n).act t ≡ true
  act = act_is s n (machine n s b) (machine_shows n s b) t f.txn ∙ f.active

  run : Runs b t
  run = i.active t act

  full_same : (x : ℕ) → seen_full b' x ≡ seen_full b x
  full_same x = commit_full b i.book t run x

  mixed : (x : ℕ) → ((seen_committed b' x).object ≡ mix (λ o. (locks_of s.work n).wr t (page_of o)) (λ o. (seen_full b o).object) (λ o. (seen_committed b o).object) x)
      × ((seen_committed b' x).tag ≡ mix (λ o. (locks_of s.work n).wr t (page_of o)) (λ o. (seen_full b o).tag) (λ o. (seen_committed b o).tag) x)
  mixed x = picked (locks_of s.work n).wr t (seen_full b) (seen_committed b) x (seen_committed b' x) (commit_committed b i.book (locks_of s.work n).wr i.writers t run x)

  -- the collector's state then
  abbrev st : St
  st = Calls.committed (machine n s b) t (suc (suc (length b.lines)))

  shows : Shows w n st
  shows = commit_shows s.work n h.sized.tables.1 (machine n s b) (machine_shows n s b) t (suc (suc (length b.lines))) f.txn

  abbrev stack : Stacks
  stack = with i.going.stack t []

  deep_after : Deep (machine n s' b') stack
  unfolding appended
  deep_after = deep_same st (machine n s' b') stack refl
      (λ z. record { cmt = λ x. (mixed x).0 z; rec = λ x. (full_same x z).object; cop = view s.copies })
      (λ z. record { cmt_tag = λ x. (mixed x).1 z; rec_tag = λ x. (full_same x z).tag; now = suc (suc (length b.lines)) })
      (sym shows.locks) (sym shows.tables) (sym shows.pass)
      (deep_commit t _ (machine n s b) i.going.stack (commit_facts s n (machine n s b) (machine_shows n s b) t _ f (omega arith)) i.going.deep)

  bounding : Bounding n s b (commit_of t) (line (commit_of t) (b.running t)) w b'
  unfolding effect
  bounding = record {
    entry = refl;
    origin = refl;
    lines = refl;
    stable = refl;
    room = f.room;
    ok = commit_sound n t f.txn;
    order = i.log.open_ones t f.txn ∙ act;
    still = refl;
    full = λ x. ap (λ (v : Seen). v.object) (full_same x);
    opens = end_opens n s b i h.sized.tables.1 t f.txn _ i.log.open_ones;
  }

  inv_after : Recovery.Inv i.base (log_of (λ x. (seen_full b' x).object) (λ x. (seen_committed b' x).object) (locks_of w n).wr (locks_of w n).act (commit_of t ∷ received s))
  inv_after = Recovery.carried i.base _ _
      (λ x. sym (ap (λ (v : Seen). v.object) (full_same x)))
      (λ x. sym (mixed x).0)
      (λ u p. ap (λ (l : Locks). l.wr u p) shows.locks)
      (λ u. ap (λ (l : Locks). l.act u) shows.locks)
      refl
      (log_commit i.base _ _ _ _ (received s) i.log.inv t)

  ends_by : EndsBy n s b i h.sized t (commit_of t) b' w
  ends_by = record {
    quiet = λ x. refl;
    unchanging = refl;
    uncreating = refl;
    unbegun = refl;
    room = f.room;
    origin = refl;
    lines = refl;
    running = refl;
    marked = refl;
    agree = λ l j x d. commit_all b i.book t run l;
    left = λ u r d. left_same (undoes s.work n) (undoes w n) s.log s.log u (received_count s) (λ j l. end_undoes n s.work t f.txn j) (λ j l. refl) ∙ i.going.notes.left u r;
    fresh = λ j l. end_undoes n s.work t f.txn j ∙ i.going.notes.fresh j l;
    marks = end_marks n s.work t f.txn (let e = h.sized.work_len in omega arith) b.marked i.going.notes.marks;
  }

  going_after : Going n s' b'
  unfolding appended
  going_after = end_going n s b i h.sized t (commit_of t) b' w ends_by s' refl refl refl deep_after

  committed_inv : OpenInv n s' b'
  unfolding appended
  committed_inv = record {
    size = i.size;
    stage = i.stage;
    word = end_word n s b i h.sized.tables.1 t f.txn;
    collector = inv_of (deep_after 0);
    going = going_after;
    book = commit_inv b i.book t run;
    sound = bound_sound n some s b i h _ _ w b' bounding;
    full = bound_full n some s b i h _ _ w b' bounding;
    known = end_known n s b i h.sized.tables.1 t f.txn b' refl refl;
    active = end_active n s b i h.sized.tables.1 t f.txn b' refl refl;
    runs = end_runs n s b i h.sized.tables.1 t f.txn b' refl refl;
    writers = end_writers n s b i h.sized.tables.1 t f.txn b' refl refl (Openness.open_commit b i.book t run);
    base = i.base;
    log = bound_log n some s b i h _ _ w b' bounding inv_after (inv_of (deep_after 0));
  }

pub open_commit : (n : ℕ) → 1 ≤ n → (s : Areas) (b : Book) → OpenInv n s b → (t : ℕ) → accepted (call_commit s t).answer ≡ true
    → OpenInv n (call_commit s t).after (fed n b (commit t) s.received (call_commit s t).after.received)
unfolding fed committed
open_commit n some s b i t a =
    let k = (Accepted.commit_outcome s t).ran a in
    let o = opened true s k.n k.ready in
    let e : k.n ≡ n = sym o.sized.count ∙ i.size in
    let h : Open s n = rw e at o in
    let f : Accepted.CommitFacts s n t = rw e at (Accepted.commit_facts s k.n t k.passed) in
    let g : (call_commit s t).after ≡ committed s n t = ap (λ (q : Out). q.after) k.gives ∙ ap (λ (m : ℕ). committed s m t) e in
    rw g (committed_inv n some s b i h t f)
