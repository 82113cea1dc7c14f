-- An accepted begin keeps the invariant. n is the number of pages. Assumes nothing.
use Prim.Native.Nat.{ℕ, suc, ◌+◌, ◌*◌, ◌≤◌}
use native.Mathlib.Omega.{arith}
use native.Mathlib.Decide.{ℕ_discrete}
use mathlib.Core.Path.{◌≡◌, refl, sym, ap, ◌∙◌}
use mathlib.Core.Bool.{Bool, true, false, not, ◌||◌}
use mathlib.Core.List.{List, [], ◌∷◌}
use mathlib.Core.Logic.{inl, inr}
use lib.ListN.{length}
use lib.Seq.{get_or-set_same}
use lib.Dec.{eqb}
use borrow.Author.Tests.{eqb-true, eqb-false, eq-eqb, ne_eqb}
use Rattle.words.specs.Tests.{by_bool, clash}
use Rattle.words.specs.Bits.{bit_with}
use Rattle.pages.specs.Geometry.{root}
use Rattle.records.specs.Records.{begin_of, record_words, recorded}
use Rattle.records.specs.Effects.{effect}
use Rattle.records.specs.Order.{open_in}
use Rattle.areas.specs.Answers.{accepted}
use Rattle.areas.specs.Areas.{Areas, Out, received_count, with_work, appended}
use Rattle.areas.specs.Tables.{undoes}
use Rattle.calls.specs.Calls.{begin}
use Rattle.calls.specs.Transactions.{call_begin, begun, begun_tables}
use Rattle.acceptance.specs.Entered.{Open, opened}
use Rattle.acceptance.specs.Transactions as Accepted
use Rattle.book.specs.Lines.{Line, line, is_left, filtered}
use Rattle.book.specs.Books.{Book, counts_full}
use Rattle.book.specs.Feeding.{fed, begins, put}
use Rattle.collector.specs.Bits.{◌or◌, or_l, or_r, or_cases}
use Rattle.collector.specs.State.{St, Locks, Tables}
use Rattle.collector.specs.Calls as Calls
use Rattle.collector.specs.Undo.{Stacks, with}
use Rattle.collector.proofs.Worlds.{Deep, inv_of, deep_same}
use Rattle.collector.proofs.Depths.{deep_begin}
use Rattle.machine_view.specs.View.{view}
use Rattle.machine_calls.specs.Tables.{locks_of, tables_of}
use Rattle.machine_calls.proofs.Frames.{reopening_kept}
use Rattle.machine_calls.proofs.Begun.{begin_beside, begin_behind}
use Rattle.machine_calls.proofs.Facts.{act_is, begin_facts}
use Rattle.machine_calls.proofs.Shows.{Shows, begin_shows}
use Rattle.recovery_proof.proofs.Invariant as Recovery
use Rattle.recovery_proof.proofs.Steps.{log_of, log_begin}
use Rattle.book_laws.specs.Seen.{Seen, seen_committed, seen_full}
use Rattle.book_laws.specs.Striking.{entries, Backs}
use Rattle.book_laws.specs.Keeping.{In, Runs, Writers}
use Rattle.book_laws.proofs.Members.{each_cons}
use Rattle.book_laws.proofs.Committed.{filtered_none}
use Rattle.book_laws.proofs.Backing.{backs_none}
use Rattle.record_laws.specs.SoundRecords.{begin_sound}
use Rattle.book_laws.proofs.Feeding.{begin_committed, begin_counts, begin_full}
use Rattle.book_laws.proofs.Invariant.{begin_inv}
use Rattle.book_laws.proofs.Openness as Openness
use Rattle.demand.proofs.State.{machine, received, OpenInv}
use Rattle.demand.proofs.LeftRecords.{left_records}
use Rattle.demand.proofs.Notes.{Notes, NotesStay, undoes_same, marks_same, left_other, left_begun, fresh_more}
use Rattle.demand.proofs.Going.{away_all, backs_past}
use Rattle.demand.proofs.Change.{machine_shows}
use Rattle.demand.proofs.Bound.{Bounding, bound_sound, bound_full, bound_log}

either : (a b : Bool) → (a || b) ≡ (a or b)
unfolding ◌or◌
either true b = refl
either false b = refl

module _ (n : ℕ) (some : 1 ≤ n) (s : Areas) (b : Book) (i : OpenInv n s b) (h : Open s n) (t c : ℕ) (f : Accepted.BeginFacts s n t c) where
  abbrev w : List ℕ
  w = begun_tables s.work n t c

  abbrev s' : Areas
  s' = with_work (appended s (begin_of t)) w

  abbrev b' : Book
  b' = begins b t

  act : (locks_of s.work n).act t ≡ false
  act = act_is s n (machine n s b) (machine_shows n s b) t f.txn ∙ f.inactive

  idle : b.running t ≡ 0
  idle = elim (ℕ_discrete (b.running t) 0) [ yes e ↦ e | no e ↦ clash (i.runs t e) act ]

  committed_same : (x : ℕ) → seen_committed b' x ≡ seen_committed b x
  committed_same x = (begin_committed b i.book t f.txn idle).shows b.origin x

  full_same : (x : ℕ) → seen_full b' x ≡ seen_full b x
  full_same x = begin_full b i.book t f.txn idle x

  -- the collector's state then
  abbrev st : St
  st = Calls.begun (machine n s b) t (suc (suc (length b.lines)))

  shows : Shows w n st
  shows = begin_shows s.work n h.sized.tables.1 (machine n s b) (machine_shows n s b) some t c (suc (suc (length b.lines))) f.txn

  abbrev stack : Stacks
  stack = with i.going.stack t []

  deep_after : Deep (machine n s' b') stack
  unfolding appended
  deep_after = deep_same st (machine n s' b') stack refl
      (λ z. record { cmt = λ x. (committed_same x z).object; rec = λ x. (full_same x z).object; cop = view s.copies })
      (λ z. record { cmt_tag = λ x. (committed_same x z).tag; rec_tag = λ x. (full_same x z).tag; now = suc (suc (length b.lines)) })
      (sym shows.locks) (sym shows.tables) (sym shows.pass)
      (deep_begin t _ (machine n s b) i.going.stack (begin_facts s n (machine n s b) (machine_shows n s b) t c _ f (omega arith)) i.going.deep)

  -- the tables then
  act_after : (u : ℕ) → (locks_of w n).act u ≡ ((locks_of s.work n).act u or eqb u t)
  act_after u = sym (ap (λ (l : Locks). l.act u) shows.locks)

  wr_after : (u p : ℕ) → (locks_of w n).wr u p ≡ (locks_of s.work n).wr u p
  wr_after u p = sym (ap (λ (l : Locks). l.wr u p) shows.locks)

  known_after : (u x : ℕ) → put b.known t (eqb root) u x ≡ true → (tables_of w n).kn u x ≡ true
  known_after u x k = sym (ap (λ (a : Tables). a.kn u x) shows.tables) ∙ by_bool (eqb u t)
      (λ e. rw e (eq-eqb x 1 (sym (eqb-true root x (rw e at k)))))
      (λ e. rw e (i.known u x (rw e at k)))

  active_after : (u : ℕ) → (locks_of w n).act u ≡ true → Runs b' u
  active_after u k = by_bool (eqb u t)
      (λ e. rw e (λ z. omega arith))
      (λ e. rw e (i.active u (elim (or_cases _ _ (sym (act_after u) ∙ k)) [ inl q ↦ q | inr q ↦ clash q e ])))

  runs_after : (u : ℕ) → Runs b' u → (locks_of w n).act u ≡ true
  runs_after u r = act_after u ∙ by_bool (eqb u t)
      (λ e. or_r _ _ e)
      (λ e. or_l _ _ (i.runs u (rw e at r)))

  writers_after : Writers b' (locks_of w n).wr
  writers_after = record {
    writes = λ u x e. wr_after u _ ∙ i.writers.writes u x (Openness.open_begin b i.book t u x e);
    one = λ u v p x y. i.writers.one u v p (sym (wr_after u p) ∙ x) (sym (wr_after v p) ∙ y);
  }

  -- the log then
  bounding : Bounding n s b (begin_of t) (line (begin_of t) (b.begun + 1)) w b'
  unfolding effect
  bounding = record {
    entry = refl;
    origin = refl;
    lines = refl;
    stable = refl;
    room = let q = f.room in omega arith;
    ok = begin_sound n t f.txn;
    order = ap not (i.log.open_ones t f.txn ∙ act);
    still = refl;
    full = λ x. ap (λ (v : Seen). v.object) (full_same x);
    opens = λ u l. bit_with (open_in s.log (received_count s)) t u ∙ ap (λ (z : Bool). z || eqb u t) (i.log.open_ones u l) ∙ either _ _ ∙ sym (act_after u);
  }

  inv_after : Recovery.Inv i.base (log_of (λ x. (seen_full b' x).object) (λ x. (seen_committed b' x).object) (locks_of w n).wr (locks_of w n).act (begin_of t ∷ received s))
  inv_after = Recovery.carried i.base _ _
      (λ x. sym (ap (λ (v : Seen). v.object) (full_same x)))
      (λ x. sym (ap (λ (v : Seen). v.object) (committed_same x)))
      (λ u p. sym (wr_after u p))
      (λ u. sym (act_after u))
      refl
      (log_begin i.base _ _ _ _ (received s) i.log.inv t act)

  -- t has nothing to take back
  none_left : (l : Line) → In l b'.lines → is_left (b.begun + 1) l ≡ false
  none_left = each_cons {P = λ l. is_left (b.begun + 1) l ≡ false} (rw (eq-eqb (b.begun + 1) (b.begun + 1) refl) refl)
      (λ l j. rw (ne_eqb l.owner (b.begun + 1) (λ z. let k = (i.book.lines l j).owned in omega arith)) refl)

  backs_after : (u : ℕ) → Runs b' u → Backs b.origin (counts_full b') (put b.running t (b.begun + 1) u) b'.lines (stack u)
  backs_after u run = by_bool (eqb u t)
      (λ e. rw e (backs_none b.origin (counts_full b') (b.begun + 1) b'.lines none_left))
      (λ e. rw e (backs_past b.origin (counts_full b) (counts_full b') (b.running u) (line (begin_of t) (b.begun + 1)) b.lines (i.going.stack u)
      (rw (ne_eqb (b.begun + 1) (b.running u) (λ z. let k = i.book.young u in omega arith)) refl)
      (λ d. away_all (begin_of t) (i.going.stack u) (λ x. refl))
      (λ l j x d. begin_counts b i.book t f.txn idle l j) (i.going.backs u (rw e at run))))

  behind : NotesStay n s.work w
  behind j l k = let a = f.txn in begin_behind s.work n t some c f.txn j l (λ z. let q = k (omega arith) in omega arith)

  long : record_words * received_count s + record_words ≤ length s.log
  long = let e = h.sized.log_len in let q = f.room in omega arith

  notes_after : Notes n s' b'
  unfolding appended entries filtered
  notes_after = let q = undoes_same n s.work w behind in record {
    left = λ u run. ap (left_records (undoes w n) (recorded s.log (received_count s) (begin_of t)) u) count_more ∙ by_bool (eqb u t)
        (λ e. let ran : put b.running t (b.begun + 1) u ≡ b.begun + 1 = rw e refl in
        let none : left_records (undoes w n) (recorded s.log (received_count s) (begin_of t)) u (received_count s + 1) ≡ [] = rw (eqb-true u t e) (left_begun n s b i.going.notes w (begin_of t) long q t (eq-eqb t t refl)) in
        none ∙ sym (ap entries (filtered_none (is_left (b.begun + 1)) b'.lines none_left)) ∙ ap (λ (j : ℕ). entries (filtered (is_left j) b'.lines)) (sym ran))
        (λ e. let ran : put b.running t (b.begun + 1) u ≡ b.running u = rw e refl in
        let same : entries (filtered (is_left (b.running u)) b'.lines) ≡ entries (filtered (is_left (b.running u)) b.lines) = rw (ne_eqb (b.begun + 1) (b.running u) (λ z. let k = i.book.young u in omega arith)) refl in
        left_other n s b i.going.notes w (begin_of t) long q u (rw e at run) (ne_eqb t u (λ z. eqb-false u t e (sym z))) refl ∙ sym same ∙ ap (λ (j : ℕ). entries (filtered (is_left j) b'.lines)) (sym ran));
    fresh = fresh_more n s b i.going.notes w (begin_of t) long q (received_count s') count_more;
    marks = marks_same n s.work w b.marked behind i.going.notes.marks;
  }
    where
      count_more : received_count s' ≡ received_count s + 1
      count_more = get_or-set_same s.counts 0 (received_count s + 1) 0 (let e = h.sized.counts_len in omega arith)

  begun_inv : OpenInv n s' b'
  unfolding appended
  begun_inv = record {
    size = i.size;
    stage = i.stage;
    word = (reopening_kept (begin_beside s.work n t some c f.txn) n (omega arith)).0 ∙ i.word;
    collector = inv_of (deep_after 0);
    going = record { stack = stack; deep = deep_after; backs = backs_after; notes = notes_after };
    book = begin_inv b i.book t f.txn idle;
    sound = bound_sound n some s b i h _ _ w b' bounding;
    full = bound_full n some s b i h _ _ w b' bounding;
    known = known_after;
    active = active_after;
    runs = runs_after;
    writers = writers_after;
    base = i.base;
    log = bound_log n some s b i h _ _ w b' bounding inv_after (inv_of (deep_after 0));
  }

pub open_begin : (n : ℕ) → 1 ≤ n → (s : Areas) (b : Book) → OpenInv n s b → (t c : ℕ) → accepted (call_begin s t c).answer ≡ true
    → OpenInv n (call_begin s t c).after (fed n b (begin t c) s.received (call_begin s t c).after.received)
unfolding fed begun
open_begin n some s b i t c a =
    let k = (Accepted.begin_outcome s t c).ran a in
    let o = opened true s k.n k.ready in
    let e : k.n ≡ n = sym o.sized.count ∙ i.size in
    let h : Open s n = rw e at o in
    let g : (call_begin s t c).after ≡ begun s n t c = ap (λ (q : Out). q.after) k.gives ∙ ap (λ (m : ℕ). begun s m t c) e in
    rw g (begun_inv n some s b i h t c (rw e at (Accepted.begin_facts s k.n t c k.passed)))
