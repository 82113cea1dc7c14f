-- An accepted mark and an accepted going back keep the invariant. n is the number of pages. Assumes nothing.
use Prim.Native.Nat.{ℕ, zero, suc, ◌+◌, ◌*◌, ◌-◌, ◌≤◌, ◌<◌}
use native.Mathlib.Omega.{arith}
use native.Mathlib.Decide.{ℕ_discrete}
use mathlib.Core.Path.{◌≡◌, refl, sym, ap, ◌∙◌, subst}
use mathlib.Core.Bool.{true, not}
use mathlib.Core.List.{List}
use mathlib.Core.Logic.{inr}
use lib.ListN.{length, set, take, length-set}
use lib.Seq.{get_or-set_same, get_or-set_other, length-take-le}
use lib.Dec.{eqb, ltb}
use borrow.Author.Tests.{eq-eqb, ne_eqb, le-ltb}
use Rattle.words.specs.Tests.{by_bool, and_false}
use Rattle.words.specs.Spans.{over, over_inside, over_outside}
use Rattle.records.specs.Records.{txn_count}
use Rattle.areas.specs.Answers.{accepted}
use Rattle.areas.specs.Areas.{Areas, Out, received_count, with_work}
use Rattle.areas.specs.Layout.{reopening_at, table_words, mark_count, marked_at, order_from, order_at, clients_from, undoing_at, undoing_from}
use Rattle.areas.specs.Tables.{at, undoes}
use Rattle.calls.specs.Calls.{mark, back}
use Rattle.calls.specs.Transactions.{changes_of}
use Rattle.calls.specs.Marks.{order_of, moved_up, others_set, set_last, mark_set, call_mark, since_mark, went_back, dropped, back_to, call_back}
use Rattle.acceptance.specs.Entered.{Open, opened}
use Rattle.acceptance.specs.Marks as Accepted
use Rattle.book.specs.Lines.{left}
use Rattle.book.specs.Books.{Book, runs}
use Rattle.book.specs.Feeding.{marks, goes_back, fed}
use Rattle.collector.specs.State.{Tables}
use Rattle.machine_calls.proofs.Frames.{Beside, beside_set, beside_back, wider, later, locks_kept, tables_kept, pass_kept}
use Rattle.machine_calls.proofs.Facts.{act_is}
use Rattle.machine_calls.proofs.TakenBack.{set_last_beside, dropped_beside}
use Rattle.book_laws.specs.Keeping.{Runs}
use Rattle.book_laws.proofs.Invariant.{mark_inv}
use Rattle.demand.proofs.State.{machine, OpenInv}
use Rattle.demand.proofs.LeftRecords.{records_of, records_take, left_same}
use Rattle.demand.proofs.Notes.{left_entries}
use Rattle.demand.proofs.NoRecord.{log_quiet}
use Rattle.demand.proofs.Change.{machine_shows}
use Rattle.demand.proofs.Unlogged.{open_unlocked, open_noted}
use Rattle.demand.proofs.Went.{Went}
use Rattle.demand.proofs.GoneBack.{went}
use Rattle.demand.proofs.Abort.{words_left, words_count}

-- words of marks alone change: the tables show the same, and so do the undoing words
module _ (n : ℕ) (s : Areas) (b : Book) (i : OpenInv n s b) (w : List ℕ) (e : Beside (table_words n) (undoing_from n) s.work w) where
  undoes_kept : (j : ℕ) → undoes w n j ≡ undoes s.work n j
  undoes_kept j = ap (λ (k : ℕ). not (eqb k 0)) (e.above (undoing_at n j) (omega arith))

  pub marks_kept : ((t m : ℕ) → t < txn_count → m < mark_count → (order_of w n t m ≡ 0 → ⊥) → at w (marked_at n t m) ≡ b.marked t m) → OpenInv n (with_work s w) b
  marks_kept h = open_unlocked n s b i s.copies w (machine n s b)
      (record {
        shows = record {
          count = refl;
          locks = sym (locks_kept e n (inr (omega arith)));
          tables = sym (tables_kept e n (inr (omega arith)));
          pass = sym (pass_kept e n (inr (omega arith)) (inr (omega arith)));
        };
        keeps = i.going.deep;
        pages = refl;
        tags = refl;
        word = e.below reopening_at (omega arith);
        knows = λ t x k. ap (λ (a : Tables). a.kn t x) (tables_kept e n (inr (omega arith))) ∙ k;
        cells = i.log.copies;
        notes = record {
          left = λ t r. left_same (undoes s.work n) (undoes w n) s.log s.log t (received_count s) (λ j l. undoes_kept j) (λ j l. refl) ∙ i.going.notes.left t r;
          fresh = λ j l. undoes_kept j ∙ i.going.notes.fresh j l;
          marks = h;
        };
      })
      (locks_kept e n (inr (omega arith)))

-- the book keeps another number for a mark, as the words do
remarked : (n : ℕ) (s : Areas) (b : Book) (i : OpenInv n s b) (t m : ℕ)
    → ((u k : ℕ) → u < txn_count → k < mark_count → (order_of s.work n u k ≡ 0 → ⊥) → at s.work (marked_at n u k) ≡ (marks b t m).marked u k) → OpenInv n s (marks b t m)
unfolding runs
remarked n s b i t m h = open_noted n s b i s.stored s.counts b.stable b.known (marks b t m).marked refl (mark_inv b i.book t m) i.known
    (record { left = i.going.notes.left; fresh = i.going.notes.fresh; marks = h })
    i.base (log_quiet n s b i.base i.log s (marks b t m) (record { log = refl; counts = refl; stored = refl; origin = refl; lines = refl; stable_lines = refl; running = refl })
    i.log.inv (λ u. refl) i.log.copies)

-- places of marks
same_place : (u k t m : ℕ) → k < mark_count → m < mark_count → mark_count * u + k ≡ mark_count * t + m → (u ≡ t) × (k ≡ m)
same_place u k t m a b e = (omega arith, omega arith)

-- setting a mark leaves other marks that are not set
module _ (w : List ℕ) (n t m v : ℕ) (small : t < txn_count) (mark : m < mark_count) (len : undoing_from n ≤ length w) where
  abbrev after : List ℕ
  after = set (set_last w n t m) (marked_at n t m) v

  first : Beside (order_from n) (clients_from n) w (set_last w n t m)
  first = set_last_beside w n t m small mark

  pub mark_beside : Beside (table_words n) (clients_from n) w after
  mark_beside = later (wider first (omega arith) (omega arith)) (wider (beside_set (set_last w n t m) (marked_at n t m) v) (omega arith) (omega arith))

  pub mark_number : at after (marked_at n t m) ≡ v
  mark_number = get_or-set_same (set_last w n t m) (marked_at n t m) v 0 (let e = first.same_length in omega arith)

  pub other_number : (u k : ℕ) → u < txn_count → k < mark_count → ((u ≡ t) × (k ≡ m) → ⊥) → at after (marked_at n u k) ≡ at w (marked_at n u k)
  other_number u k a b h = get_or-set_other (set_last w n t m) (marked_at n t m) (marked_at n u k) v 0 (λ e. h (same_place u k t m b mark (omega arith)))
      ∙ first.below (marked_at n u k) (omega arith)

  moved_none : (a : ℕ) → moved_up a 0 ≡ 0
  moved_none a = rw (le-ltb a 0 (omega arith), and_false (not (eqb a 0)))

  pub other_unset : (u k : ℕ) → u < txn_count → k < mark_count → ((u ≡ t) × (k ≡ m) → ⊥) → order_of w n u k ≡ 0 → order_of after n u k ≡ 0
  unfolding set_last
  other_unset u k a b h z =
      let c = over (moved_up (order_of w n t m)) w (order_at n t 0) mark_count in
      get_or-set_other (set_last w n t m) (marked_at n t m) (order_at n u k) v 0 (λ e. omega arith)
      ∙ get_or-set_other c (order_at n t m) (order_at n u k) (others_set w n t m + 1) 0 (λ e. h (same_place u k t m b mark (omega arith)))
      ∙ elim (ℕ_discrete u t) [
        | yes e ↦ (let p : order_at n t 0 + k ≡ order_at n u k = omega arith in
            subst (λ (j : ℕ). at c j ≡ 0) p (over_inside (moved_up (order_of w n t m)) w (order_at n t 0) mark_count k (omega arith) b
            ∙ ap (moved_up (order_of w n t m)) (subst (λ (j : ℕ). at w j ≡ 0) (sym p) z) ∙ moved_none (order_of w n t m)))
        | no e ↦ over_outside (moved_up (order_of w n t m)) w (order_at n t 0) mark_count (order_at n u k) 0 (λ j l y. e (omega arith)) ∙ z
      ]

-- t's mark j dropped from the words v; another that is still set is as it was
module _ (v : List ℕ) (n t j : ℕ) (x : t < txn_count) (l : j < mark_count) (len : undoing_from n ≤ length v) where
  abbrev unmarked : List ℕ
  unmarked = set (set v (marked_at n t j) 0) (order_at n t j) 0

  unmarked_others : (u m : ℕ) → u < txn_count → m < mark_count → (order_of unmarked n u m ≡ 0 → ⊥)
      → (at unmarked (marked_at n u m) ≡ at v (marked_at n u m)) × (order_of unmarked n u m ≡ order_of v n u m)
  unmarked_others u m y c q = (
    get_or-set_other (set v (marked_at n t j) 0) (order_at n t j) (marked_at n u m) 0 0 (λ k. omega arith) ∙ get_or-set_other v (marked_at n t j) (marked_at n u m) 0 0 (λ k. apart (omega arith)),
    get_or-set_other (set v (marked_at n t j) 0) (order_at n t j) (order_at n u m) 0 0 (λ k. apart (omega arith)) ∙ get_or-set_other v (marked_at n t j) (order_at n u m) 0 0 (λ k. omega arith),
  )
    where
      apart : mark_count * u + m ≡ mark_count * t + j → ⊥
      apart k = let p : order_at n u m ≡ order_at n t j = omega arith in
          q (ap (at unmarked) p ∙ get_or-set_same (set v (marked_at n t j) 0) (order_at n t j) 0 0 (let e = length-set v (marked_at n t j) 0 in omega arith))

-- a mark that is still set after later ones were dropped is as it was
dropped_marks : (w : List ℕ) (n t a : ℕ) (j u m : ℕ) → t < txn_count → u < txn_count → m < mark_count → j ≤ mark_count → undoing_from n ≤ length w → (order_of (dropped w n t a j) n u m ≡ 0 → ⊥)
    → (at (dropped w n t a j) (marked_at n u m) ≡ at w (marked_at n u m)) × (order_of (dropped w n t a j) n u m ≡ order_of w n u m)
unfolding dropped
dropped_marks w n t a zero u m x y c l len h = (refl, refl)
dropped_marks w n t a (suc j) u m x y c l len h = let v = dropped w n t a j in by_bool (ltb a (order_of v n t j))
    (λ e. rw e (let q : order_of (set (set v (marked_at n t j) 0) (order_at n t j) 0) n u m ≡ 0 → ⊥ = rw e at h in
    let k = unmarked_others v n t j x (omega arith) (let z = (dropped_beside w n t a j x (omega arith)).same_length in omega arith) u m y c q in
    let r = dropped_marks w n t a j u m x y c (omega arith) len (λ z. q (k.1 ∙ z)) in (k.0 ∙ r.0, k.1 ∙ r.1)))
    (λ e. rw e (dropped_marks w n t a j u m x y c (omega arith) len (rw e at h)))

-- mark
module _ (n : ℕ) (some : 1 ≤ n) (s : Areas) (b : Book) (i : OpenInv n s b) (h : Open s n) (t m : ℕ) (f : Accepted.MarkFacts s t m) where
  run : Runs b t
  run = i.active t (act_is s n (machine n s b) (machine_shows n s b) t f.txn ∙ f.active)

  abbrev v : ℕ
  v = length (changes_of s n t)

  abbrev w : List ℕ
  w = set (set_last s.work n t m) (marked_at n t m) v

  len : undoing_from n ≤ length s.work
  len = let e = h.sized.work_len in omega arith

  numbers : (u k : ℕ) → u < txn_count → k < mark_count → (order_of w n u k ≡ 0 → ⊥) → at w (marked_at n u k) ≡ (marks b t m).marked u k
  numbers u k a c z = elim (ℕ_discrete u t) [
    | yes e ↦ elim (ℕ_discrete k m) [
      | yes d ↦ rw (e, d, eq-eqb t t refl, eq-eqb m m refl) (mark_number s.work n t m v f.txn f.mark len ∙ words_count n s b i t f.txn run)
      | no d ↦ rw (e, eq-eqb t t refl, ne_eqb k m d) (old t k f.txn c (λ p. d p.1) (rw e at z))
    ]
    | no e ↦ rw (ne_eqb u t e) (old u k a c (λ p. e p.0) z)
  ]
    where
      old : (u k : ℕ) → u < txn_count → k < mark_count → ((u ≡ t) × (k ≡ m) → ⊥) → (order_of w n u k ≡ 0 → ⊥) → at w (marked_at n u k) ≡ b.marked u k
      old u k a c d z = other_number s.work n t m v f.txn f.mark len u k a c d
          ∙ i.going.notes.marks u k a c (λ e. z (other_unset s.work n t m v f.txn f.mark len u k a c d e))

  -- the mark unset, then the book's number, then the words
  abbrev w₀ : List ℕ
  w₀ = set s.work (order_at n t m) 0

  unset : Beside (table_words n) (undoing_from n) s.work w₀
  unset = let a = f.txn in let c = f.mark in wider (beside_set s.work (order_at n t m) 0) (omega arith) (omega arith)

  unset_others : (u k : ℕ) → u < txn_count → k < mark_count → (order_of w₀ n u k ≡ 0 → ⊥) → ((u ≡ t) × (k ≡ m) → ⊥) × (at w₀ (marked_at n u k) ≡ b.marked u k)
  unset_others u k a c z = let p = apart in (
    p,
    get_or-set_other s.work (order_at n t m) (marked_at n u k) 0 0 (λ e. omega arith)
        ∙ i.going.notes.marks u k a c (λ e. z (get_or-set_other s.work (order_at n t m) (order_at n u k) 0 0 (λ y. p (same_place u k t m c f.mark (omega arith))) ∙ e)),
  )
    where
      apart : (u ≡ t) × (k ≡ m) → ⊥
      apart p = z (ap (at w₀) (place p) ∙ get_or-set_same s.work (order_at n t m) 0 0 (let e = len in let a = f.txn in let d = f.mark in omega arith))
        where
          place : (u ≡ t) × (k ≡ m) → order_at n u k ≡ order_at n t m
          place p = rw (p.0, p.1)

  i₀ : OpenInv n (with_work s w₀) b
  i₀ = marks_kept n s b i w₀ unset (λ u k a c z. (unset_others u k a c z).1)

  i₁ : OpenInv n (with_work s w₀) (marks b t m)
  i₁ = remarked n (with_work s w₀) b i₀ t m (λ u k a c z. let p = unset_others u k a c z in p.1 ∙ sym (kept_number u k p.0))
    where
      kept_number : (u k : ℕ) → ((u ≡ t) × (k ≡ m) → ⊥) → (marks b t m).marked u k ≡ b.marked u k
      kept_number u k p = elim (ℕ_discrete u t) [
        | yes e ↦ rw (e, eq-eqb t t refl, ne_eqb k m (λ d. p (e, d)))
        | no e ↦ rw (ne_eqb u t e)
      ]

  mark_kept : OpenInv n (mark_set s n t m) (marks b t m)
  unfolding mark_set
  mark_kept = marks_kept n (with_work s w₀) (marks b t m) i₁ w (later (beside_back unset) (wider (mark_beside s.work n t m v f.txn f.mark len) (omega arith) (omega arith))) numbers

pub open_mark : (n : ℕ) → 1 ≤ n → (s : Areas) (b : Book) → OpenInv n s b → (t m : ℕ) → accepted (call_mark s t m).answer ≡ true
    → OpenInv n (call_mark s t m).after (fed n b (mark t m) s.received (call_mark s t m).after.received)
unfolding fed
open_mark n some s b i t m a =
    let k = (Accepted.mark_outcome s t m).ran a in
    let o = opened true s k.n k.ready in
    let e : k.n ≡ n = sym o.sized.count ∙ i.size in
    let g : (call_mark s t m).after ≡ mark_set s n t m = ap (λ (q : Out). q.after) k.gives ∙ ap (λ (p : ℕ). mark_set s p t m) e in
    rw g (mark_kept n some s b i (rw e at o) t m (Accepted.mark_facts s t m k.passed))

-- back
module _ (n : ℕ) (some : 1 ≤ n) (s : Areas) (b : Book) (i : OpenInv n s b) (h : Open s n) (t m : ℕ) (f : Accepted.BackFacts s n t m) where
  pub back_runs : Runs b t
  back_runs = i.active t (act_is s n (machine n s b) (machine_shows n s b) t f.txn ∙ f.active)

  abbrev is : List ℕ
  is = since_mark s n t m

  -- the book strikes as many
  pub count : length is ≡ left (b.running t) b.lines - b.marked t m
  count = let e = words_count n s b i t f.txn back_runs in let d = i.going.notes.marks t m f.txn f.mark f.marked in
      length-take-le (length (changes_of s n t) - at s.work (marked_at n t m)) (changes_of s n t) (omega arith) ∙ omega arith

  pub records_is : records_of s.log is ≡ take (length is) (left_entries b t)
  records_is = records_take s.log (length (changes_of s n t) - at s.work (marked_at n t m)) (changes_of s n t)
      ∙ ap (take (length (changes_of s n t) - at s.work (marked_at n t m))) (words_left n s b i t f.txn back_runs)
      ∙ ap (λ (k : ℕ). take k (left_entries b t)) (sym (length-take-le (length (changes_of s n t) - at s.work (marked_at n t m)) (changes_of s n t) (omega arith)))

  pub gone : Went n t s b (went_back s.log is s n t) (goes_back (length is) b t)
  gone = went n some t f.txn s.log is s b i h.sized back_runs records_is (let e = count in omega arith) f.room

  abbrev s₁ : Areas
  s₁ = went_back s.log is s n t

  back_kept : OpenInv n (back_to s n t m) (goes_back (length is) b t)
  unfolding back_to
  back_kept = let a = order_of s₁.work n t m in let l : undoing_from n ≤ length s₁.work = let e = gone.sized.work_len in omega arith in
      marks_kept n s₁ (goes_back (length is) b t) gone.kept (dropped s₁.work n t a mark_count) (wider (dropped_beside s₁.work n t a mark_count f.txn (omega arith)) (omega arith) (omega arith))
      (λ u k x y z. let d = dropped_marks s₁.work n t a mark_count u k f.txn x y (omega arith) l z in
      d.0 ∙ gone.kept.going.notes.marks u k x y (λ e. z (d.1 ∙ e)))

pub open_back : (n : ℕ) → 1 ≤ n → (s : Areas) (b : Book) → OpenInv n s b → (t m : ℕ) → accepted (call_back s t m).answer ≡ true
    → OpenInv n (call_back s t m).after (fed n b (back t m) s.received (call_back s t m).after.received)
unfolding fed
open_back n some s b i t m a =
    let k = (Accepted.back_outcome s t m).ran a in
    let o = opened true s k.n k.ready in
    let e : k.n ≡ n = sym o.sized.count ∙ i.size in
    let h : Open s n = rw e at o in
    let f : Accepted.BackFacts s n t m = rw e at (Accepted.back_facts s k.n t m k.passed) in
    let g : (call_back s t m).after ≡ back_to s n t m = ap (λ (q : Out). q.after) k.gives ∙ ap (λ (p : ℕ). back_to s p t m) e in
    rw g (subst (λ (j : ℕ). OpenInv n (back_to s n t m) (goes_back j b t)) (count n some s b i h t m f) (back_kept n some s b i h t m f))
