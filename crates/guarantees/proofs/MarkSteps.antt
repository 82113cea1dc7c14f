-- What accepted calls that add lines or end a transaction leave of what the ledger notes at a transaction's marks. n is the number of
-- pages. Assumes nothing.
use Prim.Native.Nat.{ℕ, ◌+◌, ◌≤◌, ◌<◌}
use native.Mathlib.Omega.{arith}
use native.Mathlib.Decide.{ℕ_discrete}
use mathlib.Core.Path.{◌≡◌, refl, sym, ap, ◌∙◌}
use mathlib.Core.Bool.{true, false}
use mathlib.Core.List.{List, ◌∷◌}
use lib.ListN.{length}
use lib.Dec.{eqb}
use borrow.Author.Tests.{ne_eqb}
use Rattle.words.specs.Tests.{by_bool, clash}
use Rattle.pages.specs.Geometry.{page_of}
use Rattle.records.specs.declared.Record.{Record}
use Rattle.records.specs.Records.{txn_count, begin_of, commit_of, aborted_of, is_sweep}
use Rattle.areas.specs.Areas.{Areas}
use Rattle.areas.specs.Layout.{mark_count, order_at, undoing_from}
use Rattle.areas.specs.Tables.{is_active}
use Rattle.calls.specs.Calls.Call.{begin, commit, abort}
use Rattle.calls.specs.Marks.{order_of}
use Rattle.calls.specs.Transactions.{begun_tables, ended_tables}
use Rattle.acceptance.specs.Entered.{Open}
use Rattle.acceptance.specs.Transactions.{BeginFacts}
use Rattle.book.specs.Lines.{line, left, undone_lines}
use Rattle.book.specs.Books.{Book}
use Rattle.book.specs.Feeding.{with_lines, adds, begins, ends, goes_back}
use Rattle.machine_calls.specs.Tables.{locks_of}
use Rattle.machine_calls.proofs.Begun.{begin_behind}
use Rattle.machine_calls.proofs.Ended.{ended_unset, ended_others}
use Rattle.machine_calls.proofs.Facts.{act_is}
use Rattle.book_laws.specs.After.{committed_by, aborted_by}
use Rattle.book_laws.specs.Keeping.{Runs, BookInv}
use Rattle.book_laws.proofs.Running.{put_other}
use Rattle.book_laws.proofs.Feeding.{begin_committed, adds_committed}
use Rattle.book_laws.proofs.Ending.{commit_committed, abort_committed}
use Rattle.book_laws.proofs.GoingBack.{went_inv, went_running, aborted_book}
use Rattle.demand.proofs.State.{machine, OpenInv}
use Rattle.demand.proofs.Change.{machine_shows}
use Rattle.guarantees.specs.Holders.{fallen}
use Rattle.guarantees.specs.Restoring.{Noted, locking}
use Rattle.guarantees.proofs.Granted.{Agrees}
use Rattle.guarantees.proofs.MarkNotes.{OfTxn, unmarked, idle_unmarked, stays_all, line_stays, gone_stays}

module _ (n : ℕ) (some : 1 ≤ n) (s : Areas) (b : Book) (i : OpenInv n s b) (h : Open s n) (l : Noted) (g : Agrees n s.work l.granted) (t : ℕ) (small : t < txn_count) (o : OfTxn n s.work b l t) where
  -- who is active runs
  pub active_runs : (u : ℕ) → u < txn_count → is_active s.work u ≡ true → Runs b u
  active_runs u c e = i.active u (act_is s n (machine n s b) (machine_shows n s b) u c ∙ e)

  len : undoing_from n ≤ length s.work
  len = let e = h.sized.work_len in omega arith

  -- t was let write the page: another does not
  pub not_other : (u p : ℕ) → (t ≡ u → ⊥) → l.granted.writes t p ≡ true → (locks_of s.work n).wr u p ≡ false
  not_other u p d e = by_bool ((locks_of s.work n).wr u p) (λ z. absurd (d (i.writers.one t u p (sym (g.writers t p) ∙ e) z))) (λ z. z)

  -- another begins, or t does
  pub begun_marks : (u c : ℕ) → BeginFacts s n u c → OfTxn n (begun_tables s.work n u c) (begins b u) (locking l (begin u c)) t
  begun_marks u c f = elim (ℕ_discrete t u) [
    | yes e ↦ unmarked n _ _ _ t (λ m a. orders m a ∙ idle_unmarked n s.work b l t o (rw e idle) m a)
    | no e ↦ stays_all n s.work _ b l (begins b u) (locking l (begin u c)) t orders (λ r m. line_stays b l (begins b u) (locking l (begin u c)) t m (line (begin_of u) (b.begun + 1)) refl
        (put_other b.running u (b.begun + 1) t e) refl (λ p d. d) refl refl (λ x d. (begin_committed b i.book u f.txn idle).shows b.origin x)) o
  ]
    where
      idle : b.running u ≡ 0
      idle = elim (ℕ_discrete (b.running u) 0) [ yes e ↦ e | no e ↦ clash (i.runs u e) (act_is s n (machine n s b) (machine_shows n s b) u f.txn ∙ f.inactive) ]

      orders : (m : ℕ) → m < mark_count → order_of (begun_tables s.work n u c) n t m ≡ order_of s.work n t m
      orders m a = let e = f.txn in begin_behind s.work n u some c f.txn (order_at n t m) (omega arith) (λ z. omega arith)

  -- create and set
  pub added_marks : (w : List ℕ) (b' : Book) (u : ℕ) (r : Record) → ((m : ℕ) → m < mark_count → order_of w n t m ≡ order_of s.work n t m) → Runs b u
      → eqb r.kind 4 ≡ false → is_sweep r ≡ false → b'.origin ≡ b.origin → b'.lines ≡ line r (b.running u) ∷ b.lines → b'.running ≡ b.running → b'.marked ≡ b.marked → OfTxn n w b' l t
  added_marks w b' u r orders run k q origin lines running marked = stays_all n s.work w b l b' l t orders
      (λ z m. line_stays b l b' l t m (line r (b.running u)) lines (ap (λ (f : ℕ → ℕ). f t) running) marked (λ p d. d) refl refl
      (λ x d. rw (origin, lines) ((adds_committed b i.book u run r k q).shows b.origin x))) o

  -- the words after u ends
  module _ (u : ℕ) (small_u : u < txn_count) (run : Runs b u) where
    abbrev w : List ℕ
    w = ended_tables s.work n u

    over : t ≡ u → (m : ℕ) → m < mark_count → order_of w n t m ≡ 0
    over e m a = rw e (ended_unset s.work n u small_u m a (let z = len in omega arith))

    orders : (t ≡ u → ⊥) → (m : ℕ) → m < mark_count → order_of w n t m ≡ order_of s.work n t m
    orders d m a = ended_others s.work n u (order_at n t m) (omega arith) (λ x. omega arith) (λ k c. (λ x. omega arith, λ x. d (omega arith)))

    falls : (t ≡ u → ⊥) → (p : ℕ) → l.granted.writes t p ≡ true → (fallen l.granted u).writes t p ≡ true
    falls d p e = rw (ne_eqb t u d) e

    pub committed_marks : OfTxn n w (committed_by b u) (locking l (commit u)) t
    committed_marks = elim (ℕ_discrete t u) [
      | yes e ↦ unmarked n _ _ _ t (over e)
      | no e ↦ stays_all n s.work w b l (committed_by b u) (locking l (commit u)) t (orders e) (λ r m. line_stays b l (committed_by b u) (locking l (commit u)) t m (line (commit_of u) (b.running u)) refl
          (put_other b.running u 0 t e) refl (falls e) refl refl
          (λ x d. commit_committed b i.book (locks_of s.work n).wr i.writers u run x ∙ rw (not_other u (page_of x) e d) refl)) o
    ]

    -- an abort goes back first
    abbrev b₁ : Book
    b₁ = goes_back (left (b.running u) b.lines) b u

    run₁ : Runs b₁ u
    run₁ z = run (sym (ap (λ (f : ℕ → ℕ). f u) (went_running (left (b.running u) b.lines) b u)) ∙ z)

    inv₁ : BookInv b₁
    inv₁ = went_inv (left (b.running u) b.lines) b i.book u run (omega arith)

    gone_marks : (t ≡ u → ⊥) → OfTxn n s.work b₁ l t
    gone_marks e = stays_all n s.work s.work b l b₁ l t (λ m a. refl) (λ r m. gone_stays b l u (left (b.running u) b.lines) t m i.book run (omega arith) r e) o

    ended_marks : OfTxn n w (aborted_by b₁ u) (locking l (abort u)) t
    ended_marks = elim (ℕ_discrete t u) [
      | yes e ↦ unmarked n _ _ _ t (over e)
      | no e ↦ stays_all n s.work w b₁ l (aborted_by b₁ u) (locking l (abort u)) t (orders e) (λ r m. line_stays b₁ l (aborted_by b₁ u) (locking l (abort u)) t m (line (aborted_of u) (b₁.running u)) refl
          (put_other b₁.running u 0 t e) refl (falls e) refl refl (λ x d. (abort_committed b₁ inv₁ u run₁).shows b₁.origin x)) (gone_marks e)
    ]

    pub aborted_marks : OfTxn n w (ends (adds (with_lines b (undone_lines (b.running u) (left (b.running u) b.lines) b.lines)) u (aborted_of u)) u) (locking l (abort u)) t
    aborted_marks = rw (aborted_book u b) ended_marks
