-- The ledger of locks and the book: who has a page, and whom refusal 6 tells. n is the number of pages. Assumes nothing.
use Prim.Native.Nat.{ℕ, ◌<◌}
use native.Mathlib.Omega.{arith}
use mathlib.Core.Path.{◌≡◌, refl, sym, ap, ◌∙◌}
use mathlib.Core.Bool.{Bool, true, not, ◌&&◌}
use mathlib.Core.List.{List}
use mathlib.Core.Logic.{inl, inr}
use lib.Dec.{eqb}
use Rattle.words.specs.Tests.{lowest, clash, and_split, or_cases, any_elim}
use Rattle.words.specs.Bits.{bit}
use Rattle.words.specs.Lowest.{lowest_same}
use Rattle.records.specs.Records.{txn_count}
use Rattle.areas.specs.Areas.{Areas}
use Rattle.areas.specs.Layout.{readers_at, writers_at}
use Rattle.areas.specs.Tables.{at, is_active, can_read}
use Rattle.areas.specs.Entry.{pages, records}
use Rattle.calls.specs.Locks.{holder_of}
use Rattle.calls.specs.Calls.{lock_read, lock_write}
use Rattle.acceptance.specs.Entered.{open_formed}
use Rattle.acceptance.specs.Working.{Working}
use Rattle.book.specs.Books.{Book}
use Rattle.book.specs.Demand.{Point}
use Rattle.collector.specs.Objects.{txns}
use Rattle.machine_calls.specs.Tables.{locks_of}
use Rattle.machine_calls.proofs.Frames.{page_bit_law}
use Rattle.machine_calls.proofs.Facts.{act_is}
use Rattle.demand.proofs.State.{machine, OpenInv, Inv3, open_store, cut_store, reopening_store}
use Rattle.demand.proofs.Change.{machine_shows}
use Rattle.demand.proofs.HoldsWaiting.{awaiting_opened, storing_opened}
use Rattle.guarantees.specs.Holders.{Barred, Lowest, Granted, holds, other}
use Rattle.guarantees.proofs.Fine.{Fine}
use Rattle.guarantees.proofs.Always.{Sure}
use Rattle.guarantees.proofs.Refusals.{formed}
use Rattle.guarantees.proofs.Barred.{read_stopped, write_stopped, page_in, read_barred, read_tells, write_tells}
use Rattle.guarantees.proofs.Granted.{Agrees, Closed, Ledgered}

-- the masks of page p, by the ledger
module _ (n : ℕ) (w : List ℕ) (l : Granted) (a : Agrees n w l) (p : ℕ) (below : p < n) where
  pub writes_bit : (u : ℕ) → u < txn_count → l.writes u p ≡ bit (at w (writers_at n p)) u
  writes_bit u k = a.writers u p ∙ page_bit_law w n (writers_at n) u p k below

  pub holds_bit : (u : ℕ) → u < txn_count → holds l u p ≡ can_read w n u p
  holds_bit u k = a.holders u p ∙ rw (page_bit_law w n (readers_at n) u p k below, page_bit_law w n (writers_at n) u p k below)

  told_by : (t h : ℕ) → Lowest (λ u. can_read w n u p) t h → Lowest (λ u. holds l u p) t h
  told_by t h k = let m = k.txn in record { txn = m; other = k.other; holds = holds_bit h m ∙ k.holds; first = λ u c d. holds_bit u (omega arith) ∙ k.first u c d }

  pub holder_by : (t : ℕ) → holder_of w n t p ≡ lowest (other t (λ u. holds l u p)) txn_count
  unfolding holder_of
  holder_by t = lowest_same _ _ txn_count (λ u k. ap (λ (x : Bool). not (eqb u t) && x) (sym (holds_bit u k)))

-- an open store, by the ledger and the book
module _ (n : ℕ) (s : Areas) (b : Book) (i : OpenInv n s b) (z : Fine n s b) (l : Granted) (a : Agrees n s.work l) where
  pub active_in : (t : ℕ) → (b.running t ≡ 0 → ⊥) → t < txn_count
  unfolding txns
  active_in t r = i.collector.exclusive.active t (i.runs t r)

  pub active_bit : (t : ℕ) → (b.running t ≡ 0 → ⊥) → is_active s.work t ≡ true
  active_bit t r = sym (act_is s n (machine n s b) (machine_shows n s b) t (active_in t r)) ∙ i.runs t r

  pub open_word : Working s.work n (records s)
  open_word = rw i.size at (open_formed true s (formed n s b z true refl) i.word).ranged.working

  -- who has a page runs; a writer has it alone
  pub runs_so : (u p : ℕ) → holds l u p ≡ true → b.running u ≡ 0 → ⊥
  runs_so u p e = elim (or_cases ((locks_of s.work n).rd u p) ((locks_of s.work n).wr u p) (sym (a.holders u p) ∙ e)) [
    | inl d ↦ i.active u (i.collector.exclusive.reader u p d)
    | inr d ↦ i.active u (i.collector.exclusive.writer u p d).0
  ]

  pub alone_so : (u v p : ℕ) → l.writes u p ≡ true → holds l v p ≡ true → (l.writes v p ≡ true) × (v ≡ u)
  alone_so u v p e d = let w = sym (a.writers u p) ∙ e in
      elim (or_cases ((locks_of s.work n).rd v p) ((locks_of s.work n).wr v p) (sym (a.holders v p) ∙ d)) [
        | inl k ↦ clash k (i.collector.exclusive.alone u v p w)
        | inr k ↦ (a.writers v p ∙ k, i.collector.exclusive.sole v u p k w)
      ]

-- which store is open
module _ (n : ℕ) (s : Areas) (b : Book) where
  pub open_running : Inv3 n s b → (t : ℕ) → (b.running t ≡ 0 → ⊥) → OpenInv n s b
  open_running (open_store i) t r = i
  open_running (cut_store i) t r = absurd (r (i.waiting.idle t))
  open_running (reopening_store k h i) t r = absurd (r (i.waiting.idle t))

  pub open_held : Inv3 n s b → (l : Granted) → Closed b l → (u p : ℕ) → holds l u p ≡ true → OpenInv n s b
  open_held (open_store i) l c u p e = i
  open_held (cut_store i) l c u p e = clash e (c (λ d. awaiting_opened (sym i.stage ∙ d)) u p)
  open_held (reopening_store k h i) l c u p e = clash e (c (λ d. storing_opened (sym i.stage ∙ d)) u p)

module _ (n : ℕ) (q : Point) (l : Granted) (z : Sure n q) (j : Ledgered n q l) where
  abbrev s : Areas
  s = q.store

  abbrev b : Book
  b = q.book

  size : pages s ≡ n
  size = z.fine.sized.count

  pub read_told : (t p h : ℕ) → Barred s (lock_read t p) h → Lowest (λ u. holds l u p) t h
  read_told t p h e = let k = read_stopped s t p h e in
      told_by n s.work l j.agrees p (rw size at (page_in s t p h k.ranged)) t h (rw size at (read_tells s t p h k))

  pub write_told : (t p h : ℕ) → Barred s (lock_write t p) h → Lowest (λ u. holds l u p) t h
  write_told t p h e = let k = write_stopped s t p h e in
      told_by n s.work l j.agrees p (rw size at (page_in s t p h k.ranged)) t h (rw size at (write_tells s t p h k))

  -- one that bars a reader writes the page
  pub writer_told : (t p h : ℕ) → Barred s (lock_read t p) h → l.writes h p ≡ true
  writer_told t p h e =
      let k = read_stopped s t p h e in
      let m : p < n = rw size at (page_in s t p h k.ranged) in
      let i = open_held n s b z.inv l j.closed h p (read_told t p h e).holds in
      any_elim _ txn_count (rw size at (read_barred s t p h k)) (λ u c d.
      let o = and_split (not (eqb u t)) (bit (at s.work (writers_at n p)) u) d in
      (alone_so n s b i z.fine l j.agrees u h p (writes_bit n s.work l j.agrees p m u c ∙ o.1) (read_told t p h e).holds).0)
