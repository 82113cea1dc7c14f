-- What a running transaction that asks for a lock is answered, by the ledgers of locks and of rights, at every point of every list. n is the
-- number of pages. Assumes nothing.
use Rattle.std.specs.Prelude.{Ok, Err}
use Prim.Native.Nat.{ℕ, ◌<◌}
use mathlib.Core.Path.{◌≡◌, refl, sym, ap, ◌∙◌}
use mathlib.Core.Bool.{Bool, true, false, not, ◌&&◌}
use lib.Dec.{eqb, leb, ltb}
use borrow.Author.Tests.{eq-eqb, lt-ltb}
use Rattle.words.specs.Tests.{if, any, any_same}
use Rattle.records.specs.Records.{txn_count}
use Rattle.areas.specs.declared.Refusal.TheVariants.{Held, RightMissing}
use Rattle.areas.specs.Answers.{unless}
use Rattle.areas.specs.Areas.{Areas, done, checked, with_work}
use Rattle.areas.specs.Layout.{readers_at, writers_at, reading, writing}
use Rattle.areas.specs.Tables.{at, is_txn, is_active}
use Rattle.areas.specs.Entry.{pages, well_formed, is_ready}
use Rattle.calls.specs.Rights.{may_lock}
use Rattle.calls.specs.Locks.{no_other, holder_of, read_locked, write_locked}
use Rattle.calls.specs.Calls.{perform, lock_read, lock_write}
use Rattle.book.specs.Books.{Book}
use Rattle.book.specs.Demand.{Point}
use Rattle.demand.proofs.State.{OpenInv}
use Rattle.guarantees.specs.Ledgers.{both}
use Rattle.guarantees.specs.Permits.{Permits, permits, right_of}
use Rattle.guarantees.specs.Holders.{Granted, grants, holds, other, answer_by, ByLedger, AlwaysByLedger}
use Rattle.guarantees.proofs.Fine.{Fine}
use Rattle.guarantees.proofs.Always.{Sure}
use Rattle.guarantees.proofs.Refusals.{formed}
use Rattle.guarantees.proofs.Barred.{Tests, tested, read_tested, write_tested, free_one, free_both}
use Rattle.guarantees.proofs.Ledgers.{always_kept}
use Rattle.guarantees.proofs.Granted.{Agrees}
use Rattle.guarantees.proofs.Holders.{writes_bit, holds_bit, holder_by, active_in, active_bit, open_word, runs_so, alone_so, open_running, open_held, read_told, write_told, writer_told}
use Rattle.guarantees.proofs.Permitted.{Permitted, right_by, Lawful, keep_lawful, start_lawful, disk_lawful}

-- past refusals 1 to 4
answered : (r x : Bool) (h : ℕ) (s a : Areas) → (checked (unless r RightMissing (unless (not x) (Held h) (Ok tt))) s (done 0 a)).answer ≡ if r (if x (Err (Held h)) (Ok 0)) (Err RightMissing)
answered true true h s a = refl
answered true false h s a = refl
answered false x h s a = refl

answers : (c : Tests) (h : ℕ) (s a : Areas) → c.form ≡ true → c.ready ≡ true → c.range ≡ true → c.active ≡ true → (r : Bool) → c.right ≡ r → (x : Bool) → c.free ≡ not x
    → (checked (tested c h) s (done 0 a)).answer ≡ if r (if x (Err (Held h)) (Ok 0)) (Err RightMissing)
answers c h s a e1 e2 e3 e4 r e5 x e6 = rw (e1, e2, e3, e4, e5, e6) (answered r x h s a)

-- an open store, by the ledgers and the book
module _ (n : ℕ) (s : Areas) (b : Book) (i : OpenInv n s b) (z : Fine n s b) (l : Granted) (a : Agrees n s.work l) (m : Permits) (j : Permitted n s.work b l m) where
  -- the tests of a lock, for n pages
  abbrev asked : ℕ → ℕ → ℕ → Bool → Tests
  asked t p right free = record { form = well_formed true s; ready = is_ready true s; range = is_txn t && ltb p n; active = is_active s.work t; right = may_lock s.work n t p right; free = free }

  -- it is free where f holds of no other one
  answer_so : (t p right : ℕ) → (b.running t ≡ 0 → ⊥) → p < n → (free : Bool) (f : ℕ → Bool) (k : Areas) → free ≡ not (any (other t f) txn_count)
      → (checked (tested (asked t p right free) (holder_of s.work n t p)) s (done 0 k)).answer ≡ answer_by (l, m) t p right f
  unfolding answer_by
  answer_so t p right r h free f k e =
      answers (asked t p right free) (holder_of s.work n t p) s k (formed n s b z true refl) (eq-eqb _ _ i.word) (rw (lt-ltb t txn_count (active_in n s b i z l a t r)) (lt-ltb p n h)) (active_bit n s b i z l a t r)
      (leb right (right_of m t p)) (right_by n s b i z l a m j t p right r h) (any (other t f) txn_count) e ∙ rw (holder_by n s.work l a p h t)

  -- another, by the ledger and by a mask
  as_other : (f g : ℕ → Bool) (t : ℕ) → ((u : ℕ) → u < txn_count → f u ≡ g u) → not (any (other t g) txn_count) ≡ not (any (other t f) txn_count)
  as_other f g t e = ap not (any_same _ _ txn_count (λ u k. ap (λ (x : Bool). not (eqb u t) && x) (sym (e u k))))

  reads_so : (t p : ℕ) → (b.running t ≡ 0 → ⊥) → p < n → (perform s (lock_read t p)).answer ≡ answer_by (l, m) t p reading (λ u. l.writes u p)
  reads_so t p r h = rw (read_tested s t p, i.size) (answer_so t p reading r h (no_other s.work (writers_at n p) t) (λ u. l.writes u p) (with_work s (read_locked s.work n t p))
      (free_one (at s.work (writers_at n p)) t ((open_word n s b i z l a).writers p h) ∙ as_other _ _ t (writes_bit n s.work l a p h)))

  writes_so : (t p : ℕ) → (b.running t ≡ 0 → ⊥) → p < n → (perform s (lock_write t p)).answer ≡ answer_by (l, m) t p writing (λ u. holds l u p)
  writes_so t p r h = rw (write_tested s t p, i.size) (answer_so t p writing r h (no_other s.work (readers_at n p) t && no_other s.work (writers_at n p) t) (λ u. holds l u p) (with_work s (write_locked s.work n t p))
      (free_both (at s.work (readers_at n p)) (at s.work (writers_at n p)) t ((open_word n s b i z l a).readers p h) ((open_word n s b i z l a).writers p h) ∙ as_other _ _ t (holds_bit n s.work l a p h)))

module _ (n : ℕ) (q : Point) (l : Granted × Permits) (z : Sure n q) (j : Lawful n q l) where
  abbrev s : Areas
  s = q.store

  abbrev b : Book
  b = q.book

  abbrev g : Granted
  g = l.0

  size : pages s ≡ n
  size = z.fine.sized.count

  by_ledger : ByLedger q l
  by_ledger = record {
    reads = λ t p r h. reads_so n s b (open_running n s b z.inv t r) z.fine g j.ledgered.agrees l.1 j.permitted t p r (rw size at h);
    writes = λ t p r h. writes_so n s b (open_running n s b z.inv t r) z.fine g j.ledgered.agrees l.1 j.permitted t p r (rw size at h);
    told_reading = read_told n q g z j.ledgered;
    told_writing = write_told n q g z j.ledgered;
    runs = λ u p e. runs_so n s b (open_held n s b z.inv g j.ledgered.closed u p e) z.fine g j.ledgered.agrees u p e;
    writer = writer_told n q g z j.ledgered;
    alone = λ u v p e d. (alone_so n s b (open_held n s b z.inv g j.ledgered.closed v p d) z.fine g j.ledgered.agrees u v p e d).1;
  }

pub always_by_ledger : AlwaysByLedger
always_by_ledger = always_kept (Granted × Permits) (both grants permits) Lawful ByLedger keep_lawful by_ledger start_lawful disk_lawful
