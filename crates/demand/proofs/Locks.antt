-- An accepted lock for reading or writing keeps the invariant. n is the number of pages. Assumes nothing.
use Prim.Native.Nat.{ℕ, ◌≤◌}
use native.Mathlib.Omega.{arith}
use mathlib.Core.Path.{◌≡◌, refl, sym, ap, ◌∙◌}
use mathlib.Core.Bool.{true}
use Rattle.areas.specs.Answers.{accepted}
use Rattle.areas.specs.Areas.{Areas, Out, with_work}
use Rattle.areas.specs.Layout.{writers_at}
use Rattle.areas.specs.Tables.{at}
use Rattle.calls.specs.Calls.{lock_read, lock_write}
use Rattle.calls.specs.Locks.{read_locked, call_lock_read, write_locked, call_lock_write}
use Rattle.acceptance.specs.Entered.{Open, opened}
use Rattle.acceptance.specs.Locks as Accepted
use Rattle.acceptance.specs.Locks.{lock_read_outcome, lock_write_outcome}
use Rattle.book.specs.Books.{Book}
use Rattle.book.specs.Feeding.{fed}
use Rattle.collector.specs.Bits.{or_l}
use Rattle.collector.specs.State.{Locks, Tables}
use Rattle.collector.specs.Calls as C
use Rattle.collector.proofs.Depths.{deep_lockr, deep_lockw}
use Rattle.machine_calls.proofs.Frames.{reopening_kept}
use Rattle.machine_calls.proofs.Facts as Facts
use Rattle.machine_calls.proofs.Facts.{sole, page_has}
use Rattle.machine_calls.proofs.Locking.{lock_read_beside, lock_read_locks, lock_read_tables, lock_write_beside, lock_write_locks, lock_write_tables}
use Rattle.machine_calls.proofs.Shows.{lock_read_shows, lock_write_shows}
use Rattle.recovery_proof.proofs.Invariant as Recovery
use Rattle.recovery_proof.proofs.Steps.{log_lock}
use Rattle.demand.proofs.State.{machine, received, logged, OpenInv}
use Rattle.demand.proofs.Change.{machine_shows}
use Rattle.demand.proofs.Unlogged.{notes_kept, open_locked, open_beside}

module _ (n : ℕ) (s : Areas) (b : Book) (i : OpenInv n s b) (h : Open s n) (t p : ℕ) where
  read_kept : Accepted.LockReadFacts s n t p → OpenInv n (with_work s (read_locked s.work n t p)) b
  read_kept f =
      let e = lock_read_locks s.work n t p f.page h.sized.tables.1 f.txn in
      open_beside n s b i s.copies (read_locked s.work n t p) (C.read_locked (machine n s b) t p)
      (record {
        shows = lock_read_shows s.work n h.sized.tables.1 (machine n s b) (machine_shows n s b) t p f.txn f.page;
        keeps = deep_lockr t p (machine n s b) i.going.stack (Facts.lock_read_facts s n (machine n s b) (machine_shows n s b) t p f) i.going.deep;
        pages = refl;
        tags = refl;
        word = (reopening_kept (lock_read_beside s.work n t p f.page) n (omega arith)).0;
        notes = notes_kept n s b i s.copies (read_locked s.work n t p) (λ j l. (lock_read_beside s.work n t p f.page).above j (omega arith));
        knows = λ u x k. ap (λ (a : Tables). a.kn u x) (lock_read_tables s.work n t p f.page) ∙ k;
        cells = i.log.copies;
      })
      (λ u. ap (λ (l : Locks). l.act u) e)
      (λ u q. ap (λ (l : Locks). l.wr u q) e)

  write_kept : Accepted.LockWriteFacts s n t p → OpenInv n (with_work s (write_locked s.work n t p)) b
  write_kept f =
      let e = lock_write_locks s.work n t p f.page h.sized.tables.1 f.txn in
      let g = Facts.lock_write_facts s n (machine n s b) (machine_shows n s b) t p f in
      open_locked n s b i s.copies (write_locked s.work n t p) (C.write_locked (machine n s b) t p)
      (record {
        shows = lock_write_shows s.work n h.sized.tables.1 (machine n s b) (machine_shows n s b) t p f.txn f.page;
        keeps = deep_lockw t p (machine n s b) i.going.stack g i.going.deep;
        pages = refl;
        tags = refl;
        word = (reopening_kept (lock_write_beside s.work n t p f.page) n (omega arith)).0;
        notes = notes_kept n s b i s.copies (write_locked s.work n t p) (λ j l. (lock_write_beside s.work n t p f.page).above j (omega arith));
        knows = λ u x k. ap (λ (a : Tables). a.kn u x) (lock_write_tables s.work n t p f.page) ∙ k;
        cells = i.log.copies;
      })
      (λ u. ap (λ (l : Locks). l.act u) e)
      (λ u q k. ap (λ (l : Locks). l.wr u q) e ∙ or_l _ _ k)
      (Recovery.carried i.base _ (logged n (with_work s (write_locked s.work n t p)) b) (λ o. refl) (λ o. refl)
      (λ u q. sym (ap (λ (l : Locks). l.wr u q) e)) (λ u. sym (ap (λ (l : Locks). l.act u) e)) refl
      (log_lock i.base _ _ _ _ (received s) i.log.inv t p g.active
      (λ u k. sole (at s.work (writers_at n p)) t u f.no_writer_law (page_has s.work n (writers_at n) u p k))))

pub open_lock_read : (n : ℕ) → 1 ≤ n → (s : Areas) (b : Book) → OpenInv n s b → (t p : ℕ) → accepted (call_lock_read s t p).answer ≡ true
    → OpenInv n (call_lock_read s t p).after (fed n b (lock_read t p) s.received (call_lock_read s t p).after.received)
unfolding fed
open_lock_read n some s b i t p a =
    let k = (lock_read_outcome s t p).ran a in
    let h = opened true s k.n k.ready in
    let e : k.n ≡ n = sym h.sized.count ∙ i.size in
    let g : (call_lock_read s t p).after ≡ with_work s (read_locked s.work n t p) = ap (λ (x : Out). x.after) k.gives ∙ ap (λ (q : ℕ). with_work s (read_locked s.work q t p)) e in
    rw g (read_kept n s b i (rw e at h) t p (rw e at (Accepted.lock_read_facts s k.n t p k.passed)))

pub open_lock_write : (n : ℕ) → 1 ≤ n → (s : Areas) (b : Book) → OpenInv n s b → (t p : ℕ) → accepted (call_lock_write s t p).answer ≡ true
    → OpenInv n (call_lock_write s t p).after (fed n b (lock_write t p) s.received (call_lock_write s t p).after.received)
unfolding fed
open_lock_write n some s b i t p a =
    let k = (lock_write_outcome s t p).ran a in
    let h = opened true s k.n k.ready in
    let e : k.n ≡ n = sym h.sized.count ∙ i.size in
    let g : (call_lock_write s t p).after ≡ with_work s (write_locked s.work n t p) = ap (λ (x : Out). x.after) k.gives ∙ ap (λ (q : ℕ). with_work s (write_locked s.work q t p)) e in
    rw g (write_kept n s b i (rw e at h) t p (rw e at (Accepted.lock_write_facts s k.n t p k.passed)))
