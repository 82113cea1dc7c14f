-- The invariant of a log of records, after each record that a call appends. Assumes nothing.
use Prim.Native.Nat.{ℕ, ◌-◌, ◌≤◌}
use mathlib.Core.Path.{◌≡◌, refl, sym, ap}
use mathlib.Core.Bool.{Bool, true, false}
use mathlib.Core.List.{List, [], ◌∷◌}
use lib.ListN.{drop}
use Rattle.records.specs.declared.Record.{Record}
use Rattle.records.specs.Records.{begin_of, commit_of, aborted_of}
use Rattle.records.specs.Soundness.{names_object}
use Rattle.collector.specs.Objects.{Obj, page_of}
use Rattle.collector.specs.State.{add, mix}
use Rattle.collector.specs.State as tables
use Rattle.book.specs.Pointers.{sweeps}
use Rattle.machine_view.specs.View.{applied, unapplied}
use Rattle.recovery_proof.specs.Lines.{Line, with, without, Recovers}
use Rattle.recovery_proof.specs.Moves.{Log, begin, lock, write, commit, end, sweep, wrote, sweeping}
use Rattle.recovery_proof.specs.Shapes.{shapes, recs}
use Rattle.recovery_proof.proofs.Invariant.{Inv, carried, past_drop}
use Rattle.recovery_proof.proofs.Recovery.{keep, fresh_start}
use Rattle.recovery_proof.proofs.Shapes.{at_object, unnamed, sweep_applied, shape_begin, shape_commit, shape_aborted, shape_change, shape_sweep}
use Rattle.recovery_proof.proofs.Appending.{shapes_drop, recs_drop}

-- full and committed objects, write locks, running transactions, records newest first
abbrev pub log_of : (ℕ → Obj) → (ℕ → Obj) → (ℕ → ℕ → Bool) → (ℕ → Bool) → List Record → Log
log_of F K w a rs = record { full = F; comm = K; wr = w; act = a; lines = shapes rs }

-- a log without records
pub log_fresh : (base : ℕ → Obj) → Inv base (log_of base base (λ t p. false) (λ t. false) [])
unfolding shapes
log_fresh base = fresh_start base

module _ (base F K : ℕ → Obj) (w : ℕ → ℕ → Bool) (a : ℕ → Bool) (rs : List Record) (i : Inv base (log_of F K w a rs)) where
  pub log_begin : (t : ℕ) → a t ≡ false → Inv base (log_of F K w (with a t) (begin_of t ∷ rs))
  unfolding shapes
  log_begin t n = rw (shape_begin (begin_of t) refl) (keep base _ _ (begin t n) i)

  pub log_lock : (t p : ℕ) → a t ≡ true → ((u : ℕ) → w u p ≡ true → u ≡ t) → Inv base (log_of F K (add w t p) a rs)
  log_lock t p h n = keep base _ _ (lock t p h n) i

  -- a create, set or uncreate under the write lock, which can be taken back: also one that going back or an abort appends
  pub log_change : (r : Record) → names_object r ≡ true → w r.txn (page_of r.object) ≡ true → unapplied r r.object (applied r r.object (F r.object)) ≡ F r.object
      → Inv base (log_of (λ x. applied r x (F x)) K w a (r ∷ rs))
  unfolding shapes
  log_change r n o e = carried base (wrote (log_of F K w a rs) r.txn r.object (applied r r.object) (unapplied r r.object)) (log_of (λ x. applied r x (F x)) K w a (r ∷ rs))
      (λ x. at_object (applied r) r.object x (F x) (λ z. (unnamed r x (F x) n z).0))
      (λ x. refl) (λ t p. refl) (λ t. refl)
      (ap (λ (l : Line). l ∷ shapes rs) (sym (shape_change r n)))
      (keep base _ _ (write r.txn r.object (applied r r.object) (unapplied r r.object) o e) i)

  pub log_commit : (t : ℕ) → Inv base (log_of F (mix (λ o. w t (page_of o)) F K) (tables.drop w t) (without a t) (commit_of t ∷ rs))
  unfolding shapes
  log_commit t = rw (shape_commit (commit_of t) refl) (keep base _ _ (commit t) i)

  -- a sweep of objects on pages that nobody writes
  pub log_sweep : (r : Record) → r.kind ≡ 7 → ((o : ℕ) → sweeps r o ≡ true → (t : ℕ) → w t (page_of o) ≡ false)
      → Inv base (log_of (λ x. applied r x (F x)) (λ x. applied r x (K x)) w a (r ∷ rs))
  unfolding shapes
  log_sweep r k n = carried base (sweeping (log_of F K w a rs) (sweeps r)) (log_of (λ x. applied r x (F x)) (λ x. applied r x (K x)) w a (r ∷ rs))
      (λ x. sym (sweep_applied r x (F x) k)) (λ x. sym (sweep_applied r x (K x) k)) (λ t p. refl) (λ t. refl)
      (ap (λ (l : Line). l ∷ shapes rs) (sym (shape_sweep r k)))
      (keep base _ _ (sweep (sweeps r) n) i)

  -- the end of an abort: t's pages are as committed
  pub log_end : (t : ℕ) → ((o : ℕ) → w t (page_of o) ≡ true → F o ≡ K o) → Inv base (log_of F K (tables.drop w t) (without a t) (aborted_of t ∷ rs))
  unfolding shapes
  log_end t h = rw (shape_aborted (aborted_of t) refl) (keep base _ _ (end t h) i)

  -- every older part of the log
  pub log_past : (j : ℕ) → Recovers base (shapes (drop j rs))
  log_past j = rw (← (shapes_drop j rs)) (past_drop j i)

-- the same of the first k records of the log
pub log_recs : (base F K : ℕ → Obj) (w : ℕ → ℕ → Bool) (a : ℕ → Bool) (g : List ℕ) (c k : ℕ) → Inv base (log_of F K w a (recs g c)) → k ≤ c → Recovers base (shapes (recs g k))
log_recs base F K w a g c k i l = rw (← (recs_drop g c k l)) (log_past base F K w a (recs g c) i (c - k))
