-- A call that appends no record and stores nothing: the log's part of the invariant after it. n is the number of pages. Assumes nothing.
use Prim.Native.Nat.{ℕ}
use mathlib.Core.Path.{◌≡◌, sym, ◌∙◌}
use Rattle.areas.specs.Areas.{Areas}
use Rattle.book.specs.Books.{Book}
use Rattle.collector.specs.Objects.{Obj}
use Rattle.machine_view.specs.View.{view}
use Rattle.machine_calls.specs.Tables.{locks_of}
use Rattle.recovery_proof.proofs.Invariant as Recovery
use Rattle.recovery_proof.proofs.Decided.{SameCells}
use Rattle.demand.proofs.State.{received, logged, LogInv}

-- the log, the counts and the stored pages stay, and so do the lines and who runs
pub record Quiet (s : Areas) (b : Book) (s' : Areas) (b' : Book) : Type 0 where
  pub log : s'.log ≡ s.log
  pub counts : s'.counts ≡ s.counts
  pub stored : s'.stored ≡ s.stored
  pub lines : b'.lines ≡ b.lines
  pub origin : b'.origin ≡ b.origin
  pub stable_lines : b'.stable ≡ b.stable
  pub running : b'.running ≡ b.running

module _ (n : ℕ) (s : Areas) (b : Book) (base : ℕ → Obj) (i : LogInv n s b base) (s' : Areas) (b' : Book) (q : Quiet s b s' b') where
  pub log_quiet : Recovery.Inv base (logged n s' b') → ((t : ℕ) → (locks_of s'.work n).act t ≡ (locks_of s.work n).act t) → SameCells (received s) (view s'.copies) base → LogInv n s' b' base
  log_quiet h acts copies = record {
    inv = h;
    few = rw (q.counts, q.lines) i.few;
    same = rw (q.log, q.counts, q.lines) i.same;
    stable_few = rw q.counts i.stable_few;
    stable_same = rw (q.counts, q.lines, q.stable_lines) i.stable_same;
    order = rw (q.log, q.counts) i.order;
    open_ones = λ t l. rw (q.log, q.counts) (i.open_ones t l ∙ sym (acts t));
    part = rw (q.log, q.counts, q.origin, q.lines) i.part;
    leads = rw (q.counts, q.origin, q.lines) i.leads;
    stored = rw (q.log, q.counts, q.stored) i.stored;
    copies = rw (q.log, q.counts) copies;
  }
