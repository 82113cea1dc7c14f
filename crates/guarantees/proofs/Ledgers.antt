-- What the invariants and one over a ledger give at a point holds at every point of every list. Assumes nothing.
use Prim.Native.Nat.{ℕ, ◌≤◌}
use mathlib.Core.List.{List, [], ◌∷◌}
use Rattle.areas.specs.Areas.{Areas}
use Rattle.areas.specs.Entry.{pages}
use Rattle.book.specs.Demand.{Event, Point, after, start}
use Rattle.guarantees.specs.Disks.{from_disk}
use Rattle.guarantees.specs.Ledgers.{Ledger, kept, AtEveryKept, last, then, AlwaysKept}
use Rattle.guarantees.proofs.Always.{Sure, keep_sure, start_sure}
use Rattle.guarantees.proofs.Disks.{disk_some}
use Rattle.guarantees.proofs.Refusals.{disk_sure}

module _ (L : Type 0) (g : Ledger L) (J : ℕ → Point → L → Type 0) (Q : Point → L → Type 0)
    (keeps : (n : ℕ) → 1 ≤ n → (q : Point) (l : L) (e : Event) → Sure n q → J n q l → J n (after n q e) (kept g q l e))
    (gives : (n : ℕ) (q : Point) (l : L) → Sure n q → J n q l → Q q l) where
  at_every_kept : (n : ℕ) → 1 ≤ n → (es : List Event) (q : Point) (l : L) → Sure n q → J n q l → AtEveryKept n L g Q q l es
  at_every_kept n some [] q l u j = last (gives n q l u j)
  at_every_kept n some (e ∷ es) q l u j = then (gives n q l u j) (at_every_kept n some es (after n q e) (kept g q l e) (keep_sure n some q e u) (keeps n some q l e u j))

  pub always_kept : ((n k : ℕ) → J n (start n k) g.first) → ((s : Areas) → J (pages s) (from_disk s) g.first) → AlwaysKept L g Q
  always_kept a d = record {
    formatted = λ n k some most low few es. at_every_kept n some es (start n k) g.first (start_sure n k some most low few) (a n k);
    disk = λ s h es. at_every_kept (pages s) (disk_some s h) es (from_disk s) g.first (disk_sure s h) (d s);
  }
