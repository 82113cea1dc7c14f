-- Document 02, L6: what a transaction knows on a page that it holds stays, whatever others call. n is the number of pages. Assumes nothing.
use Prim.Native.Nat.{ℕ, ◌≤◌}
use mathlib.Core.Path.{◌≡◌, refl}
use mathlib.Core.Bool.{true, false}
use Rattle.words.specs.Tests.{by_bool}
use Rattle.pages.specs.Geometry.{page_of}
use Rattle.areas.specs.Areas.{Areas}
use Rattle.areas.specs.Entry.{pages}
use Rattle.calls.specs.Calls.{Call, reopens, step}
use Rattle.acceptance.specs.Calls.{refused_keeps}
use Rattle.book.specs.Books.{Book}
use Rattle.book.specs.Demand.{Point, accepts, reclaims}
use Rattle.machine_calls.specs.Tables.{tables_of}
use Rattle.demand.proofs.Finished.{accepted_open}
use Rattle.demand.proofs.State.{OpenInv}
use Rattle.demand.proofs.Theorem as Demand
use Rattle.guarantees.specs.Holders.{Granted, grants, holds}
use Rattle.guarantees.specs.Readers.{Foreign, Leaves, KeptForReaders, AlwaysKeptForReaders}
use Rattle.guarantees.proofs.Always.{Sure, as_open}
use Rattle.guarantees.proofs.Untouched.{foreign_stays}
use Rattle.guarantees.proofs.Granted.{Ledgered, keep_ledger, start_ledger, disk_ledger}
use Rattle.guarantees.proofs.Holders.{runs_so}
use Rattle.guarantees.proofs.Ledgers.{always_kept}
use Rattle.guarantees.proofs.Restoring.{same_object}

module _ (n : ℕ) (some : 1 ≤ n) (q : Point) (l : Granted) (u : Sure n q) (j : Ledgered n q l) where
  abbrev s : Areas
  s = q.store

  abbrev b : Book
  b = q.book

  -- another's call, refused or accepted; k: of a pass step it is asked that t knows x
  leaves : (t x : ℕ) (c : Call) → Foreign l t x c → (accepts q c ≡ true → c ≡ step → (tables_of s.work n).kn t x ≡ true) → Leaves s c x
  leaves t x c f k = by_bool (accepts q c)
      (λ a. let e = foreign_stays n some s b u.inv l j.agrees t x f.lock c f.other f.goes_on (k a) a in
      record { received = same_object x f.object _ _ e.0; copies = same_object x f.object _ _ e.1 })
      (λ a. let e = refused_keeps s c a in
      record { received = same_object x f.object _ _ (rw e refl); copies = same_object x f.object _ _ (rw e refl) })

  opens : (c : Call) → reopens c ≡ false → accepts q c ≡ true → OpenInv n s b
  opens c r a = as_open n s b u.inv (accepted_open s c r a)

  swept_unknown : (t x : ℕ) → holds l t (page_of x) ≡ true → accepts q step ≡ true → reclaims (pages s) q step x ≡ true → b.known t x ≡ false
  swept_unknown t x e a r = by_bool (b.known t x)
      (λ k. absurd ((Demand.holds n some s b u.inv).spares.known t x a (rw u.fine.sized.count at r) (runs_so n s b (opens step refl a) u.fine l j.agrees t (page_of x) e) k))
      (λ k. k)

  kept_for_readers : KeptForReaders q l
  kept_for_readers = record {
    known = λ t x c f k. leaves t x c f (λ a e. (opens c f.goes_on a).known t x k);
    others = λ t x c f other. leaves t x c f (λ a e. absurd (other e));
    swept = swept_unknown;
  }

pub always_kept_for_readers : AlwaysKeptForReaders
always_kept_for_readers = always_kept Granted grants Ledgered KeptForReaders keep_ledger (λ n q l u j. kept_for_readers n u.fine.sized.low q l u j) start_ledger disk_ledger
