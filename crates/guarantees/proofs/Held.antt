-- Held calls find what they require, and a disk that calls and cuts left lets a server start. Assumes nothing.
use Prim.Native.Nat.{ℕ, ◌≤◌}
use native.Mathlib.Omega.{arith}
use mathlib.Core.Path.{◌≡◌, refl}
use mathlib.Core.Bool.{true}
use mathlib.Core.List.{List}
use Rattle.pages.specs.Geometry as Geometry
use Rattle.pages.specs.Objects.{occupied}
use Rattle.page_laws.specs.SoundFacts.{sound_facts}
use Rattle.areas.specs.Areas.{Areas}
use Rattle.areas.specs.Entry.{pages}
use Rattle.calls.specs.Calls.{perform}
use Rattle.reach.specs.Reaching.{Whole, root, next}
use Rattle.book.specs.Lines.{Line}
use Rattle.book.specs.Books.{Book, storing, committed_lines, committed_pages, stopped}
use Rattle.book.specs.Pointers.{Leads}
use Rattle.book.specs.Demand.{power, Point, after}
use Rattle.book_laws.specs.Seen.{committed_of}
use Rattle.demand.proofs.State.{Inv3}
use Rattle.demand.proofs.Stopping.{stops}
use Rattle.demand.proofs.Reopen.{recovered_committed}
use Rattle.demand.proofs.Theorem.{everywhere}
use Rattle.guarantees.specs.Disks.{recovered_pages, from_disk, DemandFromDisk}
use Rattle.guarantees.specs.Held.{Holdable, AlwaysHoldable, Restartable, AlwaysRestartable}
use Rattle.guarantees.proofs.Fine.{Fine}
use Rattle.guarantees.proofs.Sound.{firm_stop}
use Rattle.guarantees.proofs.Always.{Sure, keep_sure}
use Rattle.guarantees.proofs.Disks.{disk_some, disk_inv}
use Rattle.guarantees.proofs.Refusals.{always, formed, reopenable}

pub always_holdable : AlwaysHoldable
always_holdable = always Holdable (λ n some q u. formed n q.store q.book u.fine true refl)

-- pointers that lead, and a root that is there, make a state whole
leading_whole : (a : List ℕ) (ls : List Line) → Leads a ls → occupied a Geometry.root ≡ true → Whole a
leading_whole a ls h top x root = top
leading_whole a ls h top x (next {o} f r e) = h.there o f x r e

module _ (n : ℕ) (some : 1 ≤ n) (s : Areas) (b : Book) (i : Inv3 n s b) (f : Fine n s b) where
  abbrev b' : Book
  b' = stopped (storing 0) b

  committed_whole : Whole (committed_pages b')
  unfolding committed_lines committed_of
  committed_whole = leading_whole (committed_pages b') (committed_lines b') (stops n s b (storing 0) i).leads
      (sound_facts (committed_pages b') n (firm_stop n (storing 0) b f.firm 0 (omega arith))).rooted

  recovered_whole : Whole (recovered_pages s)
  recovered_whole = rw (recovered_committed n s b i f.sized.stored_len f.stored) committed_whole

restartable : (n : ℕ) → 1 ≤ n → (q : Point) → Sure n q → Restartable q
unfolding perform after
restartable n some q u =
    let v = keep_sure n some q power u in
    let p = after n q power in
    record {
      sound = reopenable n some p.store p.book v.inv v.fine;
      whole = recovered_whole n some p.store p.book v.inv v.fine;
    }

pub always_restartable : AlwaysRestartable
always_restartable = always Restartable restartable

pub demand_from_disk : DemandFromDisk
demand_from_disk s d es = everywhere (pages s) (disk_some s d) es (from_disk s) (disk_inv s d)
