-- Document 02, L3: 'A cut that keeps only part of that undoing still undoes the whole transaction.' Assumes nothing.
use Rattle.std.specs.Prelude.{ℕ, ◌≡◌, [], eqb}
use Rattle.book.specs.Lines.{filtered, pages_after}
use Rattle.book.specs.Books.{storing, committed_lines, stopped}
use Rattle.book.specs.Demand.{Point}
use Rattle.guarantees.specs.Disks.{recovered_pages}
use Rattle.guarantees.specs.Holders.{Running}
use Rattle.guarantees.specs.Points.{Always}

-- wherever the power fails, however many of the records are stable, those of a going back among them
pub record UndoneWhole (q : Point) : Type 0 where
  -- reopening makes its pages of the committed lines that are stable
  pub recovers : recovered_pages q.store ≡ pages_after q.book.origin (committed_lines (stopped (storing 0) q.book))
  -- and not one of them is a running transaction's
  pub none : (t : ℕ) → Running q t → filtered (λ l. eqb l.owner (q.book.running t)) (committed_lines (stopped (storing 0) q.book)) ≡ []

-- at every point of every list
abbrev pub AlwaysUndoneWhole : Type 0
AlwaysUndoneWhole = Always UndoneWhole
