-- The same of the book: a proof by computation over a list of calls and cuts says `unfolding book`. Assumes nothing.
use Rattle.std.specs.Prelude.{ℕ}
use Rattle.book.specs.Books.{runs, committed_lines, full_lines, surviving}
use Rattle.book.specs.Demand.{after}
use Rattle.book.specs.Feeding.{cleared_slots, sweep_lines, goes_back, fed}
use Rattle.book.specs.Lines.{left, struck_newest, undoing_newest, undone_lines, newest_creates, has_commit, has_end, filtered, pages_after}
use Rattle.book.specs.Pointers.{unbroken}
use Rattle.computing.specs.Calls.{calls}

-- the calls' definitions open with the book's
unfoldable pub book : ℕ
unfolding calls runs committed_lines full_lines surviving after cleared_slots sweep_lines goes_back fed left struck_newest undoing_newest undone_lines newest_creates has_commit has_end filtered pages_after unbroken
book = 0
