-- The book after a commit, the end of an abort and a sweep, as feeding makes it. This serves the proof of demand 3; its claim never mentions
-- it. Assumes nothing.
use Rattle.std.specs.Prelude.{ℕ, ◌∷◌}
use Rattle.records.specs.Records.{commit_of, aborted_of, sweep_of}
use Rattle.book.specs.Lines.{line}
use Rattle.book.specs.Books.{Book}
use Rattle.book.specs.Feeding.{with_lines, adds, ends}

abbrev pub committed_by : Book → ℕ → Book
committed_by b t = ends (adds b t (commit_of t)) t

-- nothing of t is left
abbrev pub aborted_by : Book → ℕ → Book
aborted_by b t = ends (adds b t (aborted_of t)) t

abbrev pub swept_by : Book → ℕ → ℕ → Book
swept_by b p m = with_lines b (line (sweep_of p m) 0 ∷ b.lines)
