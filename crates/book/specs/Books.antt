-- Document 01, 'The book': what it keeps, the committed state, the full pages, and what a cut drops. Assumes nothing.
use Rattle.std.specs.Prelude.{ℕ, ◌-◌, Bool, false, not, ◌&&◌, ◌||◌, List, [], length, drop, eqb}
use Rattle.words.specs.Tests.{any}
use Rattle.records.specs.Records.{is_sweep, txn_count}
use Rattle.book.specs.Lines.{Line, has_commit, has_end, filtered, pages_after}

-- where the book stands: a store that is open; a cut whose reopening is not accepted yet; a reopening with k pages stored
pub data Stage : Type 0 where
  opened : Stage
  awaiting : Stage
  storing : ℕ → Stage

-- 'It .. is fed the calls, whether each was accepted, the cuts, and the slots that each pass step clears'
pub record Book : Type 0 where
  -- the pages that it starts from
  pub origin : List ℕ
  -- newest first; the oldest `stable` of them are stable
  pub lines : List Line
  pub stable : ℕ
  -- how many begin lines there were, and by transaction the own transaction that runs, 0 where none does
  pub begun : ℕ
  pub running : ℕ → ℕ
  -- by transaction, the objects that it knows
  pub known : ℕ → ℕ → Bool
  -- document 02, L3: by transaction and mark, how many of its creates and sets were left where it last set the mark
  pub marked : ℕ → ℕ → ℕ
  pub stage : Stage

-- 'It starts from the formatted pages': from these, with no line
abbrev pub blank : List ℕ → Book
blank a = record { origin = a; lines = []; stable = 0; begun = 0; running = λ t. 0; known = λ t o. false; marked = λ t m. 0; stage = opened }

-- own transaction i runs
unfoldable pub runs : Book → ℕ → Bool
runs b i = not (eqb i 0) && any (λ t. eqb (b.running t) i) txn_count

-- 'the sweeps and the lines left of transactions with kind 4, stable or not'
abbrev pub counts_committed : Book → Line → Bool
counts_committed b l = is_sweep l.entry || (not l.struck && has_commit l.owner b.lines)

-- 'the full pages count running ones' lines too'
abbrev pub counts_full : Book → Line → Bool
counts_full b l = counts_committed b l || (not l.struck && runs b l.owner)

-- 'the sweeps and the lines left of transactions with kind 4, stable or not'
unfoldable pub committed_lines : Book → List Line
committed_lines b = filtered (counts_committed b) b.lines

-- 'the full pages count running ones' lines too'
unfoldable pub full_lines : Book → List Line
full_lines b = filtered (counts_full b) b.lines

-- 'The committed state is the formatted pages after, in line order, ..'
abbrev pub committed_pages : Book → List ℕ
committed_pages b = pages_after b.origin (committed_lines b)

-- 'the full pages'
abbrev pub full_pages : Book → List ℕ
full_pages b = pages_after b.origin (full_lines b)

-- 'drops the lines not stable, then all lines of each transaction without kind 4 or 5'
unfoldable pub surviving : Book → List Line
surviving b = let kept = drop (length b.lines - b.stable) b.lines in filtered (λ l. is_sweep l.entry || has_end l.owner kept) kept

-- 'A cut or accepted reopen stops all transactions and drops the lines ..'
abbrev pub stopped : Stage → Book → Book
stopped g b = record { origin = b.origin; lines = surviving b; stable = length (surviving b); begun = b.begun; running = λ t. 0; known = λ t o. false; marked = λ t m. 0; stage = g }
