-- Document 01, 'The bench program': what each line does to the store, and what is written. Assumes nothing.
use Rattle.std.specs.Prelude.{ℕ, zero, suc, ◌+◌, Bool, false, List, [], ◌∷◌, ◌++◌, take, drop, replicate, eqb, Ok, Err}
use Rattle.words.specs.Tests.{if}
use Rattle.pages.specs.Geometry.{page_at, page_words}
use Rattle.areas.specs.declared.Refusal.TheVariants.{Malformed}
use Rattle.areas.specs.Answers.{answer_of, value_of, Answer}
use Rattle.areas.specs.Areas.{Areas, Out, refused}
use Rattle.areas.specs.Layout.{writing}
use Rattle.calls.specs.Formatting.{formatted}
use Rattle.calls.specs.Calls.{perform, begin, commit, abort, grant, lock_read, lock_write, read, create, set_word, flush, force, store, empty, pass, step, reopen, restep}
use Rattle.bench_names.specs.declared.Command.{Command}
use Rattle.bench_names.specs.declared.Command.TheVariants.{Transaction, Lock, Object, Stability, Collection, Reopening, NoCall}
use Rattle.bench_names.specs.declared.TransactionCall.{TransactionCall}
use Rattle.bench_names.specs.declared.TransactionCall.TheVariants.{Begin, Commit, Abort}
use Rattle.bench_names.specs.declared.LockCall.{LockCall}
use Rattle.bench_names.specs.declared.LockCall.TheVariants.{LockRead, LockWrite}
use Rattle.bench_names.specs.declared.ObjectCall.{ObjectCall}
use Rattle.bench_names.specs.declared.ObjectCall.TheVariants.{Flush, Read, Create, Set}
use Rattle.bench_names.specs.declared.StabilityCall.{StabilityCall}
use Rattle.bench_names.specs.declared.StabilityCall.TheVariants.{Store, Force, Empty}
use Rattle.bench_names.specs.declared.PassCall.{PassCall}
use Rattle.bench_names.specs.declared.PassCall.TheVariants.{Pass, Step}
use Rattle.bench_names.specs.declared.ReopeningCall.{ReopeningCall}
use Rattle.bench_names.specs.declared.ReopeningCall.TheVariants.{Reopen, Restep}
use Rattle.texts.specs.Lines.{lines_of}
use Rattle.bench_commands.specs.Commands.{command_of}
use Rattle.bench_output.specs.Output.{output_line}

-- 'P = 4, L = 64'

-- 'It formats P = 4'
abbrev pub bench_pages : ℕ
bench_pages = 4

-- 'L = 64'
abbrev pub bench_records : ℕ
bench_records = 64

-- document 02, L9: 'The bench gives client 0 all rights', 'and its begins name client 0'
abbrev pub bench_client : ℕ
bench_client = 0

-- 'all rights', on the first k pages
unfoldable pub all_given : Areas → ℕ → Areas
all_given s zero = s
all_given s (suc p) = (perform (all_given s p) (grant bench_client p writing)).after

-- 'It formats P = 4, L = 64'
abbrev pub bench_store : Areas
bench_store = all_given (formatted bench_pages bench_records) bench_pages

-- L9: 'a finished reopening': the step whose value is P ('the page stored, lastly P, for a reopening step')
abbrev pub finishes : Answer → Bool
finishes (Ok v) = eqb v bench_pages
finishes (Err x) = false

-- L9: all rights 'again after each finished reopening'
unfoldable pub rights_again : Out → Out
rights_again o = let given : Out = record { answer = o.answer; after = all_given o.after bench_pages } in if (finishes o.answer) given o

-- '`flush` sends the received page itself.' A page that does not exist sends a page of zeros, so that its number is what is refused.
unfoldable pub page_sent : Areas → ℕ → List ℕ
page_sent s p = take page_words (drop (page_at p) s.received ++ replicate page_words 0)

-- '`begin`, `commit`, `abort` with t'
unfoldable pub transaction_call : Areas → TransactionCall → Out
transaction_call s (Begin t) = perform s (begin t bench_client)
transaction_call s (Commit t) = perform s (commit t)
transaction_call s (Abort t) = perform s (abort t)

-- '`lockr`, `lockw` .. with t, page'
unfoldable pub lock_call : Areas → LockCall → Out
lock_call s (LockRead t p) = perform s (lock_read t p)
lock_call s (LockWrite t p) = perform s (lock_write t p)

-- '`flush` with t, page; `read`, `create` with t, object; `set` with t, object, field, word'. A read's buffer is eight zeros: 'word 0 for read' is its value
unfoldable pub object_call : Areas → ObjectCall → Out
object_call s (Flush t p) = perform s (flush t p (page_sent s p))
object_call s (Read t o) = perform s (read t o (replicate 8 0))
object_call s (Create t o) = perform s (create t o)
object_call s (Set t o f v) = perform s (set_word t o f v)

-- '`store` with page; `force`, `empty` .. alone'
unfoldable pub stability_call : Areas → StabilityCall → Out
stability_call s (Store p) = perform s (store p)
stability_call s Force = perform s force
stability_call s Empty = perform s empty

-- '`pass`, `step` .. alone'
unfoldable pub pass_call : Areas → PassCall → Out
pass_call s Pass = perform s pass
pass_call s Step = perform s step

-- '`reopen`, `restep` (a reopening step) alone'
unfoldable pub reopening_call : Areas → ReopeningCall → Out
reopening_call s Reopen = perform s reopen
reopening_call s Restep = rights_again (perform s restep)

-- a line's call, by its family; 'A line that is no call answers 1.'
unfoldable pub bench_call : Areas → Command → Out
bench_call s (Transaction c) = transaction_call s c
bench_call s (Lock c) = lock_call s c
bench_call s (Object c) = object_call s c
bench_call s (Stability c) = stability_call s c
bench_call s (Collection c) = pass_call s c
bench_call s (Reopening c) = reopening_call s c
bench_call s NoCall = refused Malformed s

-- 'Each output line is line number, answer (0 or a refusal) and value.': those of the lines from number i on, over a store
unfoldable pub output_from : Areas → ℕ → List (List ℕ) → List ℕ
output_from s i [] = []
output_from s i (l ∷ ls) = let o = bench_call s (command_of l) in output_line i (answer_of o.answer) (value_of o.answer) ++ output_from o.after (i + 1) ls

-- 'It formats P = 4, L = 64 and reads calls': what an input gives, its first line being number 1
unfoldable pub bench_output : List ℕ → List ℕ
bench_output input = output_from bench_store 1 (lines_of input)
