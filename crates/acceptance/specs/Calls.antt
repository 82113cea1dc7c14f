-- 'Refused calls change nothing', of every call, of format and of a read's buffer. Assumes nothing.
use Rattle.std.specs.Prelude.{ℕ, ◌≡◌, refl, false, List, Ok, Err}
use Rattle.words.specs.Tests.{clash}
use Rattle.areas.specs.Answers.{accepted, verdict, Answer}
use Rattle.areas.specs.Areas.{Areas, done}
use Rattle.areas.specs.Entry.{pages, records}
use Rattle.calls.specs.Formatting.{formatted, format_tests, call_format}
use Rattle.calls.specs.Objects.{call_read, if_accepted, buffer_after}
use Rattle.calls.specs.Chains.{call_chain, chain_after}
use Rattle.calls.specs.PassShares.{call_pass_share, pass_share_after}
use Rattle.calls.specs.Calls.{Call, perform}
use Rattle.calls.specs.Calls.Call.{begin, commit, abort, grant, lock_read, lock_write, read, create, set_word, flush, force, store, empty, pass, step, reopen, restep, mark, back, look}
use Rattle.acceptance.specs.Ran.{Keeps, done_keeps, checked_keeps}
use Rattle.acceptance.specs.Transactions.{begin_outcome, commit_outcome, abort_outcome}
use Rattle.acceptance.specs.Rights.{grant_outcome}
use Rattle.acceptance.specs.Locks.{lock_read_outcome, lock_write_outcome}
use Rattle.acceptance.specs.Objects.{read_outcome, create_outcome, set_outcome, flush_outcome}
use Rattle.acceptance.specs.Stability.{force_outcome, store_outcome, empty_outcome}
use Rattle.acceptance.specs.Pass.{pass_outcome, step_outcome}
use Rattle.acceptance.specs.Reopening.{reopen_keeps, restep_outcome}
use Rattle.acceptance.specs.Marks.{mark_outcome, back_outcome}
use Rattle.acceptance.specs.Looks.{look_outcome}

-- accepted (perform s c).answer ≡ false → (perform s c).after ≡ s
pub refused_keeps : (s : Areas) (c : Call) → Keeps s (perform s c)
unfolding perform
refused_keeps s (begin t c) = (begin_outcome s t c).keeps
refused_keeps s (commit t) = (commit_outcome s t).keeps
refused_keeps s (abort t) = (abort_outcome s t).keeps
refused_keeps s (grant c p r) = (grant_outcome s c p r).keeps
refused_keeps s (lock_read t p) = (lock_read_outcome s t p).keeps
refused_keeps s (lock_write t p) = (lock_write_outcome s t p).keeps
refused_keeps s (read t o buffer) = (read_outcome s t o buffer).keeps
refused_keeps s (create t o) = (create_outcome s t o).keeps
refused_keeps s (set_word t o f v) = (set_outcome s t o f v).keeps
refused_keeps s (flush t p image) = (flush_outcome s t p image).keeps
refused_keeps s force = (force_outcome s).keeps
refused_keeps s (store p) = (store_outcome s p).keeps
refused_keeps s empty = (empty_outcome s).keeps
refused_keeps s pass = (pass_outcome s).keeps
refused_keeps s step = (step_outcome s).keeps
refused_keeps s reopen = reopen_keeps s
refused_keeps s restep = (restep_outcome s).keeps
refused_keeps s (mark t m) = (mark_outcome s t m).keeps
refused_keeps s (back t m) = (back_outcome s t m).keeps
refused_keeps s (look q) = (look_outcome s q).keeps

pub format_keeps : (s : Areas) → Keeps s (call_format s)
unfolding call_format
format_keeps s = let new = formatted (pages s) (records s) in checked_keeps (verdict (format_tests s)) s (done 0 new) (done_keeps s 0 new)

buffer_by : (a : Answer) (words buffer : List ℕ) → accepted a ≡ false → if_accepted a words buffer ≡ buffer
buffer_by (Ok v) words buffer e = clash refl e
buffer_by (Err x) words buffer e = refl

pub buffer_keeps : (s : Areas) (t o : ℕ) (buffer : List ℕ) → accepted (call_read s t o buffer).answer ≡ false → buffer_after s t o buffer ≡ buffer
unfolding buffer_after
buffer_keeps s t o buffer e = buffer_by (call_read s t o buffer).answer _ buffer e

pub chain_keeps : (s : Areas) (buffer : List ℕ) (o : ℕ) → accepted (call_chain s buffer o).answer ≡ false → chain_after s buffer o ≡ buffer
unfolding chain_after
chain_keeps s buffer o e = buffer_by (call_chain s buffer o).answer _ buffer e

pub share_keeps : (s : Areas) (buffer : List ℕ) (m : ℕ) → accepted (call_pass_share s buffer m).answer ≡ false → pass_share_after s buffer m ≡ buffer
unfolding pass_share_after
share_keeps s buffer m e = buffer_by (call_pass_share s buffer m).answer _ buffer e
