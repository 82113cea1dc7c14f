-- Only a reopening and its steps are accepted before a reopening is finished. Assumes nothing.
use mathlib.Core.Path.{◌≡◌, refl}
use mathlib.Core.Bool.{Bool, true, false}
use Prim.Native.Nat.{ℕ}
use mathlib.Core.List.{List}
use Rattle.pages.specs.Geometry.{slot_words, page_words}
use lib.ListN.{length}
use lib.Dec.{eqb}
use Rattle.words.specs.Tests.{clash}
use Rattle.areas.specs.Answers.{Test, accepted}
use Rattle.areas.specs.Areas.{Areas, Out}
use Rattle.areas.specs.Entry.{reopening}
use Rattle.calls.specs.Calls.{Call, reopens, perform}
use Rattle.calls.specs.Calls.Call.{begin, commit, abort, grant, lock_read, lock_write, read, create, set_word, flush, force, store, empty, pass, step, reopen, restep, mark, back, look}
use Rattle.acceptance.specs.Entered.{opened}
use Rattle.acceptance.specs.Ran.{Outcome}
use Rattle.acceptance.specs.Transactions.{begin_outcome, commit_outcome, abort_outcome}
use Rattle.acceptance.specs.Rights.{grant_outcome}
use Rattle.acceptance.specs.Locks.{lock_read_outcome, lock_write_outcome}
use Rattle.acceptance.specs.Objects.{read_outcome, create_outcome, set_outcome, flush_outcome}
use Rattle.acceptance.specs.Stability.{force_outcome, store_outcome, empty_outcome}
use Rattle.acceptance.specs.Pass.{pass_outcome, step_outcome}
use Rattle.acceptance.specs.Marks.{mark_outcome, back_outcome}
use Rattle.acceptance.specs.Looks.{look_outcome}

ran_open : (own : Bool) (s : Areas) (tests : ℕ → List Test) (o : Out) (k : ℕ → Out) → Outcome true own s tests o k → accepted o.answer ≡ true → reopening s ≡ 2
ran_open own s tests o k h a = let r = h.ran a in (opened own s r.n r.ready).finished

pub accepted_open : (s : Areas) (c : Call) → reopens c ≡ false → accepted (perform s c).answer ≡ true → reopening s ≡ 2
unfolding perform
accepted_open s (begin t c) r a = ran_open true s _ _ _ (begin_outcome s t c) a
accepted_open s (commit t) r a = ran_open true s _ _ _ (commit_outcome s t) a
accepted_open s (abort t) r a = ran_open true s _ _ _ (abort_outcome s t) a
accepted_open s (grant c p x) r a = ran_open true s _ _ _ (grant_outcome s c p x) a
accepted_open s (lock_read t p) r a = ran_open true s _ _ _ (lock_read_outcome s t p) a
accepted_open s (lock_write t p) r a = ran_open true s _ _ _ (lock_write_outcome s t p) a
accepted_open s (read t o buffer) r a = ran_open (eqb (length buffer) slot_words) s _ _ _ (read_outcome s t o buffer) a
accepted_open s (create t o) r a = ran_open true s _ _ _ (create_outcome s t o) a
accepted_open s (set_word t o f v) r a = ran_open true s _ _ _ (set_outcome s t o f v) a
accepted_open s (flush t p image) r a = ran_open (eqb (length image) page_words) s _ _ _ (flush_outcome s t p image) a
accepted_open s force r a = ran_open true s _ _ _ (force_outcome s) a
accepted_open s (store p) r a = ran_open true s _ _ _ (store_outcome s p) a
accepted_open s empty r a = ran_open true s _ _ _ (empty_outcome s) a
accepted_open s pass r a = ran_open true s _ _ _ (pass_outcome s) a
accepted_open s step r a = ran_open true s _ _ _ (step_outcome s) a
accepted_open s reopen r a = clash refl r
accepted_open s restep r a = clash refl r
accepted_open s (mark t m) r a = ran_open true s _ _ _ (mark_outcome s t m) a
accepted_open s (back t m) r a = ran_open true s _ _ _ (back_outcome s t m) a
accepted_open s (look q) r a = ran_open q.own s _ _ _ (look_outcome s q) a
