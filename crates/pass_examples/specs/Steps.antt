-- Document 02, L4: passes, step by step, with the step number after each. Assumes nothing.
use Rattle.std.specs.Prelude.{ℕ, zero, suc, ◌+◌, ◌≡◌, refl, Bool, true, not, ◌&&◌, List, [], ◌∷◌, ◌++◌, replicate, eqb}
use Rattle.pages.specs.Objects.{written}
use Rattle.areas.specs.Answers.{answer_of, value_of}
use Rattle.areas.specs.Areas.{Areas}
use Rattle.areas.specs.Layout.{steps_at}
use Rattle.areas.specs.Tables.{at, pass_runs}
use Rattle.calls.specs.Formatting.{cut}
use Rattle.calls.specs.Calls.{Call, begin, commit, abort, lock_write, create, set_word, flush, force, store, empty, pass, step, reopen, restep, perform}
use Rattle.computing.specs.Calls.{calls}
use Rattle.computing.specs.Stores.{same_words, same_areas, refused_by, after, allowed}

-- an accepted step: its value, and the step number that it leaves
pub data Taken : Type 0 where
  takes : ℕ → ℕ → Taken

-- these steps are taken, and then the test holds
unfoldable pub walks : List Taken → (Areas → Bool) → Areas → Bool
walks [] f s = f s
walks (takes v k ∷ l) f s =
    let o = perform s step in let on = walks l f o.after in eqb (answer_of o.answer) 0 && eqb (value_of o.answer) v && eqb (at o.after.work steps_at) k && on

-- the step number is k, and a step is refused with this number
unfoldable pub stays : ℕ → ℕ → Areas → Bool
stays k x s = eqb (at s.work steps_at) k && refused_by x 0 s step

-- no pass runs: the step number is 0, and a step is refused with 4
unfoldable pub over : Areas → Bool
over s = not (pass_runs s.work) && stays 0 4 s

-- objects 2 to k + 1 are created, each below the one before
abbrev pub in_aRow : ℕ → List Call
in_aRow zero = []
in_aRow (suc k) = in_aRow k ++ (create 0 (k + 2) ∷ set_word 0 (k + 1) 0 (k + 2) ∷ [])

-- the page then, all its slots being taken
abbrev pub row_page : ℕ → List ℕ
row_page zero = 65535 ∷ replicate 128 0
row_page (suc k) = written (row_page k) (k + 1) 0 (k + 2)

-- one page, sixteen objects in a row, committed; a pass starts
abbrev pub row : List Call
row = (begin 0 0 ∷ lock_write 0 0 ∷ []) ++ (in_aRow 15 ++ (flush 0 0 (row_page 15) ∷ commit 0 ∷ pass ∷ []))

-- '16 × P objects scanned, one turn, P pages': 18 steps for one page, and no 19th
pub longest : after row (walks
    (takes 1 1 ∷ takes 2 2 ∷ takes 3 3 ∷ takes 4 4 ∷ takes 5 5 ∷ takes 6 6 ∷ takes 7 7 ∷ takes 8 8 ∷ takes 9 9 ∷ takes 10 10 ∷ takes 11 11 ∷ takes 12 12
    ∷ takes 13 13 ∷ takes 14 14 ∷ takes 15 15 ∷ takes 16 16 ∷ takes 0 17 ∷ takes 0 0 ∷ []) over) (allowed 1 64) ≡ true
unfolding walks over stays refused_by same_areas same_words after calls
longest = refl

-- object 2 is created, and nothing names it; a log of five records is full
abbrev pub full_log : List Call
full_log = begin 0 0 ∷ lock_write 0 0 ∷ create 0 2 ∷ flush 0 0 (3 ∷ replicate 128 0) ∷ commit 0 ∷ begin 1 0 ∷ abort 1 ∷ pass ∷ []

abbrev pub drained : List Call
drained = force ∷ force ∷ force ∷ force ∷ force ∷ store 0 ∷ empty ∷ []

-- 'A step refused for log room is not counted.'
pub refused_not_counted : after full_log (walks (takes 1 1 ∷ takes 0 2 ∷ []) (λ s. stays 2 11 s && after drained (walks (takes 1 0 ∷ []) over) s)) (allowed 1 5) ≡ true
unfolding walks over stays refused_by same_areas same_words after calls
refused_not_counted = refl

-- a page that is skipped is a step
pub skipped_counted : after (begin 0 0 ∷ lock_write 0 0 ∷ lock_write 0 1 ∷ pass ∷ []) (walks (takes 1 1 ∷ takes 0 2 ∷ takes 0 3 ∷ takes 0 0 ∷ []) over) (allowed 2 2) ≡ true
unfolding walks over stays refused_by same_areas same_words after calls
skipped_counted = refl

-- 'a reopening ends it early', and the next pass counts from 0
pub ended_early : after (pass ∷ step ∷ []) (λ s. after (reopen ∷ restep ∷ restep ∷ []) (λ a. over a && after (pass ∷ []) (walks (takes 1 1 ∷ []) (λ b. true)) a) (cut s)) (allowed 1 1) ≡ true
unfolding walks over stays refused_by same_areas same_words after calls
ended_early = refl
