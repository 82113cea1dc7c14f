-- Document 01, 'Refusal table', with the refusals that document 02 adds: the number that stands beside each test of a call is the number
-- of its refusal. Assumes nothing.
use Rattle.std.specs.Prelude.{ℕ, ◌≡◌, refl, Bool, true, ◌&&◌, List, [], ◌∷◌}
use Rattle.areas.specs.Answers.{Test, numbered}
use Rattle.areas.specs.Areas.{Areas}
use Rattle.areas.specs.Entry.{all_tests}
use Rattle.calls.specs.Formatting.{format_tests}
use Rattle.calls.specs.Rights.{grant_tests}
use Rattle.calls.specs.Transactions.{begin_tests, commit_tests, abort_tests}
use Rattle.calls.specs.Locks.{lock_read_tests, lock_write_tests}
use Rattle.calls.specs.Objects.{read_tests, create_tests, set_tests, flush_tests}
use Rattle.calls.specs.Stability.{force_tests, store_tests, empty_tests}
use Rattle.calls.specs.Pass.{pass_tests, sweep_tests, step_tests}
use Rattle.calls.specs.Reopening.{reopen_tests, restep_tests}
use Rattle.calls.specs.Chains.{chain_tests}
use Rattle.calls.specs.PassShares.{pass_share_tests}
use Rattle.calls.specs.Marks.{mark_tests, back_tests}

-- the tests of every call, on any areas and with any arguments
abbrev pub every_call : Areas → ℕ → ℕ → ℕ → ℕ → ℕ → ℕ → ℕ → List ℕ → List (List Test)
every_call s n t m p o f v image =
    all_tests true true s []
    ∷ format_tests s
    ∷ begin_tests s n t v
    ∷ commit_tests s n t
    ∷ abort_tests s n t
    ∷ grant_tests s n t p v
    ∷ lock_read_tests s n t p
    ∷ lock_write_tests s n t p
    ∷ read_tests s n t o
    ∷ create_tests s n t o
    ∷ set_tests s n t o f v
    ∷ flush_tests s n t p image
    ∷ force_tests s
    ∷ store_tests s n p
    ∷ empty_tests s
    ∷ pass_tests s
    ∷ step_tests s
    ∷ sweep_tests s n v
    ∷ reopen_tests s
    ∷ restep_tests s
    ∷ chain_tests s n o
    ∷ mark_tests s t m
    ∷ back_tests s n t m
    ∷ pass_share_tests v
    ∷ []

-- each of several lists of tests has its refusals' numbers
unfoldable pub all_numbered : List (List Test) → Bool
all_numbered [] = true
all_numbered (ts ∷ rest) = numbered ts && all_numbered rest

pub numbers_right : (s : Areas) (n t m p o f v : ℕ) (image : List ℕ) → all_numbered (every_call s n t m p o f v image) ≡ true
unfolding all_numbered numbered format_tests begin_tests commit_tests abort_tests grant_tests lock_read_tests lock_write_tests read_tests create_tests set_tests flush_tests force_tests store_tests empty_tests pass_tests step_tests sweep_tests reopen_tests restep_tests chain_tests mark_tests back_tests pass_share_tests
numbers_right s n t m p o f v image = refl
