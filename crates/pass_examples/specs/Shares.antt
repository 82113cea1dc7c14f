-- Document 02, L4: shares, and what the call answers, in a table proved by a single statement over it. Assumes nothing.
use Rattle.std.specs.Prelude.{ℕ, ◌≡◌, refl, Bool, true, ◌&&◌, List, [], ◌∷◌, eqb}
use Rattle.areas.specs.Answers.{answer_of, value_of}
use Rattle.areas.specs.Areas.{Areas}
use Rattle.calls.specs.Formatting.{formatted}
use Rattle.calls.specs.Calls.{Call, pass, step, reopen}
use Rattle.calls.specs.PassShares.{share_of, call_pass_share, pass_share_after}
use Rattle.computing.specs.Calls.{calls}
use Rattle.computing.specs.Stores.{same_words, same_areas, after}

-- a row: pages, commits, the whole share and the remainder, by the definition alone; the same of the call, after these calls, which must all
-- be accepted; or a call that is refused with this number, its buffer being this one
pub data Row : Type 0 where
  share : ℕ → ℕ → ℕ → ℕ → Row
  tells : ℕ → List Call → ℕ → ℕ → ℕ → Row
  refusal : ℕ → List Call → List ℕ → ℕ → Row

-- the number, the value and the buffer are so, and every word of the store stays
unfoldable pub answers : ℕ → ℕ → List ℕ → List ℕ → ℕ → Areas → Bool
answers x v b buffer m s =
    let r = call_pass_share s buffer m in
    eqb (answer_of r.answer) x && eqb (value_of r.answer) v && same_areas r.after s && same_words (pass_share_after s buffer m) b

-- a row of the table is right
unfoldable pub right : Row → Bool
right (share n m q r) = same_words (share_of n m) (q ∷ r ∷ [])
right (tells n cs m q r) = after cs (answers 0 q (q ∷ r ∷ []) (7 ∷ 7 ∷ []) m) (formatted n 1)
right (refusal x cs buffer m) = after cs (answers x 0 buffer buffer m) (formatted 1 1)

-- all rows are
unfoldable pub all_right : List Row → Bool
all_right [] = true
all_right (r ∷ rs) = let on = all_right rs in right r && on

-- 'With P = 4 and n = 10 this is 6 and 9.'
pub table : List Row
table =
    share 4 10 6 9
    ∷ share 4 69 1 0
    ∷ share 4 70 0 69
    ∷ share 1 1 18 0
    ∷ share 1 17 1 1
    ∷ share 1 19 0 18
    ∷ share 16 10 27 3
    ∷ share 256 1 4353 0
    ∷ share 256 3 1451 0
    ∷ share 256 4096 1 257
    ∷ tells 4 [] 10 6 9
    ∷ tells 1 [] 1 18 0
    ∷ tells 1 [] 4096 0 18
    ∷ tells 1 (pass ∷ step ∷ []) 17 1 1
    ∷ refusal 17 [] (7 ∷ 7 ∷ []) 0
    ∷ refusal 17 [] (7 ∷ 7 ∷ []) 4097
    ∷ refusal 17 [] (7 ∷ 7 ∷ []) 4294967295
    ∷ refusal 2 (reopen ∷ []) (7 ∷ 7 ∷ []) 0
    ∷ refusal 1 [] (7 ∷ 7 ∷ 7 ∷ []) 0
    ∷ refusal 1 [] (7 ∷ []) 10
    ∷ []

pub shares_right : all_right table ≡ true
unfolding all_right right answers table same_areas same_words after calls
shares_right = refl
