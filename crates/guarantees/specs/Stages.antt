-- Document 01, 'Reopening' and refusal 2: which calls are accepted where the book stands. Assumes nothing.
use Rattle.std.specs.Prelude.{ℕ, ◌≡◌, true, false}
use Rattle.areas.specs.Layout.{finished}
use Rattle.areas.specs.Entry.{reopening}
use Rattle.calls.specs.Calls.{Call, restep, reopens}
use Rattle.book.specs.Books.{opened, storing}
use Rattle.book.specs.Demand.{Point, accepts}
use Rattle.guarantees.specs.Points.{Always}

pub record InStage (q : Point) : Type 0 where
  -- 2, 'reopening not finished; all calls but format, reopen and its steps': any other call that is accepted finds the book open
  pub taken : (c : Call) → reopens c ≡ false → accepts q c ≡ true → q.book.stage ≡ opened
  -- and where the book is open, the store takes calls
  pub takes : q.book.stage ≡ opened → reopening q.store ≡ finished
  -- 'Then P steps store one page each, page 0 first, and one more step empties the log': none of them is refused
  pub stepped : (k : ℕ) → q.book.stage ≡ storing k → accepts q restep ≡ true

-- at every point of every list
abbrev pub AlwaysInStage : Type 0
AlwaysInStage = Always InStage
