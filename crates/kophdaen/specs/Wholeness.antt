-- The code that is answered of one page area. Assumes nothing.
use Rattle.std.specs.Prelude.{ℕ, ◌≡◌, List}
use Rattle.codes.specs.Codes.{coded}
use Rattle.reach_walk.specs.Wholeness.{WholeAnswer}
use Rattle.areas.specs.Answers.{Answer}

-- r is the code of the answer about page area a
pub record WholeCode (a : List ℕ) (r : ℕ) : Type 0 where
  pub answer : Answer
  pub settled : WholeAnswer a answer
  pub code : r ≡ coded answer
