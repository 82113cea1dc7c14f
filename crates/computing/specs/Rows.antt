-- A list of calls with their answers, as a table of rows. Assumes nothing.
use Rattle.std.specs.Prelude.{ℕ, Bool, true, ◌&&◌, List, [], ◌∷◌, eqb}
use Rattle.areas.specs.Answers.{answer_of, value_of}
use Rattle.areas.specs.Areas.{Areas}
use Rattle.calls.specs.Formatting.{cut}
use Rattle.calls.specs.Calls.{Call, perform}
use Rattle.computing.specs.Stores.{refused_by}

-- a row: a call that is accepted with this value; one that is refused with this number, every word as it was; what then holds of the store;
-- the power fails
pub data Row : Type 0 where
  takes : Call → ℕ → Row
  refuses : Call → ℕ → Row
  holds : (Areas → Bool) → Row
  power : Row

-- the rows are right, one after the other
unfoldable pub right : List Row → Areas → Bool
right [] s = true
right (takes c v ∷ rs) s = let o = perform s c in let on = right rs o.after in eqb (answer_of o.answer) 0 && eqb (value_of o.answer) v && on
right (refuses c x ∷ rs) s = let on = right rs s in refused_by x 0 s c && on
right (holds f ∷ rs) s = let on = right rs s in f s && on
right (power ∷ rs) s = let on = right rs (cut s) in on
