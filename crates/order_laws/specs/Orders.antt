-- Document 02, L7, as statements: 'Answers and buffers do not change for any input.' Assumes nothing.
use Rattle.std.specs.Prelude.{ℕ, ◌≡◌}
use Rattle.areas.specs.Areas.{Areas}
use Rattle.calls.specs.Pass.{swept, call_step}
use Rattle.sweep_order.specs.Order.{swept_in_order, step_in_order}

-- a sweeping step in the paper's order is the call's, of any words, for any number of pages
abbrev pub SweptAlike : Type 0
SweptAlike = (s : Areas) (n : ℕ) → swept_in_order s n ≡ swept s n

-- and so is the whole call, refused or not
abbrev pub SteppedAlike : Type 0
SteppedAlike = (s : Areas) → step_in_order s ≡ call_step s
