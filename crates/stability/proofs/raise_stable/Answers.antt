use native.Mathlib.Omega.{arith}
use Rattle.stability.proofs.raise_stable.Goals as goal

pub overflow_add-stable : goal.overflow_add-stable
overflow_add-stable c = omega (arith, c.slice_known-1.given 0)
