use mathlib.Core.Path.{sym, ap, ◌∙◌}
use Prim.Native.Nat.{ℕ, ◌+◌}
use native.Mathlib.Omega.{arith}
use borrow.Author.Rules.{rules}
use borrow.Author.Tests.{not-true, not-false}
use Rattle.words.specs.Tests.{if_t, if_f}
use Rattle.reserves.proofs.reserve_of.Goals as goal

pub returns-then-not-has_bit : goal.returns-then-not-has_bit
returns-then-not-has_bit c = (sym (if_f _ _ _ (sym c.has_bit.ensures ∙ not-true _ c.if-not-has_bit.true-raw)), omega arith)

pub returns : goal.returns
returns c = (ap (λ (x : ℕ). 1 + x) c.left_of.ensures.0 ∙ sym (if_t _ _ _ (sym c.has_bit.ensures ∙ not-false _ c.if-not-has_bit.false-raw)), search rules)
