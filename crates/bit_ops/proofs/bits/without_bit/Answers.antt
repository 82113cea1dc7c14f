-- The bit is set before it is taken away. Assumes nothing.
use lib.Bits.{bit_or}
use mathlib.Core.Path.{ap, ◌∙◌}
use Prim.Native.Nat.{ℕ, ◌-◌}
use Rattle.page_laws.specs.BitLaws.{or_without, or_le_r}
use Rattle.bit_ops.proofs.bits.without_bit.Goals as goal

pub overflow_sub-result : goal.overflow_sub-result
overflow_sub-result c = or_le_r c.args.m c.mask_of-b.result

pub returns : goal.returns
returns c = ap (λ (x : ℕ). bit_or c.args.m x - x) c.mask_of-b.ensures ∙ or_without _ _
