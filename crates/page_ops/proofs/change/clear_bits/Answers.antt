-- All bits of m are set before they are taken away. Assumes nothing.
use native.Mathlib.Omega.{arith}
use Rattle.page_laws.specs.BitLaws.{or_le_r, clear_or}
use Rattle.page_ops.proofs.change.clear_bits.Goals as goal

pub overflow_sub-result : goal.overflow_sub-result
overflow_sub-result c = or_le_r c.args.w c.args.m

pub returns : goal.returns
returns c = clear_or _ _ (omega arith) c.requires
