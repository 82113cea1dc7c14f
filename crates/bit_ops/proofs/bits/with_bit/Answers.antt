-- A mask of one bit joined to a word sets that bit. Assumes nothing.
use lib.Bits.{bit_or}
use mathlib.Core.Path.{ap, ◌∙◌}
use Rattle.page_laws.specs.BitLaws.{or_bit}
use Rattle.bit_ops.proofs.bits.with_bit.Goals as goal

pub returns : goal.returns
returns c = ap (bit_or c.args.m) c.mask_of.ensures ∙ or_bit _ _
