-- The machine's count of ones is the number of slots set. Assumes nothing.
use Rattle.words.specs.Bits.{slots_ones}
use Rattle.bit_ops.proofs.bits.slots_set.Goals as goal

pub returns : goal.returns
returns c = slots_ones _ c.requires
