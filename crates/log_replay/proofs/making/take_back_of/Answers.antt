use native.Mathlib.Omega.{arith}
use Rattle.record_laws.specs.RecordLaws.{sound_record}
use Rattle.record_ops.specs.InRange.{sound_in_range}
use Rattle.log_replay.proofs.making.take_back_of.Goals as goal

pub has_bit-requires : goal.has_bit-requires
has_bit-requires c = let h = (sound_record _ _ c.requires).txn_below in omega arith

pub take_back-requires : goal.take_back-requires
take_back-requires c = sound_in_range _ _ c.requires
