use mathlib.Core.Path.{refl}
use native.Mathlib.Omega.{arith}
use Rattle.record_laws.specs.RecordLaws.{record_facts}
use Rattle.log_replay.proofs.reading.open_after.Goals as goal

pub read_record-requires : goal.read_record-requires
read_record-requires c = (omega arith, (record_facts _ _ _ _ _ refl c.requires.1 c.loop-i-test.true).txn_below)
