use native.Mathlib.Omega.{arith}
use Rattle.record_laws.specs.RecordLaws.{record_facts}
use Rattle.log_replay.proofs.making.undo.Goals as goal

pub leave-left-requires : goal.leave-left-requires
leave-left-requires c = (record_facts _ _ _ _ _ c.record_at-r.ensures c.requires.1 (omega arith)).txn_below
