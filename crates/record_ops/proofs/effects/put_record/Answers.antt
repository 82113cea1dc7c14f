use lib.ListN.{length-set}
use native.Mathlib.Omega.{arith}
use Rattle.record_ops.proofs.effects.put_record.Goals as goal

pub bounds-log-i-2 : goal.bounds-log-i-2
bounds-log-i-2 c = simp length-set (omega arith)

pub bounds-log-i-3 : goal.bounds-log-i-3
bounds-log-i-3 c = simp length-set (omega arith)

pub bounds-log-i-4 : goal.bounds-log-i-4
bounds-log-i-4 c = simp length-set (omega arith)

pub bounds-log-i-5 : goal.bounds-log-i-5
bounds-log-i-5 c = simp length-set (omega arith)

pub bounds-log-i-6 : goal.bounds-log-i-6
bounds-log-i-6 c = simp length-set (omega arith)
