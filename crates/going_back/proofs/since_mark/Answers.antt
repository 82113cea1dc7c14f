use native.Mathlib.Omega.{arith}
use Rattle.going_back.specs.Checks.{since_some, since_none}
use Rattle.going_back.proofs.since_mark.Goals as goal

pub returns-then-marked-left : goal.returns-then-marked-left
returns-then-marked-left c = (since_some c.args.log.now c.args.counts.now c.args.work.now c.args.n c.args.t c.args.m c.changes_left-left.ensures.0 c.marked_at.ensures, let f = c.changes_left-left.ensures.1 in let k = c.requires.kept.few in omega arith)

pub returns-else-marked-left : goal.returns-else-marked-left
returns-else-marked-left c = (since_none c.args.log.now c.args.counts.now c.args.work.now c.args.n c.args.t c.args.m c.changes_left-left.ensures.0 c.marked_at.ensures c.if-marked-left.false, omega arith)
