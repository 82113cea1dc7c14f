use native.Mathlib.Omega.{arith}
use borrow.Author.Rules.{rules}
use Rattle.log_ops.specs.Logs.{left_found}
use Rattle.log_ops.proofs.changes_left.Goals as goal

pub changes_left-requires : goal.changes_left-requires
changes_left-requires c = (search rules, omega arith)

pub returns : goal.returns
returns c = left_found c.args.log.now c.args.counts.now c.args.work.now _ c.args.t _ _ c.undoing_at.ensures c.changes_left.ensures
