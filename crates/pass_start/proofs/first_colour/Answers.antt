use Rattle.pass_start.specs.Starting.{first_by}
use Rattle.pass_start.proofs.first_colour.Goals as goal

pub returns-then-may_mark-o : goal.returns-then-may_mark-o
returns-then-may_mark-o c = first_by c.args.work.now c.args.n c.args.o _ _ _ c.may_mark.ensures c.pruned_at.ensures c.if-may_mark-o.true

pub returns-else-may_mark-o : goal.returns-else-may_mark-o
returns-else-may_mark-o c = first_by c.args.work.now c.args.n c.args.o _ _ _ c.may_mark.ensures c.pruned_at.ensures c.if-may_mark-o.false
