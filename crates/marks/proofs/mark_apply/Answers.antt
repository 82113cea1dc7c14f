use Rattle.marks.specs.Outcomes.{marked_out}
use Rattle.marks.proofs.mark_apply.Goals as goal

pub returns : goal.returns
returns c = λ s d r. marked_out s d r _ _ _ _ _ _ _ _ _ c.changes_left-left.ensures.0 c.set_last.ensures c.marked_at.ensures
