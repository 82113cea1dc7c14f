use Rattle.going_back.specs.Outcomes.{back_out}
use Rattle.going_back.proofs.back_apply.Goals as goal

pub undo_newest-requires : goal.undo_newest-requires
undo_newest-requires c = rw c.since_mark-k.ensures.0 c.requires.0

pub returns : goal.returns
returns c = λ s d. back_out s d _ _ _ _ _ _ _ _ _ _ _ _ _ _ c.since_mark-k.ensures.0 c.undo_newest.ensures c.order_at.ensures c.drop_later.ensures
