use Rattle.pass_record.specs.Step.{next_object, next_turn, next_page, next_over}
use Rattle.pass_record.proofs.step.Goals as goal

pub returns-then-grey : goal.returns-then-grey
returns-then-grey c = next_object _ _ _ _ _ _ c.steps_next-steps.ensures c.if-p-eq-MARKING.true c.if-grey.true

pub returns-then-p-eq-MARKING : goal.returns-then-p-eq-MARKING
returns-then-p-eq-MARKING c = next_turn _ _ _ _ _ _ c.steps_next-steps.ensures c.if-p-eq-MARKING.true c.if-grey.false

pub returns-then-next-end : goal.returns-then-next-end
returns-then-next-end c = next_page _ _ _ _ _ _ c.steps_next-steps.ensures c.if-p-eq-MARKING.false c.if-next-end.true

pub returns : goal.returns
returns c = next_over _ _ _ _ _ _ c.steps_next-steps.ensures c.if-p-eq-MARKING.false c.if-next-end.false
