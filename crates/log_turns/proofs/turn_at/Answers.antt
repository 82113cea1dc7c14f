use lib.Dec.{eqb}
use Rattle.log_turns.specs.Turns.{plain_change, no_change, turn_noted, turn_other, turn_left, turn_undone}
use Rattle.log_turns.proofs.turn_at.Goals as goal

pub returns-then-pending-eq0 : goal.returns-then-pending-eq0
returns-then-pending-eq0 c = let a = c.args in let p = plain_change (eqb a.word 0) a.r a.t c.if-word-change.true in turn_left _ _ _ _ p.0 p.1 c.if-pending-eq0.true

pub returns-then-word-change : goal.returns-then-word-change
returns-then-word-change c = let a = c.args in let p = plain_change (eqb a.word 0) a.r a.t c.if-word-change.true in turn_undone _ _ _ _ p.0 p.1 c.if-pending-eq0.false

pub returns-then-word-change-2 : goal.returns-then-word-change-2
returns-then-word-change-2 c = turn_noted _ _ _ _ c.if-word-change-2.true

pub returns : goal.returns
returns c = let a = c.args in turn_other _ _ _ _ c.if-word-change-2.false (no_change (eqb a.word 0) a.r a.t c.if-word-change.false c.if-word-change-2.false)
