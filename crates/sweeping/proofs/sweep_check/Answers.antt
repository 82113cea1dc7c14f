use Rattle.sweeping.specs.Sweeps.{needs_none, needs_full, needs_room}
use borrow.Author.Tests.{not-true, not-false}
use Rattle.sweeping.proofs.sweep_check.Goals as goal

pub returns-then-m-eq0 : goal.returns-then-m-eq0
returns-then-m-eq0 c = needs_none _ _ _ _ _ c.if-m-eq0.true

pub returns-then-not-room_beyond : goal.returns-then-not-room_beyond
returns-then-not-room_beyond c = needs_full _ _ _ _ _ _ c.room_beyond.ensures c.if-m-eq0.false (not-true _ c.if-not-room_beyond.true-raw)

pub returns : goal.returns
returns c = needs_room _ _ _ _ _ _ c.room_beyond.ensures c.if-m-eq0.false (not-false _ c.if-not-room_beyond.false-raw)
