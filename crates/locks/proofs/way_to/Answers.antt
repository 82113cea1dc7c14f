use Rattle.locks.specs.Checks.{way_clear, way_barred}
use Rattle.locks.proofs.way_to.Goals as goal

pub returns-then-writers-writing : goal.returns-then-writers-writing
returns-then-writers-writing c = way_clear _ _ _ _ _ c.readers_at.ensures c.writers_at.ensures c.others-readers.ensures c.others-writers.ensures c.if-writers-writing.true

pub returns-else-writers-writing : goal.returns-else-writers-writing
returns-else-writers-writing c = way_barred _ _ _ _ _ c.readers_at.ensures c.writers_at.ensures c.others-readers.ensures c.others-writers.ensures c.if-writers-writing.false c.lowest_of.ensures
