use Rattle.codes.specs.Codes.{told}
use Rattle.kophdaen.proofs.held.kophdaen_held_read.Goals as goal

pub returns : goal.returns
returns c = let (a, b) = told _ _ _ _ c.code.ensures c.held_read-a.ensures.work_after in record { value = a; work_after = b; buffer_after = c.held_read-a.ensures.buffer_after }
