use Rattle.codes.specs.Codes.{told}
use Rattle.kophdaen.proofs.kophdaen_read.Goals as goal

pub returns : goal.returns
returns c = let (a, b) = told _ _ _ _ c.code.ensures c.read-a.ensures.work_after in record { value = a; work_after = b; buffer_after = c.read-a.ensures.buffer_after }
