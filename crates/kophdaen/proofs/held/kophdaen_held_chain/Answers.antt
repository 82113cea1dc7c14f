use Rattle.codes.specs.Codes.{told}
use Rattle.kophdaen.proofs.held.kophdaen_held_chain.Goals as goal

pub returns : goal.returns
returns c = let (a, b) = told _ _ _ _ c.code.ensures c.held_chain-a.ensures.work_value in record { value = a; work_value = b; chain_after = c.held_chain-a.ensures.buffer_after }
