use Rattle.codes.specs.Codes.{told}
use Rattle.kophdaen.proofs.held.kophdaen_held_pass_share.Goals as goal

pub returns : goal.returns
returns c = let (a, b) = told _ _ _ _ c.code.ensures c.held_pass_share-a.ensures.work_value in record { value = a; work_value = b; share_after = c.held_pass_share-a.ensures.share_after }
