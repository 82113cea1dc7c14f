use Rattle.codes.specs.Codes.{told}
use Rattle.kophdaen.proofs.kophdaen_pass_share.Goals as goal

pub returns : goal.returns
returns c = let (a, b) = told _ _ _ _ c.code.ensures c.pass_share-a.ensures.work_value in record { value = a; work_value = b; share_after = c.pass_share-a.ensures.share_after }
