use Rattle.ended_entries.specs.Entries.{entry_flagged}
use Rattle.ended_entries.proofs.flagged_entry.Goals as goal

pub returns : goal.returns
returns c = entry_flagged _ _ _ _ c.without_bit-left.ensures c.flag_for.ensures
