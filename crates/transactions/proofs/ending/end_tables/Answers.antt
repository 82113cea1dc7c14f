use Rattle.transactions.specs.Tables.{tables_ended}
use Rattle.transactions.proofs.ending.end_tables.Goals as goal

pub returns : goal.returns
returns c = tables_ended c.args.work.now _ _ c.readers_at-masks.ensures c.pruned_at-entries.ensures c.colour_at-end.ensures c.lose.ensures c.leave_all.ensures c.end_entries.ensures c.end_marks.ensures c.note_client.ensures
