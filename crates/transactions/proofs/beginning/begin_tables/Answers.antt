use Rattle.transactions.specs.Tables.{tables_begun}
use Rattle.transactions.proofs.beginning.begin_tables.Goals as goal

pub returns : goal.returns
returns c = tables_begun c.args.work.now _ _ _ c.known_at.ensures c.known_at-2.ensures c.gain.ensures c.leave_all.ensures c.gain-2.ensures c.note_client.ensures
