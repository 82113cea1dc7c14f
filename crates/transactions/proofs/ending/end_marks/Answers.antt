use Rattle.transactions.specs.Tables.{marks_ended}
use Rattle.transactions.proofs.ending.end_marks.Goals as goal

pub returns : goal.returns
returns c = marks_ended c.args.work.now _ _ c.marked_at.ensures c.order_at.ensures c.clear_words.ensures c.clear_words-2.ensures
