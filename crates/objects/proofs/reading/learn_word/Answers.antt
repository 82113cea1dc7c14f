use Rattle.objects.specs.Reading.{word_learned, word_passed, learns_facts}
use borrow.Author.Rules.{rules}
use Rattle.objects.proofs.reading.learn_word.Goals as goal

pub known_at-requires : goal.known_at-requires
known_at-requires c = let a = c.args in let h = learns_facts a.received.now a.o a.f _ c.word_of-x.ensures c.is_ref.ensures a.n c.requires.n_in_bounds.2 c.requires.t_lt_txn_count.1 c.requires.t_lt_txn_count.2 c.requires.t_lt_txn_count.3 c.if-is_ref-x.true in search rules

pub gain-requires : goal.gain-requires
gain-requires c = let a = c.args in let h = learns_facts a.received.now a.o a.f _ c.word_of-x.ensures c.is_ref.ensures a.n c.requires.n_in_bounds.2 c.requires.t_lt_txn_count.1 c.requires.t_lt_txn_count.2 c.requires.t_lt_txn_count.3 c.if-is_ref-x.true in search rules

pub returns-then-is_ref-x : goal.returns-then-is_ref-x
returns-then-is_ref-x c = word_learned _ _ _ _ c.word_of-x.ensures c.is_ref.ensures _ _ _ _ c.known_at.ensures c.if-is_ref-x.true c.gain.ensures

pub returns-else-is_ref-x : goal.returns-else-is_ref-x
returns-else-is_ref-x c = word_passed _ _ _ _ c.word_of-x.ensures c.is_ref.ensures _ _ _ c.if-is_ref-x.false
