-- What the word names is visited. Assumes nothing.
use native.Mathlib.Omega.{arith}
use mathlib.Core.Path.{sym, ◌∙◌}
use borrow.Author.Tests.{not-true, not-false}
use Rattle.chain_search.proofs.Words.{taken_object, past_data, past_nothing, named_object, room, visited}
use Rattle.chain_search.proofs.Search.follow_word.Goals as goal

pub returns-then-not-is_ref : goal.returns-then-not-is_ref
returns-then-not-is_ref c = past_data _ _ _ _ _ _ _ _ _ c.requires.0 c.requires.1 (sym c.is_ref.ensures ∙ not-true _ c.if-not-is_ref.true-raw)

pub word_of-x-requires : goal.word_of-x-requires
word_of-x-requires c = let p = c.requires in let o = taken_object _ _ _ _ _ _ _ _ _ c.requires.0 c.requires.1 in let e = p.0.exact in (o.low, p.2, (let l = o.low in let t = o.top in omega arith))

pub returns-then-x-eq0 : goal.returns-then-x-eq0
returns-then-x-eq0 c = past_nothing _ _ _ _ _ _ _ _ _ c.requires.0 c.requires.1 (sym c.word_of-x.ensures ∙ c.if-x-eq0.true)

pub visit-requires : goal.visit-requires
visit-requires c = let w = c.requires.0.few in let o = named_object _ _ _ _ _ _ _ _ _ c.requires.0 c.requires.1 _ (sym c.is_ref.ensures ∙ not-false _ c.if-not-is_ref.false-raw) (sym c.word_of-x.ensures) c.if-x-eq0.false c.requires.2 in let t = o.top in let s = c.requires.1.start in let z = c.requires.1.between.size in (o.low, omega arith, omega arith, room _ _ _ _ _ _ _ _ _ c.requires.0 c.requires.1 _ (sym c.is_ref.ensures ∙ not-false _ c.if-not-is_ref.false-raw) (sym c.word_of-x.ensures) c.if-x-eq0.false c.requires.2, c.requires.1.between.queue_room)

pub returns : goal.returns
returns c = visited _ _ _ _ _ _ _ _ _ c.requires.0 c.requires.1 _ (sym c.is_ref.ensures ∙ not-false _ c.if-not-is_ref.false-raw) (sym c.word_of-x.ensures) c.if-x-eq0.false c.requires.2 _ _ _ c.visit.ensures
