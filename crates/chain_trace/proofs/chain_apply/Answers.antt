-- The finders that the search has left, traced back, are the chain. Assumes nothing.
use mathlib.Core.Path.{refl, ap, ◌∙◌}
use borrow.Author.Tests.{not-true, not-false}
use Rattle.reach.specs.Search.{chain_in}
use Rattle.chain_search.specs.Ending.{ended_so, ended_not}
use Rattle.chain_trace.specs.Showing.{cleared_from}
use Rattle.chain_trace.proofs.Shown.{none_shown, traced_length, chain_shown}
use Rattle.chain_trace.proofs.chain_apply.Goals as goal

pub search-requires : goal.search-requires
search-requires c = let p = c.requires in (record { exact = p.0; some = p.1; few = p.2; sound = p.3 }, p.4, c.new-found.ensures.0, c.new-found.ensures.1, c.new-found.ensures.2)

pub returns-then-not-search : goal.returns-then-not-search
returns-then-not-search c = let e = ended_not c.args.copies.now c.args.n c.args.o c.search.new.self.from c.search.result c.search.ensures.0 (not-true _ c.if-not-search.true-raw) in rw e (refl, c.clear.ensures ∙ none_shown _ c.requires.5)

pub trace-d-requires : goal.trace-d-requires
trace-d-requires c = record { chain = chain_in c.args.copies.now c.args.n c.args.o; back = ended_so c.args.copies.now c.args.n c.args.o c.search.new.self.from c.search.result c.search.ensures.0 (not-false _ c.if-not-search.false-raw); room = c.search.ensures.1 }

pub returns : goal.returns
returns c = let t = c.trace-d.ensures in let b = (ended_so c.args.copies.now c.args.n c.args.o c.search.new.self.from c.search.result c.search.ensures.0 (not-false _ c.if-not-search.false-raw)) in (traced_length _ _ _ _ t _ c.args.buffer.now b c.requires.5, c.clear-2.ensures ∙ ap (cleared_from c.trace-d.result) c.show.ensures ∙ chain_shown _ _ _ _ t _ _ b c.requires.5)
