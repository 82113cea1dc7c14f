use native.Mathlib.Omega.{arith}
use borrow.Author.Tests.{ne_eqb}
use Rattle.chain_search.proofs.Ends.{search_start, tail_few, tail_grows, ended_found, ended}
use Rattle.chain_search.proofs.Search.search.Goals as goal

pub overflow_sub-i : goal.overflow_sub-i
overflow_sub-i c = c.requires.1.low

pub overflow_cast-i : goal.overflow_cast-i
overflow_cast-i c = let o = c.requires.1 in let w = c.requires.0.few in let t = o.top in let l = o.low in record { fits = omega arith }

pub loop-head-init : goal.loop-head-init
loop-head-init c = let p = c.requires in (omega arith, search_start _ _ c.args.self.now.from c.args.self.now.queue p.2 p.3 p.4)

pub offset_bounds-self-i : goal.offset_bounds-self-i
offset_bounds-self-i c = let o = c.requires.1 in let w = c.requires.0.few in let t = o.top in let l = o.low in record { fits = omega arith }

pub bounds-self-i : goal.bounds-self-i
bounds-self-i c = let o = c.requires.1 in let w = c.requires.0.few in let t = o.top in let l = o.low in omega arith

pub returns-then-self-i-ne0 : goal.returns-then-self-i-ne0
returns-then-self-i-ne0 c = let i = c.loop-head.invariant in (ended_found _ _ _ _ _ _ c.requires.0 i.1 _ c.requires.1 i.0 (rw (ne_eqb _ 0 c.if-self-i-ne0.true)), i.1.queue_room)

pub follow-requires : goal.follow-requires
follow-requires c = (c.requires.0, c.loop-head.invariant.1, c.loop-head-test.true)

pub overflow_add-head : goal.overflow_add-head
overflow_add-head c = let i = c.loop-head.invariant in let f = tail_few _ _ _ _ _ _ c.requires.0 i.1 in let l = c.loop-head-test.true in record { fits = omega arith }

pub loop-head-smaller : goal.loop-head-smaller
loop-head-smaller c = let i = c.loop-head.invariant in let f = tail_few _ _ _ _ _ _ c.requires.0 i.1 in let l = c.loop-head-test.true in omega arith

pub loop-head-preserved : goal.loop-head-preserved
loop-head-preserved c = let i = c.loop-head.invariant in let g = tail_grows _ _ _ _ _ _ _ _ _ i.1 c.follow.ensures in let l = c.loop-head-test.true in (omega arith, c.follow.ensures)

pub offset_bounds-self-i-2 : goal.offset_bounds-self-i-2
offset_bounds-self-i-2 c = let o = c.requires.1 in let w = c.requires.0.few in let t = o.top in let l = o.low in record { fits = omega arith }

pub bounds-self-i-2 : goal.bounds-self-i-2
bounds-self-i-2 c = let o = c.requires.1 in let w = c.requires.0.few in let t = o.top in let l = o.low in omega arith

pub returns : goal.returns
returns c = let i = c.loop-head.invariant in (ended _ _ _ _ _ _ c.requires.0 i.1 _ c.requires.1 i.0 (let l = c.loop-head-test.false in omega arith), i.1.queue_room)
