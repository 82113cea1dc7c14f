use native.Mathlib.Omega.{arith}
use mathlib.Core.Path.{◌≡◌}
use Rattle.pages.specs.Geometry.{slot_words}
use Rattle.chain_search.proofs.Steps.{take_start, take_end}
use Rattle.chain_search.proofs.Ends.{tail_few}
use Rattle.chain_search.proofs.Search.follow.Goals as goal

pub offset_bounds-self-head : goal.offset_bounds-self-head
offset_bounds-self-head c = let f = tail_few _ _ _ _ _ _ c.requires.0 c.requires.1 in let l = c.requires.2 in record { fits = omega arith }

pub bounds-self-head : goal.bounds-self-head
bounds-self-head c = let f = tail_few _ _ _ _ _ _ c.requires.0 c.requires.1 in let l = c.requires.2 in omega arith

pub loop-f-init : goal.loop-f-init
loop-f-init c = (omega arith, take_start _ _ _ _ _ _ c.requires.1 c.requires.2)

pub follow_word-requires : goal.follow_word-requires
follow_word-requires c = (c.requires.0, c.loop-f.invariant.1, c.loop-f-test.true)

pub loop-f-preserved : goal.loop-f-preserved
loop-f-preserved c = (omega arith, c.follow_word.ensures)

pub returns : goal.returns
returns c = let i = c.loop-f.invariant in let e : c.loop-f.f ≡ slot_words = omega arith in take_end _ _ _ _ _ _ _ _ (rw e at i.1)
