use native.Mathlib.Omega.{arith}
use lib.ListN.{get_or}
use Rattle.pages.specs.Geometry as geometry
use Rattle.pages.specs.Geometry.{slot_words, object_count, max_pages}
use Rattle.reach.specs.Reaching.{root}
use Rattle.reach_walk.specs.Wholeness.{all_occupied, dangling}
use Rattle.reach_walk.specs.Walk.{Marked, FollowedTo}
use Rattle.reach_walk.proofs.Range.{fits_pages}
use Rattle.reach_walk.proofs.Entering.{start, tail_below}
use Rattle.reach_walk.proofs.Outcomes.{went_out}
use Rattle.reach_walk.proofs.End.{ends_whole}
use Rattle.reach_walk.proofs.walk_all.Goals as goal

pub visit-requires : goal.visit-requires
visit-requires c = let p = c.requires in let e = fits_pages _ _ p.0 p.1 in (e, start _ _ (object_count max_pages) (omega arith), root)

pub returns-then-is_none : goal.returns-then-is_none
returns-then-is_none c = dangling c.requires.0 (went_out _ _ _ _ (λ w. Marked w geometry.root) _ c.if-is_none.ensures c.visit.ensures)

pub offset_bounds-walk-head : goal.offset_bounds-walk-head
offset_bounds-walk-head c = let b = tail_below c.loop-head.invariant.1 in record { fits = omega arith }

pub bounds-walk-head : goal.bounds-walk-head
bounds-walk-head c = let b = tail_below c.loop-head.invariant.1 in omega arith

pub returns-then-is_none-2 : goal.returns-then-is_none-2
returns-then-is_none-2 c = dangling c.requires.0 (went_out _ _ _ _ (λ w. FollowedTo c.args.pages.now w (get_or c.loop-head.walk.queue c.loop-head.head 0) slot_words) _ c.if-is_none-2.ensures c.follow.ensures)

pub overflow_add-head : goal.overflow_add-head
overflow_add-head c = let b = tail_below c.loop-head.invariant.1 in record { fits = omega arith }

pub loop-head-smaller : goal.loop-head-smaller
loop-head-smaller c = let b = tail_below c.loop-head.invariant.1 in omega arith

pub returns : goal.returns
returns c = let i = c.loop-head.invariant in all_occupied c.requires.0 (ends_whole _ _ _ i.1 i.3 (λ k l. i.4 k (omega arith)))
