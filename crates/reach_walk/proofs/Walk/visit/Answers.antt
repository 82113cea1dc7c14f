-- Where x enters the queue, there is room: x is an object that is not marked. Assumes nothing.
use native.Mathlib.Omega.{arith}
use mathlib.Core.Path.{sym, ◌∙◌}
use borrow.Author.Tests.{not-false}
use Rattle.reach.specs.Reaching.{reached_some}
use Rattle.reach_walk.proofs.Entering.{room, enters}
use Rattle.reach_walk.proofs.Walk.visit.Goals as goal

pub offset_bounds-self-self : goal.offset_bounds-self-self
offset_bounds-self-self c = let p = c.requires in let l = room p.1 _ (reached_some p.2) c.if-n-x.false (rw c.if-self-i-ne0.false) in record { fits = omega arith }

pub bounds-self-self : goal.bounds-self-self
bounds-self-self c = let p = c.requires in let l = room p.1 _ (reached_some p.2) c.if-n-x.false (rw c.if-self-i-ne0.false) in omega arith

pub overflow_add-self : goal.overflow_add-self
overflow_add-self c = let p = c.requires in let l = room p.1 _ (reached_some p.2) c.if-n-x.false (rw c.if-self-i-ne0.false) in record { fits = omega arith }

pub returns : goal.returns
returns c = let p = c.requires in enters p.1 _ _ (reached_some p.2) c.if-n-x.false (record { reached = p.2; there = sym c.occupied.ensures ∙ not-false _ c.if-not-occupied.false-raw }) (omega arith) (rw c.if-self-i-ne0.false)
