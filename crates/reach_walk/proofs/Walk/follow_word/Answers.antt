-- What the word refers to is what `visit` marks. Assumes nothing.
use native.Mathlib.Omega.{arith}
use mathlib.Core.Path.{sym, ◌∙◌}
use borrow.Author.Tests.{not-false}
use Rattle.reach.specs.Reaching.{next, reached_some}
use Rattle.reach_walk.proofs.Range.{occupied_below}
use Rattle.reach_walk.proofs.Walk.follow_word.Goals as goal

pub word_of-x-requires : goal.word_of-x-requires
word_of-x-requires c = let p = c.requires in let s = reached_some p.2.reached in let l = occupied_below c.args.pages.now _ c.args.o p.0.exact p.2.there in (s, p.3, omega arith)

pub visit-requires : goal.visit-requires
visit-requires c = let p = c.requires in (p.0, p.1, next c.args.f p.2.reached (record { word = p.3; reference = sym c.is_ref.ensures ∙ not-false _ c.if-not-is_ref.false-raw; target = sym c.word_of-x.ensures; some = c.if-x-eq0.false }))
