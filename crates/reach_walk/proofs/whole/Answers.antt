-- The test of the length is `area_fits`. Assumes nothing.
use borrow.Author.Tests.{not-true}
use Rattle.reach_walk.specs.Wholeness.{area_fits, malformed}
use Rattle.reach_walk.proofs.whole.Goals as goal

pub returns-then-not-n-pages : goal.returns-then-not-n-pages
returns-then-not-n-pages c = malformed (not-true (area_fits c.args.pages.now) c.if-not-n-pages.true-raw)
