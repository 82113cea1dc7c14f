use Rattle.std.proofs.lemmas.Result.{err_from_is_err_and}
use borrow.Author.Tests.{eq-eqb, ne_eqb}
use Rattle.bench_rights.specs.Giving.{again_given, again_not, again_refused}
use Rattle.bench_rights.proofs.give_again.Goals as goal

pub returns-in_err-v : goal.returns-in_err-v
returns-in_err-v c = let p = err_from_is_err_and c.from_residual.result c.from_residual.ensures.1 in rw (p.1, p.2) (again_refused _ _ _ c.in_err-v.was)

pub returns-then-v-eq-PAGES : goal.returns-then-v-eq-PAGES
returns-then-v-eq-PAGES c = again_given _ _ _ _ c.in_ok-v.was (eq-eqb _ _ c.if-v-eq-PAGES.true) c.give_all.ensures

pub returns-else-v-eq-PAGES : goal.returns-else-v-eq-PAGES
returns-else-v-eq-PAGES c = again_not _ _ _ c.in_ok-v.was (ne_eqb _ _ c.if-v-eq-PAGES.false)
