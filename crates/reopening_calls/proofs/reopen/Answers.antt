use Rattle.std.proofs.lemmas.Result.{err_from_is_err_and}
use Rattle.acceptance.specs.Lengths.{lengths_facts}
use Rattle.reopening.specs.Reopens.{found, reopen_malformed, reopen_unsound, reopen_unfree, reopen_done}
use borrow.Author.Tests.{not-true, not-false}
use mathlib.Core.Path.{sym, ◌∙◌}
use native.Mathlib.Omega.{arith}
use Rattle.reopening_calls.proofs.reopen.Goals as goal

pub returns-then-not-lengths_fit : goal.returns-then-not-lengths_fit
returns-then-not-lengths_fit c = reopen_malformed _ _ _ _ _ _ (sym c.lengths_fit.ensures ∙ not-true _ c.if-not-lengths_fit.true-raw)

pub bounds-counts-1 : goal.bounds-counts-1
bounds-counts-1 c = let h = lengths_facts _ _ _ _ _ _ (sym c.lengths_fit.ensures ∙ not-false _ c.if-not-lengths_fit.false-raw) in omega arith

pub overflow_cast-stable : goal.overflow_cast-stable
overflow_cast-stable c = omega (arith, c.slice_known-5-1.given 0, c.slice_known-5-1.given 1)

pub find_open-requires : goal.find_open-requires
find_open-requires c = let h = lengths_facts _ _ _ _ _ _ (sym c.lengths_fit.ensures ∙ not-false _ c.if-not-lengths_fit.false-raw) in (h.low, h.top, h.stored_len, h.log_len)

pub recover_both-requires : goal.recover_both-requires
recover_both-requires c = let h = lengths_facts _ _ _ _ _ _ (sym c.lengths_fit.ensures ∙ not-false _ c.if-not-lengths_fit.false-raw) in let f = found c.args.stored.now _ _ _ (sym c.in_ok-still_open.ensures) in (h.top, omega arith, omega arith, h.stored_len, f.fits, f.sound, f.left)

pub returns-then-not-recover_both : goal.returns-then-not-recover_both
returns-then-not-recover_both c = reopen_unfree _ _ _ _ _ _ (sym c.lengths_fit.ensures ∙ not-false _ c.if-not-lengths_fit.false-raw) _ (sym c.in_ok-still_open.ensures) c.recover_both.ensures.0 c.recover_both.ensures.1 c.recover_both.ensures.2 (not-true _ c.if-not-recover_both.true-raw)

pub restart-requires : goal.restart-requires
restart-requires c = let h = lengths_facts _ _ _ _ _ _ (sym c.lengths_fit.ensures ∙ not-false _ c.if-not-lengths_fit.false-raw) in (omega arith, omega arith)

pub returns-in_err-still_open : goal.returns-in_err-still_open
returns-in_err-still_open c = let p = err_from_is_err_and c.from_residual.result c.from_residual.ensures.1 in rw (p.1, p.2) (reopen_unsound _ _ _ _ _ _ (sym c.lengths_fit.ensures ∙ not-false _ c.if-not-lengths_fit.false-raw) _ (sym c.in_err-still_open.ensures))

pub returns : goal.returns
returns c = reopen_done _ _ _ _ _ _ (sym c.lengths_fit.ensures ∙ not-false _ c.if-not-lengths_fit.false-raw) _ (sym c.in_ok-still_open.ensures) c.recover_both.ensures.0 c.recover_both.ensures.1 c.recover_both.ensures.2 (not-false _ c.if-not-recover_both.false-raw) c.restart.ensures.0 c.restart.ensures.1
