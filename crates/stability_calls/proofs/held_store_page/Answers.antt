use Rattle.std.proofs.lemmas.Result.{err_from_is_err_and}
use Rattle.acceptance.specs.Entered.{formed_sized, open_formed}
use Rattle.acceptance.specs.Stability.{store_facts}
use Rattle.areas.specs.Answers.{verdict}
use Rattle.areas.specs.Entry.{called_closed, called_refused, called_passed}
use Rattle.calls.specs.Stability.{call_store}
use Rattle.stability.specs.Checks.{store_as}
use borrow.Author.Tests.{not-true, not-false, eqb-true}
use mathlib.Core.Path.{sym, ◌∙◌, ap}
use native.Mathlib.Omega.{arith}
use Rattle.stability_calls.proofs.held_store_page.Goals as goal

pub is_open-requires : goal.is_open-requires
is_open-requires c = let h = formed_sized _ _ c.requires in omega arith

pub returns-then-not-is_open : goal.returns-then-not-is_open
unfolding call_store
returns-then-not-is_open c = called_closed _ _ _ _ _ c.requires (sym c.is_open.ensures ∙ not-true _ c.if-not-is_open.true-raw)

pub store_check-requires : goal.store_check-requires
store_check-requires c = let h = open_formed _ _ c.requires (eqb-true _ _ (sym c.is_open.ensures ∙ not-false _ c.if-not-is_open.false-raw)) in (omega arith, omega arith, omega arith, omega arith, h.ranged.records_sound_law)

pub copy_page-requires : goal.copy_page-requires
copy_page-requires c = let h = formed_sized _ _ c.requires in let f = store_facts _ _ _ (sym c.in_ok-store_check.ensures) in (omega arith, omega arith)

pub returns-in_err-store_check : goal.returns-in_err-store_check
unfolding call_store
returns-in_err-store_check c = let p = err_from_is_err_and c.from_residual.result c.from_residual.ensures.1 in rw (p.1, p.2) (called_refused _ _ _ _ _ _ c.requires (sym c.is_open.ensures ∙ not-false _ c.if-not-is_open.false-raw) (c.in_err-store_check.ensures ∙ ap verdict (store_as _ _ _)))

pub returns : goal.returns
unfolding call_store
returns c = rw c.copy_page.ensures (called_passed _ _ _ _ _ c.requires (sym c.is_open.ensures ∙ not-false _ c.if-not-is_open.false-raw) (c.in_ok-store_check.ensures ∙ ap verdict (store_as _ _ _)))
