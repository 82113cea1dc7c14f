use Rattle.std.proofs.lemmas.Result.{err_from_is_err_and}
use native.Mathlib.Omega.{arith}
use mathlib.Core.Path.{sym, ◌∙◌}
use borrow.Author.Tests.{not-true, not-false}
use Rattle.acceptance.specs.Entered.{formed_sized, formed_own}
use Rattle.look_calls.specs.PassShares.{share_ready, share_closed, share_refused, share_passed}
use Rattle.look_calls.proofs.shares.held_pass_share.Goals as goal

pub is_open-requires : goal.is_open-requires
is_open-requires c = let h = formed_sized _ _ c.requires in omega arith

pub returns-then-not-is_open : goal.returns-then-not-is_open
returns-then-not-is_open c = record { work_value = (share_closed _ _ _ _ _ _ _ _ c.requires (sym c.is_open.ensures ∙ not-true _ c.if-not-is_open.true-raw)).0; share_after = (share_closed _ _ _ _ _ _ _ _ c.requires (sym c.is_open.ensures ∙ not-true _ c.if-not-is_open.true-raw)).1 }

pub share_apply-requires : goal.share_apply-requires
share_apply-requires c = let h = formed_sized _ _ c.requires in share_ready c.args.share.now _ _ h.top (formed_own _ _ c.requires) (sym c.in_ok-share_check.ensures)

pub returns-in_err-share_check : goal.returns-in_err-share_check
returns-in_err-share_check c = let p = err_from_is_err_and c.from_residual.result c.from_residual.ensures.1 in rw (p.1, p.2) (record { work_value = (share_refused _ _ _ _ _ _ _ _ c.requires (sym c.is_open.ensures ∙ not-false _ c.if-not-is_open.false-raw) _ (c.in_err-share_check.ensures)).0; share_after = (share_refused _ _ _ _ _ _ _ _ c.requires (sym c.is_open.ensures ∙ not-false _ c.if-not-is_open.false-raw) _ (c.in_err-share_check.ensures)).1 })

pub returns : goal.returns
returns c = record { work_value = (share_passed _ _ _ _ _ _ _ _ c.requires (sym c.is_open.ensures ∙ not-false _ c.if-not-is_open.false-raw) _ _ (c.in_ok-share_check.ensures) c.share_apply.ensures).0; share_after = (share_passed _ _ _ _ _ _ _ _ c.requires (sym c.is_open.ensures ∙ not-false _ c.if-not-is_open.false-raw) _ _ (c.in_ok-share_check.ensures) c.share_apply.ensures).1 }
