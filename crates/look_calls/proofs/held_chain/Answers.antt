use Rattle.std.proofs.lemmas.Result.{err_from_is_err_and}
use native.Mathlib.Omega.{arith}
use mathlib.Core.Path.{sym, ◌∙◌}
use borrow.Author.Tests.{not-true, not-false, eqb-true}
use Rattle.acceptance.specs.Entered.{formed_sized, formed_own, open_formed}
use Rattle.look_calls.specs.Chains.{chain_ready, chain_closed, chain_refused, chain_passed}
use Rattle.look_calls.proofs.held_chain.Goals as goal

pub is_open-requires : goal.is_open-requires
is_open-requires c = let h = formed_sized _ _ c.requires in omega arith

pub returns-then-not-is_open : goal.returns-then-not-is_open
returns-then-not-is_open c = record { work_value = (chain_closed _ _ _ _ _ _ _ _ c.requires (sym c.is_open.ensures ∙ not-true _ c.if-not-is_open.true-raw)).0; buffer_after = (chain_closed _ _ _ _ _ _ _ _ c.requires (sym c.is_open.ensures ∙ not-true _ c.if-not-is_open.true-raw)).1 }

pub chain_check-requires : goal.chain_check-requires
chain_check-requires c = let h = formed_sized _ _ c.requires in let z = h.copies_len in (omega arith, h.top)

pub chain_apply-requires : goal.chain_apply-requires
chain_apply-requires c = chain_ready _ _ _ _ _ _ c.args.buffer.now _ _ (open_formed _ _ c.requires (eqb-true _ _ (sym c.is_open.ensures ∙ not-false _ c.if-not-is_open.false-raw))) (formed_own _ _ c.requires) (sym c.in_ok-chain_check.ensures)

pub returns-in_err-chain_check : goal.returns-in_err-chain_check
returns-in_err-chain_check c = let p = err_from_is_err_and c.from_residual.result c.from_residual.ensures.1 in rw (p.1, p.2) (record { work_value = (chain_refused _ _ _ _ _ _ _ _ c.requires (sym c.is_open.ensures ∙ not-false _ c.if-not-is_open.false-raw) _ (c.in_err-chain_check.ensures)).0; buffer_after = (chain_refused _ _ _ _ _ _ _ _ c.requires (sym c.is_open.ensures ∙ not-false _ c.if-not-is_open.false-raw) _ (c.in_err-chain_check.ensures)).1 })

pub returns : goal.returns
returns c = record { work_value = (chain_passed _ _ _ _ _ _ _ _ c.requires (sym c.is_open.ensures ∙ not-false _ c.if-not-is_open.false-raw) _ _ (c.in_ok-chain_check.ensures) c.chain_apply.ensures).0; buffer_after = (chain_passed _ _ _ _ _ _ _ _ c.requires (sym c.is_open.ensures ∙ not-false _ c.if-not-is_open.false-raw) _ _ (c.in_ok-chain_check.ensures) c.chain_apply.ensures).1 }
