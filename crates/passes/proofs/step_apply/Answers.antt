use Rattle.passes.specs.Stepping.{page_below, page_top, map_below, step_marks, step_sweeps}
use native.Mathlib.Omega.{arith}
use Rattle.passes.proofs.step_apply.Goals as goal

pub pass_of-pass-requires : goal.pass_of-pass-requires
pass_of-pass-requires c = let h = c.requires.tables in omega arith

pub mark_step-requires : goal.mark_step-requires
mark_step-requires c = let h = c.requires in let e = c.pass_of-pass.ensures in (h.tables, h.copies_in, page_top _ _ _ _ _ _ _ e h, c.if-pass-eq-MARKING.true, e)

pub returns-then-pass-eq-MARKING : goal.returns-then-pass-eq-MARKING
returns-then-pass-eq-MARKING c = λ s. let q = c.mark_step.ensures in step_marks _ _ _ _ _ _ _ c.pass_of-pass.ensures s _ _ c.if-pass-eq-MARKING.true q.value q.work_after

pub sweep_step-requires : goal.sweep_step-requires
sweep_step-requires c = let h = c.requires in let e = c.pass_of-pass.ensures in record { has_undoing = (h.undoing, page_below _ _ _ _ _ _ _ e h, c.if-pass-eq-MARKING.false, e, h.copies_in, h.received_in, map_below _ _ _ _ _ _ _ e h); kept = (h.kept, h.log_top) }

pub returns : goal.returns
returns c = λ s. step_sweeps _ _ _ _ _ _ _ c.pass_of-pass.ensures s _ c.if-pass-eq-MARKING.false (c.sweep_step.ensures s)
