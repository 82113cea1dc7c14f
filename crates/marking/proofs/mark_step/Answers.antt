use Rattle.grey_search.specs.Greys.{grey_from}
use Rattle.marking.specs.Steps.{value_scan, value_turn, work_scan, work_turn}
use Rattle.pass_record.specs.Step.{marked_one, turned}
use Rattle.store_ops.specs.Tables.{first_below}
use mathlib.Core.Path.{◌∙◌}
use native.Mathlib.Omega.{arith}
use Rattle.marking.proofs.mark_step.Goals as goal

pub advanced-requires : goal.advanced-requires
advanced-requires c = let e = c.pass_first-first.ensures in let b = first_below c.args.work.now c.args.n c.requires.0.0 in omega arith

pub returns-then-n-o : goal.returns-then-n-o
returns-then-n-o c = let q = c.requires in let g = c.lowest_grey-o.ensures in record { value = value_turn _ _ _ g c.if-n-o.true; work_after = work_turn _ _ _ g _ _ c.if-n-o.true (c.put_pass.ensures ∙ turned _ _ _ _ q.4 _ _ c.pass_first-first.ensures _ q.3 c.advanced.ensures) }

pub scan_object-requires : goal.scan_object-requires
scan_object-requires c = let l = grey_from _ _ _ c.lowest_grey-o.ensures in omega arith

pub advanced-requires-2 : goal.advanced-requires-2
advanced-requires-2 c = let e = c.pass_first-first.ensures in let b = first_below c.args.work.now c.args.n c.requires.0.0 in omega arith

pub returns : goal.returns
returns c = let q = c.requires in let g = c.lowest_grey-o.ensures in record { value = value_scan _ _ _ g c.if-n-o.false; work_after = work_scan _ _ _ g _ _ _ c.if-n-o.false c.scan_object.ensures (c.put_pass-2.ensures ∙ marked_one _ _ _ _ q.4 _ _ _ q.3 c.advanced-2.ensures) }
