use Rattle.pass_record.specs.Step.{swept_one}
use Rattle.log_ops.specs.Logs.{sweep_fits}
use Rattle.store_ops.specs.Tables.{first_below}
use Rattle.sweeping.specs.Sweeps.{none_set, swept_none, swept_some}
use mathlib.Core.Path.{◌∙◌}
use native.Mathlib.Omega.{arith}
use Rattle.sweeping.proofs.sweep_apply.Goals as goal

pub advanced-requires : goal.advanced-requires
advanced-requires c = let e = c.pass_first-first.ensures in let b = first_below c.args.work.now c.args.n c.requires.has_tables.0.0 in omega arith

pub returns-then-m-eq0 : goal.returns-then-m-eq0
returns-then-m-eq0 c = record { value = none_set _ c.if-m-eq0.true; by_index = λ s. swept_none s _ _ _ _ _ _ _ _ _ c.if-m-eq0.true (c.put_pass.ensures ∙ swept_one _ _ _ _ c.requires.has_tables.4 _ _ c.pass_end-end.ensures _ c.requires.has_tables.3 c.advanced.ensures) }

pub append-requires : goal.append-requires
append-requires c = let f = c.requires in let q = f.counts_bound c.if-m-eq0.false in rw c.sweep_of.ensures (sweep_fits _ _ _ _ _ f.has_tables.6 f.has_tables.1 f.has_tables.7 q.0 q.1)

pub slots_set-requires : goal.slots_set-requires
slots_set-requires c = let q = c.requires.has_tables.1 in omega arith

pub returns : goal.returns
returns c = let q = c.append.ensures in let r = c.sweep_of.ensures in record { value = c.slots_set.ensures; by_index = λ s. swept_some s _ _ _ _ _ _ _ _ c.if-m-eq0.false c.release_slots.ensures (q.1 ∙ rw r) (q.2 ∙ rw r) q.3 (c.put_pass.ensures ∙ swept_one _ _ _ _ c.requires.has_tables.4 _ _ c.pass_end-end.ensures _ c.requires.has_tables.3 c.advanced.ensures) }
