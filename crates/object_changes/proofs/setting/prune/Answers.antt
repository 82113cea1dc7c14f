use Prim.Native.Nat.{ℕ}
use Rattle.object_changes.specs.Changing.{pruned_marking, pruned_idle}
use Rattle.pass_record.specs.Step.{own_phase}
use lib.Dec.{eqb}
use mathlib.Core.Path.{ap, sym, ◌∙◌}
use Rattle.object_changes.proofs.setting.prune.Goals as goal

pub returns-then-marking : goal.returns-then-marking
returns-then-marking c = pruned_marking _ _ _ _ c.pruned_at.ensures _ c.gain.ensures _ (ap (λ (p : ℕ). eqb p 1) (sym (own_phase _ _ c.pass_of-marking.ensures)) ∙ c.if-marking.true-raw) c.turn_grey.ensures

pub returns-else-marking : goal.returns-else-marking
returns-else-marking c = pruned_idle _ _ _ _ c.pruned_at.ensures _ c.gain.ensures (ap (λ (p : ℕ). eqb p 1) (sym (own_phase _ _ c.pass_of-marking.ensures)) ∙ c.if-marking.false-raw)
