use Rattle.object_changes.specs.Changing.{pruned_facts, write_prunes, write_keeps}
use mathlib.Core.Path.{sym, ◌∙◌}
use native.Mathlib.Omega.{arith}
use Rattle.object_changes.proofs.setting.enter_write.Goals as goal

pub prune-requires : goal.prune-requires
prune-requires c = let a = c.args in let h = pruned_facts a.old a.v c.if-is_ref-old.true in let k = c.requires.4 (sym c.is_ref.ensures ∙ h.0) in omega arith

pub returns-then-is_ref-old : goal.returns-then-is_ref-old
returns-then-is_ref-old c = write_prunes _ _ _ _ _ _ _ _ c.unflushed_at.ensures _ c.gain.ensures c.is_ref.ensures _ c.if-is_ref-old.true c.prune.ensures

pub returns-else-is_ref-old : goal.returns-else-is_ref-old
returns-else-is_ref-old c = write_keeps _ _ _ _ _ _ _ _ c.unflushed_at.ensures _ c.gain.ensures c.is_ref.ensures c.if-is_ref-old.false
