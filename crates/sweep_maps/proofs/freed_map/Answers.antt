use Rattle.sweep_maps.specs.Freed.{nothing_to_free, lock_not_granted, page_read}
use mathlib.Core.Path.{sym, ◌∙◌}
use Rattle.sweep_maps.proofs.freed_map.Goals as goal

pub returns-then-u-eq0 : goal.returns-then-u-eq0
returns-then-u-eq0 c = nothing_to_free _ _ _ _ _ c.unmarked_map-u.ensures c.if-u-eq0.true

pub returns-then-locked : goal.returns-then-locked
returns-then-locked c = lock_not_granted _ _ _ _ (sym c.locked.ensures ∙ c.if-locked.true)

pub returns : goal.returns
returns c = page_read _ _ _ _ _ c.unmarked_map-u.ensures c.requires.3 (sym c.locked.ensures ∙ c.if-locked.false)
