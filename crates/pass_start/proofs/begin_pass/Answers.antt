use Rattle.pass_start.specs.Starting.{pass_started_law}
use Rattle.pass_record.specs.Step.{put_is}
use mathlib.Core.Path.{◌∙◌}
use Rattle.pass_start.proofs.begin_pass.Goals as goal

pub returns : goal.returns
returns c = c.put_pass.ensures ∙ put_is _ _ ∙ pass_started_law _ _ _ _ _ _ _ _ c.pass_first-page.ensures c.pruned_at.ensures c.created_at.ensures c.leave_all.ensures c.leave_all-2.ensures c.colour_first.ensures
