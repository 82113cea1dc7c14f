use Rattle.std.proofs.Common.{◌∙◌}
use Rattle.texts.specs.SameLaws.{same_bytes}
use Rattle.texts.proofs.same.Goals as goal

pub returns : goal.returns
returns c = c.eq.ensures ∙ same_bytes c.args.a.now c.args.b.now
