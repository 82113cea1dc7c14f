use mathlib.Core.Path.{◌∙◌}
use Rattle.areas.specs.Answers.{all_passed, need_holds, need_fails}
use Rattle.calls.specs.PassShares.{pass_share_tests}
use Rattle.pass_shares.proofs.share_check.Goals as goal

pub returns-then-commits : goal.returns-then-commits
unfolding pass_share_tests
returns-then-commits c = all_passed ∙ need_holds _ _ _ _ c.if-commits.true

pub returns : goal.returns
unfolding pass_share_tests
returns c = need_fails _ _ _ _ c.if-commits.false
