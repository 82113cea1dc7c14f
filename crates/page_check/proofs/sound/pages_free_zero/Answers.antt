use borrow.Author.Rules.{rules}
use borrow.Author.Tests.{tests}
use native.Mathlib.Omega.{arith}
use mathlib.Core.Path.{◌∙◌}
use Rattle.std.proofs.lemmas.Iterator.{YieldsList-from_range}
use Rattle.std.proofs.lemmas.Iterator.Search.{all_from_yields_List}
use Rattle.pages.specs.Soundness.{free_zero}
use Rattle.page_check.specs.SoundLaws.{all_range}
use Rattle.page_check.proofs.sound.pages_free_zero.Goals as goal

pub returns : goal.returns
returns c = all_from_yields_List (free_zero c.args.a.now) _ _ _ c.all.ensures.ran (YieldsList-from_range 0 c.args.n c.args.n (cc) (omega arith)) (λ x b q k. search (rules, tests)) ∙ all_range _ _
