use borrow.Author.Rules.{rules}
use borrow.Author.Tests.{tests}
use native.Mathlib.Omega.{arith}
use mathlib.Core.Path.{◌≡◌, ◌∙◌, sym}
use Rattle.std.proofs.lemmas.Iterator.{YieldsList-from_range}
use Rattle.std.proofs.lemmas.Iterator.Search.{all_from_yields_List}
use Rattle.words.specs.Tests.{all, and_t, and_f}
use Rattle.pages.specs.Soundness.{page_sound, area_sound}
use Rattle.page_check.specs.SoundLaws.{all_range}
use Rattle.page_check.proofs.sound.area_sound.Goals as goal

pub returns-then-all : goal.returns-then-all
unfolding area_sound
returns-then-all c = let e : c.all.result ≡ all (page_sound c.args.a.now c.args.n) c.args.n = all_from_yields_List (page_sound c.args.a.now c.args.n) _ _ _ c.all.ensures.ran (YieldsList-from_range 0 c.args.n c.args.n (cc) (omega arith)) (λ x b q k. search (rules, tests)) ∙ all_range _ _ in
    c.has_bit.ensures ∙ sym (and_t _ _ (sym e ∙ c.if-all.true))

pub returns-else-all : goal.returns-else-all
unfolding area_sound
returns-else-all c = let e : c.all.result ≡ all (page_sound c.args.a.now c.args.n) c.args.n = all_from_yields_List (page_sound c.args.a.now c.args.n) _ _ _ c.all.ensures.ran (YieldsList-from_range 0 c.args.n c.args.n (cc) (omega arith)) (λ x b q k. search (rules, tests)) ∙ all_range _ _ in
    c.if-all.false ∙ sym (and_f _ _ (sym e ∙ c.if-all.false))
