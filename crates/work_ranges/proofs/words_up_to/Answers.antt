use borrow.Author.Rules.{rules}
use borrow.Author.Tests.{tests}
use native.Mathlib.Omega.{arith}
use lib.Dec.{leb}
use mathlib.Core.Bool.{Bool, ◌&&◌}
use mathlib.Core.Path.{◌≡◌, refl, sym, ap, ◌∙◌}
use Prim.Native.Nat.{ℕ, ◌+◌, ◌-◌}
use Rattle.std.specs.List.{list_all}
use Rattle.std.proofs.lemmas.Fn.{fold_over, fronts, slice_gives}
use Rattle.work_ranges.specs.Scans.{tested_more, tested_up_to}
use Rattle.work_ranges.proofs.words_up_to.Goals as goal

pub returns : goal.returns
returns c =
    let f : ℕ → Bool = λ y. leb y c.args.top in
    tested_up_to _ _ _ (c.args.a + c.args.n - c.args.a) _ c.requires (omega arith)
    (fold_over fronts (λ y. y.now) _ (λ ys r. r ≡ list_all f ys) _
    (λ ys a x b f' h k. let e : b ≡ a && f x.now = search (rules, tests) in (e ∙ ap (λ (o : Bool). o && f x.now) h ∙ sym (tested_more f ys x.now), search rules))
    c.iter.result _ _ _ (slice_gives c.iter.result) refl c.fold.ensures.ran
    ∙ ap (list_all f) c.iter.ensures.rest)
