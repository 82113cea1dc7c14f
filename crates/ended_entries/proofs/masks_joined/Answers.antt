use borrow.Author.Rules.{rules}
use borrow.Author.Tests.{tests}
use native.Mathlib.Omega.{arith}
use Prim.Native.Nat.{ℕ, ◌+◌, ◌-◌}
use mathlib.Core.Path.{◌≡◌, ap, ◌∙◌}
use Rattle.std.specs.Int.Bits.{bit_or}
use Rattle.std.proofs.lemmas.Fn.{fold_over, fronts, slice_gives}
use Rattle.pages.specs.Geometry.{slot_count}
use Rattle.ended_entries.specs.Entries.{all_joined, none_joined, joined_more, part_joined}
use Rattle.ended_entries.proofs.masks_joined.Goals as goal

pub returns : goal.returns
returns c =
    part_joined _ _ _ (c.args.a + slot_count - c.args.a) _ c.requires (omega arith)
    (fold_over fronts (λ y. y.now) _ (λ ys r. r ≡ all_joined ys) _
    (λ ys a x b f' h k. let e : b ≡ bit_or a x.now = search (rules, tests) in (e ∙ ap (λ (m : ℕ). bit_or m x.now) h ∙ joined_more ys x.now, search rules))
    c.iter.result _ _ _ (slice_gives c.iter.result) none_joined c.fold.ensures.ran
    ∙ ap all_joined c.iter.ensures.rest)
