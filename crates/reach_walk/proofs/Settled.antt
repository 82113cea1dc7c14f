-- The answer about a page area is settled: there is one for each area, 1 says that the area is whole, and 0 that it is not. Assumes
-- nothing.
use Rattle.std.specs.Prelude.{Ok}
use Prim.Native.Nat.{ℕ}
use mathlib.Core.Path.{◌≡◌, refl}
use mathlib.Core.List.{List}
use native.Mathlib.Omega.{arith}
use Rattle.words.specs.Tests.{clash}
use Rattle.reach.specs.Reaching.{Whole}
use Rattle.reach_walk.specs.Wholeness.{Dangles, WholeAnswer, malformed, all_occupied, dangling}
use Rattle.areas.specs.Answers.{Answer}

pub not_whole : (a : List ℕ) → Dangles a → Whole a → ⊥
not_whole a d w = clash (w d.object d.reached) d.free

pub settled : (a : List ℕ) (r s : Answer) → WholeAnswer a r → WholeAnswer a s → r ≡ s
settled a _ _ (malformed e) (malformed f) = refl
settled a _ _ (malformed e) (all_occupied f w) = clash f e
settled a _ _ (malformed e) (dangling f d) = clash f e
settled a _ _ (all_occupied e w) (malformed f) = clash e f
settled a _ _ (all_occupied e w) (all_occupied f v) = refl
settled a _ _ (all_occupied e w) (dangling f d) = absurd (not_whole a d w)
settled a _ _ (dangling e d) (malformed f) = clash e f
settled a _ _ (dangling e d) (all_occupied f w) = absurd (not_whole a d w)
settled a _ _ (dangling e d) (dangling f c) = refl

pub one_whole : (a : List ℕ) (r : Answer) → WholeAnswer a r → r ≡ Ok 1 → Whole a
one_whole a _ (malformed e) q = let z : ◌≡◌ {A = ℕ} 0 1 = cc in absurd (omega arith)
one_whole a _ (all_occupied e w) q = w
one_whole a _ (dangling e d) q = let z : ◌≡◌ {A = ℕ} 0 1 = cc in absurd (omega arith)

pub zero_not_whole : (a : List ℕ) (r : Answer) → WholeAnswer a r → r ≡ Ok 0 → Whole a → ⊥
zero_not_whole a _ (malformed e) q v = let z : ◌≡◌ {A = ℕ} 0 1 = cc in absurd (omega arith)
zero_not_whole a _ (all_occupied e w) q v = let z : ◌≡◌ {A = ℕ} 0 1 = cc in absurd (omega arith)
zero_not_whole a _ (dangling e d) q v = not_whole a d v
