-- a buffer of two words, both written
use Prim.Native.Nat.{ℕ, ◌/◌, ◌%◌}
use mathlib.Core.Path.{◌≡◌, refl, ap, ◌∙◌}
use mathlib.Core.List.{List, [], ◌∷◌}
use native.Mathlib.Omega.{arith}
use lib.ListN.{length, set}
use Rattle.calls.specs.PassShares.{share_words}
use Rattle.pass_shares.proofs.share_apply.Goals as goal

both : (l : List ℕ) (a b : ℕ) → length l ≡ share_words → set (set l 0 a) 1 b ≡ a ∷ b ∷ []
both [] a b h = absurd (omega arith)
both (x ∷ []) a b h = absurd (omega arith)
both (x ∷ y ∷ []) a b h = refl
both (x ∷ y ∷ z ∷ l) a b h = absurd (omega arith)

pub returns : goal.returns
returns c =
    let a = c.args in
    let e = c.pass_bound-bound.ensures in
    (ap (λ (x : ℕ). x / a.commits) e, both a.share.now _ _ c.requires.2 ∙ ap (λ (x : ℕ). x / a.commits ∷ x % a.commits ∷ []) e)
