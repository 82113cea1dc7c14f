-- Laws of `same`.
use Rattle.std.specs.Prelude.{ℕ, suc, ◌≡◌, refl, Bool, false, ◌&&◌, List, [], ◌∷◌, eqb, bytes_eq, length}
use Rattle.std.proofs.Common.{ap}
use Rattle.std.proofs.Math.Bool.{and-false}
use Rattle.texts.specs.Same.{same}

-- what `==` says of two slices of bytes
pub same_bytes : (s t : List ℕ) → bytes_eq s t ≡ same s t
unfolding same
same_bytes [] [] = refl
same_bytes [] (y ∷ t) = refl
same_bytes (x ∷ s) [] = refl
same_bytes (x ∷ s) (y ∷ t) = ap (λ (b : Bool). eqb x y && b) (same_bytes s t)

pub same_lengths : (s t : List ℕ) → (length s ≡ length t → ⊥) → same s t ≡ false
unfolding same
same_lengths [] [] n = absurd (n refl)
same_lengths [] (y ∷ t) n = refl
same_lengths (x ∷ s) [] n = refl
same_lengths (x ∷ s) (y ∷ t) n = rw (same_lengths s t (λ e. n (ap suc e))) (and-false (eqb x y))
