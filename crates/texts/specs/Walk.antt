-- A loop over a list: what a function of the rest gives at the next byte, and at the end.
use Rattle.std.specs.Prelude.{ℕ, ◌+◌, ◌<◌, ◌≤◌, ◌≡◌, List, [], ◌∷◌, length, get_or, drop}
use Rattle.std.proofs.Common.{sym, ap, ◌∙◌, add-one, drop_of_length-le, drop-cons}

module _ {A : Type 0} (f : List ℕ → A) (s : List ℕ) (i : ℕ) where
  pub at_byte : i < length s → f (drop i s) ≡ f (get_or s i 0 ∷ drop (i + 1) s)
  at_byte h = ap f (drop-cons s i 0 h ∙ ap (λ (j : ℕ). get_or s i 0 ∷ drop j s) (sym (add-one i)))

  pub at_end : length s ≤ i → f (drop i s) ≡ f []
  at_end h = ap f (drop_of_length-le s h)
