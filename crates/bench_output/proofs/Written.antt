-- An output line written part by part.
use Prim.Native.Nat.{ℕ, ◌+◌}
use mathlib.Core.Path.{◌≡◌, sym, ap, ◌∙◌}
use mathlib.Core.List.{List, [], ◌∷◌, ◌++◌}
use native.Mathlib.Numerals.{add-one}
use native.Mathlib.Omega.{arith}
use lib.ListN.{length, set, length-append}
use lib.Seq.{sets}
use Rattle.texts.specs.Text.{cr, lf}
use Rattle.decimals.specs.Decimal.{decimal}
use Rattle.decimals.specs.DecimalLaws.{sets_append}
use Rattle.bench_output.specs.Output.{field_text, output_line}

-- the text y written at p, where x ends that was written from i
module _ (b x y : List ℕ) (i p : ℕ) (e : p ≡ i + length x) where
  pub text_end : p + length y ≡ i + length (x ++ y)
  text_end = omega (arith, length-append x y)

  pub text_more : (l : List ℕ) → l ≡ sets b i x → sets l p y ≡ sets b i (x ++ y)
  text_more l h = ap (λ (m : List ℕ). sets m p y) h ∙ ap (λ (j : ℕ). sets (sets b i x) j y) e ∙ sym (sets_append b i x y)

module _ (b l₁ l₂ l₃ : List ℕ) (i n a v p q r : ℕ)
    (e₁ : p ≡ i + length (field_text n)) (h₁ : l₁ ≡ sets b i (field_text n))
    (e₂ : q ≡ p + length (field_text a)) (h₂ : l₂ ≡ sets l₁ p (field_text a))
    (e₃ : r ≡ q + length (decimal v)) (h₃ : l₃ ≡ sets l₂ q (decimal v)) where
  pub line_written : (r + 2 ≡ i + length (output_line n a v)) × (set (set l₃ r cr) (r + 1) lf ≡ sets b i (output_line n a v))
  unfolding output_line
  line_written =
      let x₂ = field_text n ++ field_text a in
      let x₃ = x₂ ++ decimal v in
      let f₂ = e₂ ∙ text_end b (field_text n) (field_text a) i p e₁ in
      let g₂ = h₂ ∙ text_more b (field_text n) (field_text a) i p e₁ l₁ h₁ in
      let f₃ = e₃ ∙ text_end b x₂ (decimal v) i q f₂ in
      let g₃ = h₃ ∙ text_more b x₂ (decimal v) i q f₂ l₂ g₂ in
      (text_end b x₃ (cr ∷ lf ∷ []) i r f₃, ap (λ (j : ℕ). set (set l₃ r cr) j lf) (add-one r) ∙ text_more b x₃ (cr ∷ lf ∷ []) i r f₃ l₃ g₃)
