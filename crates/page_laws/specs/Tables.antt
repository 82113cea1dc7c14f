-- A table read: its length, its entries, and the rows of a page. Assumes nothing.
use Prim.Native.Nat.{ℕ, zero, suc, ◌<◌}
use Rattle.std.specs.Prelude.{◌≡◌, length, get_or}
use Rattle.std.proofs.Math.Path.{refl}
use Rattle.std.proofs.Common.{◌∙◌, length-append, arith}
use mathlib.Core.List.{List, [], ◌∷◌}
use Rattle.std.proofs.Math.ListN.{get_or-append}
use Rattle.std.proofs.lemmas.List.{get_or_at}
use Rattle.std.proofs.Math.Decide.{ℕ_discrete}
use Rattle.pages.specs.Geometry.{slot_count, slot_words}
use Rattle.pages.specs.Objects.{slot_word}
use Rattle.pages.specs.Table.{tabulate, row_of, rows_of}

module _ {A : Type 0} where
  pub length_tab : (f : ℕ → A) (n : ℕ) → length (tabulate f n) ≡ n
  unfolding tabulate
  length_tab f zero = refl
  length_tab f (suc n) = rw (length-append, length_tab f n) (omega arith)

  pub tab_at : (f : ℕ → A) (n i : ℕ) (d : A) → i < n → get_or (tabulate f n) i d ≡ f i
  unfolding tabulate
  tab_at f zero i d h = absurd (omega arith)
  tab_at f (suc n) i d h = elim (ℕ_discrete i n) [
    | yes q ↦ rw q (get_or_at (tabulate f n) (f n) [] d n (length_tab f n))
    | no q ↦ get_or-append (tabulate f n) (f n ∷ []) d i (let e = length_tab f n in omega arith) ∙ tab_at f n i d (omega arith)
  ]

pub row_at : (a : List ℕ) (p s f : ℕ) → f < slot_words → get_or (row_of a p s) f 0 ≡ slot_word a p s f
row_at a p s zero h = refl
row_at a p s (suc zero) h = refl
row_at a p s (suc (suc zero)) h = refl
row_at a p s (suc (suc (suc zero))) h = refl
row_at a p s (suc (suc (suc (suc zero)))) h = refl
row_at a p s (suc (suc (suc (suc (suc zero))))) h = refl
row_at a p s (suc (suc (suc (suc (suc (suc zero)))))) h = refl
row_at a p s (suc (suc (suc (suc (suc (suc (suc zero))))))) h = refl
row_at a p s (suc (suc (suc (suc (suc (suc (suc (suc f)))))))) h = absurd (omega arith)

pub rows_at : (a : List ℕ) (p s : ℕ) → s < slot_count → get_or (rows_of a p) s [] ≡ row_of a p s
unfolding rows_of
rows_at a p s h = tab_at (row_of a p) slot_count s [] h

pub rows_full : (a : List ℕ) (p s : ℕ) → s < slot_count → length (get_or (rows_of a p) s []) ≡ slot_words
rows_full a p s h = rw (rows_at a p s h)
