-- What a call that arranges a page by f answers, and leaves in the page that it fills. Assumes nothing.
use Rattle.std.specs.Prelude.{ℕ, ◌≡◌, true, false, List, length, eqb, Ok, Err}
use Rattle.std.proofs.Common.{eqb-true, eq-eqb}
use Rattle.words.specs.Tests.{and_split}
use Rattle.pages.specs.Geometry.{page_words}
use Rattle.areas.specs.declared.Refusal.TheVariants.{Malformed}
use Rattle.columns.specs.ColumnCalls.{two_pages, arrange_answer, arranged}

module _ (page out : List ℕ) where
  pub both_pages : two_pages page out ≡ true → (length page ≡ page_words) × (length out ≡ page_words)
  both_pages t = let h = and_split (eqb (length page) page_words) (eqb (length out) page_words) t in (eqb-true _ _ h.0, eqb-true _ _ h.1)

  pub lengths : length page ≡ page_words → length out ≡ page_words → two_pages page out ≡ true
  lengths a b = rw (eq-eqb (length page) page_words a, eq-eqb (length out) page_words b)

  pub refused : (f : List ℕ → List ℕ) → two_pages page out ≡ false → (Err Malformed ≡ arrange_answer page out) × (out ≡ arranged f page out)
  unfolding arrange_answer arranged
  refused f t = (rw t, rw t)

  pub filled : (f : List ℕ → List ℕ) → two_pages page out ≡ true → (x : List ℕ) → x ≡ f page → (Ok 0 ≡ arrange_answer page out) × (x ≡ arranged f page out)
  unfolding arrange_answer arranged
  filled f t x e = (rw t, rw t e)
