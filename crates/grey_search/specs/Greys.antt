-- The search for the lowest grey object, page by page and then one by one. n is the number of pages. Assumes nothing.
use Rattle.std.specs.Prelude.{ℕ, ◌+◌, ◌*◌, ◌<◌, ◌≤◌, ◌≡◌, List, eqb}
use Rattle.std.proofs.Math.Path.{refl, ap}
use Rattle.std.proofs.Common.{sym, ◌∙◌, eq-eqb, ne_eqb, eqb-true}
use Rattle.std.specs.Int.Bits.{bit_or}
use native.Mathlib.Omega.{arith}
use Rattle.words.specs.Tests.{and_split, lowest, lowest_next, lowest_found}
use Rattle.pages.specs.Geometry.{slot_count, object_count}
use Rattle.page_laws.specs.BitLaws.{or_none}
use Rattle.areas.specs.Layout.{colour_at}
use Rattle.areas.specs.Tables.{at, is_grey}
use Rattle.calls.specs.Pass.{lowest_grey}

-- the search for the lowest grey object, while there is none among the first k
unfoldable pub none_grey : List ℕ → ℕ → ℕ → Type 0
none_grey w n k = lowest (λ j. is_grey w n (j + 1)) k ≡ k

module _ (w : List ℕ) (n : ℕ) where
  pub grey_none : none_grey w n 0
  unfolding none_grey lowest
  grey_none = refl

  -- i: where the code finds the colour of object k + 1
  pub grey_next : (k i : ℕ) → none_grey w n k → i ≡ colour_at n (k + 1) → (at w i ≡ 1 → ⊥) → none_grey w n (k + 1)
  unfolding none_grey
  grey_next k i h place e = lowest_next (λ j. is_grey w n (j + 1)) k h (rw (← place) (ne_eqb (at w i) 1 e))

  -- the objects of page p, k of them looked at: g collects what x says of the next colour, which stands at a + k
  pub page_next : (p k a g x : ℕ) → a ≡ colour_at n (slot_count * p + 1) → (g ≡ 0 → none_grey w n (slot_count * p + k)) → (x ≡ 0 → at w (a + k) ≡ 1 → ⊥)
      → bit_or g x ≡ 0 → none_grey w n (slot_count * p + (k + 1))
  page_next p k a g x place h c e =
      let b = and_split (eqb g 0) (eqb x 0) (sym (or_none g x) ∙ eq-eqb (bit_or g x) 0 e) in
      let m : slot_count * p + (k + 1) ≡ (slot_count * p + k) + 1 = omega arith in
      rw m (grey_next (slot_count * p + k) (a + k) (h (eqb-true g 0 b.0)) (omega arith) (c (eqb-true x 0 b.1)))

  -- the count of objects looked at, written another way
  pub grey_same : {j k : ℕ} → none_grey w n j → j ≡ k → none_grey w n k
  grey_same h e = rw e at h

  pub grey_found : (k i : ℕ) → none_grey w n k → k < object_count n → i ≡ colour_at n (k + 1) → at w i ≡ 1 → k + 1 ≡ lowest_grey w n
  unfolding none_grey lowest_grey
  grey_found k i h l place e =
      ap (λ (j : ℕ). j + 1) (sym (lowest_found (λ j. is_grey w n (j + 1)) (object_count n) k l h (rw (← place) (eq-eqb (at w i) 1 e))))

  pub grey_end : (k : ℕ) → none_grey w n k → k ≡ object_count n → object_count n + 1 ≡ lowest_grey w n
  unfolding none_grey lowest_grey
  grey_end k h e = ap (λ (j : ℕ). j + 1) (sym (rw e at h))

  pub grey_from : (o : ℕ) → o ≡ lowest_grey w n → 1 ≤ o
  unfolding lowest_grey
  grey_from o e = omega arith
