-- A read as its code does it: the references learned one after the other. Assumes nothing.
use Rattle.std.specs.Prelude.{ℕ, ◌+◌, ◌<◌, ◌≤◌, ◌≡◌, Bool, true, false, not, ◌&&◌, eqb}
use Rattle.std.proofs.Math.Path.{refl, sym, ap}
use Rattle.std.proofs.Common.{◌∙◌, add-one, arith}
use mathlib.Core.List.{List}
use Rattle.std.proofs.lemmas.Bool.{eqb-false, not-true}
use Rattle.words.specs.Tests.{if, if_t, if_f, and_split}
use Rattle.pages.specs.Geometry.{slot_words, object_count, is_ref}
use Rattle.pages.specs.Objects.{word_of}
use Rattle.pages.specs.Soundness.{area_sound}
use Rattle.page_laws.specs.SoundFacts.{ref_in_range}
use Rattle.areas.specs.Layout.{known_at}
use Rattle.areas.specs.Tables.{gain}
use Rattle.calls.specs.Objects.{learned}

-- 'the references other than 0 become known': word f of the object
unfoldable pub learned_next : List ℕ → List ℕ → ℕ → ℕ → ℕ → ℕ → List ℕ
learned_next a w n t o f = if (is_ref a o f && not (eqb (word_of a o f) 0)) (gain w (known_at n (word_of a o f)) t) w

module _ (a w : List ℕ) (n t o : ℕ) where
  pub learned_none : w ≡ learned a w n t o 0
  unfolding learned
  learned_none = refl

  pub learned_next_law : (f : ℕ) (v x : List ℕ) → v ≡ learned a w n t o f → x ≡ learned_next a v n t o f → x ≡ learned a w n t o (f + 1)
  unfolding learned learned_next
  learned_next_law f v x h e = e ∙ ap (λ (l : List ℕ). learned_next a l n t o f) h ∙ ap (learned a w n t o) (sym (add-one f))

-- one word, as the code tests it: x is the word, ref whether it is a reference
module _ (a : List ℕ) (o f x : ℕ) (e : x ≡ word_of a o f) {ref : Bool} (er : ref ≡ is_ref a o f) where
  pub word_learned : (w : List ℕ) (n t : ℕ) (u : List ℕ) {i : ℕ} → i ≡ known_at n x → (ref && not (eqb x 0)) ≡ true → u ≡ gain w i t → u ≡ learned_next a w n t o f
  unfolding learned_next
  word_learned w n t u place h g = g ∙ rw (place, e) (sym (if_t _ _ _ (rw (er, e) at h)))

  pub word_passed : (w : List ℕ) (n t : ℕ) → (ref && not (eqb x 0)) ≡ false → w ≡ learned_next a w n t o f
  unfolding learned_next
  word_passed w n t h = sym (if_f _ _ _ (rw (er, e) at h))

  -- what is learned is an object of the store
  pub learns_facts : (n : ℕ) → area_sound a n ≡ true → 1 ≤ o → o ≤ object_count n → f < slot_words → (ref && not (eqb x 0)) ≡ true → (1 ≤ x) × (x ≤ object_count n)
  learns_facts n h ho lo hf b =
      let s = and_split ref (not (eqb x 0)) b in
      let z = eqb-false x 0 (not-true _ s.1) in
      let r = ref_in_range a n o h ho lo f hf (sym er ∙ s.0) in
      (omega arith, omega arith)
