-- The targets of an object that turn grey, one after the other. n is the number of pages. Assumes nothing.
use Rattle.std.specs.Prelude.{ℕ, suc, ◌+◌, ◌≡◌, true, false, List, set}
use Rattle.std.proofs.Math.Path.{refl, sym, ap}
use Rattle.std.proofs.Common.{◌∙◌, add-one}
use Rattle.words.specs.Tests.{if, if_t, if_f}
use Rattle.pages.specs.Geometry.{slot_words, is_ref}
use Rattle.pages.specs.Objects.{occupied, word_of}
use Rattle.areas.specs.Layout.{colour_at}
use Rattle.areas.specs.Tables.{greyed}
use Rattle.calls.specs.Pass.{targets_greyed, scanned}

-- what word f of object o turns grey: its target, if it is a reference
unfoldable pub target_greyed : List ℕ → List ℕ → ℕ → ℕ → ℕ → List ℕ
target_greyed c w n o f = if (is_ref c o f) (greyed w n (word_of c o f)) w

-- the targets of object o that turn grey: none of a free slot
unfoldable pub targets_of : List ℕ → List ℕ → ℕ → ℕ → List ℕ
targets_of c w n o = if (occupied c o) (targets_greyed c w n o slot_words) w

module _ (c w : List ℕ) (n o : ℕ) where
  pub target_none : (f : ℕ) → is_ref c o f ≡ false → w ≡ target_greyed c w n o f
  unfolding target_greyed
  target_none f e = sym (if_f _ _ _ e)

  pub target_one : (f : ℕ) (x : List ℕ) (v : ℕ) → is_ref c o f ≡ true → v ≡ word_of c o f → x ≡ greyed w n v → x ≡ target_greyed c w n o f
  unfolding target_greyed
  target_one f x v e word h = h ∙ rw word (sym (if_t _ _ _ e))

  pub targets_free : occupied c o ≡ false → w ≡ targets_of c w n o
  unfolding targets_of
  targets_free e = sym (if_f _ _ _ e)

  pub targets_none : w ≡ targets_greyed c w n o 0
  unfolding targets_greyed
  targets_none = refl

  targets_more : (f : ℕ) → target_greyed c (targets_greyed c w n o f) n o f ≡ targets_greyed c w n o (suc f)
  unfolding targets_greyed target_greyed
  targets_more f = refl

  pub targets_next : (f : ℕ) (x y : List ℕ) → x ≡ targets_greyed c w n o f → y ≡ target_greyed c x n o f → y ≡ targets_greyed c w n o (f + 1)
  targets_next f x y h e = e ∙ ap (λ (v : List ℕ). target_greyed c v n o f) h ∙ targets_more f ∙ ap (targets_greyed c w n o) (sym (add-one f))

  pub targets_end : (f : ℕ) (x : List ℕ) → x ≡ targets_greyed c w n o f → f ≡ slot_words → occupied c o ≡ true → x ≡ targets_of c w n o
  unfolding targets_of
  targets_end f x h e t = h ∙ ap (targets_greyed c w n o) e ∙ sym (if_t _ _ _ t)

  pub scanned_by : (x : List ℕ) (i : ℕ) → x ≡ targets_of c w n o → i ≡ colour_at n o → set x i 2 ≡ scanned c w n o
  unfolding targets_of scanned
  scanned_by x i h place = rw (place, h)
