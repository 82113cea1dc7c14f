-- Records and pages with an object's own number. n is the number of pages. Assumes nothing.
use Prim.Native.Nat.{ℕ, ◌*◌, ◌≤◌, ◌<◌}
use native.Mathlib.Omega.{arith}
use mathlib.Core.Path.{◌≡◌, refl, sym, ap, ◌∙◌}
use mathlib.Core.Bool.{true, false}
use mathlib.Core.List.{List}
use lib.ListN.{length, length-set}
use lib.Seq.{set-set}
use lib.Dec.{leb}
use borrow.Author.Tests.{le-leb}
use Rattle.words.specs.Tests.{all, by_bool, clash, all_at}
use Rattle.pages.specs.Geometry.{slot_words, page_words, object_count, is_object}
use Rattle.pages.specs.Objects.{occupied, written}
use Rattle.pages.specs.Soundness.{area_sound}
use Rattle.page_laws.specs.ViewLaws.{occupied_written}
use Rattle.page_laws.specs.SoundFacts.{written_sound}
use Rattle.acceptance.specs.Objects.{object_facts}
use Rattle.records.specs.Records.{record_words, set_of}
use Rattle.records.specs.Soundness.{word_sound, record_sound}
use Rattle.own_number_laws.specs.OldOnes.{OldRecordsSound, OldPagesSound}

-- an object's number is a reference in range, and so is 0
in_range_law : (n o : ℕ) → is_object n o ≡ true → leb o (object_count n) ≡ true
in_range_law n o h = le-leb o (object_count n) (object_facts n o h).top

zero_in_range : (n : ℕ) → leb 0 (object_count n) ≡ true
zero_in_range n = le-leb 0 (object_count n) (omega arith)

-- a set's record of no object is unsound, whatever its words
unsound : (n t o f x y : ℕ) → is_object n o ≡ false → record_sound n (set_of t o f x y) ≡ false
unfolding record_sound word_sound
unsound n t o f x y h = by_bool (record_sound n (set_of t o f x y))
    (λ e. clash (all_at (word_sound n (set_of t o f x y)) record_words 2 e (omega arith)) (rw h refl))
    (λ e. e)

pub old_records_sound : OldRecordsSound
unfolding record_sound word_sound all
old_records_sound = record {
  new = λ n t o f x. by_bool (is_object n o) (λ h. rw (in_range_law n o h, zero_in_range n) refl) (λ h. unsound n t o f x o h ∙ sym (unsound n t o f x 0 h));
  old = λ n t o f x. by_bool (is_object n o) (λ h. rw (in_range_law n o h, zero_in_range n) refl) (λ h. unsound n t o f o x h ∙ sym (unsound n t o f 0 x h));
}

module _ (n : ℕ) (a : List ℕ) (len : length a ≡ page_words * n) (o f : ℕ) (h : is_object n o ≡ true) (w : f < slot_words) (there : occupied a o ≡ true) where
  -- one word written over another
  rewritten : (x y : ℕ) → y ≤ object_count n → area_sound (written a o f x) n ≡ true → area_sound (written a o f y) n ≡ true
  rewritten x y l s =
      let k = object_facts n o h in
      let p : length (written a o f x) ≡ page_words * n = length-set a _ x ∙ len in
      ap (λ (z : List ℕ). area_sound z n) (sym (set-set a _ x y))
      ∙ written_sound n (written a o f x) p s o k.low k.top f y w (occupied_written n a o len k.low k.top f x w o ∙ there) (λ r. l)

pub old_pages_sound : OldPagesSound
old_pages_sound n a len o f h w there = by_bool (area_sound (written a o f 0) n)
    (λ e. rewritten n a len o f h w there 0 o (object_facts n o h).top e ∙ sym e)
    (λ e. by_bool (area_sound (written a o f o) n) (λ d. clash (rewritten n a len o f h w there o 0 (omega arith) d) e) (λ d. d ∙ sym e))
