-- Slots after one of them is taken, freed or written, and after a map of them is freed. n is the number of pages. Assumes nothing.
use Prim.Native.Nat.{ℕ, ◌*◌, ◌≤◌, ◌<◌}
use native.Mathlib.Omega.{arith}
use mathlib.Core.Path.{◌≡◌, sym, ap, ◌∙◌}
use mathlib.Core.Bool.{Bool, not, ◌&&◌, ◌||◌}
use mathlib.Core.List.{List}
use lib.ListN.{length, set}
use lib.Dec.{eqb, ltb}
use borrow.Author.Tests.{eqb-true}
use Rattle.words.specs.Tests.{if, by_bool, and_true, or_false}
use Rattle.words.specs.Bits.{bit, with_bit, without_bit, bit_with, bit_without}
use Rattle.pages.specs.Geometry.{slot_at, page_words, slot_count, slot_words}
use Rattle.pages.specs.Objects.{map_at, taken, slot_word, taken_slot, freed_slot, released_in}
use Rattle.page_laws.specs.BitLaws.{clear_bit}
use Rattle.page_laws.specs.Places.{Holds, map_put, word_put, word_set, map_released_in, word_released_in}

-- slot r of page q is slot s of page p
abbrev pub here : ℕ → ℕ → ℕ → ℕ → Bool
here p s q r = eqb q p && eqb r s

module _ (n : ℕ) (a : List ℕ) (len : length a ≡ page_words * n) (p s : ℕ) (hp : p < n) (hs : s < slot_count) where
  held : Holds a p
  held = omega arith

  pub taken_occ : (q r : ℕ) → taken (taken_slot a p s) q r ≡ (taken a q r || here p s q r)
  unfolding taken_slot
  taken_occ q r = ap (λ (m : ℕ). bit m r) (map_put a p s (with_bit (map_at a p) s) hs held q) ∙ by_bool (eqb q p)
      (λ e. rw (e, eqb-true q p e) (bit_with (map_at a p) s r))
      (λ e. rw e (sym (or_false (bit (map_at a q) r))))

  pub freed_occ : (q r : ℕ) → taken (freed_slot a p s) q r ≡ (taken a q r && not (here p s q r))
  unfolding freed_slot
  freed_occ q r = ap (λ (m : ℕ). bit m r) (map_put a p s (without_bit (map_at a p) s) hs held q) ∙ by_bool (eqb q p)
      (λ e. rw (e, eqb-true q p e) (bit_without (map_at a p) s r))
      (λ e. rw e (sym (and_true (bit (map_at a q) r))))

  pub taken_word : (q r f : ℕ) → r < slot_count → f < slot_words → slot_word (taken_slot a p s) q r f ≡ if (here p s q r) 0 (slot_word a q r f)
  unfolding taken_slot
  taken_word q r f hr hf = word_put a p s (with_bit (map_at a p) s) hs held q r f hr hf

  pub freed_word : (q r f : ℕ) → r < slot_count → f < slot_words → slot_word (freed_slot a p s) q r f ≡ if (here p s q r) 0 (slot_word a q r f)
  unfolding freed_slot
  freed_word q r f hr hf = word_put a p s (without_bit (map_at a p) s) hs held q r f hr hf

-- slot r of page q is one of the first k slots of page p that the map m has
abbrev pub within : ℕ → ℕ → ℕ → ℕ → ℕ → Bool
within p m k q r = eqb q p && (ltb r k && bit m r)

module _ (n : ℕ) (a : List ℕ) (len : length a ≡ page_words * n) (p m : ℕ) (hp : p < n) where
  holds : Holds a p
  holds = omega arith

  pub released_occ : (k : ℕ) → k ≤ slot_count → (q r : ℕ) → taken (released_in a p m k) q r ≡ (taken a q r && not (within p m k q r))
  released_occ k l q r = ap (λ (w : ℕ). bit w r) (map_released_in a p m holds k q l) ∙ by_bool (eqb q p)
      (λ e. rw (e, eqb-true q p e) (clear_bit (map_at a p) m k r))
      (λ e. rw e (sym (and_true (taken a q r))))

  pub released_word : (k : ℕ) → k ≤ slot_count → (q r f : ℕ) → r < slot_count → f < slot_words → slot_word (released_in a p m k) q r f ≡ if (within p m k q r) 0 (slot_word a q r f)
  released_word k l q r f hr hf = word_released_in a p m holds k q r f l hr hf

-- one word written
module _ (n : ℕ) (a : List ℕ) (len : length a ≡ page_words * n) (p s f v : ℕ) (hp : p < n) (hs : s < slot_count) (hf : f < slot_words) where
  pub put_word : (q r g : ℕ) → r < slot_count → g < slot_words → slot_word (set a (slot_at p s f) v) q r g ≡ if (here p s q r && eqb g f) v (slot_word a q r g)
  put_word q r g hr hg = word_set a p s f v hs hf (omega arith) q r g hr hg
