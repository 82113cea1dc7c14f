-- Each change of a page area as it is seen object by object: an area of n pages, objects x and o from 1 to `object_count n`.
-- Assumes nothing.
use Rattle.std.specs.Prelude.{ℕ, ◌*◌, ◌<◌, ◌≤◌, ◌≡◌, refl, Bool, not, ◌&&◌, List, length, eqb}
use Rattle.std.proofs.Common.{sym, ap, ◌∙◌, arith, eqb-true, eq-eqb, lt-ltb}
use Rattle.std.proofs.Math.Bool.{true}
use Rattle.std.proofs.lemmas.Bool.{eqb-false}
use Rattle.words.specs.Tests.{if, by_bool, and_true}
use Rattle.words.specs.Bits.{bit, with_bit, without_bit, with_same, with_other, without_same, without_other}
use Rattle.pages.specs.Geometry.{page_words, slot_count, slot_words, object_count, page_of, slot_of}
use Rattle.pages.specs.Objects.{map_at, occupied, word_of, taken_slot, freed_slot, occupy, release, written, released, copied_page}
use Rattle.page_laws.specs.BitLaws.{clear_bit}
use Rattle.page_laws.specs.Places.{Holds, put_slot, length_put, map_put, map_set, map_released_in, length_copy, map_copy, word_copy}

-- the slots of a page, occupied or freed

pub length_taken : (a : List ℕ) (p s : ℕ) → length (taken_slot a p s) ≡ length a
unfolding taken_slot
length_taken a p s = length_put a p s (with_bit (map_at a p) s)

pub length_freed : (a : List ℕ) (p s : ℕ) → length (freed_slot a p s) ≡ length a
unfolding freed_slot
length_freed a p s = length_put a p s (without_bit (map_at a p) s)

module _ (n : ℕ) (a : List ℕ) (o : ℕ) (len : length a ≡ page_words * n) (ho : 1 ≤ o) (lo : o ≤ object_count n) where
  holds : Holds a (page_of o)
  holds = omega arith

  slot_put : (v x : ℕ) → 1 ≤ x → map_at (put_slot a (page_of o) (slot_of o) v) (page_of x) ≡ if (eqb (page_of x) (page_of o)) v (map_at a (page_of x))
  slot_put v x hx = map_put a (page_of o) (slot_of o) v (omega arith) holds (page_of x)

  -- another slot than o's keeps its bit where the map changes at o's only
  bit_put : (v x : ℕ) → 1 ≤ x → (t : Bool) → bit v (slot_of o) ≡ t → ((j : ℕ) → (j ≡ slot_of o → ⊥) → bit v j ≡ bit (map_at a (page_of o)) j)
      → occupied (put_slot a (page_of o) (slot_of o) v) x ≡ if (eqb x o) t (occupied a x)
  bit_put v x hx t same other = ap (λ (m : ℕ). bit m (slot_of x)) (slot_put v x hx) ∙ by_bool (eqb x o)
      (λ e. rw (e, eqb-true x o e, eq-eqb (page_of o) (page_of o) refl) same)
      (λ e. rw e (let d = eqb-false x o e in by_bool (eqb (page_of x) (page_of o))
      (λ p. rw p (let h = eqb-true (page_of x) (page_of o) p in other (slot_of x) (λ s. d (omega arith)) ∙ rw (← h)))
      (λ p. rw p)))

  pub occupied_occupy : (x : ℕ) → 1 ≤ x → occupied (occupy a o) x ≡ if (eqb x o) true (occupied a x)
  unfolding taken_slot
  occupied_occupy x hx = bit_put (with_bit (map_at a (page_of o)) (slot_of o)) x hx true (with_same _ _) (with_other _ _)

  -- a word written

  pub occupied_written : (f v : ℕ) → f < slot_words → (x : ℕ) → occupied (written a o f v) x ≡ occupied a x
  occupied_written f v hf x = ap (λ (m : ℕ). bit m (slot_of x)) (map_set a (page_of o) (slot_of o) f v (omega arith) hf holds (page_of x))

-- the slots of a page's map freed

module _ (n : ℕ) (a : List ℕ) (p m : ℕ) (len : length a ≡ page_words * n) (hp : p < n) where
  pub occupied_released : (x : ℕ) → occupied (released a p m) x ≡ (occupied a x && not (eqb (page_of x) p && bit m (slot_of x)))
  occupied_released x = ap (λ (w : ℕ). bit w (slot_of x)) (map_released_in a p m (omega arith) slot_count (page_of x) (omega arith)) ∙ by_bool (eqb (page_of x) p)
      (λ e. rw (e, eqb-true (page_of x) p e) (clear_bit (map_at a p) m slot_count (slot_of x) ∙ rw (lt-ltb (slot_of x) slot_count (omega arith))))
      (λ e. rw e (sym (and_true (occupied a x))))

-- a page copied

module _ (n : ℕ) (from to : List ℕ) (p : ℕ) (lf : length from ≡ page_words * n) (lt : length to ≡ page_words * n) (hp : p < n) where
  pub length_copied : length (copied_page from to p) ≡ page_words * n
  length_copied = length_copy from to p (omega arith) (omega arith) ∙ lt

  pub occupied_copied : (x : ℕ) → occupied (copied_page from to p) x ≡ if (eqb (page_of x) p) (occupied from x) (occupied to x)
  occupied_copied x = ap (λ (m : ℕ). bit m (slot_of x)) (map_copy from to p (omega arith) (omega arith) (page_of x))
      ∙ by_bool (eqb (page_of x) p) (λ e. rw e) (λ e. rw e)

  pub word_copied : (x f : ℕ) → f < slot_words → word_of (copied_page from to p) x f ≡ if (eqb (page_of x) p) (word_of from x f) (word_of to x f)
  word_copied x f hf = word_copy from to p (omega arith) (omega arith) (page_of x) (slot_of x) f (omega arith) hf
