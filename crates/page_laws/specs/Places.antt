-- The words of a page area by page and slot: an area is what they are, and what each change makes of them.
-- `Holds a p`: page p lies in the area. Assumes nothing.
use Prim.Native.Nat.{ℕ, zero, suc, ◌+◌, ◌*◌, ◌-◌, ◌/◌, ◌%◌, ◌<◌, ◌≤◌}
use Rattle.std.specs.Prelude.{◌≡◌, Bool, true, false, ◌&&◌, ◌||◌, List, [], length, set, leb, ltb}
use Rattle.std.proofs.Math.Path.{refl, ap, subst}
use Rattle.std.proofs.Common.{sym, ◌∙◌, get_or-set_same, get_or-set_other, ext_get_or}
use Rattle.std.proofs.Math.ListN.{get_or, length-set}
use Rattle.std.proofs.Math.Seq.{length-paste}
use Rattle.std.proofs.Math.Dec.{eqb}
use Rattle.std.proofs.Math.Decide.{ℕ_discrete}
use native.Mathlib.Omega.{arith}
use borrow.Author.Tests.{eqb-true, eqb-false, eq-eqb, leb-true, lt-ltb, le-ltb}
use Rattle.words.specs.Tests.{if, by_bool, clash, and_l, and_r, and_false}
use Rattle.words.specs.Bits.{bit, without_bit}
use Rattle.words.specs.Spans.{fill, length_fill, fill_inside, fill_outside}
use Rattle.pages.specs.Geometry.{page_words, slot_count, slot_words, head_words, page_at, slot_at, object_count, is_object}
use Rattle.pages.specs.Objects.{map_at, slot_word, cleared, freed_slot, released_in, copied_page}
use Rattle.pages.specs.Table.{with_rows}
use Rattle.page_laws.specs.BitLaws.{clear_bits, below_suc}
use Rattle.page_laws.specs.Runs.{paste_inside, paste_outside, length_copied, copied_inside, copied_outside}

abbrev pub Holds : List ℕ → ℕ → Type 0
Holds a p = page_at p + page_words ≤ length a

-- places

same_page : (a b r q : ℕ) → page_words * a + r ≡ page_words * b + q → r < page_words → q < page_words → (a ≡ b) × (r ≡ q)
same_page a b r q e l k = (omega arith, omega arith)

pub same_slot : (p s f q t g : ℕ) → s < slot_count → f < slot_words → t < slot_count → g < slot_words → slot_at p s f ≡ slot_at q t g → (p ≡ q) × (s ≡ t) × (f ≡ g)
same_slot p s f q t g hs hf ht hg e =
    let h = same_page p q (head_words + slot_words * s + f) (head_words + slot_words * t + g) (omega arith) (omega arith) (omega arith) in (h.0, omega arith, omega arith)

pub slot_no_map : (p s f q : ℕ) → s < slot_count → f < slot_words → slot_at p s f ≡ page_at q → ⊥
slot_no_map p s f q hs hf e = let h = same_page p q (head_words + slot_words * s + f) 0 (omega arith) (omega arith) (omega arith) in omega arith

pub object_range : (n o : ℕ) → is_object n o ≡ true → (1 ≤ o) × (o ≤ object_count n)
object_range n o h = (leb-true 1 o (and_l (leb 1 o) (leb o (object_count n)) h), leb-true o (object_count n) (and_r (leb 1 o) (leb o (object_count n)) h))

pub area_ext : (a b : List ℕ) → length a ≡ length b → ((p : ℕ) → map_at a p ≡ map_at b p)
    → ((p s f : ℕ) → s < slot_count → f < slot_words → slot_word a p s f ≡ slot_word b p s f) → a ≡ b
area_ext a b h m w = ext_get_or 0 a b h (λ i l. elim (ℕ_discrete (i % page_words) 0) [
  | yes q ↦ (let e : page_words * (i / page_words) ≡ i = omega arith in subst (λ (j : ℕ). get_or a j 0 ≡ get_or b j 0) e (m (i / page_words)))
  | no q ↦ (let e : slot_at (i / page_words) ((i % page_words - head_words) / slot_words) ((i % page_words - head_words) % slot_words) ≡ i = omega arith in
      subst (λ (j : ℕ). get_or a j 0 ≡ get_or b j 0) e (w (i / page_words) ((i % page_words - head_words) / slot_words) ((i % page_words - head_words) % slot_words) (omega arith) (omega arith)))
])

-- tests of a page and a slot

pub both_true : (q p t s : ℕ) → (eqb q p && eqb t s) ≡ true → (q ≡ p) × (t ≡ s)
both_true q p t s e = (eqb-true q p (and_l (eqb q p) (eqb t s) e), eqb-true t s (and_r (eqb q p) (eqb t s) e))

pub both_false : (q p t s : ℕ) → (eqb q p && eqb t s) ≡ false → q ≡ p → t ≡ s → ⊥
both_false q p t s e x y = clash {b = true} refl (sym (rw (eq-eqb q p x, eq-eqb t s y)) ∙ e)

-- a map set

pub map_put_map : (a : List ℕ) (p v q : ℕ) → Holds a p → map_at (set a (page_at p) v) q ≡ if (eqb q p) v (map_at a q)
map_put_map a p v q hp = by_bool (eqb q p)
    (λ e. rw (e, eqb-true q p e) (get_or-set_same a (page_at p) v 0 (omega arith)))
    (λ e. rw e (let n = eqb-false q p e in get_or-set_other a (page_at p) (page_at q) v 0 (λ z. n (omega arith))))

pub word_put_map : (a : List ℕ) (p v q t f : ℕ) → t < slot_count → f < slot_words → slot_word (set a (page_at p) v) q t f ≡ slot_word a q t f
word_put_map a p v q t f ht hf = get_or-set_other a (page_at p) (slot_at q t f) v 0 (slot_no_map q t f p ht hf)

-- the map of a page set, and a slot of it cleared

abbrev pub put_slot : List ℕ → ℕ → ℕ → ℕ → List ℕ
put_slot a p s v = cleared (set a (page_at p) v) p s

pub length_put : (a : List ℕ) (p s v : ℕ) → length (put_slot a p s v) ≡ length a
unfolding cleared
length_put a p s v = length_fill (λ f. 0) (set a (page_at p) v) (slot_at p s 0) slot_words ∙ length-set a (page_at p) v

module _ (a : List ℕ) (p s v : ℕ) (hs : s < slot_count) (hp : Holds a p) where
  pub map_put : (q : ℕ) → map_at (put_slot a p s v) q ≡ if (eqb q p) v (map_at a q)
  unfolding cleared
  map_put q = fill_outside (λ f. 0) (set a (page_at p) v) (slot_at p s 0) slot_words (page_at q) 0 (λ k l z. slot_no_map p s k q hs l (omega arith))
      ∙ map_put_map a p v q hp

  pub word_put : (q t f : ℕ) → t < slot_count → f < slot_words → slot_word (put_slot a p s v) q t f ≡ if (eqb q p && eqb t s) 0 (slot_word a q t f)
  unfolding cleared
  word_put q t f ht hf = by_bool (eqb q p && eqb t s)
      (λ e. rw e (let b = both_true q p t s e in let i : slot_at p s 0 + f ≡ slot_at q t f = omega arith in
      subst (λ (j : ℕ). get_or (fill (λ k. 0) (set a (page_at p) v) (slot_at p s 0) slot_words) j 0 ≡ 0) i
      (fill_inside (λ k. 0) (set a (page_at p) v) (slot_at p s 0) slot_words f (let l = length-set a (page_at p) v in omega arith) hf)))
      (λ e. rw e (fill_outside (λ k. 0) (set a (page_at p) v) (slot_at p s 0) slot_words (slot_at q t f) 0
      (λ k l z. let h = same_slot q t f p s k ht hf hs l (omega arith) in both_false q p t s e h.0 h.1)
      ∙ word_put_map a p v q t f ht hf))

-- one word set

module _ (a : List ℕ) (p s f v : ℕ) (hs : s < slot_count) (hf : f < slot_words) (hp : Holds a p) where
  pub map_set : (q : ℕ) → map_at (set a (slot_at p s f) v) q ≡ map_at a q
  map_set q = get_or-set_other a (slot_at p s f) (page_at q) v 0 (λ z. slot_no_map p s f q hs hf (sym z))

  pub word_set : (q t g : ℕ) → t < slot_count → g < slot_words → slot_word (set a (slot_at p s f) v) q t g ≡ if (eqb q p && eqb t s && eqb g f) v (slot_word a q t g)
  word_set q t g ht hg = by_bool (eqb q p && eqb t s)
      (λ e. let b = both_true q p t s e in by_bool (eqb g f)
      (λ k. rw (e, k, b.0, b.1, eqb-true g f k) (get_or-set_same a (slot_at p s f) v 0 (omega arith)))
      (λ k. rw (e, k) (get_or-set_other a (slot_at p s f) (slot_at q t g) v 0 (λ z. eqb-false g f k (same_slot q t g p s f ht hg hs hf z).2))))
      (λ e. rw e (get_or-set_other a (slot_at p s f) (slot_at q t g) v 0
      (λ z. let h = same_slot q t g p s f ht hg hs hf z in both_false q p t s e h.0 h.1)))

-- the slots of a map freed

if_if : (x u w : Bool) (y z : ℕ) → if (x && u) y (if (x && w) y z) ≡ if (x && (u || w)) y z
if_if true true w y z = refl
if_if true false w y z = refl
if_if false u w y z = refl

freed_one : (m k t : ℕ) → bit m k ≡ true → (eqb t k || (ltb t k && bit m t)) ≡ (ltb t (suc k) && bit m t)
freed_one m k t e = by_bool (eqb t k)
    (λ z. rw (z, eqb-true t k z, lt-ltb k (suc k) (omega arith), e))
    (λ z. rw (z, below_suc t k (eqb-false t k z)))

freed_none : (m k t : ℕ) → bit m k ≡ false → (ltb t k && bit m t) ≡ (ltb t (suc k) && bit m t)
freed_none m k t e = by_bool (eqb t k)
    (λ z. rw (eqb-true t k z, e, and_false (ltb k k), and_false (ltb k (suc k))))
    (λ z. rw (below_suc t k (eqb-false t k z)))

pub length_released_in : (a : List ℕ) (p m k : ℕ) → length (released_in a p m k) ≡ length a
unfolding released_in freed_slot
length_released_in a p m zero = refl
length_released_in a p m (suc k) = by_bool (bit m k)
    (λ e. rw e (length_put (released_in a p m k) p k (without_bit (map_at (released_in a p m k) p) k) ∙ length_released_in a p m k))
    (λ e. rw e (length_released_in a p m k))

module _ (a : List ℕ) (p m : ℕ) (hp : Holds a p) where
  held : (k : ℕ) → Holds (released_in a p m k) p
  held k = let e = length_released_in a p m k in omega arith

  pub map_released_in : (k q : ℕ) → k ≤ slot_count → map_at (released_in a p m k) q ≡ if (eqb q p) (clear_bits (map_at a p) m k) (map_at a q)
  unfolding released_in freed_slot clear_bits
  map_released_in zero q h = by_bool (eqb q p) (λ e. rw (e, eqb-true q p e)) (λ e. rw e)
  map_released_in (suc k) q h = by_bool (bit m k)
      (λ e. rw e (map_put (released_in a p m k) p k (without_bit (map_at (released_in a p m k) p) k) (omega arith) (held k) q
      ∙ by_bool (eqb q p)
      (λ z. rw (z, map_released_in k p (omega arith), eq-eqb p p refl))
      (λ z. rw (z, map_released_in k q (omega arith), z))))
      (λ e. rw e (map_released_in k q (omega arith)))

  pub word_released_in : (k q t f : ℕ) → k ≤ slot_count → t < slot_count → f < slot_words
      → slot_word (released_in a p m k) q t f ≡ if (eqb q p && (ltb t k && bit m t)) 0 (slot_word a q t f)
  unfolding released_in freed_slot
  word_released_in zero q t f h ht hf = rw (le-ltb t 0 (omega arith), and_false (eqb q p))
  word_released_in (suc k) q t f h ht hf = by_bool (bit m k)
      (λ e. rw e (word_put (released_in a p m k) p k (without_bit (map_at (released_in a p m k) p) k) (omega arith) (held k) q t f ht hf
      ∙ rw (word_released_in k q t f (omega arith) ht hf) (if_if (eqb q p) (eqb t k) (ltb t k && bit m t) 0 (slot_word a q t f)
      ∙ ap (λ (b : Bool). if (eqb q p && b) 0 (slot_word a q t f)) (freed_one m k t e))))
      (λ e. rw e (word_released_in k q t f (omega arith) ht hf ∙ ap (λ (b : Bool). if (eqb q p && b) 0 (slot_word a q t f)) (freed_none m k t e)))

-- a page copied

module _ (from to : List ℕ) (p : ℕ) (hf : Holds from p) (ht : Holds to p) where
  pub length_copy : length (copied_page from to p) ≡ length to
  length_copy = length_copied from to (page_at p) page_words hf ht

  copied_at : (q i : ℕ) → i < page_words → get_or (copied_page from to p) (page_words * q + i) 0 ≡ if (eqb q p) (get_or from (page_words * q + i) 0) (get_or to (page_words * q + i) 0)
  copied_at q i l = by_bool (eqb q p)
      (λ e. rw (e, eqb-true q p e) (copied_inside from to (page_at p) page_words hf ht i l))
      (λ e. rw e (let n = eqb-false q p e in copied_outside from to (page_at p) page_words hf ht (page_words * q + i) (λ k h z. n (same_page q p i k z l h).0)))

  pub map_copy : (q : ℕ) → map_at (copied_page from to p) q ≡ if (eqb q p) (map_at from q) (map_at to q)
  map_copy q = let e : page_words * q + 0 ≡ page_at q = omega arith in
      subst (λ (j : ℕ). get_or (copied_page from to p) j 0 ≡ if (eqb q p) (get_or from j 0) (get_or to j 0)) e (copied_at q 0 (omega arith))

  pub word_copy : (q t f : ℕ) → t < slot_count → f < slot_words → slot_word (copied_page from to p) q t f ≡ if (eqb q p) (slot_word from q t f) (slot_word to q t f)
  word_copy q t f hs hw = let e : page_words * q + (head_words + slot_words * t + f) ≡ slot_at q t f = omega arith in
      subst (λ (j : ℕ). get_or (copied_page from to p) j 0 ≡ if (eqb q p) (get_or from j 0) (get_or to j 0)) e (copied_at q (head_words + slot_words * t + f) (omega arith))

-- a table of rows written

module _ (a : List ℕ) (p : ℕ) (t : List (List ℕ)) (hp : Holds a p) (full : (s : ℕ) → s < slot_count → length (get_or t s []) ≡ slot_words) where
  pub length_rows : (k : ℕ) → k ≤ slot_count → length (with_rows a p t k) ≡ length a
  unfolding with_rows
  length_rows zero h = refl
  length_rows (suc k) h = let e = length_rows k (omega arith) in let r = full k (omega arith) in
      length-paste (with_rows a p t k) (slot_at p k 0) (get_or t k []) slot_words (omega arith) (omega arith) ∙ e

  pub map_rows : (k q : ℕ) → k ≤ slot_count → map_at (with_rows a p t k) q ≡ map_at a q
  unfolding with_rows
  map_rows zero q h = refl
  map_rows (suc k) q h = let e = length_rows k (omega arith) in let r = full k (omega arith) in
      paste_outside (with_rows a p t k) (slot_at p k 0) (get_or t k []) slot_words (page_at q) (omega arith) (omega arith)
      (λ j l z. slot_no_map p k j q (omega arith) l (omega arith)) ∙ map_rows k q (omega arith)

  pub word_rows : (k q s f : ℕ) → k ≤ slot_count → s < slot_count → f < slot_words
      → slot_word (with_rows a p t k) q s f ≡ if (eqb q p && ltb s k) (get_or (get_or t s []) f 0) (slot_word a q s f)
  unfolding with_rows
  word_rows zero q s f h hs hf = rw (le-ltb s 0 (omega arith), and_false (eqb q p))
  word_rows (suc k) q s f h hs hf = let e = length_rows k (omega arith) in let r = full k (omega arith) in by_bool (eqb q p && eqb s k)
      (λ z. let b = both_true q p s k z in let i : slot_at p k 0 + f ≡ slot_at q s f = omega arith in
      subst (λ (j : ℕ). get_or (with_rows a p t (suc k)) j 0 ≡ get_or (get_or t k []) f 0) i
      (paste_inside (with_rows a p t k) (slot_at p k 0) (get_or t k []) slot_words f (omega arith) (omega arith) hf)
      ∙ rw (eq-eqb q p b.0, b.1, lt-ltb k (suc k) (omega arith)))
      (λ z. paste_outside (with_rows a p t k) (slot_at p k 0) (get_or t k []) slot_words (slot_at q s f) (omega arith) (omega arith)
      (λ j l y. let m = same_slot q s f p k j hs hf (omega arith) l (omega arith) in both_false q p s k z m.0 m.1)
      ∙ word_rows k q s f (omega arith) hs hf
      ∙ by_bool (eqb q p)
      (λ y. rw (y, below_suc s k (both_false q p s k z (eqb-true q p y))))
      (λ y. rw y))
