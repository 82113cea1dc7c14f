-- What a sound page area gives, page by page and object by object, and that each change keeps it sound. Assumes nothing.
use Rattle.std.specs.Prelude.{ℕ, ◌*◌, ◌<◌, ◌≤◌, ◌^◌, ◌≡◌, Bool, true, false, not, ◌&&◌, ◌||◌, List, length, eqb, ltb}
use Rattle.std.proofs.Common.{sym, ap, ◌∙◌, arith, eqb-true, eq-eqb, leb-true, le-leb}
use Rattle.words.specs.Tests.{if, all, all_at, all_intro, by_bool, clash, and_split, and_r, and_t, and_true}
use Rattle.words.specs.Bits.{bit, with_bit, with_lt, with_other}
use Rattle.pages.specs.Geometry.{page_words, slot_count, slot_words, map_top, object_count, page_at, slot_at, page_of, slot_of, object_at, root, is_ref_at, is_ref}
use Rattle.pages.specs.Objects.{map_at, taken, slot_word, occupied, word_of, taken_slot, occupy, written, released, copied_page}
use Rattle.pages.specs.Soundness.{map_sound, ref_sound, refs_sound, slot_zero, free_zero, page_sound, area_sound}
use Rattle.page_laws.specs.BitLaws.{clear_le, clear_bit}
use Rattle.page_laws.specs.Places.{both_true, put_slot, map_put, word_put, map_set, word_set, map_released_in, word_released_in, map_copy, word_copy}
use Rattle.page_laws.specs.ViewLaws.{occupied_occupy, occupied_written, occupied_released, occupied_copied}

-- the facts, page by page
pub record Sound (a : List ℕ) (n : ℕ) : Type 0 where
  pub map : (p : ℕ) → p < n → map_at a p < 2 ^ slot_count
  pub ref : (p s f : ℕ) → p < n → s < slot_count → f < slot_words → is_ref_at a p s f ≡ true → slot_word a p s f ≤ object_count n
  pub free : (p s f : ℕ) → p < n → s < slot_count → f < slot_words → taken a p s ≡ false → slot_word a p s f ≡ 0
  pub rooted : occupied a root ≡ true

page_facts : (a : List ℕ) (n p : ℕ) → area_sound a n ≡ true → p < n → (map_sound a p ≡ true) × (refs_sound a n p ≡ true) × (free_zero a p ≡ true)
unfolding area_sound page_sound
page_facts a n p h hp =
    let s = and_split (all (page_sound a n) n) (occupied a root) h in
    let q = and_split (map_sound a p && refs_sound a n p) (free_zero a p) (all_at (page_sound a n) n p s.0 hp) in
    let r = and_split (map_sound a p) (refs_sound a n p) q.0 in (r.0, r.1, q.1)

root_fact : (a : List ℕ) (n : ℕ) → area_sound a n ≡ true → occupied a root ≡ true
unfolding area_sound
root_fact a n h = and_r (all (page_sound a n) n) (occupied a root) h

-- a free slot of a page whose free slots are zero
pub free_fact : (a : List ℕ) (p s f : ℕ) → free_zero a p ≡ true → s < slot_count → f < slot_words → taken a p s ≡ false → slot_word a p s f ≡ 0
unfolding free_zero slot_zero
free_fact a p s f h hs hf r = eqb-true (slot_word a p s f) 0 (all_at (λ f. eqb (slot_word a p s f) 0) slot_words f (rw r at (all_at (λ s. taken a p s || slot_zero a p s) slot_count s h hs)) hf)

pub sound_facts : (a : List ℕ) (n : ℕ) → area_sound a n ≡ true → Sound a n
unfolding refs_sound
sound_facts a n h = record {
  map = λ p hp. let e = leb-true (map_at a p) map_top (page_facts a n p h hp).0 in omega arith;
  ref = λ p s f hp hs hf r. ref_of p s f r (all_at (ref_sound a n p s) slot_words f (all_at (λ s. all (ref_sound a n p s) slot_words) slot_count s (page_facts a n p h hp).1 hs) hf);
  free = λ p s f hp hs hf r. free_fact a p s f (page_facts a n p h hp).2 hs hf r;
  rooted = root_fact a n h;
}
  where
    ref_of : (p s f : ℕ) → is_ref_at a p s f ≡ true → ref_sound a n p s f ≡ true → slot_word a p s f ≤ object_count n
    ref_of p s f r e = leb-true (slot_word a p s f) (object_count n) (rw r at e)

pub facts_sound : (a : List ℕ) (n : ℕ) → Sound a n → area_sound a n ≡ true
unfolding area_sound page_sound refs_sound free_zero slot_zero
facts_sound a n h = rw (all_intro (page_sound a n) n page, h.rooted)
  where
    word : (p s f : ℕ) → p < n → s < slot_count → f < slot_words → ref_sound a n p s f ≡ true
    word p s f hp hs hf = by_bool (is_ref_at a p s f) (λ e. rw e (le-leb (slot_word a p s f) (object_count n) (h.ref p s f hp hs hf e))) (λ e. rw e)

    zeros : (p s : ℕ) → p < n → s < slot_count → (taken a p s || slot_zero a p s) ≡ true
    zeros p s hp hs = by_bool (taken a p s) (λ e. rw e)
        (λ e. rw e (all_intro (λ f. eqb (slot_word a p s f) 0) slot_words (λ f hf. eq-eqb (slot_word a p s f) 0 (h.free p s f hp hs hf e))))

    page : (p : ℕ) → p < n → page_sound a n p ≡ true
    page p hp = rw (
      le-leb (map_at a p) map_top (let m = h.map p hp in omega arith),
      all_intro (λ s. all (ref_sound a n p s) slot_words) slot_count (λ s hs. all_intro (ref_sound a n p s) slot_words (λ f hf. word p s f hp hs hf)),
      all_intro (λ s. taken a p s || slot_zero a p s) slot_count (λ s hs. zeros p s hp hs),
    )

-- the same object by object
module _ (a : List ℕ) (n x : ℕ) (h : area_sound a n ≡ true) (hx : 1 ≤ x) (lx : x ≤ object_count n) where
  pub ref_in_range : (f : ℕ) → f < slot_words → is_ref a x f ≡ true → word_of a x f ≤ object_count n
  ref_in_range f hf r = (sound_facts a n h).ref (page_of x) (slot_of x) f (omega arith) (omega arith) hf r

  pub free_zero_law : (f : ℕ) → f < slot_words → occupied a x ≡ false → word_of a x f ≡ 0
  free_zero_law f hf e = (sound_facts a n h).free (page_of x) (slot_of x) f (omega arith) (omega arith) hf e

-- which words are references is the same in every area
pub ref_same : (a b : List ℕ) (p s f : ℕ) → is_ref_at a p s f ≡ true → is_ref_at b p s f ≡ true
unfolding is_ref_at
ref_same a b p s f e = e

-- what is kept
module _ (n : ℕ) (a : List ℕ) (len : length a ≡ page_words * n) (sound : area_sound a n ≡ true) where
  facts : Sound a n
  facts = sound_facts a n sound

  -- a slot cleared, and its page's map changed at its bit only
  put_sound : (p s v : ℕ) → p < n → s < slot_count → v < 2 ^ slot_count → ((j : ℕ) → (j ≡ s → ⊥) → bit v j ≡ bit (map_at a p) j)
      → occupied (put_slot a p s v) root ≡ true → area_sound (put_slot a p s v) n ≡ true
  put_sound p s v hp hs hv other rooted = facts_sound (put_slot a p s v) n (record {
    map = λ q hq. rw (map_put a p s v hs (omega arith) q) (by_bool (eqb q p) (λ e. rw e hv) (λ e. rw e (facts.map q hq)));
    ref = λ q t f hq ht hf r. rw (word_put a p s v hs (omega arith) q t f ht hf)
        (by_bool (eqb q p && eqb t s) (λ e. rw e (omega arith)) (λ e. rw e (facts.ref q t f hq ht hf (ref_same (put_slot a p s v) a q t f r))));
    free = λ q t f hq ht hf r. word_put a p s v hs (omega arith) q t f ht hf
        ∙ by_bool (eqb q p && eqb t s) (λ e. rw e) (λ e. rw e (facts.free q t f hq ht hf (sym (kept q t e) ∙ r)));
    rooted = rooted;
  })
    where
      kept : (q t : ℕ) → (eqb q p && eqb t s) ≡ false → taken (put_slot a p s v) q t ≡ taken a q t
      kept q t e = ap (λ (m : ℕ). bit m t) (map_put a p s v hs (omega arith) q) ∙ by_bool (eqb q p)
          (λ z. rw (z, eqb-true q p z) (other t (λ y. clash (rw (z, eq-eqb t s y)) e)))
          (λ z. rw z)

  module _ (o : ℕ) (ho : 1 ≤ o) (lo : o ≤ object_count n) where
    pub occupy_sound : area_sound (occupy a o) n ≡ true
    unfolding taken_slot
    occupy_sound = put_sound (page_of o) (slot_of o) (with_bit (map_at a (page_of o)) (slot_of o)) (omega arith) (omega arith)
        (with_lt (map_at a (page_of o)) (slot_of o) slot_count (facts.map (page_of o) (omega arith)) (omega arith)) (with_other _ _)
        (occupied_occupy n a o len ho lo root (omega arith) ∙ by_bool (eqb root o) (λ e. rw e) (λ e. rw e facts.rooted))

    pub written_sound : (f v : ℕ) → f < slot_words → occupied a o ≡ true → (is_ref a o f ≡ true → v ≤ object_count n) → area_sound (written a o f v) n ≡ true
    written_sound f v hf there small = facts_sound (written a o f v) n (record {
      map = λ q hq. rw (map_set a (page_of o) (slot_of o) f v (omega arith) hf (omega arith) q) (facts.map q hq);
      ref = λ q t g hq ht hg r. rw (word_set a (page_of o) (slot_of o) f v (omega arith) hf (omega arith) q t g ht hg)
          (ref_after q t g hq ht hg (ref_same (written a o f v) a q t g r));
      free = λ q t g hq ht hg r. word_set a (page_of o) (slot_of o) f v (omega arith) hf (omega arith) q t g ht hg
          ∙ free_after q t g hq ht hg (sym (ap (λ (m : ℕ). bit m t) (map_set a (page_of o) (slot_of o) f v (omega arith) hf (omega arith) q)) ∙ r);
      rooted = occupied_written n a o len ho lo f v hf root ∙ facts.rooted;
    })
      where
        ref_after : (q t g : ℕ) → q < n → t < slot_count → g < slot_words → is_ref_at a q t g ≡ true
            → if (eqb q (page_of o) && eqb t (slot_of o) && eqb g f) v (slot_word a q t g) ≤ object_count n
        ref_after q t g hq ht hg r = by_bool (eqb q (page_of o) && eqb t (slot_of o))
            (λ e. let b = both_true q (page_of o) t (slot_of o) e in by_bool (eqb g f)
            (λ k. rw (e, k) (small (rw (b.0, b.1, eqb-true g f k) at r)))
            (λ k. rw (e, k) (facts.ref q t g hq ht hg r)))
            (λ e. rw e (facts.ref q t g hq ht hg r))

        free_after : (q t g : ℕ) → q < n → t < slot_count → g < slot_words → taken a q t ≡ false
            → if (eqb q (page_of o) && eqb t (slot_of o) && eqb g f) v (slot_word a q t g) ≡ 0
        free_after q t g hq ht hg r = by_bool (eqb q (page_of o) && eqb t (slot_of o))
            (λ e. let b = both_true q (page_of o) t (slot_of o) e in clash {b = taken a q t} (rw (b.0, b.1) there) r)
            (λ e. rw e (facts.free q t g hq ht hg r))

  pub released_sound : (p m : ℕ) → p < n → (p ≡ 0 → bit m 0 ≡ false) → area_sound (released a p m) n ≡ true
  released_sound p m hp other = facts_sound (released a p m) n (record {
    map = λ q hq. rw (map_released_in a p m (omega arith) slot_count q (omega arith)) (by_bool (eqb q p)
        (λ e. rw e (let l = clear_le (map_at a p) m slot_count in let k = facts.map p hp in omega arith))
        (λ e. rw e (facts.map q hq)));
    ref = λ q t f hq ht hf r. rw (word_released_in a p m (omega arith) slot_count q t f (omega arith) ht hf) (by_bool (eqb q p && (ltb t slot_count && bit m t))
        (λ e. rw e (omega arith))
        (λ e. rw e (facts.ref q t f hq ht hf (ref_same (released a p m) a q t f r))));
    free = λ q t f hq ht hf r. word_released_in a p m (omega arith) slot_count q t f (omega arith) ht hf ∙ by_bool (eqb q p && (ltb t slot_count && bit m t))
        (λ e. rw e)
        (λ e. rw e (facts.free q t f hq ht hf (sym (kept q t e) ∙ r)));
    rooted = occupied_released n a p m len hp root ∙ by_bool (eqb 0 p)
        (λ e. rw (e, other (sym (eqb-true 0 p e)), facts.rooted))
        (λ e. rw (e, facts.rooted));
  })
    where
      kept : (q t : ℕ) → (eqb q p && (ltb t slot_count && bit m t)) ≡ false → taken (released a p m) q t ≡ taken a q t
      kept q t e = ap (λ (w : ℕ). bit w t) (map_released_in a p m (omega arith) slot_count q (omega arith)) ∙ by_bool (eqb q p)
          (λ z. rw (z, eqb-true q p z) (clear_bit (map_at a p) m slot_count t
          ∙ ap (λ (b : Bool). bit (map_at a p) t && not b) (sym (and_t (eqb q p) (ltb t slot_count && bit m t) z) ∙ e) ∙ and_true (bit (map_at a p) t)))
          (λ z. rw z)

pub copied_sound : (n : ℕ) (from to : List ℕ) (p : ℕ) → length from ≡ page_words * n → length to ≡ page_words * n → p < n
    → area_sound from n ≡ true → area_sound to n ≡ true → area_sound (copied_page from to p) n ≡ true
copied_sound n from to p lf lt hp sf st =
    let x = sound_facts from n sf in let y = sound_facts to n st in facts_sound (copied_page from to p) n (record {
      map = λ q hq. rw (map_copy from to p (omega arith) (omega arith) q) (by_bool (eqb q p) (λ e. rw e (x.map q hq)) (λ e. rw e (y.map q hq)));
      ref = λ q t f hq ht hf r. rw (word_copy from to p (omega arith) (omega arith) q t f ht hf) (by_bool (eqb q p)
          (λ e. rw e (x.ref q t f hq ht hf (ref_same (copied_page from to p) from q t f r)))
          (λ e. rw e (y.ref q t f hq ht hf (ref_same (copied_page from to p) to q t f r))));
      free = λ q t f hq ht hf r. word_copy from to p (omega arith) (omega arith) q t f ht hf ∙ by_bool (eqb q p)
          (λ e. rw e (x.free q t f hq ht hf (sym (taken_from q t e) ∙ r)))
          (λ e. rw e (y.free q t f hq ht hf (sym (taken_to q t e) ∙ r)));
      rooted = occupied_copied n from to p lf lt hp root ∙ by_bool (eqb 0 p) (λ e. rw e x.rooted) (λ e. rw e y.rooted);
    })
  where
    taken_from : (q t : ℕ) → eqb q p ≡ true → taken (copied_page from to p) q t ≡ taken from q t
    taken_from q t e = ap (λ (w : ℕ). bit w t) (map_copy from to p (omega arith) (omega arith) q ∙ rw e)

    taken_to : (q t : ℕ) → eqb q p ≡ false → taken (copied_page from to p) q t ≡ taken to q t
    taken_to q t e = ap (λ (w : ℕ). bit w t) (map_copy from to p (omega arith) (omega arith) q ∙ rw e)
