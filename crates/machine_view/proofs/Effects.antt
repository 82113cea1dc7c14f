-- The objects that an area shows after a record took effect, and after it was undone. n is the number of pages. Assumes nothing.
use Prim.Native.Nat.{ℕ, zero, suc, ◌*◌, ◌≤◌, ◌<◌}
use native.Mathlib.Omega.{arith}
use mathlib.Core.Path.{◌≡◌, refl, sym, ap, ◌∙◌}
use mathlib.Core.Bool.{Bool, true, false, ◌&&◌}
use mathlib.Core.List.{List}
use lib.ListN.{length}
use lib.Dec.{eqb, ltb}
use borrow.Author.Tests.{eqb-true, eqb-false, eq-eqb, ne_eqb, lt-ltb, ltb-true, ltb-false, le-leb}
use Rattle.words.specs.Tests.{if, by_bool, and_true, and_false, or_true, or_false}
use Rattle.words.specs.Bits.{bit}
use Rattle.pages.specs.Geometry.{page_of, slot_of, page_words, object_count, slot_words}
use Rattle.pages.specs.Objects.{occupied, word_of, occupy, release, written, released}
use Rattle.page_laws.specs.Places.{map_set}
use Rattle.collector.specs.Objects.{Obj, blank, fresh, put}
use Rattle.machine_view.specs.View.{shown, view}
use Rattle.machine_view.proofs.Places.{slot_small, same_object, page_small}
use Rattle.machine_view.proofs.Slots.{here, within, taken_occ, freed_occ, taken_word, freed_word, released_occ, released_word, put_word}

pub obj_ext : (a b : Obj) → a.occ ≡ b.occ → ((f : ℕ) → a.word f ≡ b.word f) → a ≡ b
obj_ext a b p q = λ i. record { occ = p i; word = λ f. q f i }

-- objects of numbers from 1 are the same where their slots are
pub here_object : (o x : ℕ) → 1 ≤ o → 1 ≤ x → here (page_of o) (slot_of o) (page_of x) (slot_of x) ≡ eqb x o
here_object o x ho hx = by_bool (eqb x o)
    (λ e. rw (e, eqb-true x o e, eq-eqb (page_of o) (page_of o) refl, eq-eqb (slot_of o) (slot_of o) refl) refl)
    (λ e. rw e (by_bool (eqb (page_of x) (page_of o))
    (λ p. by_bool (eqb (slot_of x) (slot_of o))
    (λ s. absurd (eqb-false x o e (same_object o x ho hx (eqb-true (page_of x) (page_of o) p) (eqb-true (slot_of x) (slot_of o) s))))
    (λ s. rw (p, s) refl))
    (λ p. rw p refl)))

-- two views from their parts, for numbers from 1
pub view_by : (a : List ℕ) (b : ℕ → Obj) → ((x : ℕ) → 1 ≤ x → shown a x ≡ b x) → b 0 ≡ blank → (x : ℕ) → view a x ≡ b x
unfolding view
view_by a b h z zero = sym z
view_by a b h z (suc x) = rw (le-leb 1 (suc x) (omega arith)) (h (suc x) (omega arith))

-- what a view shows of an object from 1 on
module _ (a : List ℕ) (x : ℕ) (hx : 1 ≤ x) where
  pub view_here : view a x ≡ shown a x
  unfolding view
  view_here = rw (le-leb 1 x hx)

  pub view_occ : (view a x).occ ≡ occupied a x
  view_occ = rw view_here

  pub view_word : (f : ℕ) → f < slot_words → (view a x).word f ≡ word_of a x f
  view_word f l = rw (view_here, lt-ltb f slot_words l)

  pub view_free : occupied a x ≡ false → ((f : ℕ) → f < slot_words → word_of a x f ≡ 0) → view a x ≡ blank
  unfolding blank
  view_free e z = rw view_here (obj_ext _ _ e (λ f. by_bool (ltb f slot_words) (λ h. rw h (z f (ltb-true f slot_words h))) (λ h. rw h refl)))

module _ (n : ℕ) (a : List ℕ) (len : length a ≡ page_words * n) (o : ℕ) (ho : 1 ≤ o) (lo : o ≤ object_count n) where
  not_zero : eqb 0 o ≡ false
  not_zero = ne_eqb 0 o (omega arith)

  pub occupy_view : (x : ℕ) → view (occupy a o) x ≡ if (eqb x o) fresh (view a x)
  unfolding view fresh
  occupy_view zero = rw not_zero refl
  occupy_view (suc k) = let x = suc k in let l : 1 ≤ suc k = omega arith in rw (le-leb 1 (suc k) l) (obj_ext _ _
      (taken_occ n a len (page_of o) (slot_of o) (page_small n o ho lo) (slot_small o) (page_of x) (slot_of x)
      ∙ rw (here_object o x ho l) (by_bool (eqb (suc k) o) (λ e. rw e (or_true (occupied a (suc k)))) (λ e. rw e (or_false (occupied a (suc k))))))
      (λ f. by_bool (ltb f slot_words)
      (λ h. rw h (taken_word n a len (page_of o) (slot_of o) (page_small n o ho lo) (slot_small o) (page_of x) (slot_of x) f (slot_small x) (ltb-true f slot_words h)
      ∙ rw (here_object o x ho l) (by_bool (eqb (suc k) o) (λ e. rw e refl) (λ e. rw (e, h) refl))))
      (λ h. rw h (by_bool (eqb (suc k) o) (λ e. rw e refl) (λ e. rw (e, h) refl)))))

  pub release_view : (x : ℕ) → view (release a o) x ≡ if (eqb x o) blank (view a x)
  unfolding view blank
  release_view zero = rw not_zero refl
  release_view (suc k) = let x = suc k in let l : 1 ≤ suc k = omega arith in rw (le-leb 1 (suc k) l) (obj_ext _ _
      (freed_occ n a len (page_of o) (slot_of o) (page_small n o ho lo) (slot_small o) (page_of x) (slot_of x)
      ∙ rw (here_object o x ho l) (by_bool (eqb (suc k) o) (λ e. rw e (and_false (occupied a (suc k)))) (λ e. rw e (and_true (occupied a (suc k))))))
      (λ f. by_bool (ltb f slot_words)
      (λ h. rw h (freed_word n a len (page_of o) (slot_of o) (page_small n o ho lo) (slot_small o) (page_of x) (slot_of x) f (slot_small x) (ltb-true f slot_words h)
      ∙ rw (here_object o x ho l) (by_bool (eqb (suc k) o) (λ e. rw e refl) (λ e. rw (e, h) refl))))
      (λ h. rw h (by_bool (eqb (suc k) o) (λ e. rw e refl) (λ e. rw (e, h) refl)))))

  pub written_view : (f v : ℕ) → f < slot_words → (x : ℕ) → view (written a o f v) x ≡ if (eqb x o) (put (view a o) f v) (view a x)
  unfolding view put
  written_view f v hf zero = rw not_zero refl
  written_view f v hf (suc k) = let x = suc k in let l : 1 ≤ suc k = omega arith in rw (le-leb 1 (suc k) l, le-leb 1 o ho) (by_bool (eqb (suc k) o)
      (λ e. rw (e, eqb-true (suc k) o e) (obj_ext _ _
      (ap (λ (m : ℕ). bit m (slot_of o)) (map_set a (page_of o) (slot_of o) f v (slot_small o) hf (omega arith) (page_of o)))
      (λ g. by_bool (ltb g slot_words)
      (λ h. rw h (put_word n a len (page_of o) (slot_of o) f v (page_small n o ho lo) (slot_small o) hf (page_of o) (slot_of o) g (slot_small o) (ltb-true g slot_words h)
      ∙ rw (here_object o o ho ho, eq-eqb o o refl) (if_cond (eqb g f) v (word_of a o g))))
      (λ h. rw (h, ne_eqb g f (λ z. let y = ltb-false g slot_words h in omega arith)) refl))))
      (λ e. rw e (obj_ext _ _
      (ap (λ (m : ℕ). bit m (slot_of x)) (map_set a (page_of o) (slot_of o) f v (slot_small o) hf (omega arith) (page_of x)))
      (λ g. by_bool (ltb g slot_words)
      (λ h. rw h (put_word n a len (page_of o) (slot_of o) f v (page_small n o ho lo) (slot_small o) hf (page_of x) (slot_of x) g (slot_small x) (ltb-true g slot_words h)
      ∙ rw (here_object o x ho l, e) refl))
      (λ h. rw h refl)))))
    where
      if_cond : (b : Bool) (v w : ℕ) → if b v w ≡ mathlib.Core.Bool.cond b v w
      if_cond true v w = refl
      if_cond false v w = refl

-- a sweep of page p frees object x
module _ (n : ℕ) (a : List ℕ) (len : length a ≡ page_words * n) (p m : ℕ) (hp : p < n) where
  abbrev frees : ℕ → Bool
  frees x = eqb p (page_of x) && bit m (slot_of x)

  within_all : (x : ℕ) → within p m 16 (page_of x) (slot_of x) ≡ frees x
  within_all x = rw (lt-ltb (slot_of x) 16 (slot_small x)) (by_bool (eqb (page_of x) p)
      (λ e. rw (e, eq-eqb p (page_of x) (sym (eqb-true (page_of x) p e))) refl)
      (λ e. rw (e, ne_eqb p (page_of x) (λ z. eqb-false (page_of x) p e (sym z))) refl))

  pub released_view : (x : ℕ) → 1 ≤ x → view (released a p m) x ≡ if (frees x) blank (view a x)
  unfolding view blank
  released_view x l = rw (le-leb 1 x l) (obj_ext _ _
      (released_occ n a len p m hp 16 (omega arith) (page_of x) (slot_of x) ∙ rw (within_all x)
      (by_bool (frees x) (λ e. rw e (and_false (occupied a x))) (λ e. rw e (and_true (occupied a x)))))
      (λ f. by_bool (ltb f slot_words)
      (λ h. rw h (released_word n a len p m hp 16 (omega arith) (page_of x) (slot_of x) f (slot_small x) (ltb-true f slot_words h)
      ∙ rw (within_all x) (by_bool (frees x) (λ e. rw e refl) (λ e. rw (e, h) refl))))
      (λ h. rw h (by_bool (frees x) (λ e. rw e refl) (λ e. rw (e, h) refl)))))
