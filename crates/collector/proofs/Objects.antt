-- Laws of objects and paths. Only this file opens the layout of an object. Assumes nothing.
use Prim.Native.Nat.{ℕ, ◌<◌}
use native.Mathlib.Omega.{arith}
use mathlib.Core.Path.{◌≡◌, refl, sym}
use mathlib.Core.Bool.{Bool, true, false, not}
use mathlib.Core.Logic.{◌⊎◌, inl, inr}
use lib.Dec.{eqb}
use borrow.Author.Tests.{eqb-true, eq-eqb, ne_eqb, ltb-true}
use Rattle.collector.specs.Bits.{◌and◌, by_bool, clash, and_l, and_r, and_intro, not_true, anyb_intro, anyb_elim}
use Rattle.collector.specs.Objects.{Obj, blank, fresh, put, fields, is_ref, points, page_of, Path, root, edge, Reach}
use Rattle.collector.specs.Calls.{pruned}

pub points_occ : (b : Obj) (x : ℕ) → points b x ≡ true → b.occ ≡ true
unfolding points
points_occ b x h = and_l _ _ (and_l _ _ h)

pub unoccupied : {A : Type 0} (b : Obj) (x : ℕ) → b.occ ≡ false → points b x ≡ true → A
unoccupied b x e h = clash (points_occ b x h) e

pub points_some : (b : Obj) (x : ℕ) → points b x ≡ true → x ≡ 0 → ⊥
unfolding points
points_some b x h e = clash (eq-eqb x 0 e) (not_true _ (and_r _ _ (and_l _ _ h)))

pub fresh_occ : fresh.occ ≡ true
unfolding fresh
fresh_occ = refl

pub fresh_word : (f : ℕ) → fresh.word f ≡ 0
unfolding fresh
fresh_word f = refl

pub blank_occ : blank.occ ≡ false
unfolding blank
blank_occ = refl

pub fresh_none : {A : Type 0} (x : ℕ) → points fresh x ≡ true → A
unfolding points fresh
fresh_none x h = anyb_elim _ _ (and_r _ _ h) (λ k l e. clash (eq-eqb x 0 (sym (eqb-true _ _ (and_r _ _ e)))) (not_true _ (and_r _ _ (and_l _ _ h))))

pub blank_none : {A : Type 0} (x : ℕ) → points blank x ≡ true → A
blank_none x h = unoccupied blank x blank_occ h

pub put_occ : (b : Obj) (f v : ℕ) → (put b f v).occ ≡ b.occ
unfolding put
put_occ b f v = refl

-- a write leaves what are references
pub put_ref : (b : Obj) (f v g : ℕ) → is_ref (put b f v) g ≡ is_ref b g
unfolding is_ref
put_ref b f v g = refl

pub put_same : (b : Obj) (f v g : ℕ) → eqb g f ≡ true → (put b f v).word g ≡ v
unfolding put
put_same b f v g e = rw e refl

pub put_other : (b : Obj) (f v g : ℕ) → eqb g f ≡ false → (put b f v).word g ≡ b.word g
unfolding put
put_other b f v g e = rw e refl

pub ref_field : (b : Obj) (f : ℕ) → is_ref b f ≡ true → f < fields
unfolding is_ref fields
ref_field b f e = let l = ltb-true f 4 e in omega arith

-- a reference after a write was there before, or is the one written to a word that is a reference
pub put_from : (b : Obj) (f v x : ℕ) → points (put b f v) x ≡ true → (points b x ≡ true) ⊎ ((is_ref b f ≡ true) × (x ≡ v))
unfolding points
put_from b f v x h = anyb_elim fields _ (and_r _ _ h) λ k l e. by_bool (eqb k f)
    (λ q. inr (rw (eqb-true k f q, put_ref) at (and_l _ _ e), sym (eqb-true _ _ (rw (put_same b f v k q) at (and_r _ _ e)))))
    (λ q. inl (and_intro _ _ (rw put_occ at (and_l _ _ h)) (anyb_intro fields _ k l (and_intro _ _ (rw put_ref at (and_l _ _ e)) (rw (put_other b f v k q) at (and_r _ _ e))))))

-- a reference before a write stays, or is the one taken away
pub put_to : (b : Obj) (f v x : ℕ) → points b x ≡ true → (points (put b f v) x ≡ true) ⊎ (pruned b f v x ≡ true)
unfolding points
put_to b f v x h = anyb_elim fields _ (and_r _ _ h) λ k l e. by_bool (eqb k f)
    (λ same. by_bool (eqb x v)
    (λ q. inl (stays k l e (rw (put_same b f v k same) (eq-eqb v x (sym (eqb-true _ _ q))))))
    (λ q. let new : not (eqb x v) ≡ true = rw q refl in
    inr (rw (eqb-true k f same) at (and_intro _ _ (and_intro _ _ (and_intro _ _ (and_l _ _ e) (and_r _ _ (and_l _ _ h))) new) (and_r _ _ e)))))
    (λ other. inl (stays k l e (rw (put_other b f v k other) (and_r _ _ e))))
  where
    stays : (k : ℕ) → k < fields → (is_ref b k and eqb (b.word k) x) ≡ true → eqb ((put b f v).word k) x ≡ true → points (put b f v) x ≡ true
    stays k l e q = and_intro _ _ (rw put_occ (and_l _ _ h)) (anyb_intro fields _ k l (and_intro _ _ (rw put_ref (and_l _ _ e)) q))

word_points : (b : Obj) (f x : ℕ) → is_ref b f ≡ true → b.occ ≡ true → not (eqb x 0) ≡ true → eqb (b.word f) x ≡ true → points b x ≡ true
unfolding points
word_points b f x r o z e = and_intro _ _ (and_intro _ _ o z) (anyb_intro fields _ f (ref_field b f r) (and_intro _ _ r e))

pub word_edge : (b : Obj) (f : ℕ) → is_ref b f ≡ true → b.occ ≡ true → (b.word f ≡ 0 → ⊥) → points b (b.word f) ≡ true
word_edge b f r o z = word_points b f (b.word f) r o (rw (ne_eqb (b.word f) 0 z) refl) (eq-eqb (b.word f) (b.word f) refl)

-- what a write takes away was a reference
pub pruned_points : (b : Obj) (f v x : ℕ) → b.occ ≡ true → pruned b f v x ≡ true → points b x ≡ true
pruned_points b f v x o e = word_points b f x (and_l _ _ (and_l _ _ (and_l _ _ e))) o (and_r _ _ (and_l _ _ (and_l _ _ e))) (and_r _ _ e)

pub path_mono : {m n : ℕ → Obj} {q r : ℕ → Bool}
    → ((o : ℕ) → Path m q o → q (page_of o) ≡ true → (r (page_of o) ≡ true) × ((x : ℕ) → points (m o) x ≡ true → points (n o) x ≡ true))
    → {x : ℕ} → Path m q x → Path n r x
path_mono f root = root
path_mono f (edge {o} {x} p h e) = edge (path_mono f p) (f o p h).0 ((f o p h).1 x e)

pub reach : {m : ℕ → Obj} {q : ℕ → Bool} {x : ℕ} → Path m q x → Reach m x
reach p = path_mono (λ o p h. (refl, λ x e. e)) p
