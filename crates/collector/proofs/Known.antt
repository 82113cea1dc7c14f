-- What follows from the invariant for objects that a transaction knows, and for received references. Assumes nothing.
use Prim.Native.Nat.{ℕ, ◌≤◌}
use native.Mathlib.Nat.{le_trans}
use mathlib.Core.Path.{◌≡◌, refl}
use mathlib.Core.Bool.{Bool, true}
use mathlib.Core.Logic.{inl, inr}
use Rattle.collector.specs.Bits.{clash, or_cases}
use Rattle.collector.specs.Objects.{Obj, Tag, is_ref, points, page_of, Path, root, edge, Reach, Whole}
use Rattle.collector.specs.State.{St, objects, holds}
use Rattle.collector.proofs.Objects.{unoccupied, word_edge, reach}
use Rattle.collector.proofs.Invariant.{TaggedIn, Dated, Tagged, before, empty, stored, Inv}
use Rattle.collector.proofs.Tables.{by_writer}

-- A book that grows leaves a committed state whole.
pub whole_on : {n k l : ℕ} {m : ℕ → Obj} {a : ℕ → Tag} → k ≤ l → Whole n k m a → Whole n l m a
whole_on h w = record { leads = w.leads; young = λ x o. le_trans (w.young x o) h; range = w.range; wf = w.wf }

-- a reference of a reached object names a reached one
pub target : {n now : ℕ} {m : ℕ → Obj} {a : ℕ → Tag} → Whole n now m a → (o f : ℕ) → Reach m o → is_ref (m o) f ≡ true → ((m o).word f ≡ 0 → ⊥) → Reach m ((m o).word f)
target {m = m} w o f r j z = edge r refl (word_edge (m o) f j (w.wf o r) z)

-- a word's tag under a change that keeps the word
retag : {K R K' R' : ℕ → Obj} {KT RT KT' RT' : ℕ → Tag} {kn kn' : ℕ → ℕ → Bool} {t o f : ℕ}
    → K' o ≡ K o → KT' o ≡ KT o → (R' o).word f ≡ (R o).word f → (RT' o).time f ≡ (RT o).time f
    → ((x : ℕ) → kn t x ≡ true → (kn' t x ≡ true) × ((RT' x).born ≡ (RT x).born)) → Tagged K R KT RT kn t o f → Tagged K' R' KT' RT' kn' t o f
retag p a q r h (before x i y z) = before (rw p x) (rw p i) (rw (p, q) y) (rw (a, r) z)
retag p a q r h (empty x) = empty (rw q x)
retag p a q r h (stored x y) = stored (rw q (h _ x).0) (rw (q, r, (h _ x).1) y)

pub retag_in : (s s' : St) {t o f : ℕ}
    → s'.pages.cmt o ≡ s.pages.cmt o → s'.tags.cmt_tag o ≡ s.tags.cmt_tag o → (s'.pages.rec o).word f ≡ (s.pages.rec o).word f → (s'.tags.rec_tag o).time f ≡ (s.tags.rec_tag o).time f
    → ((x : ℕ) → s.tables.kn t x ≡ true → (s'.tables.kn t x ≡ true) × ((s'.tags.rec_tag x).born ≡ (s.tags.rec_tag x).born)) → TaggedIn s t o f → TaggedIn s' t o f
retag_in s s' p a q r h d = retag p a q r h d

-- The tags of the received objects stand, while writers know more and the book grows.
pub dated_on : {K R : ℕ → Obj} {KT RT : ℕ → Tag} {wr kn kn' : ℕ → ℕ → Bool} {k l : ℕ} → k ≤ l
    → ((t o x : ℕ) → wr t (page_of o) ≡ true → kn t x ≡ true → kn' t x ≡ true) → Dated K R KT RT wr kn k → Dated K R KT RT wr kn' l
dated_on h g d = record {
  free_t = d.free_t;
  same_born = d.same_born;
  young = λ x o. le_trans (d.young x o) h;
  tagged = λ t o f w p r. retag refl refl refl refl (λ x k. (g t o x w k, refl)) (d.tagged t o f w p r);
}

module _ (s : St) (i : Inv s) where
  pub known_there : (t x : ℕ) → s.tables.kn t x ≡ true → (s.pages.rec x).occ ≡ true
  known_there t x k = elim (i.known.knows t x k) [ inl c ↦ c.1 | inr p ↦ i.agreed.keeps x (i.whole.wf x (reach p)) ]

  path_range : {q : ℕ → Bool} {x : ℕ} → Path s.pages.cmt q x → x ≤ objects s
  path_range root = i.agreed.one
  path_range (edge {o} {x} p h e) = i.whole.range o x e

  pub known_range : (t x : ℕ) → s.tables.kn t x ≡ true → x ≤ objects s
  known_range t x k = elim (i.known.knows t x k) [ inl c ↦ (i.known.made t x c.0).ranged | inr p ↦ path_range p ]

  -- a received reference is a committed one, or the page's writer knows the target
  pub received : {A : Type 0} (o x : ℕ) → points (s.pages.rec o) x ≡ true
      → (points (s.pages.cmt o) x ≡ true → A) → ((t : ℕ) → s.locks.wr t (page_of o) ≡ true → s.tables.kn t x ≡ true → A) → A
  received o x e f g = by_writer i.exclusive (page_of o)
      (λ w. f (rw (i.agreed.free_r o w) at e))
      (λ t w. elim (i.known.wrote t o x w e) [ inl k ↦ f k | inr k ↦ g t w k ])

  pub rec_range : (o x : ℕ) → points (s.pages.rec o) x ≡ true → x ≤ objects s
  rec_range o x e = received o x e (i.whole.range o x) (λ t w. known_range t x)

  -- a committed reference of an object that t knows, on a page that t holds, is known in the same way
  pub follows : (t o x : ℕ) → s.tables.kn t o ≡ true → holds s.locks.wr s.locks.rd t (page_of o) ≡ true → points (s.pages.cmt o) x ≡ true
      → Path s.pages.cmt (holds s.locks.wr s.locks.rd t) x
  follows t o x k h e = elim (i.known.knows t o k) [ inl c ↦ unoccupied (s.pages.cmt o) x (i.known.made t o c.0).out e | inr p ↦ edge p h e ]

  -- the writer of a page that t holds is t
  pub held : (t u p : ℕ) → holds s.locks.wr s.locks.rd t p ≡ true → s.locks.wr u p ≡ true → u ≡ t
  held t u p h w = elim (or_cases _ _ h) [ inl e ↦ i.exclusive.sole u t p w e | inr e ↦ clash e (i.exclusive.alone u t p w) ]
