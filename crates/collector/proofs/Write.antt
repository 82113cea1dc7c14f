-- Set and flush keep the invariant: of a set, its PRT entries do, and then the word. Assumes nothing.
use Prim.Native.Nat.{ℕ, suc, ◌+◌}
use native.Mathlib.Omega.{arith}
use mathlib.Core.Path.{◌≡◌, refl, sym, ap, ◌∙◌}
use mathlib.Core.Bool.{Bool, true, false}
use mathlib.Core.Logic.{◌⊎◌, inl, inr}
use lib.Dec.{eqb}
use borrow.Author.Tests.{eqb-true, eq-eqb, ne_eqb}
use Rattle.collector.specs.Bits.{by_bool, clash, and_r, and_intro, false_and, and_false, or_l, or_r, or_cases, or_false_l}
use Rattle.collector.specs.Objects.{Obj, put, stamp, is_ref, page_of}
use Rattle.collector.specs.State.{white, grey, St, objects, remove, blacks}
use Rattle.collector.specs.Calls.{pruned, cutting, written, copying}
use Rattle.collector.proofs.Objects.{points_some, put_occ, put_ref, put_same, put_other, put_from, put_to, pruned_points}
use Rattle.collector.proofs.Count.{countb_same}
use Rattle.collector.proofs.Safe.{greyed_moves, greyed_seen, greyed_not, greyed_from, still_seen, black_before, same_black, safe_after}
use Rattle.collector.proofs.Invariant.{DatedIn, empty, stored, Inv}
use Rattle.collector.proofs.Tables.{add_new, remove_other}
use Rattle.collector.proofs.Facts.{CutFacts, SetFacts, CopyFacts, FlushFacts}
use Rattle.collector.proofs.Known.{whole_on, dated_on, retag_in, known_there, rec_range}

dated_set : (s : St) (t o f v m : ℕ) → SetFacts s t o f v m → Inv s → DatedIn (written s t o f v m)
unfolding stamp
dated_set s t o f v m g i = record {
  free_t = λ x w. rw (ne_eqb x o (λ z. clash g.own (rw z at (w t)))) (i.dated.free_t x w);
  same_born = λ x h. born x ∙ i.dated.same_born x h;
  young = λ x h. rw (born x) (let k = i.dated.young x (sym (occ x) ∙ h) in let l = g.line in omega arith);
  tagged = λ u q k w h r. by_bool (eqb q o)
      (λ e. let r' : is_ref (s.pages.rec o) k ≡ true = rw (e, put_ref) at r in by_bool (eqb k f)
      (λ d. elim (g.target (rw (eqb-true k f d) at r')) [
        | inl z ↦ empty (rw (e, put_same (s.pages.rec o) f v k d) z)
        | inr z ↦ stored (rw (e, put_same (s.pages.rec o) f v k d, i.exclusive.sole u t (page_of q) w (rw (eqb-true q o e) g.own)) z)
            (rw (e, d, put_same (s.pages.rec o) f v k d, born v) (let l = g.line in let y = i.dated.young v (known_there s i t v z) in omega arith))
      ])
      (λ d. retag_in s (written s t o f v m) refl refl (rw (e, put_other (s.pages.rec o) f v k d, eqb-true q o e)) (rw (e, d, eqb-true q o e)) (λ x j. (j, born x))
      (i.dated.tagged u q k w (sym (occ q) ∙ h) (rw (eqb-true q o e) r'))))
      (λ e. retag_in s (written s t o f v m) refl refl (rw e refl) (rw e refl) (λ x j. (j, born x)) (i.dated.tagged u q k w (rw e at h) (rw e at r)));
}
  where
    born : (x : ℕ) → ((written s t o f v m).tags.rec_tag x).born ≡ (s.tags.rec_tag x).born
    born x = by_bool (eqb x o) (λ e. rw (e, eqb-true x o e)) (λ e. rw e refl)

    occ : (x : ℕ) → ((written s t o f v m).pages.rec x).occ ≡ (s.pages.rec x).occ
    occ x = by_bool (eqb x o) (λ e. rw (e, put_occ, eqb-true x o e)) (λ e. rw e refl)

pub keep_cut : (s : St) (t : ℕ) (q : ℕ → Bool) (p m : ℕ) → CutFacts s q m → Inv s → Inv (cutting s t q p m)
keep_cut s t q p m g i = record {
  whole = whole_on (let l = g.line in omega arith) i.whole;
  exclusive = i.exclusive;
  agreed = i.agreed;
  prune = record {
    kept_r = λ u o x w e. elim (i.prune.kept_r u o x w e) [ inl k ↦ inl k | inr k ↦ inr (or_l _ _ k) ];
    kept_c = λ u o x w e. elim (i.prune.kept_c u o x w e) [ inl k ↦ inl k | inr k ↦ inr (or_l _ _ k) ];
    ranged = λ u x h. elim (or_cases _ _ h) [ inl e ↦ i.prune.ranged u x e | inr e ↦ g.ranged x (and_r _ _ e) ];
    clean = λ u o w d. i.prune.clean u o w (or_false_l _ _ d);
  };
  known = i.known;
  dated = dated_on (let l = g.line in omega arith) (λ u o x w k. k) i.dated;
  marks = λ r. let a = i.marks r in record {
    top = still_seen moves 1 a.top;
    gone = λ ph u x l h. elim (or_cases _ _ h) [
      | inl e ↦ still_seen moves x (a.gone ph u x l e)
      | inr e ↦ greyed_seen _ (s.pass.col x) (and_intro _ _ (rw ph refl) (and_r _ _ e))
    ];
    edges = λ o x c e. elim c [ inl b ↦ safe_after moves (a.edges o x (inl (black_before moves o b)) e) | inr b ↦ safe_after moves (a.edges o x (inr b) e) ];
    no_grey = λ ph o h. a.no_grey ph o (sym (greyed_not _ (s.pass.col o) (rw (ph, false_and) refl)) ∙ h);
  };
  counted = record {
    ranged = λ x h. elim (greyed_from _ _ h) [ inl e ↦ g.ranged x (and_r _ _ e) | inr e ↦ i.counted.ranged x e ];
    page = i.counted.page;
    scanned = λ ph. i.counted.scanned ph ∙ sym same_blacks;
    over = i.counted.over;
    turned = λ ph. i.counted.turned ph ∙ ap (λ b. suc (b + s.pass.at)) (sym same_blacks);
  };
}
  where
    moves : (x : ℕ) → ((cutting s t q p m).pass.col x ≡ s.pass.col x) ⊎ ((s.pass.col x ≡ white) × ((cutting s t q p m).pass.col x ≡ grey))
    moves x = greyed_moves _ (s.pass.col x)

    same_blacks : blacks (objects s) (cutting s t q p m).pass.col ≡ blacks (objects s) s.pass.col
    same_blacks = countb_same (objects s) _ _ (λ k l. same_black moves (suc k))

-- the reference taken away names an object of the store
pub cut_facts : (s : St) (t o f v m : ℕ) → SetFacts s t o f v m → Inv s → CutFacts s (pruned (s.pages.rec o) f v) m
cut_facts s t o f v m g i = record {
  ranged = λ x e. let p = pruned_points (s.pages.rec o) f v x (known_there s i t o g.known) e in
      let z = points_some (s.pages.rec o) x p in (omega arith, rec_range s i o x p);
  line = g.line;
}

pub keep_set : (s : St) (t o f v m : ℕ) → SetFacts s t o f v m → Inv s → Inv (written s t o f v m)
keep_set s t o f v m g i = let j = keep_cut s t (pruned (s.pages.rec o) f v) (page_of o) m (cut_facts s t o f v m g i) i in record {
  whole = j.whole;
  exclusive = j.exclusive;
  agreed = record {
    one = i.agreed.one;
    free_r = λ x w. rw (ne_eqb x o (λ z. clash g.own (rw z at (w t)))) (i.agreed.free_r x w);
    free_c = i.agreed.free_c;
    keeps = λ x k. other x (λ z. rw (eq-eqb x o z, put_occ) (i.agreed.keeps o (rw z at k))) (λ e. rw e (i.agreed.keeps x k));
    range_c = i.agreed.range_c;
  };
  prune = record {
    kept_r = λ u q x w e. other q
        (λ z. rw (eq-eqb q o z, own u q w z) (elim (i.prune.kept_r t o x g.own (rw z at e)) [
          | inl k ↦ elim (put_to (s.pages.rec o) f v x k) [ inl d ↦ inl d | inr d ↦ inr (or_r _ _ (and_intro _ _ (eq-eqb t t refl) d)) ]
          | inr k ↦ inr (or_l _ _ k)
        ]))
        (λ d. rw d (j.prune.kept_r u q x w e));
    kept_c = j.prune.kept_c;
    ranged = j.prune.ranged;
    clean = λ u q w d. other q
        (λ z. clash (add_new s.tables.dirty t (page_of o) u (page_of q) (own u q w z) (ap page_of z)) d)
        (λ e. rw e (j.prune.clean u q w d));
  };
  known = record {
    wrote = λ u q x w e. other q
        (λ z. rw (own u q w z) (elim (put_from (s.pages.rec o) f v x (rw (eq-eqb q o z) at e)) [
          | inl k ↦ rw z (i.known.wrote t o x g.own k)
          | inr k ↦ inr (elim (g.target k.0) [ inl d ↦ absurd (points_some (put (s.pages.rec o) f v) x (rw (eq-eqb q o z) at e) (k.1 ∙ d)) | inr d ↦ rw k.1 d ])
        ]))
        (λ d. i.known.wrote u q x w (rw d at e));
    knows = λ u x h. elim (i.known.knows u x h) [
      | inl k ↦ inl (k.0, other x (λ z. rw (eq-eqb x o z, put_occ) (rw z at k.1)) (λ d. rw d k.1))
      | inr k ↦ inr k
    ];
    made = i.known.made;
  };
  dated = dated_set s t o f v m g i;
  marks = j.marks;
  counted = j.counted;
}
  where
    other : {A : Type 0} (x : ℕ) → (x ≡ o → A) → (eqb x o ≡ false → A) → A
    other x k h = by_bool (eqb x o) (λ e. k (eqb-true _ _ e)) h

    own : (u q : ℕ) → s.locks.wr u (page_of q) ≡ true → q ≡ o → u ≡ t
    own u q w z = i.exclusive.sole u t (page_of q) w (rw z g.own)

pub keep_copy : (s : St) (t p : ℕ) (d : ℕ → Obj) (dirty : ℕ → ℕ → Bool) → CopyFacts s t p d dirty → Inv s → Inv (copying s p d dirty)
keep_copy s t p d dirty g i = record {
  whole = i.whole;
  exclusive = i.exclusive;
  agreed = record {
    one = i.agreed.one;
    free_r = i.agreed.free_r;
    free_c = λ o w. rw (ne_eqb (page_of o) p (λ z. clash g.own (rw z at (w t)))) (i.agreed.free_c o w);
    keeps = i.agreed.keeps;
    range_c = λ o x e. by_bool (eqb (page_of o) p) (λ k. g.ranged o x (rw k at e)) (λ k. i.agreed.range_c o x (rw k at e));
  };
  prune = record {
    kept_r = i.prune.kept_r;
    kept_c = λ u o x w e. by_bool (eqb (page_of o) p) (λ k. rw k (g.kept u o x w e)) (λ k. rw k (i.prune.kept_c u o x w e));
    ranged = i.prune.ranged;
    clean = g.clean;
  };
  known = i.known;
  dated = i.dated;
  marks = i.marks;
  counted = i.counted;
}

-- a page as it is received
pub flush_copies : (s : St) (t p : ℕ) → FlushFacts s t p → Inv s → CopyFacts s t p s.pages.rec (remove s.tables.dirty t p)
flush_copies s t p g i = record {
  own = g.own;
  ranged = rec_range s i;
  kept = i.prune.kept_r;
  clean = λ u o w d. by_bool (eqb (page_of o) p) (λ e. rw e refl)
      (λ e. rw e (i.prune.clean u o w (sym (remove_other s.tables.dirty t p u (page_of o) (rw e (and_false _))) ∙ d)));
}
