-- Create keeps the invariant: its COT entry does, and then the object. Assumes nothing.
use Prim.Native.Nat.{ℕ}
use native.Mathlib.Omega.{arith}
use mathlib.Core.Path.{◌≡◌, refl, ap}
use mathlib.Core.Bool.{true, false}
use mathlib.Core.Logic.{◌⊎◌, inl, inr}
use lib.Dec.{eqb}
use borrow.Author.Tests.{eqb-true, eq-eqb, ne_eqb}
use Rattle.collector.specs.Bits.{by_bool, clash, or_l, or_r, or_cases, or_false_l, anyb_intro, anyb_elim}
use Rattle.collector.specs.Objects.{born_at, page_of}
use Rattle.collector.specs.State.{St, add, carried}
use Rattle.collector.specs.Calls.{entered, created}
use Rattle.collector.proofs.Objects.{unoccupied, fresh_occ, fresh_word, fresh_none}
use Rattle.collector.proofs.Safe.{safe_made}
use Rattle.collector.proofs.Invariant.{DatedIn, empty, Inv}
use Rattle.collector.proofs.Tables.{add_cases, add_new}
use Rattle.collector.proofs.Facts.{EntryFacts, CreateFacts}
use Rattle.collector.proofs.Known.{whole_on, dated_on, retag_in, known_there}

dated_create : (s : St) (t o m : ℕ) → CreateFacts s t o m → Inv s → DatedIn (created s t o m)
unfolding born_at
dated_create s t o m g i = record {
  free_t = λ x w. rw (ne_eqb x o (λ z. clash g.own (rw z at (w t)))) (i.dated.free_t x w);
  same_born = λ x h. rw (ne_eqb x o (λ z. clash (i.agreed.keeps o (rw z at h)) g.free)) (i.dated.same_born x h);
  young = λ x h. let l = g.line in by_bool (eqb x o) (λ e. rw e (omega arith)) (λ e. rw e (let k = i.dated.young x (rw e at h) in omega arith));
  tagged = λ u q f w h r. by_bool (eqb q o) (λ e. empty (rw e (fresh_word f)))
      (λ e. retag_in s (created s t o m) refl refl (rw e refl) (rw e refl)
      (λ x k. (or_l _ _ k, rw (ne_eqb x o (λ z. clash (known_there s i u x k) (rw z g.free))) refl)) (i.dated.tagged u q f w (rw e at h) (rw e at r)));
}

pub keep_entry : (s : St) (t o m : ℕ) → EntryFacts s t o m → Inv s → Inv (entered s t o m)
keep_entry s t o m g i = record {
  whole = whole_on (let l = g.line in omega arith) i.whole;
  exclusive = i.exclusive;
  agreed = i.agreed;
  prune = record { kept_r = i.prune.kept_r; kept_c = i.prune.kept_c; ranged = i.prune.ranged; clean = λ u q w d. i.prune.clean u q w (or_false_l _ _ d) };
  known = record {
    wrote = i.known.wrote;
    knows = λ u x h. elim (i.known.knows u x h) [ inl k ↦ inl (or_l _ _ k.0, k.1) | inr k ↦ inr k ];
    made = λ u q h. elim (add_cases s.tables.cot t o u q h) [
      | inl e ↦ i.known.made u q e
      | inr e ↦ rw (e.0, e.1) (record { own = g.own; out = g.out; ranged = g.ranged })
    ];
  };
  dated = dated_on (let l = g.line in omega arith) (λ u q x w k. k) i.dated;
  marks = λ r. let a = i.marks r in record {
    top = a.top;
    gone = a.gone;
    edges = λ q x c e. elim c [
      | inl b ↦ safe_made grows (a.edges q x (inl b) e)
      | inr b ↦ elim (shrinks q b) [ inl k ↦ safe_made grows (a.edges q x (inr k) e) | inr k ↦ unoccupied (s.pages.cmt o) x g.out (rw k at e) ]
    ];
    no_grey = a.no_grey;
  };
  counted = i.counted;
}
  where
    grows : (y : ℕ) → carried s.tables.cot s.tables.cot_f y ≡ true → carried (add s.tables.cot t o) s.tables.cot_f y ≡ true
    grows y h = elim (or_cases _ _ h) [ inl e ↦ or_l _ _ (anyb_elim _ _ e (λ k l d. anyb_intro _ _ k l (or_l _ _ d))) | inr e ↦ or_r _ _ e ]

    shrinks : (y : ℕ) → carried (add s.tables.cot t o) s.tables.cot_f y ≡ true → (carried s.tables.cot s.tables.cot_f y ≡ true) ⊎ (y ≡ o)
    shrinks y h = elim (or_cases _ _ h) [
      | inl e ↦ anyb_elim _ _ e (λ k l d. elim (add_cases s.tables.cot t o k y d) [ inl c ↦ inl (or_l _ _ (anyb_intro _ _ k l c)) | inr c ↦ inr c.1 ])
      | inr e ↦ inl (or_r _ _ e)
    ]

pub entry_facts : (s : St) (t o m : ℕ) → CreateFacts s t o m → Inv s → EntryFacts s t o m
entry_facts s t o m g i = record {
  ranged = g.ranged;
  own = g.own;
  out = by_bool (s.pages.cmt o).occ (λ e. clash (i.agreed.keeps o e) g.free) (λ e. e);
  line = g.line;
}

pub keep_create : (s : St) (t o m : ℕ) → CreateFacts s t o m → Inv s → Inv (created s t o m)
keep_create s t o m g i = let j = keep_entry s t o m (entry_facts s t o m g i) i in record {
  whole = j.whole;
  exclusive = j.exclusive;
  agreed = record {
    one = i.agreed.one;
    free_r = λ x w. rw (ne_eqb x o (λ z. clash g.own (rw z at (w t)))) (i.agreed.free_r x w);
    free_c = i.agreed.free_c;
    keeps = λ x k. by_bool (eqb x o) (λ e. rw e fresh_occ) (λ e. rw e (i.agreed.keeps x k));
    range_c = i.agreed.range_c;
  };
  prune = record {
    kept_r = λ u q x w e. other q (λ z. unoccupied (s.pages.cmt o) x (entry_facts s t o m g i).out (rw z at e)) (λ d. rw d (i.prune.kept_r u q x w e));
    kept_c = i.prune.kept_c;
    ranged = i.prune.ranged;
    clean = λ u q w d. other q
        (λ z. clash (add_new s.tables.dirty t (page_of o) u (page_of q) (i.exclusive.sole u t (page_of q) w (rw z g.own)) (ap page_of z)) d)
        (λ e. rw e (j.prune.clean u q w d));
  };
  known = record {
    wrote = λ u q x w e. other q (λ z. fresh_none x (rw (eq-eqb q o z) at e))
        (λ d. elim (i.known.wrote u q x w (rw d at e)) [ inl k ↦ inl k | inr k ↦ inr (or_l _ _ k) ]);
    knows = λ u x h. elim (add_cases s.tables.kn t o u x h) [
      | inl e ↦ elim (j.known.knows u x e) [ inl k ↦ inl (k.0, other x (λ z. rw (eq-eqb x o z) fresh_occ) (λ d. rw d k.1)) | inr k ↦ inr k ]
      | inr e ↦ inl (add_new s.tables.cot t o u x e.0 e.1, rw (eq-eqb x o e.1) fresh_occ)
    ];
    made = j.known.made;
  };
  dated = dated_create s t o m g i;
  marks = j.marks;
  counted = j.counted;
}
  where
    other : {A : Type 0} (x : ℕ) → (x ≡ o → A) → (eqb x o ≡ false → A) → A
    other x f h = by_bool (eqb x o) (λ e. f (eqb-true _ _ e)) h
