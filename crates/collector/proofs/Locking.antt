-- Begin, the locks and learning keep the invariant. Assumes nothing.
use Prim.Native.Nat.{ℕ}
use native.Mathlib.Nat.{le_refl}
use mathlib.Core.Path.{◌≡◌, sym, ap, ◌∙◌}
use mathlib.Core.Bool.{Bool, true, false}
use mathlib.Core.Logic.{◌⊎◌, inl, inr}
use lib.Dec.{eqb}
use borrow.Author.Tests.{eqb-true, ne_eqb}
use Rattle.collector.specs.Bits.{◌and◌, by_bool, clash, and_l, and_r, or_l, or_r, or_cases, not_true}
use Rattle.collector.specs.Objects.{points, page_of, root}
use Rattle.collector.specs.State.{St, add, remove, holds}
use Rattle.collector.specs.Calls.{begun, read_locked, write_locked, learning}
use Rattle.collector.proofs.Objects.{path_mono}
use Rattle.collector.proofs.Invariant.{Unwritten, before, Inv}
use Rattle.collector.proofs.Tables.{is_false, add_cases, remove_same, remove_other, writer_bound}
use Rattle.collector.proofs.Facts.{BeginFacts, LockrFacts, LockwFacts, LearnFacts, ReadFacts}
use Rattle.collector.proofs.Known.{whole_on, dated_on, follows, held, received}

pub keep_begin : (s : St) (t n : ℕ) → BeginFacts s t n → Inv s → Inv (begun s t n)
keep_begin s t n g i = record {
  whole = whole_on g.line i.whole;
  exclusive = record {
    active = λ u a. elim (or_cases _ _ a) [ inl e ↦ i.exclusive.active u e | inr e ↦ rw (eqb-true u t e) g.small ];
    reader = λ u p r. or_l _ _ (i.exclusive.reader u p r);
    writer = λ u p w. (or_l _ _ (i.exclusive.writer u p w).0, (i.exclusive.writer u p w).1);
    sole = i.exclusive.sole;
    alone = i.exclusive.alone;
  };
  agreed = i.agreed;
  prune = i.prune;
  known = record {
    wrote = λ u o x w e. elim (i.known.wrote u o x w e) [ inl k ↦ inl k | inr k ↦ inr (other u o x w k) ];
    knows = λ u x k. by_bool (eqb u t) (λ e. inr (rw (eqb-true x 1 (rw e at k)) root)) (λ e. i.known.knows u x (rw e at k));
    made = i.known.made;
  };
  dated = dated_on g.line other i.dated;
  marks = i.marks;
  counted = i.counted;
}
  where
    -- a writer was active before
    other : (u o x : ℕ) → s.locks.wr u (page_of o) ≡ true → s.tables.kn u x ≡ true → (begun s t n).tables.kn u x ≡ true
    other u o x w k = rw (ne_eqb u t (λ z. clash (i.exclusive.writer u (page_of o) w).0 (rw z g.inactive))) k

pub keep_lockr : (s : St) (t p : ℕ) → LockrFacts s t p → Inv s → Inv (read_locked s t p)
keep_lockr s t p g i = record {
  whole = i.whole;
  exclusive = record {
    active = i.exclusive.active;
    reader = λ u q r. elim (cases u q r) [ inl e ↦ i.exclusive.reader u q e | inr e ↦ rw e.0 g.active ];
    writer = i.exclusive.writer;
    sole = i.exclusive.sole;
    alone = λ v u q w. is_false ((read_locked s t p).locks.rd u q) (λ r. elim (cases u q r) [
      | inl e ↦ clash e (i.exclusive.alone v u q w)
      | inr e ↦ (let z = g.no_writer v (writer_bound i.exclusive v q w) (rw e.1 at w) in clash (rw (z ∙ sym e.0) at w) e.2)
    ]);
  };
  agreed = i.agreed;
  prune = i.prune;
  known = record {
    wrote = i.known.wrote;
    knows = λ u x h. elim (i.known.knows u x h) [ inl e ↦ inl e | inr e ↦ inr (path_mono (λ o k l. (wider u o l, λ y d. d)) e) ];
    made = i.known.made;
  };
  dated = i.dated;
  marks = i.marks;
  counted = i.counted;
}
  where
    cases : (u q : ℕ) → (read_locked s t p).locks.rd u q ≡ true → (s.locks.rd u q ≡ true) ⊎ ((u ≡ t) × (q ≡ p) × (s.locks.wr u q ≡ false))
    cases u q r = elim (or_cases _ _ r) [
      | inl e ↦ inl e
      | inr e ↦ inr (eqb-true _ _ (and_l _ _ (and_l _ _ e)), eqb-true _ _ (and_r _ _ (and_l _ _ e)), not_true _ (and_r _ _ e))
    ]

    wider : (u o : ℕ) → holds s.locks.wr s.locks.rd u (page_of o) ≡ true → holds s.locks.wr (read_locked s t p).locks.rd u (page_of o) ≡ true
    wider u o h = elim (or_cases _ _ h) [ inl e ↦ or_l _ _ e | inr e ↦ or_r _ _ (or_l _ _ e) ]

pub keep_lockw : (s : St) (t p : ℕ) → LockwFacts s t p → Inv s → Inv (write_locked s t p)
keep_lockw s t p g i = record {
  whole = i.whole;
  exclusive = record {
    active = i.exclusive.active;
    reader = λ u q r. i.exclusive.reader u q (and_r _ _ r);
    writer = λ u q w. elim (old u q w) [ inl e ↦ i.exclusive.writer u q e | inr e ↦ (rw e.0 g.active, rw e.1 g.page) ];
    sole = λ v u q w z. elim (old v q w) [
      | inl a ↦ elim (old u q z) [ inl b ↦ i.exclusive.sole v u q a b | inr b ↦ clash a (b.2 v) ]
      | inr a ↦ elim (old u q z) [ inl b ↦ clash b (a.2 u) | inr b ↦ a.0 ∙ sym b.0 ]
    ];
    alone = λ v u q w. is_false (remove s.locks.rd t p u q) (λ r. elim (old v q w) [
      | inl e ↦ clash (and_r _ _ r) (i.exclusive.alone v u q e)
      | inr e ↦ (let z = g.no_reader u (i.exclusive.active u (i.exclusive.reader u q (and_r _ _ r))) (rw e.1 at (and_r _ _ r)) in
          clash (rw (z, e.1) at r) (remove_same s.locks.rd t p))
    ]);
  };
  agreed = record {
    one = i.agreed.one;
    free_r = λ o w. i.agreed.free_r o (before_lock (page_of o) w);
    free_c = λ o w. i.agreed.free_c o (before_lock (page_of o) w);
    keeps = i.agreed.keeps;
    range_c = i.agreed.range_c;
  };
  prune = record {
    kept_r = λ v o x w e. elim (old v (page_of o) w) [ inl k ↦ i.prune.kept_r v o x k e | inr k ↦ inl (rw (i.agreed.free_r o k.2) e) ];
    kept_c = λ v o x w e. elim (old v (page_of o) w) [ inl k ↦ i.prune.kept_c v o x k e | inr k ↦ inl (rw (i.agreed.free_c o k.2) e) ];
    ranged = i.prune.ranged;
    clean = λ v o w d. elim (old v (page_of o) w) [ inl k ↦ i.prune.clean v o k d | inr k ↦ i.agreed.free_c o k.2 ∙ sym (i.agreed.free_r o k.2) ];
  };
  known = record {
    wrote = λ v o x w e. elim (old v (page_of o) w) [ inl k ↦ i.known.wrote v o x k e | inr k ↦ inl (rw (i.agreed.free_r o k.2) at e) ];
    knows = λ u x h. elim (i.known.knows u x h) [ inl e ↦ inl e | inr e ↦ inr (path_mono (λ o k l. (wider u o l, λ y d. d)) e) ];
    made = λ u o h. let m = i.known.made u o h in record { own = or_l _ _ m.own; out = m.out; ranged = m.ranged };
  };
  dated = record {
    free_t = λ o w. i.dated.free_t o (before_lock (page_of o) w);
    same_born = i.dated.same_born;
    young = i.dated.young;
    tagged = λ u o f w h r. elim (old u (page_of o) w) [
      | inl k ↦ i.dated.tagged u o f k h r
      | inr k ↦ (let a = i.agreed.free_r o k.2 in before (rw a at h) (rw a at r) (ap (λ b. b.word f) a) (ap (λ b. b.time f) (i.dated.free_t o k.2)))
    ];
  };
  marks = i.marks;
  counted = i.counted;
}
  where
    -- a lock is an old one, or the one taken, on a page without a writer
    old : (v q : ℕ) → add s.locks.wr t p v q ≡ true → (s.locks.wr v q ≡ true) ⊎ ((v ≡ t) × (q ≡ p) × Unwritten s.locks.wr q)
    old v q w = elim (add_cases s.locks.wr t p v q w) [
      | inl e ↦ inl e
      | inr e ↦ by_bool (s.locks.wr v q) inl (λ n. inr (
        e.0,
        e.1,
        λ u. is_false (s.locks.wr u q)
            (λ z. let y = g.no_writer u (writer_bound i.exclusive u q z) (rw e.1 at z) in clash (rw (y ∙ sym e.0) at z) n),
      ))
    ]

    before_lock : (q : ℕ) → Unwritten (add s.locks.wr t p) q → Unwritten s.locks.wr q
    before_lock q w u = is_false (s.locks.wr u q) (λ e. clash (or_l _ _ e) (w u))

    wider : (u o : ℕ) → holds s.locks.wr s.locks.rd u (page_of o) ≡ true → holds (add s.locks.wr t p) (remove s.locks.rd t p) u (page_of o) ≡ true
    wider u o h = elim (or_cases _ _ h) [
      | inl e ↦ or_l _ _ (or_l _ _ e)
      | inr e ↦ by_bool (eqb u t and eqb (page_of o) p)
          (λ d. or_l _ _ (or_r _ _ d))
          (λ d. or_r _ _ (rw (remove_other s.locks.rd t p u (page_of o) d) e))
    ]

pub keep_learn : (s : St) (t : ℕ) (q : ℕ → Bool) → LearnFacts s t q → Inv s → Inv (learning s t q)
keep_learn s t q g i = record {
  whole = i.whole;
  exclusive = i.exclusive;
  agreed = i.agreed;
  prune = i.prune;
  known = record {
    wrote = λ u o x w e. elim (i.known.wrote u o x w e) [ inl k ↦ inl k | inr k ↦ inr (or_l _ _ k) ];
    knows = λ u x h. elim (or_cases _ _ h) [ inl e ↦ i.known.knows u x e | inr e ↦ rw (eqb-true u t (and_l _ _ e)) (g.knows x (and_r _ _ e)) ];
    made = i.known.made;
  };
  dated = dated_on (le_refl _) (λ u o x w k. or_l _ _ k) i.dated;
  marks = i.marks;
  counted = i.counted;
}

-- what t reads it may come to know
pub read_learns : (s : St) (t o : ℕ) → ReadFacts s t o → Inv s → LearnFacts s t (points (s.pages.rec o))
read_learns s t o g i = record {
  knows = λ x e. received s i o x e (λ k. inr (follows s i t o x g.known g.lock k)) (λ u w k. i.known.knows t x (rw (held s i t u (page_of o) g.lock w) at k));
}
