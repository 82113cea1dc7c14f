-- Abort keeps the invariant. Assumes nothing.
use Prim.Native.Nat.{ℕ}
use native.Mathlib.Nat.{le_trans}
use mathlib.Core.Path.{◌≡◌, refl, sym}
use mathlib.Core.Bool.{true, false}
use mathlib.Core.Logic.{inl, inr}
use lib.Dec.{eqb}
use borrow.Author.Tests.{eqb-false}
use Rattle.collector.specs.Bits.{by_bool}
use Rattle.collector.specs.Objects.{page_of}
use Rattle.collector.specs.State.{St}
use Rattle.collector.specs.Calls.{owns, aborted}
use Rattle.collector.proofs.Objects.{path_mono, reach}
use Rattle.collector.proofs.Safe.{safe_made}
use Rattle.collector.proofs.Invariant.{DatedIn, Inv}
use Rattle.collector.proofs.Tables.{drop_other, drop_old, drop_is}
use Rattle.collector.proofs.Facts.{AbortFacts}
use Rattle.collector.proofs.Known.{whole_on, retag_in}
use Rattle.collector.proofs.Ended.{ended_exclusive, others_page, others, was_unwritten, holds_other, cot_grows, cot_shrinks}

dated_abort : (s : St) (t n : ℕ) → AbortFacts s t n → Inv s → DatedIn (aborted s t n)
dated_abort s t n g i = record {
  free_t = λ o w. by_bool (owns s t o) (λ e. rw e refl) (λ e. rw e (i.dated.free_t o (was_unwritten s t i o w e)));
  same_born = λ x h. by_bool (owns s t x) (λ e. rw e refl) (λ e. rw e (i.dated.same_born x h));
  young = λ x h. le_trans (by_bool (owns s t x) (λ e. rw e (i.whole.young x (rw e at h))) (λ e. rw e (i.dated.young x (rw e at h)))) g.line;
  tagged = λ u o f w h r. let k = others s t i u o w in
      retag_in s (aborted s t n) refl refl (rw k.1 refl) (rw k.1 refl) (λ x j. (rw (drop_is s.tables.kn t u x k.2) j, born u x k.2 j))
      (i.dated.tagged u o f k.0 (rw k.1 at h) (rw k.1 at r));
}
  where
    -- what another transaction knows on t's pages is committed
    born : (u x : ℕ) → eqb u t ≡ false → s.tables.kn u x ≡ true → ((aborted s t n).tags.rec_tag x).born ≡ (s.tags.rec_tag x).born
    born u x d j = by_bool (owns s t x)
        (λ e. rw e (elim (i.known.knows u x j) [
          | inl c ↦ absurd (eqb-false u t d (i.exclusive.sole u t (page_of x) (i.known.made u x c.0).own e))
          | inr p ↦ sym (i.dated.same_born x (i.whole.wf x (reach p)))
        ]))
        (λ e. rw e refl)

pub keep_abort : (s : St) (t n : ℕ) → AbortFacts s t n → Inv s → Inv (aborted s t n)
keep_abort s t n g i = record {
  whole = whole_on g.line i.whole;
  exclusive = ended_exclusive s t i;
  agreed = record {
    one = i.agreed.one;
    free_r = λ o w. by_bool (owns s t o) (λ e. rw e refl) (λ e. rw e (i.agreed.free_r o (was_unwritten s t i o w e)));
    free_c = λ o w. by_bool (owns s t o) (λ e. rw e refl) (λ e. rw e (i.agreed.free_c o (was_unwritten s t i o w e)));
    keeps = λ o k. by_bool (owns s t o) (λ e. rw e k) (λ e. rw e (i.agreed.keeps o k));
    range_c = λ o x e. by_bool (owns s t o) (λ w. i.whole.range o x (rw w at e)) (λ w. i.agreed.range_c o x (rw w at e));
  };
  prune = record {
    kept_r = λ u o x w e. let f = others s t i u o w in rw (f.1, drop_is s.tables.prt t u x f.2) (i.prune.kept_r u o x f.0 e);
    kept_c = λ u o x w e. let f = others s t i u o w in rw (f.1, drop_is s.tables.prt t u x f.2) (i.prune.kept_c u o x f.0 e);
    ranged = λ u x h. i.prune.ranged u x (drop_old s.tables.prt t u x h);
    clean = λ u o w d. let f = others s t i u o w in rw f.1 (i.prune.clean u o f.0 (rw (drop_is s.tables.dirty t u (page_of o) f.2) at d));
  };
  known = record {
    wrote = λ u o x w e. let f = others s t i u o w in rw (drop_is s.tables.kn t u x f.2) (i.known.wrote u o x f.0 (rw f.1 at e));
    knows = λ u x h. let d = drop_other s.tables.kn t u x h in elim (i.known.knows u x (drop_old s.tables.kn t u x h))
        [ inl c ↦ inl (rw (drop_is s.tables.cot t u x d) c.0, rw (others_page s t i u x (i.known.made u x c.0).own d) c.1) | inr p ↦ inr (path_mono (λ o q l. ((holds_other s t i u o d l).0, λ y k. k)) p) ];
    made = λ u o h. let m = i.known.made u o (drop_old s.tables.cot t u o h) in let d = drop_other s.tables.cot t u o h in
        record { own = rw (drop_is s.locks.wr t u (page_of o) d) m.own; out = m.out; ranged = m.ranged };
  };
  dated = dated_abort s t n g i;
  marks = λ r. let m = i.marks r in record {
    top = m.top;
    gone = λ p u x l h. m.gone p u x l (drop_old s.tables.prt t u x h);
    edges = λ o x c e. safe_made (cot_grows s t i r) (m.edges o x (elim c [ inl b ↦ inl b | inr b ↦ inr (cot_shrinks s t i o b) ]) e);
    no_grey = m.no_grey;
  };
  counted = i.counted;
}
