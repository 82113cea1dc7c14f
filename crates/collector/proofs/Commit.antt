-- Commit keeps the invariant. Assumes nothing.
use Prim.Native.Nat.{ℕ, ◌≤◌, ◌<◌}
use native.Mathlib.Nat.{le_trans}
use mathlib.Core.Path.{◌≡◌, refl}
use mathlib.Core.Bool.{true, false}
use mathlib.Core.Logic.{◌⊎◌, inl, inr}
use Rattle.collector.specs.Bits.{by_bool, clash}
use Rattle.collector.specs.Objects.{Obj, Tag, is_ref, points, txns, page_of, root, edge, Reach, Whole}
use Rattle.collector.specs.State.{is_white, marking, is_idle, St, objects, drop, carried, mix}
use Rattle.collector.specs.Calls.{owns, without, committed}
use Rattle.collector.proofs.Objects.{unoccupied, path_mono, reach}
use Rattle.collector.proofs.Safe.{Grey, here, next, Safe, seen, new, later, no_grey_law, by_phase, is_grey}
use Rattle.collector.proofs.Invariant.{SafeIn, DatedIn, TaggedIn, before, empty, stored, Inv}
use Rattle.collector.proofs.Tables.{drop_other, drop_old, drop_is, writer_bound}
use Rattle.collector.proofs.Facts.{CommitFacts}
use Rattle.collector.proofs.Known.{target, retag_in, known_range}
use Rattle.collector.proofs.Reached.{known_safe}
use Rattle.collector.proofs.Ended.{ended_exclusive, others_page, others, was_unwritten, holds_other, cot_grows, cot_shrinks}

-- the committed objects and tags after the commit of t
abbrev cmt' : St → ℕ → ℕ → Obj
cmt' s t = mix (owns s t) s.pages.rec s.pages.cmt

abbrev tag' : St → ℕ → ℕ → Tag
tag' s t = mix (owns s t) s.tags.rec_tag s.tags.cmt_tag

module _ (s : St) (t : ℕ) (i : Inv s) where
  -- where a committed reference comes from
  came : (o x : ℕ) → points (cmt' s t o) x ≡ true → (points (s.pages.cmt o) x ≡ true) ⊎ (s.tables.kn t x ≡ true)
  came o x e = by_bool (owns s t o) (λ w. i.known.wrote t o x w (rw w at e)) (λ w. inl (rw w at e))

  -- where it went
  went : (o x : ℕ) → points (s.pages.cmt o) x ≡ true → (points (cmt' s t o) x ≡ true) ⊎ ((t < txns) × (s.tables.prt t x ≡ true))
  went o x e = by_bool (owns s t o)
      (λ w. elim (i.prune.kept_r t o x w e) [ inl k ↦ inl (rw w k) | inr k ↦ inr (writer_bound i.exclusive t (page_of o) w, k) ])
      (λ w. inl (rw w e))

  reached : {x : ℕ} → Reach (cmt' s t) x → Reach s.pages.cmt x ⊎ ((s.tables.cot t x ≡ true) × ((s.pages.rec x).occ ≡ true))
  reached root = inl root
  reached (edge {o} {x} p h e) = elim (came o x e) [
    | inl k ↦ elim (reached p) [ inl r ↦ inl (edge r refl k) | inr c ↦ unoccupied (s.pages.cmt o) x (i.known.made t o c.0).out k ]
    | inr k ↦ elim (i.known.knows t x k) [ inl c ↦ inr c | inr q ↦ inl (reach q) ]
  ]

  -- what is reached is received and committed
  received_there : {x : ℕ} → Reach (cmt' s t) x → (s.pages.rec x).occ ≡ true
  received_there {x} p = elim (reached p) [ inl r ↦ i.agreed.keeps x (i.whole.wf x r) | inr c ↦ c.1 ]

  committed_there : {x : ℕ} → Reach (cmt' s t) x → (cmt' s t x).occ ≡ true
  committed_there {x} p = by_bool (owns s t x) (λ w. rw w (received_there p))
      (λ w. rw w (elim (reached p) [ inl r ↦ i.whole.wf x r | inr c ↦ clash (i.known.made t x c.0).own w ]))

  -- a committed object is as old in the new committed state
  born : (x : ℕ) → (s.pages.cmt x).occ ≡ true → (tag' s t x).born ≡ (s.tags.cmt_tag x).born
  born x h = by_bool (owns s t x) (λ e. rw e (i.dated.same_born x h)) (λ e. rw e refl)

  -- a word of a reached object that stays as it was committed
  old_leads : (o f : ℕ) → Reach s.pages.cmt o → is_ref (s.pages.cmt o) f ≡ true → ((s.pages.cmt o).word f ≡ 0 → ⊥)
      → (tag' s t ((s.pages.cmt o).word f)).born ≤ (s.tags.cmt_tag o).time f
  old_leads o f r j z = rw (born ((s.pages.cmt o).word f) (i.whole.wf _ (target i.whole o f r j z))) (i.whole.leads o f r j z)

  -- a word on t's pages
  new_leads : (o f : ℕ) → TaggedIn s t o f → Reach (cmt' s t) o
      → ((s.pages.rec o).word f ≡ 0 → ⊥) → (tag' s t ((s.pages.rec o).word f)).born ≤ (s.tags.rec_tag o).time f
  new_leads o f (before a j y w) p z = elim (reached p) [ inl r ↦ rw (y, w) (old_leads o f r j (rw y at z)) | inr c ↦ clash a (i.known.made t o c.0).out ]
  new_leads o f (empty a) p z = absurd (z a)
  new_leads o f (stored a y) p z = elim (i.known.knows t ((s.pages.rec o).word f) a) [
    | inl c ↦ rw (i.known.made t ((s.pages.rec o).word f) c.0).own y
    | inr q ↦ (let k = i.whole.wf _ (reach q) in rw (born ((s.pages.rec o).word f) k, ← (i.dated.same_born ((s.pages.rec o).word f) k)) y)
  ]

  module _ (r : is_idle s.pass.phase ≡ false) where
    -- what is to be marked stays so, or is marked
    grey_on : {x : ℕ} → s.pass.phase ≡ marking → Grey s.pass.col s.pages.cmt x → (is_white (s.pass.col x) ≡ false) ⊎ Grey s.pass.col (cmt' s t) x
    grey_on p (here e) = inl (rw e refl)
    grey_on p (next {o} {x} a b e) = elim (went o x e) [
      | inl k ↦ inr (elim (grey_on p a) [ inl w ↦ next (here (is_grey (s.pass.col o) w b)) b k | inr w ↦ next w b k ])
      | inr k ↦ inl ((i.marks r).gone p t x k.0 k.1)
    ]

    safe_on : {x : ℕ} → SafeIn s x
        → Safe s.pass.col (carried (drop s.tables.cot t) (without s.tables s.pass.phase t).cot_f) (cmt' s t) x
    safe_on {x} (seen e) = seen e
    safe_on {x} (new e) = new (cot_grows s t i r x e)
    safe_on {x} (later a) = by_phase s.pass.phase
        (λ p. clash (rw p refl) r)
        (λ p. elim (grey_on p a) [ inl w ↦ seen w | inr w ↦ later w ])
        (λ p. no_grey_law ((i.marks r).no_grey p) a)

whole_commit : (s : St) (t n : ℕ) → s.tags.now ≤ n → Inv s → Whole (objects s) n (cmt' s t) (tag' s t)
whole_commit s t n l i = record {
  leads = λ o f p r z. by_bool (owns s t o)
      (λ e. rw e (new_leads s t i o f (i.dated.tagged t o f e (received_there s t i p) (rw e at r)) p (rw e at z)))
      (λ e. rw e (elim (reached s t i p) [ inl k ↦ old_leads s t i o f k (rw e at r) (rw e at z) | inr c ↦ clash (i.known.made t o c.0).own e ]));
  young = λ x h. le_trans (by_bool (owns s t x) (λ e. rw e (i.dated.young x (rw e at h))) (λ e. rw e (i.whole.young x (rw e at h)))) l;
  range = λ o x e. elim (came s t i o x e) [ inl k ↦ i.whole.range o x k | inr k ↦ known_range s i t x k ];
  wf = λ x p. committed_there s t i p;
}

dated_commit : (s : St) (t n : ℕ) → s.tags.now ≤ n → Inv s → DatedIn (committed s t n)
dated_commit s t n l i = record {
  free_t = λ o w. by_bool (owns s t o) (λ e. rw e refl) (λ e. rw e (i.dated.free_t o (was_unwritten s t i o w e)));
  same_born = λ x h. by_bool (owns s t x) (λ e. rw e refl) (λ e. rw e (i.dated.same_born x (rw e at h)));
  young = λ x h. le_trans (i.dated.young x h) l;
  tagged = λ u o f w h r. let k = others s t i u o w in
      retag_in s (committed s t n) (rw k.1 refl) (rw k.1 refl) refl refl (λ x j. (rw (drop_is s.tables.kn t u x k.2) j, refl)) (i.dated.tagged u o f k.0 h r);
}

pub keep_commit : (s : St) (t n : ℕ) → CommitFacts s t n → Inv s → Inv (committed s t n)
keep_commit s t n g i = record {
  whole = whole_commit s t n g.line i;
  exclusive = ended_exclusive s t i;
  agreed = record {
    one = i.agreed.one;
    free_r = λ o w. by_bool (owns s t o) (λ e. rw e refl) (λ e. rw e (i.agreed.free_r o (was_unwritten s t i o w e)));
    free_c = λ o w. by_bool (owns s t o)
        (λ e. rw e (i.prune.clean t o e (g.flushed (page_of o) (i.exclusive.writer t (page_of o) e).1)))
        (λ e. rw e (i.agreed.free_c o (was_unwritten s t i o w e)));
    keeps = λ o k. by_bool (owns s t o) (λ e. rw e at k) (λ e. i.agreed.keeps o (rw e at k));
    range_c = i.agreed.range_c;
  };
  prune = record {
    kept_r = λ u o x w e. let f = others s t i u o w in rw (drop_is s.tables.prt t u x f.2) (i.prune.kept_r u o x f.0 (rw f.1 at e));
    kept_c = λ u o x w e. let f = others s t i u o w in rw (drop_is s.tables.prt t u x f.2) (i.prune.kept_c u o x f.0 (rw f.1 at e));
    ranged = λ u x h. i.prune.ranged u x (drop_old s.tables.prt t u x h);
    clean = λ u o w d. let f = others s t i u o w in i.prune.clean u o f.0 (rw (drop_is s.tables.dirty t u (page_of o) f.2) at d);
  };
  known = record {
    wrote = λ u o x w e. let f = others s t i u o w in rw (f.1, drop_is s.tables.kn t u x f.2) (i.known.wrote u o x f.0 e);
    knows = λ u x h. let d = drop_other s.tables.kn t u x h in elim (i.known.knows u x (drop_old s.tables.kn t u x h)) [
      | inl c ↦ inl (rw (drop_is s.tables.cot t u x d) c.0, c.1)
      | inr p ↦ inr (path_mono (λ o q l. let k = holds_other s t i u o d l in (k.0, λ y e. rw k.1 e)) p)
    ];
    made = λ u o h. let m = i.known.made u o (drop_old s.tables.cot t u o h) in let d = drop_other s.tables.cot t u o h in
        record { own = rw (drop_is s.locks.wr t u (page_of o) d) m.own; out = rw (others_page s t i u o m.own d) m.out; ranged = m.ranged };
  };
  dated = dated_commit s t n g.line i;
  marks = λ r. let m = i.marks r in record {
    top = m.top;
    gone = λ p u x l h. m.gone p u x l (drop_old s.tables.prt t u x h);
    edges = λ o x c e. safe_on s t i r (elim (came s t i o x e) [
      | inl k ↦ m.edges o x (elim c [ inl b ↦ inl b | inr b ↦ inr (cot_shrinks s t i o b) ]) k
      | inr k ↦ known_safe s i r t x k
    ]);
    no_grey = m.no_grey;
  };
  counted = i.counted;
}
