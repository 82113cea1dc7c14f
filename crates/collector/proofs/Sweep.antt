-- What a sweep spares; a sweeping step keeps the invariant, whether it frees objects of the page or passes it by. Assumes nothing.
use Prim.Native.Nat.{ℕ, suc}
use native.Mathlib.Omega.{arith}
use mathlib.Core.Path.{◌≡◌, refl}
use mathlib.Core.Bool.{Bool, true, false, cond}
use mathlib.Core.Logic.{inl, inr}
use lib.Dec.{ltb}
use borrow.Author.Tests.{ltb-true}
use Rattle.collector.specs.Bits.{by_bool, clash}
use Rattle.collector.specs.Objects.{is_ref, points, page_of, Path, Reach, Whole}
use Rattle.collector.specs.State.{idle, marking, sweeping, Pass, St, objects, carried}
use Rattle.collector.specs.Calls.{onward, advanced, dead, swept}
use Rattle.collector.proofs.Objects.{blank_occ, blank_none, path_mono}
use Rattle.collector.proofs.Safe.{Safe, seen, new, later, no_grey_law, mark_sweep, idle_mark, idle_sweep}
use Rattle.collector.proofs.Invariant.{MarkedIn, SafeIn, Counted, DatedIn, Inv}
use Rattle.collector.proofs.Tables.{is_false}
use Rattle.collector.proofs.Facts.{SkipFacts, SweepFacts, dead_facts}
use Rattle.collector.proofs.Known.{target, retag_in}
use Rattle.collector.proofs.Reached.{path_safe, known_safe}

module _ (s : St) (i : Inv s) (r : s.pass.phase ≡ sweeping) where
  was : MarkedIn s
  was = i.marks (rw r refl)

  -- what is safe is not freed
  pub spared : (x : ℕ) → SafeIn s x → dead s x ≡ false
  spared x h = is_false (dead s x) (go h)
    where
      go : SafeIn s x → dead s x ≡ true → ⊥
      go (seen e) d = clash (dead_facts s x d).white e
      go (new e) d = clash e (dead_facts s x d).free
      go (later g) d = no_grey_law (was.no_grey r) g

  pub spared_reached : {q : ℕ → Bool} {x : ℕ} → Path s.pages.cmt q x → dead s x ≡ false
  spared_reached {q} {x} p = spared x (path_safe was p)

  pub spared_known : (t x : ℕ) → s.tables.kn t x ≡ true → dead s x ≡ false
  spared_known t x k = spared x (known_safe s i (rw r refl) t x k)

onward_phase : {A : Type 0} (b : Bool) → cond b sweeping idle ≡ marking → A
onward_phase true p = mark_sweep p refl
onward_phase false p = idle_mark refl p

onward_counted : (p : ℕ) (a : Pass) → a.phase ≡ sweeping → Counted p a.phase a.at a.steps a.col
    → Counted p (onward p a).phase (onward p a).at (onward p a).steps a.col
onward_counted p a r c = record {
  ranged = c.ranged;
  page = by_bool (ltb (suc a.at) p) (λ e. rw e (ltb-true _ _ e)) (λ e. rw e (let l = c.page in omega arith));
  scanned = λ ph. onward_phase (ltb (suc a.at) p) ph;
  turned = λ ph. by_bool (ltb (suc a.at) p) (λ e. rw e (let n = c.turned r in omega arith)) (λ e. idle_sweep refl (rw e at ph));
  over = λ ph. by_bool (ltb (suc a.at) p) (λ e. idle_sweep (rw e at ph) refl) (λ e. rw e refl);
}

pub keep_skip : (s : St) → SkipFacts s → Inv s → Inv (advanced s)
keep_skip s g i = let m = i.marks (rw g.phase refl) in record {
  whole = i.whole;
  exclusive = i.exclusive;
  agreed = i.agreed;
  prune = i.prune;
  known = i.known;
  dated = i.dated;
  marks = λ k. record { top = m.top; gone = λ p. onward_phase (ltb (suc s.pass.at) s.count) p; edges = m.edges; no_grey = λ p. m.no_grey g.phase };
  counted = onward_counted s.count s.pass g.phase i.counted;
}

-- Dead objects of the page are freed by line m.
module _ (s : St) (m : ℕ) (g : SweepFacts s m) (i : Inv s) where
  left : (o x : ℕ) → points ((swept s m).pages.cmt o) x ≡ true → points (s.pages.cmt o) x ≡ true
  left o x e = by_bool (dead s o) (λ d. blank_none x (rw d at e)) (λ d. rw d at e)

  was_reached : {x : ℕ} → Reach (swept s m).pages.cmt x → Reach s.pages.cmt x
  was_reached p = path_mono (λ o k h. (refl, left o)) p

  -- nothing on a page that someone writes
  spared_page : (t o : ℕ) → s.locks.wr t (page_of o) ≡ true → dead s o ≡ false
  spared_page t o w = is_false (dead s o) (λ d. clash (rw (dead_facts s o d).page at w) (g.free t))

  alive : {x : ℕ} → Reach (swept s m).pages.cmt x → dead s x ≡ false
  alive p = spared_reached s i g.phase (was_reached p)

  whole_sweep : Whole (objects s) (suc m) (swept s m).pages.cmt (swept s m).tags.cmt_tag
  whole_sweep = record {
    leads = λ o f p j z. let e = alive p in let q = was_reached p in let j' : is_ref (s.pages.cmt o) f ≡ true = rw e at j in
        let z' : (s.pages.cmt o).word f ≡ 0 → ⊥ = rw e at z in
        rw (e, spared_reached s i g.phase (target i.whole o f q j' z')) (i.whole.leads o f q j' z');
    young = λ x h. by_bool (dead s x) (λ e. clash (rw e at h) blank_occ) (λ e. rw e (let k = i.whole.young x (rw e at h) in let l = g.line in omega arith));
    range = λ o x e. i.whole.range o x (left o x e);
    wf = λ x p. rw (alive p) (i.whole.wf x (was_reached p));
  }

  dated_sweep : DatedIn (swept s m)
  dated_sweep = record {
    free_t = λ o w. by_bool (dead s o) (λ e. rw e refl) (λ e. rw e (i.dated.free_t o w));
    same_born = λ x h. by_bool (dead s x) (λ e. rw e refl) (λ e. rw e (i.dated.same_born x (rw e at h)));
    young = λ x h. by_bool (dead s x) (λ e. clash (rw e at h) blank_occ) (λ e. rw e (let k = i.dated.young x (rw e at h) in let l = g.line in omega arith));
    tagged = λ u o f w h j. let e = spared_page u o w in
        retag_in s (swept s m) (rw e refl) (rw e refl) (rw e refl) (rw e refl)
        (λ x k. (k, rw (spared_known s i g.phase u x k) refl)) (i.dated.tagged u o f w (rw e at h) (rw e at j));
  }

pub keep_sweep : (s : St) (m : ℕ) → SweepFacts s m → Inv s → Inv (swept s m)
keep_sweep s m g i = record {
  whole = whole_sweep s m g i;
  exclusive = i.exclusive;
  agreed = record {
    one = i.agreed.one;
    free_r = λ o w. by_bool (dead s o) (λ e. rw e refl) (λ e. rw e (i.agreed.free_r o w));
    free_c = λ o w. by_bool (dead s o) (λ e. rw e refl) (λ e. rw e (i.agreed.free_c o w));
    keeps = λ o k. by_bool (dead s o) (λ e. clash (rw e at k) blank_occ) (λ e. rw e (i.agreed.keeps o (rw e at k)));
    range_c = λ o x e. by_bool (dead s o) (λ d. blank_none x (rw d at e)) (λ d. i.agreed.range_c o x (rw d at e));
  };
  prune = record {
    kept_r = λ t o x w e. rw (spared_page s m g i t o w) (i.prune.kept_r t o x w (left s m g i o x e));
    kept_c = λ t o x w e. rw (spared_page s m g i t o w) (i.prune.kept_c t o x w (left s m g i o x e));
    ranged = i.prune.ranged;
    clean = λ t o w d. rw (spared_page s m g i t o w) (i.prune.clean t o w d);
  };
  known = record {
    wrote = λ t o x w e. let l = spared_page s m g i t o w in rw l (i.known.wrote t o x w (rw l at e));
    knows = λ t x h. elim (i.known.knows t x h) [
      | inl c ↦ inl (c.0, rw (spared_page s m g i t x (i.known.made t x c.0).own) c.1)
      | inr p ↦ inr (path_mono (λ o q l. (l, λ y d. rw (spared_reached s i g.phase q) d)) p)
    ];
    made = λ t o h. let k = i.known.made t o h in let l = spared_page s m g i t o k.own in
        record { own = k.own; out = rw l k.out; ranged = k.ranged };
  };
  dated = dated_sweep s m g i;
  marks = λ k. let a = was s i g.phase in record {
    top = a.top;
    gone = λ p. onward_phase (ltb (suc s.pass.at) s.count) p;
    edges = λ o x c e. kept (a.edges o x c (left s m g i o x e));
    no_grey = λ p. a.no_grey g.phase;
  };
  counted = onward_counted s.count s.pass g.phase i.counted;
}
  where
    kept : {x : ℕ} → SafeIn s x
        → Safe s.pass.col (carried s.tables.cot s.tables.cot_f) (swept s m).pages.cmt x
    kept (seen e) = seen e
    kept (new e) = new e
    kept (later a) = no_grey_law ((was s i g.phase).no_grey g.phase) a
