-- Every step but create and set keeps the invariant in every world that going back may lead to. Assumes nothing.
use Prim.Native.Nat.{ℕ, ◌≤◌}
use mathlib.Core.Path.{◌≡◌, refl, sym, ap, ◌∙◌}
use mathlib.Core.Bool.{Bool, true, false, not}
use mathlib.Core.List.{[]}
use mathlib.Core.Logic.{inl, inr}
use lib.Dec.{eqb}
use borrow.Author.Tests.{eqb-true, eqb-false, eq-eqb, ne_eqb, not-true}
use Rattle.collector.specs.Bits.{◌and◌, ◌or◌, by_bool, clash, and_l, and_r, and_intro, and_true, false_and, true_and, or_l, or_false, or_true, or_swap, or_and, or_false_l, or_false_r}
use Rattle.collector.specs.Objects.{Obj, points, page_of}
use Rattle.collector.specs.State.{St, add, remove, drop}
use Rattle.collector.specs.Calls.{begun, read_locked, write_locked, learning, copying, flushed, dated, entered, cutting, owns, committed, aborted, started, marked, turned, advanced, dead, swept}
use Rattle.collector.specs.Undo.{Item, Stacks, with, forgotten, popped}
use Rattle.collector.proofs.Invariant.{Inv}
use Rattle.collector.proofs.Tables.{is_false}
use Rattle.collector.proofs.Facts.{BeginFacts, CommitFacts, AbortFacts, LockrFacts, LockwFacts, LearnFacts, ReadFacts, CopyFacts, FlushFacts, EntryFacts, CutFacts, MarkFacts, TurnFacts, SkipFacts, SweepFacts, dead_facts}
use Rattle.collector.proofs.Known.{whole_on, dated_on}
use Rattle.collector.proofs.Locking.{keep_begin, keep_lockr, keep_lockw, keep_learn, read_learns}
use Rattle.collector.proofs.Create.{keep_entry}
use Rattle.collector.proofs.Write.{keep_cut, keep_copy, flush_copies}
use Rattle.collector.proofs.Commit.{keep_commit}
use Rattle.collector.proofs.Abort.{keep_abort}
use Rattle.collector.proofs.Mark.{keep_pass, keep_mark, keep_turn}
use Rattle.collector.proofs.Sweep.{keep_skip, keep_sweep}
use Rattle.collector.proofs.Worlds.{Own, Worlds, Deep, inv_of, same_state, same_tables, Part, all_of, no_item, stepped, stepped_alike}

abbrev anyone : ℕ → Bool
anyone u = true

-- the book grows
later_kept : (s : St) (n : ℕ) → s.tags.now ≤ n → Inv s → Inv (dated s n)
later_kept s n l i = record {
  whole = whole_on l i.whole;
  exclusive = i.exclusive;
  agreed = i.agreed;
  prune = i.prune;
  known = i.known;
  dated = dated_on l (λ u o x w k. k) i.dated;
  marks = i.marks;
  counted = i.counted;
}

pub deep_later : (n : ℕ) (s : St) (us : Stacks) → s.tags.now ≤ n → Deep s us → Deep (dated s n) us
deep_later n s us = stepped_alike (λ s. dated s n) (λ s. s.tags.now ≤ n) anyone (λ s f. later_kept s n f) (λ s t i q o. o) (λ s t i q o j f. f) (λ s t i q o j f. refl) s us us (all_of us)

-- another's page
other_page : (s : St) (t u p : ℕ) → eqb u t ≡ false → Inv s → s.locks.wr u p ≡ true → s.locks.wr t p ≡ false
other_page s t u p n j o = is_false (s.locks.wr t p) (λ w. eqb-false u t n (j.exclusive.sole u t p o w))

pub deep_begin : (t n : ℕ) (s : St) (us : Stacks) → BeginFacts s t n → Deep s us → Deep (begun s t n) (with us t [])
deep_begin t n s us = stepped_alike (λ s. begun s t n) (λ s. BeginFacts s t n) anyone (λ s f. keep_begin s t n f) (λ s u i q o. o)
    (λ s u i q o j f. record { small = f.small; inactive = f.inactive; line = f.line })
    swap s us (with us t []) (λ u i r e. by_bool (eqb u t) (λ d. no_item (rw d at e)) (λ d. (rw d at e, refl)))
  where
    swap : (s : St) (u : ℕ) (i : Item) → true ≡ true → Own s u i → Inv s → BeginFacts s t n → begun (popped s u i) t n ≡ popped (begun s t n) u i
    swap s u i q o j f = same_tables _ _ refl refl refl refl refl
        (λ w x. by_bool (eqb w t)
        (λ e. rw (e, ne_eqb w u (λ z. clash (j.exclusive.writer u (page_of i.o) o).0 (rw (sym z ∙ eqb-true w t e) f.inactive)), false_and, or_true, and_true))
        (λ e. rw e))
        (λ w p. refl) refl refl refl

pub deep_lockr : (t p : ℕ) (s : St) (us : Stacks) → LockrFacts s t p → Deep s us → Deep (read_locked s t p) us
deep_lockr t p s us = stepped_alike (λ s. read_locked s t p) (λ s. LockrFacts s t p) anyone (λ s f. keep_lockr s t p f) (λ s u i q o. o)
    (λ s u i q o j f. record { active = f.active; no_writer = f.no_writer }) (λ s u i q o j f. refl) s us us (all_of us)

pub deep_lockw : (t p : ℕ) (s : St) (us : Stacks) → LockwFacts s t p → Deep s us → Deep (write_locked s t p) us
deep_lockw t p s us = stepped_alike (λ s. write_locked s t p) (λ s. LockwFacts s t p) anyone (λ s f. keep_lockw s t p f) (λ s u i q o. or_l _ _ o)
    (λ s u i q o j f. record { active = f.active; page = f.page; no_writer = f.no_writer; no_reader = f.no_reader }) (λ s u i q o j f. refl) s us us (all_of us)

-- the pass does not look at received pages
pub deep_pass : (s : St) (us : Stacks) → Deep s us → Deep (started s) us
deep_pass s us = stepped_alike started (λ s. Unit {0}) anyone (λ s f. keep_pass s) (λ s u i q o. o) (λ s u i q o j f. f) (λ s u i q o j f. refl) s us us (all_of us) tt

pub deep_mark : (o : ℕ) (s : St) (us : Stacks) → MarkFacts s o → Deep s us → Deep (marked s o) us
deep_mark o s us = stepped_alike (λ s. marked s o) (λ s. MarkFacts s o) anyone (λ s f. keep_mark s o f) (λ s u i q w. w)
    (λ s u i q w j f. record { phase = f.phase; colour = f.colour }) (λ s u i q w j f. refl) s us us (all_of us)

pub deep_turn : (s : St) (us : Stacks) → TurnFacts s → Deep s us → Deep (turned s) us
deep_turn s us = stepped_alike turned TurnFacts anyone (λ s f. keep_turn s f) (λ s u i q o. o)
    (λ s u i q o j f. record { phase = f.phase; no_grey = f.no_grey }) (λ s u i q o j f. refl) s us us (all_of us)

pub deep_skip : (s : St) (us : Stacks) → SkipFacts s → Deep s us → Deep (advanced s) us
deep_skip s us = stepped_alike advanced SkipFacts anyone (λ s f. keep_skip s f) (λ s u i q o. o)
    (λ s u i q o j f. record { phase = f.phase }) (λ s u i q o j f. refl) s us us (all_of us)

-- a sweep frees nothing on a page that someone writes
pub deep_sweep : (m : ℕ) (s : St) (us : Stacks) → SweepFacts s m → Deep s us → Deep (swept s m) us
deep_sweep m s us = stepped_alike (λ s. swept s m) (λ s. SweepFacts s m) anyone (λ s f. keep_sweep s m f) (λ s u i q o. o)
    (λ s u i q o j f. record { phase = f.phase; free = f.free; line = f.line }) swap s us us (all_of us)
  where
    swap : (s : St) (u : ℕ) (i : Item) → true ≡ true → Own s u i → Inv s → SweepFacts s m → swept (popped s u i) m ≡ popped (swept s m) u i
    swap s u i q o j f = same_state _ _ (record {
      count = refl;
      cmt = λ x. refl;
      rec = λ x. by_bool (eqb x i.o) (λ e. rw (e, alive x (eqb-true x i.o e))) (λ e. rw e);
      cop = λ x. refl;
      cmt_tag = λ x. refl;
      rec_tag = λ x. by_bool (eqb x i.o) (λ e. rw (e, alive x (eqb-true x i.o e))) (λ e. rw e);
      now = refl;
      locks = refl;
      kn = λ w x. refl;
      prt = λ w x. refl;
      cot = λ w x. refl;
      cot_f = λ x. refl;
      dirty = λ w p. refl;
      pass = refl;
    })
      where
        alive : (x : ℕ) → x ≡ i.o → dead s x ≡ false
        alive x e = is_false (dead s x) (λ d. clash (rw (sym (ap page_of e) ∙ (dead_facts s x d).page) at o) (f.free u))

-- the end of t: what others can take back stays
module _ (t n : ℕ) where
  abbrev others : ℕ → Bool
  others u = not (eqb u t)

  ended : (us : Stacks) → Part (with us t []) us others
  ended us u i r e = by_bool (eqb u t) (λ d. no_item (rw d at e)) (λ d. (rw d at e, rw d refl))

  own_stays : (s : St) (u : ℕ) (i : Item) → others u ≡ true → Own s u i → drop s.locks.wr t u (page_of i.o) ≡ true
  own_stays s u i q o = and_intro _ _ q o

  known_swap : (kn : ℕ → ℕ → Bool) (u : ℕ) (i : Item) (w x : ℕ) → drop (forgotten kn u i) t w x ≡ forgotten (drop kn t) u i w x
  unfolding ◌and◌
  known_swap kn u i w x = by_bool (eqb w t) (λ e. rw e) (λ e. rw e)

  dirty_swap : (d : ℕ → ℕ → Bool) (u : ℕ) (i : Item) → others u ≡ true → (w p : ℕ) → drop (add d u (page_of i.o)) t w p ≡ add (drop d t) u (page_of i.o) w p
  unfolding ◌and◌ ◌or◌
  dirty_swap d u i q w p = by_bool (eqb w t)
      (λ e. rw (e, ne_eqb w u (λ z. eqb-false u t (not-true _ q) (sym z ∙ eqb-true w t e))))
      (λ e. rw e)

  pub deep_commit : (s : St) (us : Stacks) → CommitFacts s t n → Deep s us → Deep (committed s t n) (with us t [])
  deep_commit s us = stepped_alike (λ s. committed s t n) (λ s. CommitFacts s t n) others (λ s f. keep_commit s t n f) own_stays found swap s us (with us t []) (ended us)
    where
      found : (s : St) (u : ℕ) (i : Item) → others u ≡ true → Own s u i → Inv s → CommitFacts s t n → CommitFacts (popped s u i) t n
      found s u i q o j f = record {
        flushed = λ p l. rw (f.flushed p l, ne_eqb t u (λ z. eqb-false u t (not-true _ q) (sym z)), false_and, or_false);
        line = f.line;
      }

      swap : (s : St) (u : ℕ) (i : Item) → others u ≡ true → Own s u i → Inv s → CommitFacts s t n → committed (popped s u i) t n ≡ popped (committed s t n) u i
      swap s u i q o j f = same_state _ _ (record {
        count = refl;
        cmt = λ x. by_bool (eqb x i.o) (λ e. rw (e, away x e)) (λ e. rw e);
        rec = λ x. refl;
        cop = λ x. refl;
        cmt_tag = λ x. by_bool (eqb x i.o) (λ e. rw (e, away x e)) (λ e. rw e);
        rec_tag = λ x. refl;
        now = refl;
        locks = refl;
        kn = known_swap s.tables.kn u i;
        prt = λ w x. refl;
        cot = λ w x. refl;
        cot_f = λ x. refl;
        dirty = dirty_swap s.tables.dirty u i q;
        pass = refl;
      })
        where
          away : (x : ℕ) → eqb x i.o ≡ true → owns s t x ≡ false
          away x e = other_page s t u (page_of x) (not-true _ q) j (rw (eqb-true x i.o e) o)

  pub deep_abort : (s : St) (us : Stacks) → AbortFacts s t n → Deep s us → Deep (aborted s t n) (with us t [])
  deep_abort s us = stepped_alike (λ s. aborted s t n) (λ s. AbortFacts s t n) others (λ s f. keep_abort s t n f) own_stays
      (λ s u i q o j f. record { line = f.line }) swap s us (with us t []) (ended us)
    where
      swap : (s : St) (u : ℕ) (i : Item) → others u ≡ true → Own s u i → Inv s → AbortFacts s t n → aborted (popped s u i) t n ≡ popped (aborted s t n) u i
      swap s u i q o j f = same_state _ _ (record {
        count = refl;
        cmt = λ x. refl;
        rec = λ x. by_bool (eqb x i.o) (λ e. rw (e, away x e)) (λ e. rw e);
        cop = λ x. refl;
        cmt_tag = λ x. refl;
        rec_tag = λ x. by_bool (eqb x i.o) (λ e. rw (e, away x e)) (λ e. rw e);
        now = refl;
        locks = refl;
        kn = known_swap s.tables.kn u i;
        prt = λ w x. refl;
        cot = λ w x. refl;
        cot_f = λ x. refl;
        dirty = dirty_swap s.tables.dirty u i q;
        pass = refl;
      })
        where
          away : (x : ℕ) → eqb x i.o ≡ true → owns s t x ≡ false
          away x e = other_page s t u (page_of x) (not-true _ q) j (rw (eqb-true x i.o e) o)

-- entries that a create and a set make: they stay where the change is taken back
pub deep_entry : (t o m k : ℕ) (s : St) (us : Stacks) → EntryFacts s t o m → Worlds k s us → Worlds k (entered s t o m) us
deep_entry t o m k s us = stepped Unit (λ a s. entered s t o m) (λ a s. EntryFacts s t o m) anyone (λ a u i. tt) (λ a s f. keep_entry s t o m f) (λ a s u i q w. w)
    (λ a s u i q w j f. record { ranged = f.ranged; own = f.own; out = f.out; line = f.line })
    (λ a s u i q w j f. same_tables _ _ refl refl refl refl refl (λ v x. refl) (λ v p. or_swap (s.tables.dirty v p) _ _) refl refl refl) k tt s us us (all_of us)

pub deep_cut : (t : ℕ) (c : ℕ → Bool) (p m k : ℕ) (s : St) (us : Stacks) → CutFacts s c m → Worlds k s us → Worlds k (cutting s t c p m) us
deep_cut t c p m k s us = stepped Unit (λ a s. cutting s t c p m) (λ a s. CutFacts s c m) anyone (λ a u i. tt) (λ a s f. keep_cut s t c p m f) (λ a s u i q w. w)
    (λ a s u i q w j f. record { ranged = f.ranged; line = f.line })
    (λ a s u i q w j f. same_tables _ _ refl refl refl refl refl (λ v x. refl) (λ v y. or_swap (s.tables.dirty v y) _ _) refl refl refl) k tt s us us (all_of us)

-- what t learns, but for objects that are taken back
module _ (t : ℕ) where
  less : (ℕ → Bool) → ℕ → Item → ℕ → Bool
  less c u i x = c x and (i.was.occ or not (eqb t u and eqb x i.o))

  pub deep_learn : (c : ℕ → Bool) (s : St) (us : Stacks) → LearnFacts s t c → Deep s us → Deep (learning s t c) us
  unfolding less
  deep_learn c s us f w k = stepped (ℕ → Bool) (λ c s. learning s t c) (λ c s. LearnFacts s t c) anyone less (λ c s f. keep_learn s t c f) (λ c s u i q o. o)
      found swap k c s us us (all_of us) f (w k)
    where
      found : (c : ℕ → Bool) (s : St) (u : ℕ) (i : Item) → true ≡ true → Own s u i → Inv s → LearnFacts s t c → LearnFacts (popped s u i) t (less c u i)
      found c s u i q o j f = record {
        knows = λ x h. elim (f.knows x (and_l _ _ h)) [
          | inl k ↦ inl (
            k.0,
            by_bool (eqb x i.o)
                (λ e. rw e (still x k.0 e (and_r _ _ h)))
                (λ e. rw e k.1),
          )
          | inr k ↦ inr k
        ];
      }
        where
          -- what t created is on t's page
          mine : (x : ℕ) → s.tables.cot t x ≡ true → eqb x i.o ≡ true → t ≡ u
          mine x k e = j.exclusive.sole t u (page_of x) (j.known.made t x k).own (rw (eqb-true x i.o e) o)

          still : (x : ℕ) → s.tables.cot t x ≡ true → eqb x i.o ≡ true → (i.was.occ or not (eqb t u and eqb x i.o)) ≡ true → i.was.occ ≡ true
          still x k e h = let d = eq-eqb t u (mine x k e) in let z : (i.was.occ or false) ≡ true = rw (d, e, true_and) at h in sym (or_false i.was.occ) ∙ z

      swap : (c : ℕ → Bool) (s : St) (u : ℕ) (i : Item) → true ≡ true → Own s u i → Inv s → LearnFacts s t c → learning (popped s u i) t (less c u i) ≡ popped (learning s t c) u i
      swap c s u i q o j f = same_tables _ _ refl refl refl refl refl
          (λ w x. by_bool (eqb w t) (λ e. rw (eqb-true w t e, eq-eqb t t refl, true_and, true_and) (sym (or_and (s.tables.kn t x) (c x) _))) (λ e. rw (e, false_and, false_and, or_false, or_false)))
          (λ w p. refl) refl refl refl

pub deep_read : (t o : ℕ) (s : St) (us : Stacks) → ReadFacts s t o → Deep s us → Deep (learning s t (points (s.pages.rec o))) us
deep_read t o s us f w = deep_learn t (points (s.pages.rec o)) s us (read_learns s t o f (inv_of (w 0))) w

-- a page copied: where a change of it is taken back, it needs flushing
pub deep_copy : (t p : ℕ) (d : ℕ → Obj) (dirty : ℕ → ℕ → Bool) (s : St) (us : Stacks) → CopyFacts s t p d dirty → Deep s us → Deep (copying s p d dirty) us
deep_copy t p d dirty s us f w k = stepped (ℕ → ℕ → Bool) (λ c s. copying s p d c) (λ c s. CopyFacts s t p d c) anyone (λ c u i. add c u (page_of i.o))
    (λ c s f. keep_copy s t p d c f) (λ c s u i q o. o) found (λ c s u i q o j f. refl) k dirty s us us (all_of us) f (w k)
  where
    found : (c : ℕ → ℕ → Bool) (s : St) (u : ℕ) (i : Item) → true ≡ true → Own s u i → Inv s → CopyFacts s t p d c → CopyFacts (popped s u i) t p d (add c u (page_of i.o))
    found c s u i q o j f = record {
      own = f.own;
      ranged = f.ranged;
      kept = f.kept;
      clean = λ v x w h. by_bool (eqb x i.o)
          (λ e. let z = eqb-true x i.o e in clash (and_intro _ _ (eq-eqb v u (j.exclusive.sole v u (page_of x) w (rw z o))) (eq-eqb (page_of x) (page_of i.o) (ap page_of z))) (or_false_r _ _ h))
          (λ e. rw e (f.clean v x w (or_false_l _ _ h)));
    }

pub deep_flush : (t p : ℕ) (s : St) (us : Stacks) → FlushFacts s t p → Deep s us → Deep (flushed s t p) us
deep_flush t p s us f w = deep_copy t p s.pages.rec (remove s.tables.dirty t p) s us (flush_copies s t p f (inv_of (w 0))) w
