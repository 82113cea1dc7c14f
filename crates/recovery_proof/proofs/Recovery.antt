-- Moves keep the invariant, whose `past` says that reopening over any stable part of the log leaves the committed state of the book.
-- Assumes nothing.
use Prim.Native.Nat.{ℕ}
use mathlib.Core.Path.{◌≡◌, refl, sym, ap, subst, ◌∙◌}
use mathlib.Core.Bool.{Bool, true, false, not, cond}
use mathlib.Core.List.{◌∷◌}
use mathlib.Core.Logic.{inl, inr}
use lib.Dec.{eqb}
use borrow.Author.Tests.{eqb-true, eqb-false, eq-eqb, ne_eqb}
use Rattle.collector.specs.Bits.{◌and◌, ◌or◌, by_bool, clash, and_l, and_r, and_intro, false_and, true_and, and_false, or_false, or_l, or_r, or_cases, not_true}
use Rattle.collector.specs.Objects.{Obj, blank, page_of}
use Rattle.collector.specs.State.{add, drop}
use Rattle.collector.proofs.Tables.{is_false, add_cases, drop_other, drop_old, drop_is}
use Rattle.recovery_proof.specs.Lines.{acts, with, without, replay, book, undo, touches, everyone, first, also}
use Rattle.recovery_proof.specs.Moves.{Log, own, beginning, locking, wrote, committing, ending, sweeping, Move, begin, lock, write, commit, end, sweep, Moves, none, more, opened}
use Rattle.recovery_proof.proofs.Counting.{apart, undo_agree, book_agree, Opened, undo_none}
use Rattle.recovery_proof.proofs.Invariant.{Good, Writers, Inv, inv}

module _ (base : ℕ → Obj) (s : Log) (t : ℕ) (i : Inv base s) where
  -- whose open lines an object of a page has: its writer's only
  pub same : (u o : ℕ) → own s t o ≡ true → touches u o s.lines ≡ true → u ≡ t
  same u o w h = i.writers.sole u t (page_of o) (i.owned u o h) w

  other : (u o : ℕ) → own s t o ≡ false → touches u o s.lines ≡ true → eqb u t ≡ false
  other u o n h = ne_eqb u t (λ z. clash (rw z at (i.owned u o h)) n)

  -- the undoing once t has ended
  undone_after : (o : ℕ) → undo o (without everyone t) s.lines (s.full o) ≡ cond (own s t o) (s.full o) (s.comm o)
  undone_after o = by_bool (own s t o)
      (λ e. rw e (undo_none o s.lines (s.full o) i.opens (λ u h. rw (eq-eqb u t (same u o e h)) (false_and true))))
      (λ e. rw e (undo_agree o s.lines (s.full o) (λ u h. rw (other u o e h) (true_and true)) ∙ i.undone o))

  owned_after : (u o : ℕ) → (not (eqb t u) and touches u o s.lines) ≡ true → drop s.wr t u (page_of o) ≡ true
  owned_after u o h = drop_is s.wr t u (page_of o) (apart t u (not_true _ (and_l _ _ h))) ∙ i.owned u o (and_r _ _ h)

  -- a page that u still writes was not t's
  not_mine : (u o : ℕ) → drop s.wr t u (page_of o) ≡ true → own s t o ≡ false
  not_mine u o k = is_false (own s t o) (λ w. eqb-false u t (drop_other s.wr t u (page_of o) k) (i.writers.sole u t (page_of o) (drop_old s.wr t u (page_of o) k) w))

  mine_after : (u o : ℕ) (w : ℕ → Bool) → ((v : ℕ) → eqb v t ≡ false → w v ≡ eqb v u) → drop s.wr t u (page_of o) ≡ true → book base o w s.lines ≡ s.full o
  mine_after u o w f k = book_agree base o s.lines (λ v h. f v (other v o (not_mine u o k) h)) ∙ i.mine u o (drop_old s.wr t u (page_of o) k)

  free_after : (o : ℕ) → ((u : ℕ) → drop s.wr t u (page_of o) ≡ false) → own s t o ≡ false → s.full o ≡ s.comm o
  free_after o n e = i.free o (λ u. by_bool (eqb u t) (λ z. rw (eqb-true u t z) e) (λ z. sym (drop_is s.wr t u (page_of o) z) ∙ n u))

  writers_after : Writers (drop s.wr t) (without s.act t)
  writers_after = record {
    sole = λ u v p a b. i.writers.sole u v p (drop_old s.wr t u p a) (drop_old s.wr t v p b);
    busy = λ u p a. and_intro _ _ (rw (drop_other s.wr t u p a) refl) (i.writers.busy u p (drop_old s.wr t u p a));
  }

  -- no line of a transaction that is not active is open
  silent : s.act t ≡ false → (o : ℕ) → touches t o s.lines ≡ false
  silent n o = is_false (touches t o s.lines) (λ h. clash (i.writers.busy t (page_of o) (i.owned t o h)) n)

  -- once nobody but t may write page p
  writers_locked : (p : ℕ) → s.act t ≡ true → ((u : ℕ) → s.wr u p ≡ true → u ≡ t) → Writers (add s.wr t p) s.act
  writers_locked p a n = record {
    sole = λ u v q x y. elim (add_cases s.wr t p u q x) [
      | inl f ↦ elim (add_cases s.wr t p v q y) [ inl g ↦ i.writers.sole u v q f g | inr g ↦ n u (rw g.1 at f) ∙ sym g.0 ]
      | inr f ↦ elim (add_cases s.wr t p v q y) [ inl g ↦ f.0 ∙ sym (n v (rw f.1 at g)) | inr g ↦ f.0 ∙ sym g.0 ]
    ];
    busy = λ u q x. elim (add_cases s.wr t p u q x) [ inl f ↦ i.writers.busy u q f | inr f ↦ rw f.0 a ];
  }

  -- on a page that t may newly write, no line is open
  mine_locked : (o : ℕ) → ((u : ℕ) → own s u o ≡ true → u ≡ t) → book base o (λ v. eqb v t) s.lines ≡ s.full o
  mine_locked o n = by_bool (own s t o)
      (λ w. i.mine t o w)
      (λ w. let none : (u : ℕ) → own s u o ≡ false = λ u. is_false (own s u o) (λ x. clash (rw (n u x) at x) w) in
      book_agree base o s.lines (λ v h. clash (i.owned v o h) (none v)) ∙ i.booked o ∙ sym (i.free o none))

module _ (base : ℕ → Obj) (s : Log) (t : ℕ) (i : Inv base s) where
  keep_begin : s.act t ≡ false → Inv base (beginning s t)
  unfolding replay undo book touches Opened Good
  keep_begin n = inv (beginning s t)
      i.full
      (λ o. undo_agree o s.lines (s.full o) (λ u h. or_l true (eqb u t) refl) ∙ i.undone o)
      (λ o. book_agree base o s.lines (λ u h. and_false (not (eqb u t))) ∙ i.booked o)
      (λ u o h. i.owned u o (and_r _ _ h))
      (λ u o w. book_agree base o s.lines (λ v h. by_bool (eqb v t)
      (λ e. clash (rw (eqb-true v t e) at h) (silent base s t i n o))
      (λ e. rw (e, true_and (eqb v u)))) ∙ i.mine u o w)
      i.free
      (silent base s t i n, i.opens)
      (record { sole = i.writers.sole; busy = λ u p w. or_l _ _ (i.writers.busy u p w) })
      (λ r. also r i.past) i.good

  keep_lock : (p : ℕ) → s.act t ≡ true → ((u : ℕ) → s.wr u p ≡ true → u ≡ t) → Inv base (locking s t p)
  unfolding replay undo book touches Opened Good
  keep_lock p a n = inv (locking s t p)
      i.full i.undone i.booked
      (λ u o h. or_l _ _ (i.owned u o h))
      (λ u o w. elim (add_cases s.wr t p u (page_of o) w) [ inl e ↦ i.mine u o e | inr e ↦ rw e.0 (mine_locked base s t i o (λ v x. n v (rw (← e.1) x))) ])
      (λ o w. i.free o (λ u. is_false (own s u o) (λ x. clash (or_l _ _ x) (w u))))
      i.opens (writers_locked base s t i p a n) (λ r. i.past) i.good

  undone_wrote : (o : ℕ) (d u : Obj → Obj) → u (d (s.full o)) ≡ s.full o
      → (x : ℕ) → undo x everyone (acts t o d u ∷ s.lines) (cond (eqb o x) (d (s.full x)) (s.full x)) ≡ s.comm x
  unfolding undo
  undone_wrote o d u back x = by_bool (eqb o x)
      (λ e. rw (e, true_and true) (rw (← (eqb-true o x e), back) (subst (λ (y : ℕ). undo y everyone s.lines (s.full o) ≡ s.comm o) (eqb-true o x e) (i.undone o))))
      (λ e. rw (e, true_and false) (i.undone x))

  keep_write : (o : ℕ) (d u : Obj → Obj) → own s t o ≡ true → u (d (s.full o)) ≡ s.full o → Inv base (wrote s t o d u)
  unfolding replay undo book touches Opened Good
  keep_write o d u w back = inv (wrote s t o d u)
      (λ x. rw (i.full x))
      (undone_wrote o d u back)
      (λ x. rw (false_and (eqb o x)) (i.booked x))
      (λ v x h. elim (or_cases _ _ h) [ inl e ↦ rw (← (eqb-true t v (and_l _ _ e)), ← (eqb-true o x (and_r _ _ e))) w | inr e ↦ i.owned v x e ])
      (λ v x k. by_bool (eqb o x)
      (λ e. let z : own s v o ≡ true = rw (← (eqb-true o x e)) at k in
      rw (e, eq-eqb t v (i.writers.sole t v (page_of o) w z), true_and true) (ap d (i.mine v x k)))
      (λ e. rw (e, and_false (eqb t v)) (i.mine v x k)))
      (λ x k. by_bool (eqb o x) (λ e. clash w (rw (← (eqb-true o x e)) at (k t))) (λ e. rw e (i.free x k)))
      i.opens i.writers (λ r. also r i.past)
      (rw (i.full o) back, (λ v h. same base s t i v o w h), i.good)

  keep_commit : Inv base (committing s t)
  unfolding replay undo book touches Opened Good
  keep_commit = inv (committing s t)
      i.full
      (undone_after base s t i)
      (λ o. by_bool (own s t o)
      (λ e. rw e (book_agree base o s.lines (λ u h. falsely (eqb u t)) ∙ i.mine t o e))
      (λ e. rw e (book_agree base o s.lines (λ u h. rw (other base s t i u o e h) (falsely false)) ∙ i.booked o)))
      (owned_after base s t i)
      (λ u o k. mine_after base s t i u o (with (λ v. eqb v u) t) (λ v e. rw (e, or_false (eqb v u))) k)
      (λ o w. by_bool (own s t o) (λ e. rw e refl) (λ e. rw e (free_after base s t i o w e)))
      i.opens (writers_after base s t i) (λ r. also r i.past) i.good
    where
      falsely : (x : Bool) → (false or x) ≡ x
      falsely x = by_bool x (λ h. rw h (or_r false true refl)) (λ h. rw h (or_false false))

  keep_end : ((o : ℕ) → own s t o ≡ true → s.full o ≡ s.comm o) → Inv base (ending s t)
  unfolding replay undo book touches Opened Good
  keep_end level = inv (ending s t)
      i.full
      (λ o. undone_after base s t i o ∙ by_bool (own s t o) (λ e. rw e (level o e)) (λ e. rw e refl))
      (λ o. book_agree base o s.lines (λ u h. and_false (not (eqb u t))) ∙ i.booked o)
      (owned_after base s t i)
      (λ u o k. mine_after base s t i u o (without (λ v. eqb v u) t) (λ v e. rw (e, true_and (eqb v u))) k)
      (λ o w. by_bool (own s t o) (λ e. level o e) (λ e. free_after base s t i o w e))
      i.opens (writers_after base s t i) (λ r. also r i.past) i.good

keep_sweep : (base : ℕ → Obj) (s : Log) (q : ℕ → Bool) → Inv base s → ((o : ℕ) → q o ≡ true → (t : ℕ) → own s t o ≡ false) → Inv base (sweeping s q)
unfolding replay undo book touches Opened Good
keep_sweep base s q i f = inv (sweeping s q)
    (λ o. rw (i.full o))
    (λ o. by_bool (q o)
    (λ e. rw e (undo_none o s.lines blank i.opens (λ u h. clash (i.owned u o h) (f o e u))))
    (λ e. rw e (i.undone o)))
    (λ o. rw (i.booked o))
    i.owned
    (λ u o w. by_bool (q o) (λ e. clash w (f o e u)) (λ e. rw e (i.mine u o w)))
    (λ o w. by_bool (q o) (λ e. rw e refl) (λ e. rw e (i.free o w)))
    i.opens i.writers (λ r. also r i.past)
    ((λ v x h. is_false (q x) (λ e. clash (i.owned v x h) (f x e v))), i.good)

pub keep : (base : ℕ → Obj) (s s' : Log) → Move s s' → Inv base s → Inv base s'
keep base s s' (begin t n) i = keep_begin base s t i n
keep base s s' (lock t p a n) i = keep_lock base s t i p a n
keep base s s' (write t o d u w e) i = keep_write base s t i o d u w e
keep base s s' (commit t) i = keep_commit base s t i
keep base s s' (end t e) i = keep_end base s t i e
keep base s s' (sweep q f) i = keep_sweep base s q i f

pub keep_all : (base : ℕ → Obj) (s s' : Log) → Moves s s' → Inv base s → Inv base s'
keep_all base s s' none i = i
keep_all base s s' (more {a} {b} ms m) i = keep base a b m (keep_all base s a ms i)

-- a log without lines
pub fresh_start : (base : ℕ → Obj) → Inv base (opened base)
unfolding replay undo book touches Opened Good
fresh_start base = inv (opened base) (λ o. refl) (λ o. refl) (λ o. refl) (λ t o h. clash h refl) (λ t o w. refl) (λ o w. refl) tt
    (record { sole = λ t u p a b. clash a refl; busy = λ t p w. clash w refl }) first tt
