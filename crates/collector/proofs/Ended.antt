-- What the end of a transaction leaves of locks and tables. Assumes nothing.
use Prim.Native.Nat.{ℕ}
use mathlib.Core.Path.{◌≡◌, refl, sym, ◌∙◌}
use mathlib.Core.Bool.{true, false}
use mathlib.Core.Logic.{inl, inr}
use lib.Dec.{eqb}
use borrow.Author.Tests.{eqb-true, eqb-false}
use Rattle.collector.specs.Bits.{by_bool, clash, and_l, and_r, and_intro, and_false, or_l, or_r, or_cases, anyb_intro, anyb_elim}
use Rattle.collector.specs.Objects.{page_of}
use Rattle.collector.specs.State.{St, is_idle, drop, carried, holds}
use Rattle.collector.specs.Calls.{owns, unlocked, without}
use Rattle.collector.proofs.Invariant.{Unwritten, Exclusive, Inv}
use Rattle.collector.proofs.Tables.{is_false, drop_other, drop_old, drop_is, writer_bound}

module _ (s : St) (t : ℕ) (i : Inv s) where
  pub ended_exclusive : Exclusive s.count (unlocked s.locks t).act (drop s.locks.rd t) (drop s.locks.wr t)
  ended_exclusive = record {
    active = λ u a. i.exclusive.active u (and_r _ _ a);
    reader = λ u p r. and_intro _ _ (and_l _ _ r) (i.exclusive.reader u p (and_r _ _ r));
    writer = λ u p w. (let k = i.exclusive.writer u p (and_r _ _ w) in (and_intro _ _ (and_l _ _ w) k.0, k.1));
    sole = λ v u p w z. i.exclusive.sole v u p (and_r _ _ w) (and_r _ _ z);
    alone = λ v u p w. rw (i.exclusive.alone v u p (and_r _ _ w)) (and_false _);
  }

  -- a page with another writer is not t's
  pub others_page : (u o : ℕ) → s.locks.wr u (page_of o) ≡ true → eqb u t ≡ false → owns s t o ≡ false
  others_page u o w n = is_false (owns s t o) (λ e. eqb-false u t n (i.exclusive.sole u t (page_of o) w e))

  -- a writer after the end is another, and wrote before
  pub others : (u o : ℕ) → drop s.locks.wr t u (page_of o) ≡ true → (s.locks.wr u (page_of o) ≡ true) × (owns s t o ≡ false) × (eqb u t ≡ false)
  others u o w = let n = drop_other s.locks.wr t u (page_of o) w in (and_r _ _ w, others_page u o (and_r _ _ w) n, n)

  -- a page without a writer after the end was t's, or had none
  pub was_unwritten : (o : ℕ) → Unwritten (drop s.locks.wr t) (page_of o) → owns s t o ≡ false → Unwritten s.locks.wr (page_of o)
  was_unwritten o w e u = by_bool (eqb u t) (λ q. rw (eqb-true u t q) e) (λ q. sym (drop_is s.locks.wr t u (page_of o) q) ∙ w u)

  -- what another transaction holds it keeps, and t does not write there
  pub holds_other : (u o : ℕ) → eqb u t ≡ false → holds s.locks.wr s.locks.rd u (page_of o) ≡ true
      → (holds (drop s.locks.wr t) (drop s.locks.rd t) u (page_of o) ≡ true) × (owns s t o ≡ false)
  holds_other u o n h = elim (or_cases _ _ h) [
    | inl e ↦ (or_l _ _ (rw (drop_is s.locks.wr t u (page_of o) n) e), others_page u o e n)
    | inr e ↦ (or_r _ _ (rw (drop_is s.locks.rd t u (page_of o) n) e), is_false (owns s t o) (λ w. clash e (i.exclusive.alone t u (page_of o) w)))
  ]

  -- while a pass runs no COT entry goes
  pub cot_grows : is_idle s.pass.phase ≡ false → (y : ℕ) → carried s.tables.cot s.tables.cot_f y ≡ true
      → carried (drop s.tables.cot t) (without s.tables s.pass.phase t).cot_f y ≡ true
  cot_grows r y h = elim (or_cases _ _ h) [
    | inl e ↦ anyb_elim _ _ e (λ k l d. by_bool (eqb k t)
        (λ q. or_r _ _ (or_r _ _ (and_intro _ _ (rw r refl) (rw (← (eqb-true k t q)) d))))
        (λ q. or_l _ _ (anyb_intro _ _ k l (rw (drop_is s.tables.cot t k y q) d))))
    | inr e ↦ or_r _ _ (or_l _ _ e)
  ]

  -- and none comes
  pub cot_shrinks : (y : ℕ) → carried (drop s.tables.cot t) (without s.tables s.pass.phase t).cot_f y ≡ true
      → carried s.tables.cot s.tables.cot_f y ≡ true
  cot_shrinks y h = elim (or_cases _ _ h) [
    | inl e ↦ or_l _ _ (anyb_elim _ _ e (λ k l d. anyb_intro _ _ k l (drop_old s.tables.cot t k y d)))
    | inr e ↦ elim (or_cases _ _ e) [
      | inl k ↦ or_r _ _ k
      | inr k ↦ or_l _ _ (anyb_intro _ _ t (writer_bound i.exclusive t (page_of y) (i.known.made t y (and_r _ _ k)).own) (and_r _ _ k))
    ]
  ]
