-- The start of a pass, a marking step and the turn to sweeping keep the invariant. Assumes nothing.
use Prim.Native.Nat.{ℕ, suc, ◌-◌}
use native.Mathlib.Omega.{arith}
use mathlib.Core.Path.{◌≡◌, refl, sym, ap, ◌∙◌}
use mathlib.Core.Bool.{true, false}
use mathlib.Core.Logic.{◌⊎◌, inl, inr}
use lib.Dec.{eqb}
use borrow.Author.Tests.{eqb-true, eqb-false, eq-eqb, ne_eqb}
use Rattle.collector.specs.Bits.{by_bool, clash, or_l, or_r, or_cases, anyb_intro, anyb_elim}
use Rattle.collector.specs.Objects.{points, page_of}
use Rattle.collector.specs.State.{Colour, white, black, is_white, is_black, St, objects, carried, blacks}
use Rattle.collector.specs.Calls.{started, marked, turned}
use Rattle.collector.proofs.Objects.{unoccupied, points_some}
use Rattle.collector.proofs.Count.{countb_more, countb_none}
use Rattle.collector.proofs.Safe.{Grey, here, next, Safe, seen, new, later, white_black, mark_sweep, idle_mark, idle_sweep, is_grey, is_black_law}
use Rattle.collector.proofs.Safe.{greyed_seen, greyed_from, greyed_still, greyed_black}
use Rattle.collector.proofs.Invariant.{MarkedIn, SafeIn, Inv}
use Rattle.collector.proofs.Tables.{by_writer, writer_bound}
use Rattle.collector.proofs.Facts.{MarkFacts, TurnFacts}

pub keep_pass : (s : St) → Inv s → Inv (started s)
keep_pass s i = record {
  whole = i.whole;
  exclusive = i.exclusive;
  agreed = i.agreed;
  prune = i.prune;
  known = i.known;
  dated = i.dated;
  marks = λ r. record {
    top = greyed_seen _ white (or_l _ _ refl);
    gone = λ p t x l h. greyed_seen _ white (or_r _ _ (anyb_intro _ _ t l h));
    edges = λ o x c e. elim c [
      | inl b ↦ white_black refl (is_black_law white (sym (greyed_black _ white) ∙ ap is_black b))
      | inr b ↦ elim (or_cases _ _ b) [ inl k ↦ anyb_elim _ _ k (λ t l d. unoccupied (s.pages.cmt o) x (i.known.made t o d).out e) | inr k ↦ clash k refl ]
    ];
    no_grey = λ p. mark_sweep refl p;
  };
  counted = record {
    ranged = λ o c. elim (greyed_from _ white c) [
      | inl e ↦ elim (or_cases _ _ e) [ inl k ↦ rw (eqb-true o 1 k) (omega arith, i.agreed.one) | inr k ↦ anyb_elim _ _ k (λ t l d. i.prune.ranged t o d) ]
      | inr e ↦ clash refl e
    ];
    page = let l = i.agreed.one in omega arith;
    scanned = λ p. sym (countb_none (objects s) _ (λ k l. greyed_black _ white));
    turned = λ p. mark_sweep refl p;
    over = λ p. idle_mark p refl;
  };
}

-- The grey object o is scanned.
module _ (s : St) (o : ℕ) (g : MarkFacts s o) (i : Inv s) where
  col' : ℕ → Colour
  col' x = (marked s o).pass.col x

  was : MarkedIn s
  was = i.marks (rw g.phase refl)

  still : (x : ℕ) → is_white (s.pass.col x) ≡ false → is_white (col' x) ≡ false
  unfolding col'
  still x h = by_bool (eqb x o) (λ e. rw e refl) (λ e. rw e (greyed_still _ (s.pass.col x) h))

  copied : (x : ℕ) → points (s.pages.cop o) x ≡ true → is_white (col' x) ≡ false
  unfolding col'
  copied x d = by_bool (eqb x o) (λ e. rw e refl) (λ e. rw e (greyed_seen _ (s.pass.col x) d))

  -- every committed target of o is marked now
  hit : (x : ℕ) → points (s.pages.cmt o) x ≡ true → is_white (col' x) ≡ false
  hit x e = by_writer i.exclusive (page_of o)
      (λ w. copied x (rw (i.agreed.free_c o w) e))
      (λ u w. elim (i.prune.kept_c u o x w e) [ inl k ↦ copied x k | inr k ↦ still x (was.gone g.phase u x (writer_bound i.exclusive u (page_of o) w) k) ])

  black_other : (x : ℕ) → eqb x o ≡ false → is_black (col' x) ≡ is_black (s.pass.col x)
  unfolding col'
  black_other x e = rw e (greyed_black _ (s.pass.col x))

  black_was : (x : ℕ) → col' x ≡ black → (x ≡ o) ⊎ (s.pass.col x ≡ black)
  black_was x b = by_bool (eqb x o) (λ e. inl (eqb-true _ _ e)) (λ e. inr (is_black_law (s.pass.col x) (sym (black_other x e) ∙ rw b refl)))

  grey_on : {x : ℕ} → Grey s.pass.col s.pages.cmt x → (is_white (col' x) ≡ false) ⊎ Grey col' s.pages.cmt x
  grey_on (here {x} e) = inl (still x (rw e refl))
  grey_on (next {o = w} {x} a b e) = by_bool (eqb w o)
      (λ q. inl (hit x (rw (eqb-true w o q) at e)))
      (λ q. let nb : col' w ≡ black → ⊥ = λ k. elim (black_was w k) [ inl z ↦ eqb-false w o q z | inr z ↦ b z ] in
      inr (elim (grey_on a) [ inl k ↦ next (here (is_grey (col' w) k nb)) nb e | inr k ↦ next k nb e ]))

  safe_on : {x : ℕ} → SafeIn s x
      → Safe col' (carried s.tables.cot s.tables.cot_f) s.pages.cmt x
  safe_on {x} (seen e) = seen (still x e)
  safe_on {x} (new e) = new e
  safe_on {x} (later k) = elim (grey_on k) [ inl w ↦ seen w | inr w ↦ later w ]

  one_black_more : blacks (objects s) col' ≡ suc (blacks (objects s) s.pass.col)
  unfolding col'
  one_black_more = let l = i.counted.ranged o (rw g.colour refl) in let k : suc (o - 1) ≡ o = omega arith in
      countb_more (objects s) _ _ (o - 1) (omega arith) (rw (k, g.colour) refl) (rw (k, eq-eqb o o refl) refl)
      (λ j z. black_other (suc j) (ne_eqb (suc j) o (λ y. z (omega arith))))

pub keep_mark : (s : St) (o : ℕ) → MarkFacts s o → Inv s → Inv (marked s o)
unfolding col'
keep_mark s o g i = record {
  whole = i.whole;
  exclusive = i.exclusive;
  agreed = i.agreed;
  prune = i.prune;
  known = i.known;
  dated = i.dated;
  marks = λ k. record {
    top = still s o g i 1 (was s o g i).top;
    gone = λ p t x l h. still s o g i x ((was s o g i).gone g.phase t x l h);
    edges = λ q x c e. elim c [
      | inl b ↦ elim (black_was s o g i q b) [ inl z ↦ seen (hit s o g i x (rw z at e)) | inr z ↦ safe_on s o g i ((was s o g i).edges q x (inl z) e) ]
      | inr b ↦ safe_on s o g i ((was s o g i).edges q x (inr b) e)
    ];
    no_grey = λ p. mark_sweep refl p;
  };
  counted = record {
    ranged = λ x h. by_bool (eqb x o) (λ e. rw (eqb-true x o e) (i.counted.ranged o (rw g.colour refl)))
        (λ e. elim (greyed_from _ _ (rw e at h)) [
          | inl d ↦ (let z = points_some (s.pages.cop o) x d in (omega arith, i.agreed.range_c o x d))
          | inr d ↦ i.counted.ranged x d
        ]);
    page = i.counted.page;
    scanned = λ p. ap suc (i.counted.scanned g.phase) ∙ sym (one_black_more s o g i);
    turned = λ p. mark_sweep refl p;
    over = λ p. idle_mark p refl;
  };
}

-- No grey object is left.
pub keep_turn : (s : St) → TurnFacts s → Inv s → Inv (turned s)
keep_turn s g i = let m = i.marks (rw g.phase refl) in record {
  whole = i.whole;
  exclusive = i.exclusive;
  agreed = i.agreed;
  prune = i.prune;
  known = i.known;
  dated = i.dated;
  marks = λ k. record {
    top = m.top;
    gone = λ p. mark_sweep p refl;
    edges = m.edges;
    no_grey = λ p o e. let l = i.counted.ranged o (rw e refl) in g.no_grey o l.0 l.1 e;
  };
  counted = record {
    ranged = i.counted.ranged;
    page = let l = i.agreed.one in omega arith;
    scanned = λ p. mark_sweep p refl;
    turned = λ p. let e = i.counted.scanned g.phase in omega arith;
    over = λ p. idle_sweep p refl;
  };
}
