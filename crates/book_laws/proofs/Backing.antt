-- What can be taken back of a running transaction, as lines come and are struck out: its newest change undone shows the lines without it.
-- Assumes nothing.
use Prim.Native.Nat.{ℕ, suc}
use native.Mathlib.Omega.{arith}
use mathlib.Core.Path.{◌≡◌, refl, sym, ap, ◌∙◌}
use mathlib.Core.Bool.{Bool, true, false, not}
use mathlib.Core.List.{List, [], ◌∷◌}
use mathlib.Core.Logic.{inl, inr}
use lib.ListN.{length}
use lib.Dec.{eqb}
use borrow.Author.Tests.{eqb-true, eq-eqb, ne_eqb, eqb-false}
use Rattle.words.specs.Tests.{if, by_bool, clash, or_cases, or_r}
use Rattle.records.specs.Records.{is_create}
use Rattle.machine_view.specs.View.{applied, unapplied, names}
use Rattle.book.specs.Lines.{Line, struck_out, is_left, left, struck_newest}
use Rattle.book.specs.Pointers.{makes_or_frees}
use Rattle.collector.specs.Undo.{Item}
use Rattle.book_laws.specs.Seen.{touches, Seen, acted, seen}
use Rattle.book_laws.specs.Striking.{Strikes, none, stays, out, Every, done, and, Away, Before, Backs, nothing, past, here}
use Rattle.book_laws.specs.Keeping.{In, Each}
use Rattle.book_laws.specs.Keeping as Keeping
use Rattle.book_laws.proofs.Undoing.{struck_not_left, strikes_length, strikes_newest, Newest, newest_here, newest_past, struck_past, struck_here}
use Rattle.book_laws.proofs.Folds.{seen_past, seen_out, seen_on, seen_agree, seen_strikes}
use Rattle.book_laws.proofs.Ends.{left_facts}

pub every_map : {Q R : ℕ → Type 0} (us : List Item) → ((x : ℕ) → Q x → R x) → Every Q us → Every R us
every_map [] f done = done
every_map (u ∷ us) f (and p h) = and (f u.o p) (every_map us f h)

pub every_first : {Q : ℕ → Type 0} {u : Item} {us : List Item} → Every Q (u ∷ us) → Q u.o
every_first (and p h) = p

pub every_rest : {Q : ℕ → Type 0} {u : Item} {us : List Item} → Every Q (u ∷ us) → Every Q us
every_rest (and p h) = h

-- a change touches its object and no other
pub change_touches : (i : ℕ) (l : Line) → is_left i l ≡ true → touches l.entry l.entry.object ≡ true
change_touches i l e = let self = eq-eqb l.entry.object l.entry.object refl in elim (or_cases (eqb l.entry.kind 2) (eqb l.entry.kind 3) (left_facts i l e).kind) [
  | inl k ↦ or_r (names 3 l.entry l.entry.object) (makes_or_frees l.entry l.entry.object) (rw (k, self) refl)
  | inr k ↦ rw (k, self) refl
]

pub change_other : (i : ℕ) (l : Line) → is_left i l ≡ true → (x : ℕ) → eqb x l.entry.object ≡ false → touches l.entry x ≡ false
change_other i l e x n = let z = ne_eqb l.entry.object x (λ q. eqb-false x l.entry.object n (sym q)) in
    elim (or_cases (eqb l.entry.kind 2) (eqb l.entry.kind 3) (left_facts i l e).kind) [
      | inl k ↦ rw (eqb-true l.entry.kind 2 k, z) refl
      | inr k ↦ rw (eqb-true l.entry.kind 3 k, z) refl
    ]

-- what an item shows
abbrev pub shows : Item → Seen
shows u = record { object = u.was; tag = u.tag }

module _ (a : List ℕ) (c : Line → Bool) (i : ℕ) where
  pub backs_every : (Q : ℕ → Type 0) (ls : List Line) (us : List Item) → Backs a c i ls us → Each (λ l. is_left i l ≡ true → Q l.entry.object) ls → Every Q us
  backs_every Q [] us nothing h = done
  backs_every Q (l ∷ ls) us (past e f b) h = backs_every Q ls us b (λ m j. h m (Keeping.later j))
  backs_every Q (l ∷ ls) (u ∷ us) (here e k p b) h = and {u = u} (rw (← p.object) (h l Keeping.here e)) (backs_every Q ls us b (λ m j. h m (Keeping.later j)))

  pub backs_length : (ls : List Line) (us : List Item) → Backs a c i ls us → length us ≡ left i ls
  unfolding left
  backs_length [] us nothing = refl
  backs_length (l ∷ ls) us (past e f b) = let h = backs_length ls us b in rw e (omega arith)
  backs_length (l ∷ ls) (u ∷ us) (here e k p b) = let h = backs_length ls us b in rw e (omega arith)

  -- nothing is left
  pub backs_none : (ls : List Line) → Each (λ l. is_left i l ≡ false) ls → Backs a c i ls []
  backs_none [] h = nothing
  backs_none (l ∷ ls) h = past (h l Keeping.here) (λ z. done) (backs_none ls (λ m j. h m (Keeping.later j)))

  -- another's changes struck out, which touch none of the objects
  module _ (k : ℕ) (other : (l : Line) → is_left i l ≡ true → is_left k l ≡ true → ⊥) (mute : (l : Line) → is_left k l ≡ true → c (struck_out l) ≡ false) where
    pub backs_strikes : {ls ms : List Line} (us : List Item) → Strikes k ls ms → Each (λ l. is_left k l ≡ true → Away l.entry us) ls → Backs a c i ls us → Backs a c i ms us
    backs_strikes us none h nothing = nothing
    backs_strikes us (stays s) h (past e f b) = past e f (backs_strikes us s (λ m j. h m (Keeping.later j)) b)
    backs_strikes us (out {l} d s) h (past e f b) = past (struck_not_left i l) (λ z. clash z (mute l d)) (backs_strikes us s (λ m j. h m (Keeping.later j)) b)
    backs_strikes (u ∷ us) (stays {l} {ls} {ms} s) h (here e p q b) = here e p
        (record {
          object = q.object;
          was = seen_strikes a c k u.o s (λ m j d. every_first (h m (Keeping.later j) d)) ∙ q.was;
          fits = q.fits;
          there = q.there;
        })
        (backs_strikes us s (λ m j d. every_rest (h m (Keeping.later j) d)) b)
    backs_strikes (u ∷ us) (out {l} d s) h (here e p q b) = absurd (other l e d)

  -- the newest change is undone
  pub record Undone (ls : List Line) (u : Item) (us : List Item) : Type 0 where
    pub l : Line
    pub top : Newest i ls l
    pub object : l.entry.object ≡ u.o
    pub fits : unapplied l.entry u.o (applied l.entry u.o u.was) ≡ u.was
    pub there : u.was.occ ≡ not (is_create l.entry)
    pub shown : (seen a c ls u.o).object ≡ applied l.entry u.o u.was
    pub without : (x : ℕ) → seen a c (struck_newest i ls) x ≡ if (eqb x u.o) (shows u) (seen a c ls x)
    pub backs : Backs a c i (struck_newest i ls) us

  module _ (mute : (l : Line) → is_left i l ≡ true → c (struck_out l) ≡ false) where
    undone_here : (l : Line) (ls : List Line) (u : Item) (us : List Item) → is_left i l ≡ true → c l ≡ true → Before a c l ls u → Backs a c i ls us → Undone (l ∷ ls) u us
    undone_here l ls u us e k p b = record {
      l = l;
      top = newest_here i l ls e;
      object = p.object;
      fits = p.fits;
      there = p.there;
      shown = ap (λ (v : Seen). v.object) (seen_on a c l ls u.o k) ∙ ap (λ (v : Seen). applied l.entry u.o v.object) p.was;
      without = λ x. ap (λ (ms : List Line). seen a c ms x) (struck_here i l ls e) ∙ seen_out a c (struck_out l) ls x (mute l e) ∙ by_bool (eqb x u.o)
          (λ d. rw (d, eqb-true x u.o d) p.was)
          (λ d. rw d (sym (seen_past a c l ls x (change_other i l e x (rw p.object d)))));
      backs = rw (struck_here i l ls e) (past {l = struck_out l} (struck_not_left i l) (λ z. clash z (mute l e)) b);
    }

    undone_past : (l : Line) (ls : List Line) (u : Item) (us : List Item) → is_left i l ≡ false → (c l ≡ true → Away l.entry (u ∷ us)) → Undone ls u us → Undone (l ∷ ls) u us
    undone_past l ls u us e f d = record {
      l = d.l;
      top = newest_past i l ls d.l e d.top;
      object = d.object;
      fits = d.fits;
      there = d.there;
      shown = ap (λ (v : Seen). v.object) (quiet ls) ∙ d.shown;
      without = λ x. ap (λ (ms : List Line). seen a c ms x) (struck_past i l ls e) ∙ by_bool (eqb x u.o)
          (λ z. rw (z, eqb-true x u.o z) (quiet (struck_newest i ls) ∙ d.without u.o ∙ rw (eq-eqb u.o u.o refl)))
          (λ z. rw z (same x (rw z at (d.without x))));
      backs = rw (struck_past i l ls e) (past e (λ z. every_rest (f z)) d.backs);
    }
      where
        quiet : (ms : List Line) → seen a c (l ∷ ms) u.o ≡ seen a c ms u.o
        quiet ms = by_bool (c l) (λ z. seen_past a c l ms u.o (every_first (f z))) (λ z. seen_out a c l ms u.o z)

        same : (x : ℕ) → seen a c (struck_newest i ls) x ≡ seen a c ls x → seen a c (l ∷ struck_newest i ls) x ≡ seen a c (l ∷ ls) x
        same x h = by_bool (c l)
            (λ z. seen_on a c l (struck_newest i ls) x z ∙ ap (λ (m : ℕ). acted (suc m) l.entry x (seen a c (struck_newest i ls) x)) (strikes_length i (strikes_newest i ls))
            ∙ ap (acted (suc (length ls)) l.entry x) h ∙ sym (seen_on a c l ls x z))
            (λ z. seen_out a c l (struck_newest i ls) x z ∙ h ∙ sym (seen_out a c l ls x z))

    pub backs_undone : (ls : List Line) (u : Item) (us : List Item) → Backs a c i ls (u ∷ us) → Undone ls u us
    backs_undone [] u us b = elim b [ ]
    backs_undone (l ∷ ls) u us (past e f b) = undone_past l ls u us e f (backs_undone ls u us b)
    backs_undone (l ∷ ls) u us (here e k p b) = undone_here l ls u us e k p b

-- another test that agrees on the lines that touch something
module _ (a : List ℕ) (c d : Line → Bool) (i : ℕ) where
  pub backs_agree : (ls : List Line) (us : List Item) → ((l : Line) → In l ls → (x : ℕ) → touches l.entry x ≡ true → d l ≡ c l) → Backs a c i ls us → Backs a d i ls us
  backs_agree [] us h nothing = nothing
  backs_agree (l ∷ ls) us h (past e f b) = past e (λ z. away us (λ x t. h l Keeping.here x t) z (λ y. f y)) (backs_agree ls us (λ m j. h m (Keeping.later j)) b)
    where
      away : (us : List Item) → ((x : ℕ) → touches l.entry x ≡ true → d l ≡ c l) → d l ≡ true → (c l ≡ true → Away l.entry us) → Away l.entry us
      away [] g z w = done
      away (u ∷ us) g z w = and
          (by_bool (touches l.entry u.o) (λ t. clash t (every_first (w (sym (g u.o t) ∙ z)))) (λ t. t))
          (away us g z (λ y. every_rest (w y)))
  backs_agree (l ∷ ls) (u ∷ us) h (here e k p b) = here e (h l Keeping.here l.entry.object (change_touches i l e) ∙ k)
      (record {
        object = p.object;
        was = seen_agree a d c ls u.o (λ m j t. h m (Keeping.later j) u.o t) ∙ p.was;
        fits = p.fits;
        there = p.there;
      })
      (backs_agree ls us (λ m j. h m (Keeping.later j)) b)
