-- Document 01, refusals 1 and 2: what a call that they do not stop knows of the areas, and how they are computed. Assumes nothing.
use Rattle.std.specs.Prelude.{ℕ, ◌≡◌, refl, Bool, true, false, not, ◌&&◌, ◌||◌, eqb}
use Rattle.std.proofs.Common.{sym, ◌∙◌, arith, eqb-true, eq-eqb, ne_eqb}
use Rattle.words.specs.Tests.{if, if_t, if_f, and_split, and_t, and_f, clash}
use Rattle.areas.specs.Areas.{Areas}
use Rattle.areas.specs.Layout.{finished}
use Rattle.areas.specs.Ranges.{fit, in_range}
use Rattle.areas.specs.Entry.{pages, records, reopening, well_formed}
use Rattle.acceptance.specs.Ran.{Admitted}
use Rattle.acceptance.specs.Lengths.{Sized, sized}
use Rattle.acceptance.specs.Working.{Ranged, ranged}

-- of any call: own, the lengths of its own buffers; must, that the reopening has to be finished
pub record Entered (must own : Bool) (s : Areas) (n : ℕ) : Type 0 where
  pub sized : Sized s n
  pub own_fits : own ≡ true
  pub finished : must ≡ true → reopening s ≡ finished
  pub ranged : (reopening s ≡ 0 → ⊥) → Ranged s n

-- of a call that needs the reopening finished: all of it
pub record Open (s : Areas) (n : ℕ) : Type 0 where
  pub sized : Sized s n
  pub finished : reopening s ≡ finished
  pub ranged : Ranged s n

-- a word that is or is not 0, and the range that is asked for only where it is not
range_asked : (x : ℕ) (range : Bool) → (x ≡ 0 → ⊥) → (if (eqb x 0) true range) ≡ true → range ≡ true
range_asked x range no0 h = sym (if_f (eqb x 0) true range (ne_eqb x 0 no0)) ∙ h

record Formed (own : Bool) (s : Areas) : Type 0 where
  own_fits : own ≡ true
  lengths : fit s ≡ true
  range : (reopening s ≡ 0 → ⊥) → in_range s (pages s) (records s) ≡ true

formed : (own : Bool) (s : Areas) → well_formed own s ≡ true → Formed own s
unfolding well_formed
formed own s h =
    let p = and_split _ _ h in
    let q = and_split own (fit s) p.0 in
    record {
      own_fits = q.0;
      lengths = q.1;
      range = λ no0. range_asked (reopening s) (in_range s (pages s) (records s)) no0 p.1;
    }

-- of a call with a buffer of its own: its length is right
pub formed_own : (own : Bool) (s : Areas) → well_formed own s ≡ true → own ≡ true
formed_own own s h = (formed own s h).own_fits

when_must : (must done : Bool) → not must || done ≡ true → must ≡ true → done ≡ true
when_must true done h e = h
when_must false done h e = clash e refl

pub entered : (must own : Bool) (s : Areas) (n : ℕ) → Admitted must own s n → Entered must own s n
entered must own s n h =
    let f = formed own s h.formed in
    let z = sized s n f.lengths h.count in
    record {
      sized = z;
      own_fits = f.own_fits;
      finished = λ m. eqb-true _ _ (when_must must (eqb (reopening s) finished) h.ready m);
      ranged = λ no0. ranged s n z.low (rw h.count at (f.range no0));
    }

pub opened : (own : Bool) (s : Areas) (n : ℕ) → Admitted true own s n → Open s n
opened own s n h =
    let e = entered true own s n h in
    let two = e.finished refl in
    record { sized = e.sized; finished = two; ranged = e.ranged (λ z. omega arith) }

-- as the code finds it: a well-formed store whose reopening is finished
pub open_formed : (own : Bool) (s : Areas) → well_formed own s ≡ true → reopening s ≡ finished → Open s (pages s)
open_formed own s h e = opened own s (pages s) (record { formed = h; ready = eq-eqb _ _ e; count = refl })

-- how the tests give the answer, as the code finds it: f is its answer on the lengths

pub formed_unfit : (own : Bool) (s : Areas) {f : Bool} → f ≡ fit s → own && f ≡ false → false ≡ well_formed own s
unfolding well_formed
formed_unfit own s e h = sym (and_f _ _ (rw e at h))

pub formed_zero : (own : Bool) (s : Areas) {f : Bool} → f ≡ fit s → own && f ≡ true → reopening s ≡ 0 → true ≡ well_formed own s
unfolding well_formed
formed_zero own s e h z = sym (and_t _ _ (rw e at h) ∙ if_t _ _ _ (eq-eqb _ _ z))

pub formed_range : (own : Bool) (s : Areas) {f : Bool} → f ≡ fit s → own && f ≡ true → (reopening s ≡ 0 → ⊥) →
    in_range s (pages s) (records s) ≡ well_formed own s
unfolding well_formed
formed_range own s e h no0 = sym (and_t _ _ (rw e at h) ∙ if_f _ _ _ (ne_eqb _ _ no0))

pub formed_sized : (own : Bool) (s : Areas) → well_formed own s ≡ true → Sized s (pages s)
formed_sized own s h = sized s (pages s) (formed own s h).lengths refl
