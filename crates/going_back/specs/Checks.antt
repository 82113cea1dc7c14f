-- Refusals 3, 4, 16 and 11 of going back, of the lists that they read; what the code that makes the change needs. n is the number of
-- pages. Assumes nothing.
use Rattle.std.specs.Prelude.{ℕ, ◌-◌, ◌<◌, ◌≤◌, ◌≡◌, Bool, true, false, ◌&&◌, List, [], ◌∷◌, length, eqb, Ok, Err}
use Rattle.std.proofs.Common.{sym, ap, ◌∙◌, length-take-le, arith, eq-eqb, ne_eqb}
use Rattle.std.proofs.Math.Bool.{not}
use Rattle.areas.specs.declared.Refusal.{Refusal}
use Rattle.areas.specs.declared.Refusal.TheVariants.{LogFull, Unmarked}
use Rattle.areas.specs.Answers.{Test, unless, verdict, passed, refuse_accept, all_passed, need_holds, need_fails, Check}
use Rattle.areas.specs.Areas.{Areas, areas}
use Rattle.areas.specs.Layout.{mark_count, marked_at, order_at}
use Rattle.areas.specs.Tables.{at, is_txn, is_active}
use Rattle.calls.specs.Room.{room_within}
use Rattle.calls.specs.Transactions.{changes_of}
use Rattle.calls.specs.Marks.{is_mark, mark_tests, since_mark, back_tests}
use Rattle.acceptance.specs.Entered.{Open}
use Rattle.acceptance.specs.Marks.{back_facts}
use Rattle.log_ops.specs.Logs.{open_kept, left_in}
use Rattle.undo_walk.specs.Going.{Goable}

-- the changes left since mark m, whose number stands at word i
module _ (g k w : List ℕ) (n t m : ℕ) {left i : ℕ} (e : left ≡ length (left_in g k w n t)) (place : i ≡ marked_at n t m) where
  pub since_some : left - at w i ≡ length (since_mark (areas [] [] [] g k w) n t m)
  since_some = rw (e, place) (let l = left_in g k w n t in sym (length-take-le (length l - at w (marked_at n t m)) l (omega arith)))

  pub since_none : left ≤ at w i → 0 ≡ length (since_mark (areas [] [] [] g k w) n t m)
  since_none h = let q = since_some in omega arith

-- the lists that the check does not read
pub back_as : (s c r g k w : List ℕ) (n t m : ℕ) {x : Check} → x ≡ verdict (back_tests (areas [] [] [] g k w) n t m) → x ≡ verdict (back_tests (areas s c r g k w) n t m)
unfolding back_tests
back_as s c r g k w n t m e = e

-- a refusal of the first two tests is one of them all
by_two : (a b : Bool) (x y z : Refusal) (k : Check) → unless a x (unless b y (Ok tt)) ≡ Err z → Err z ≡ unless a x (unless b y k)
by_two true true x y z k e = refuse_accept z (sym e)
by_two true false x y z k e = sym e
by_two false b x y z k e = sym e

early : (a b : Test) (ts : List Test) (z : Refusal) → verdict (a ∷ b ∷ []) ≡ Err z → Err z ≡ verdict (a ∷ b ∷ ts)
unfolding verdict
early a b ts z e = by_two a.holds b.holds a.refusal b.refusal z (verdict ts) e

module _ (s : Areas) (n t m : ℕ) where
  pub back_barred : (x : Refusal) → verdict (mark_tests s t m) ≡ Err x → Err x ≡ verdict (back_tests s n t m)
  unfolding mark_tests back_tests
  back_barred x e = early _ _ _ x e

  -- the first two tests passed; i: the word of the mark's place
  module _ (h : verdict (mark_tests s t m) ≡ Ok tt) {i : ℕ} (place : i ≡ order_at n t m) where
    range : is_txn t && is_mark m ≡ true
    unfolding mark_tests
    range = passed _ 0 h

    active : is_active s.work t ≡ true
    unfolding mark_tests
    active = passed _ 1 h

    pub back_unset : at s.work i ≡ 0 → Err Unmarked ≡ verdict (back_tests s n t m)
    unfolding back_tests
    back_unset z = need_fails _ _ _ _ (ap not (eq-eqb _ _ (rw place at z))) ∙ need_holds _ _ _ _ active ∙ need_holds _ _ _ _ range

    -- k: how many changes since the mark the code found
    module _ (z : at s.work i ≡ 0 → ⊥) {k : ℕ} (e : k ≡ length (since_mark s n t m)) where
      marked : not (eqb (at s.work (order_at n t m)) 0) ≡ true
      marked = ap not (ne_eqb _ _ (λ y. z (rw place y)))

      pub back_passes : room_within s k ≡ true → Ok tt ≡ verdict (back_tests s n t m)
      unfolding back_tests
      back_passes b = all_passed ∙ need_holds _ _ _ _ (rw e at b) ∙ need_holds _ _ _ _ marked ∙ need_holds _ _ _ _ active ∙ need_holds _ _ _ _ range

      pub back_full : room_within s k ≡ false → Err LogFull ≡ verdict (back_tests s n t m)
      unfolding back_tests
      back_full b = need_fails _ _ _ _ (rw e at b) ∙ need_holds _ _ _ _ marked ∙ need_holds _ _ _ _ active ∙ need_holds _ _ _ _ range

-- what the code that makes the change needs of a call whose tests passed
module _ (s : Areas) (n t m : ℕ) (o : Open s n) where
  pub back_ready : verdict (back_tests s n t m) ≡ Ok tt → Goable s.received s.log s.counts s.work n t (length (since_mark s n t m)) × (m < mark_count)
  back_ready h = let f = back_facts s n t m h in let z = o.sized in (
    record {
      kept = open_kept s n o;
      sound = o.ranged.records_sound_law;
      pages_len = z.received_len;
      tables = z.undoing;
      txn = f.txn;
      enough = (let l = changes_of s n t in let q = length-take-le (length l - at s.work (marked_at n t m)) l (omega arith) in omega arith);
      room = f.room;
      top = z.log_top;
    },
    f.mark,
  )
