-- What reopening makes of a page area, object by object, is what the lines of the log say. n is the number of pages. Assumes nothing.
use Prim.Native.Nat.{ℕ, zero, suc, ◌*◌, ◌<◌}
use native.Mathlib.Omega.{arith}
use mathlib.Core.Path.{◌≡◌, refl, sym, ap, ◌∙◌}
use mathlib.Core.Bool.{Bool, true, false, ◌&&◌}
use mathlib.Core.List.{List}
use lib.ListN.{length}
use Rattle.words.specs.Tests.{if, by_bool, all_at, and_true, and_split}
use Rattle.words.specs.Bits.{bit}
use Rattle.records.specs.declared.Record.{Record}
use Rattle.records.specs.Records.{record_at}
use Rattle.records.specs.Effects.{effect, undone}
use Rattle.records.specs.Soundness.{names_object, record_sound}
use Rattle.records.specs.Order.{open_in, in_order, log_sound}
use Rattle.records.specs.Recovery.{redone, undone_in, recovered}
use Rattle.collector.specs.Objects.{Obj}
use Rattle.machine_view.specs.View.{view, applied, unapplied}
use Rattle.record_laws.specs.EffectLaws.{length_if, length_undone, length_redone}
use Rattle.machine_view.proofs.Records.{effect_view, undone_view}
use Rattle.recovery_proof.specs.Lines.{everyone, replay, undo}
use Rattle.recovery_proof.specs.Shapes.{shapes, recs}
use Rattle.recovery_proof.proofs.Shapes.{counted, replay_shape, undo_shape, unapplied_none}
use Rattle.recovery_proof.proofs.Masks.{mask_before, mask_before_law, mask_here}
use Rattle.pages.specs.Geometry.{page_words}

-- each of the first c records, taken by itself; in order
abbrev pub EachSound : ℕ → List ℕ → ℕ → Type 0
EachSound n g c = (i : ℕ) → i < c → record_sound n (record_at g i) ≡ true

abbrev pub InOrder : List ℕ → ℕ → Type 0
InOrder g c = (i : ℕ) → i < c → in_order (open_in g i) (record_at g i) ≡ true

pub log_sound_law : (n : ℕ) (g : List ℕ) (c : ℕ) → log_sound n g c ≡ true → EachSound n g c × InOrder g c
unfolding log_sound
log_sound_law n g c h = (λ i l. (at i l).0, λ i l. (at i l).1)
  where
    at : (i : ℕ) → i < c → (record_sound n (record_at g i) ≡ true) × (in_order (open_in g i) (record_at g i) ≡ true)
    at i l = and_split _ _ (all_at (λ i. record_sound n (record_at g i) && in_order (open_in g i) (record_at g i)) c i h l)

-- redoing
module _ (n : ℕ) (a g : List ℕ) (len : length a ≡ page_words * n) where
  pub redone_view : (c : ℕ) → EachSound n g c → (x : ℕ) → view (redone a g c) x ≡ replay (view a) x (shapes (recs g c))
  unfolding redone recs shapes replay
  redone_view zero s x = refl
  redone_view (suc i) s x =
      effect_view n (redone a g i) (length_redone a g i ∙ len) (record_at g i) (s i (omega arith)) x
      ∙ ap (applied (record_at g i) x) (redone_view i (λ j l. s j (omega arith)) x)
      ∙ sym (replay_shape (view a) (record_at g i) x (shapes (recs g i)))

-- undoing one record where the mask says so
module _ (n : ℕ) (a : List ℕ) (len : length a ≡ page_words * n) (r : Record) (ok : record_sound n r ≡ true) where
  undone_if : (b : Bool) (x : ℕ) → view (if b (undone a r) a) x ≡ if b (unapplied r x (view a x)) (view a x)
  undone_if true x = undone_view n a len r ok x
  undone_if false x = refl

  -- whether or not a record that changes no object is undone
  undone_here : (b c : Bool) → (names_object r ≡ true → b ≡ c) → (x : ℕ) → view (if b (undone a r) a) x ≡ if c (unapplied r x (view a x)) (view a x)
  undone_here b c h x = undone_if b x ∙ by_bool (names_object r)
      (λ e. rw (h e) refl)
      (λ e. rw (unapplied_none r x (view a x) e) (either b (view a x) ∙ sym (either c (view a x))))
    where
      either : (b : Bool) (v : Obj) → if b v v ≡ v
      either true v = refl
      either false v = refl

module _ (n : ℕ) (g : List ℕ) where
  -- w counts the transactions that are not ended by a later record; the mask has those of them that are open
  pub undone_in_view : (m c : ℕ) (a : List ℕ) (w : ℕ → Bool) → length a ≡ page_words * n → EachSound n g c → InOrder g c
      → ((t : ℕ) → bit m t ≡ (bit (open_in g c) t && w t))
      → (x : ℕ) → view (undone_in g m c a) x ≡ undo x w (shapes (recs g c)) (view a x)
  unfolding undone_in recs shapes undo open_in
  undone_in_view m zero a w len s o h x = refl
  undone_in_view m (suc i) a w len s o h x =
      undone_in_view (mask_before m (record_at g i)) i (if (bit m (record_at g i).txn) (undone a (record_at g i)) a) (counted w (record_at g i))
      (length_if (bit m (record_at g i).txn) (undone a (record_at g i)) a (length_undone a (record_at g i)) ∙ len) (λ j l. s j (omega arith)) (λ j l. o j (omega arith))
      (mask_before_law m (open_in g i) w (record_at g i) h (o i (omega arith))) x
      ∙ ap (undo x (counted w (record_at g i)) (shapes (recs g i)))
      (undone_here n a len (record_at g i) (s i (omega arith)) (bit m (record_at g i).txn) (w (record_at g i).txn)
      (λ e. mask_here m (open_in g i) w (record_at g i) h e (o i (omega arith))) x)
      ∙ sym (undo_shape w (record_at g i) x (shapes (recs g i)) (view a x))

module _ (n : ℕ) (a g : List ℕ) (c : ℕ) (len : length a ≡ page_words * n) (s : log_sound n g c ≡ true) where
  -- reopening leaves the lines' effect, with what did not end undone
  pub recovered_view : (x : ℕ) → view (recovered a g c) x ≡ undo x everyone (shapes (recs g c)) (replay (view a) x (shapes (recs g c)))
  unfolding recovered
  recovered_view x = let k = log_sound_law n g c s in
      undone_in_view n g (open_in g c) c (redone a g c) everyone (length_redone a g c ∙ len) k.0 k.1 (λ t. sym (and_true (bit (open_in g c) t))) x
      ∙ ap (undo x everyone (shapes (recs g c))) (redone_view n a g len c k.0 x)

-- what sound records keep, done and undone, reopening keeps
module _ (n : ℕ) (P : List ℕ → Type 0)
    (done : (a : List ℕ) → length a ≡ page_words * n → (r : Record) → record_sound n r ≡ true → P a → P (effect a r))
    (back : (a : List ℕ) → length a ≡ page_words * n → (r : Record) → record_sound n r ≡ true → P a → P (undone a r)) where
  redone_keeps : (a g : List ℕ) → length a ≡ page_words * n → P a → (c : ℕ) → EachSound n g c → P (redone a g c)
  unfolding redone
  redone_keeps a g len h zero s = h
  redone_keeps a g len h (suc i) s = done (redone a g i) (length_redone a g i ∙ len) (record_at g i) (s i (omega arith)) (redone_keeps a g len h i (λ j l. s j (omega arith)))

  undone_keeps : (g : List ℕ) (m c : ℕ) (a : List ℕ) → length a ≡ page_words * n → P a → EachSound n g c → P (undone_in g m c a)
  unfolding undone_in
  undone_keeps g m zero a len h s = h
  undone_keeps g m (suc i) a len h s = undone_keeps g (mask_before m (record_at g i)) i (if (bit m (record_at g i).txn) (undone a (record_at g i)) a)
      (length_if (bit m (record_at g i).txn) (undone a (record_at g i)) a (length_undone a (record_at g i)) ∙ len) (either (bit m (record_at g i).txn)) (λ j l. s j (omega arith))
    where
      either : (b : Bool) → P (if b (undone a (record_at g i)) a)
      either true = back a len (record_at g i) (s i (omega arith)) h
      either false = h

  pub recovered_keeps : (a g : List ℕ) (c : ℕ) → length a ≡ page_words * n → log_sound n g c ≡ true → P a → P (recovered a g c)
  unfolding recovered
  recovered_keeps a g c len k h = let s = (log_sound_law n g c k).0 in undone_keeps g (open_in g c) c (redone a g c) (length_redone a g c ∙ len) (redone_keeps a g len h c s) s
