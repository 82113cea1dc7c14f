-- The working tables after a set, as the collector machine's: n is the number of pages. Assumes nothing.
use Prim.Native.Nat.{ℕ, ◌<◌, ◌≤◌}
use native.Mathlib.Omega.{arith}
use mathlib.Core.Path.{◌≡◌, refl, sym, ap, ◌∙◌, fun_ext}
use mathlib.Core.Bool.{Bool, true, false, not, ◌&&◌}
use mathlib.Core.List.{List}
use mathlib.Core.Logic.{inl, inr}
use lib.ListN.{length}
use lib.Dec.{eqb, ltb}
use borrow.Author.Tests.{eqb-true, eqb-false, eq-eqb, ne_eqb, ltb-true, not-true}
use Rattle.words.specs.Tests.{if, by_bool, and_split}
use Rattle.pages.specs.Geometry.{page_of, is_ref_at, object_count, slot_words}
use Rattle.pages.specs.Objects.{word_of}
use Rattle.pages.specs.Soundness.{area_sound}
use Rattle.areas.specs.Layout.{phase_at, pass_page_at, steps_at, unflushed_at, known_at, pruned_at, created_at, colour_at, table_words}
use Rattle.areas.specs.Tables as Words
use Rattle.areas.specs.Tables.{at, gain}
use Rattle.calls.specs.Objects.{pruned, prunes}
use Rattle.collector.specs.Bits.{◌and◌, ◌or◌, true_and, false_and, and_true, and_false, or_false}
use Rattle.collector.specs.Objects as Objects
use Rattle.collector.specs.State.{Colour, Tables, greyed, is_marking, add}
use Rattle.collector.specs.Calls as Calls
use Rattle.machine_view.specs.View.{view}
use Rattle.machine_calls.specs.Tables.{phase_of, colour_at_object, locks_of, tables_of, pass_of}
use Rattle.machine_calls.proofs.Frames.{Beside, beside_self, beside_gain, wider, later, tables_ext, pass_ext, page_kept, object_kept, flag_kept, locks_kept, tables_kept, colours_kept}
use Rattle.machine_calls.proofs.Masks.{page_gain, object_gain}
use Rattle.machine_calls.proofs.Phases.{phase_marking}
use Rattle.machine_calls.proofs.Colours.{grey_beside, grey_colour}
use Rattle.machine_view.proofs.Effects.{view_word}
use Rattle.machine_calls.proofs.Areas.{reference}
use Rattle.records.specs.Records.{txn_count}
use Rattle.words.specs.Spans.{room_kept}

-- the machine's tables with more PRT entries, and with t's records of page p not flushed
abbrev grown : Tables → (ℕ → ℕ → Bool) → Tables
grown b more = record { kn = b.kn; prt = λ u y. b.prt u y or more u y; cot = b.cot; cot_f = b.cot_f; dirty = b.dirty }

abbrev dirtied : Tables → ℕ → ℕ → Tables
dirtied b t p = record { kn = b.kn; prt = b.prt; cot = b.cot; cot_f = b.cot_f; dirty = add b.dirty t p }

grown_none : (b : Tables) (more : ℕ → ℕ → Bool) → ((u y : ℕ) → more u y ≡ false) → b ≡ grown b more
grown_none b more h = tables_ext _ _ refl (fun_ext (λ u. fun_ext (λ y. sym (or_false (b.prt u y)) ∙ ap (λ (m : Bool). b.prt u y or m) (sym (h u y))))) refl refl refl

-- 'the PRT gains the old target for t': x is the target
module _ (w : List ℕ) (n t x : ℕ) (low : 1 ≤ x) (top : x ≤ object_count n) where
  abbrev entered : List ℕ
  entered = gain w (pruned_at n x) t

  enters : Beside (pruned_at n 1) (created_at n 1) w entered
  enters = wider (beside_gain w (pruned_at n x) t) (omega arith) (omega arith)

  greys : Beside (colour_at n 1) (table_words n) entered (pruned w n t x)
  unfolding pruned
  greys = by_bool (Words.is_marking w) (λ e. rw e (grey_beside entered n x low top)) (λ e. rw e (beside_self _ _ entered))

  prune_beside : Beside (pruned_at n 1) (table_words n) w (pruned w n t x)
  prune_beside = later (wider enters (omega arith) (omega arith)) (wider greys (omega arith) (omega arith))

  module _ (len : table_words n ≤ length w) where
    prune_tables : t < txn_count → tables_of (pruned w n t x) n ≡ grown (tables_of w n) (λ u y. eqb u t and eqb y x)
    prune_tables small = tables_kept greys n (inr (omega arith)) ∙ tables_ext _ _ (object_kept enters n _ (inr (omega arith)))
        (object_gain w n _ t x low top (omega arith) small)
        (object_kept enters n _ (inl (omega arith)))
        (flag_kept enters n _ (inl (omega arith)))
        (page_kept enters n _ (inr (omega arith)))

    -- 'A PRT entry made while marking turns a white target grey.'
    prune_colour : (y : ℕ) → colour_at_object (pruned w n t x) n y ≡ greyed (is_marking (phase_of (at w phase_at)) and eqb y x) (colour_at_object w n y)
    unfolding pruned greyed
    prune_colour y = rw (phase_marking (at w phase_at)) (by_bool (Words.is_marking w)
        (λ e. rw (e, true_and) (grey_colour entered n x low top (room_kept (table_words n) enters.same_length len) y
        ∙ ap (λ (c : ℕ → Colour). greyed (eqb y x) (c y)) (colours_kept enters n (inl (omega arith)))))
        (λ e. rw (e, false_and) (ap (λ (c : ℕ → Colour). c y) (colours_kept enters n (inl (omega arith))))))

-- the reference that a set takes away, in the words' tests and in the machine's
same_and : (a b c : Bool) → (a and b and c) ≡ (a && b && c)
unfolding ◌and◌
same_and true true c = refl
same_and true false c = refl
same_and false b c = refl

pub pruned_is : (a : List ℕ) (o f v y : ℕ) → 1 ≤ o → f < slot_words → Calls.pruned (view a o) f v y ≡ (prunes a o f v and eqb y (word_of a o f))
unfolding Objects.is_ref is_ref_at
pruned_is a o f v y low h = rw (view_word a o low f h) (by_bool (eqb y (word_of a o f))
    (λ e. rw (e, eqb-true y (word_of a o f) e, eq-eqb (word_of a o f) (word_of a o f) refl)
    (and_true _ ∙ same_and (ltb f 4) (not (eqb (word_of a o f) 0)) (not (eqb (word_of a o f) v)) ∙ sym (and_true (prunes a o f v))))
    (λ e. rw (e, ne_eqb (word_of a o f) y (λ z. eqb-false y (word_of a o f) e (sym z))) (and_false _ ∙ sym (and_false (prunes a o f v)))))

-- 'Set a word of a known object'
abbrev pub writes : List ℕ → List ℕ → ℕ → ℕ → ℕ → ℕ → ℕ → List ℕ
writes received w n t o f v = let u = gain w (unflushed_at n (page_of o)) t in let x = pruned u n t (word_of received o f) in if (prunes received o f v) x u

module _ (a w : List ℕ) (n t o f v : ℕ) (sound : area_sound a n ≡ true) (low : 1 ≤ o) (top : o ≤ object_count n) (h : f < slot_words) where
  abbrev unflushed : List ℕ
  unflushed = gain w (unflushed_at n (page_of o)) t

  abbrev target : ℕ
  target = word_of a o f

  dirties : Beside (unflushed_at n 0) (known_at n 1) w unflushed
  dirties = wider (beside_gain w (unflushed_at n (page_of o)) t) (omega arith) (omega arith)

  target_range : prunes a o f v ≡ true → (1 ≤ target) × (target ≤ object_count n)
  unfolding is_ref_at
  target_range e =
      let p = and_split (ltb f 4 && not (eqb target 0)) (not (eqb target v)) e in
      let q = and_split (ltb f 4) (not (eqb target 0)) p.0 in
      let z = eqb-false target 0 (not-true (eqb target 0) q.1) in
      (omega arith, reference a n sound o f low top (ltb-true f 4 q.0))

  pub set_beside : Beside (unflushed_at n 0) (table_words n) w (writes a w n t o f v)
  set_beside = by_bool (prunes a o f v)
      (λ e. let r = target_range e in
      rw e (later (wider dirties (omega arith) (omega arith)) (wider (prune_beside unflushed n t target r.0 r.1) (omega arith) (omega arith))))
      (λ e. rw e (wider dirties (omega arith) (omega arith)))

  pub set_locks : locks_of (writes a w n t o f v) n ≡ locks_of w n
  set_locks = locks_kept set_beside n (inr (omega arith))

  -- what the machine adds for each object
  takes : (y : ℕ) → Calls.pruned (view a o) f v y ≡ (prunes a o f v and eqb y target)
  takes y = pruned_is a o f v y low h

  takes_one : prunes a o f v ≡ true → (y : ℕ) → eqb y target ≡ Calls.pruned (view a o) f v y
  takes_one e y = sym (takes y ∙ rw e (true_and (eqb y target)))

  takes_none : prunes a o f v ≡ false → (y : ℕ) → Calls.pruned (view a o) f v y ≡ false
  takes_none e y = takes y ∙ rw e (false_and (eqb y target))

  module _ (len : table_words n ≤ length w) (small : t < txn_count) where
    dirty_tables : tables_of unflushed n ≡ dirtied (tables_of w n) t (Objects.page_of o)
    unfolding Objects.page_of
    dirty_tables = tables_ext _ _ (object_kept dirties n _ (inl (omega arith)))
        (object_kept dirties n _ (inl (omega arith)))
        (object_kept dirties n _ (inl (omega arith)))
        (flag_kept dirties n _ (inl (omega arith)))
        (page_gain w n _ t (page_of o) (omega arith) (omega arith) small)

    pub set_tables : tables_of (writes a w n t o f v) n ≡ record {
      kn = (tables_of w n).kn;
      prt = λ u y. (tables_of w n).prt u y or (eqb u t and Calls.pruned (view a o) f v y);
      cot = (tables_of w n).cot;
      cot_f = (tables_of w n).cot_f;
      dirty = add (tables_of w n).dirty t (Objects.page_of o);
    }
    set_tables = by_bool (prunes a o f v)
        (λ e. let r = target_range e in
        rw e (prune_tables unflushed n t target r.0 r.1 (room_kept (table_words n) dirties.same_length len) small ∙ ap (λ (b : Tables). grown b (λ u y. eqb u t and eqb y target)) dirty_tables
        ∙ ap (grown (dirtied (tables_of w n) t (Objects.page_of o))) (fun_ext (λ u. fun_ext (λ y. ap (λ (b : Bool). eqb u t and b) (takes_one e y))))))
        (λ e. rw e (dirty_tables ∙ grown_none (dirtied (tables_of w n) t (Objects.page_of o)) (λ u y. eqb u t and Calls.pruned (view a o) f v y)
        (λ u y. ap (λ (b : Bool). eqb u t and b) (takes_none e y) ∙ and_false (eqb u t))))

    clean_colour : (y : ℕ) → colour_at_object unflushed n y ≡ colour_at_object w n y
    clean_colour y = ap (λ (c : ℕ → Colour). c y) (colours_kept dirties n (inl (omega arith)))

    set_colour : (y : ℕ) → colour_at_object (writes a w n t o f v) n y ≡ greyed (is_marking (phase_of (at w phase_at)) and Calls.pruned (view a o) f v y) (colour_at_object w n y)
    unfolding greyed
    set_colour y = by_bool (prunes a o f v)
        (λ e. let r = target_range e in
        rw e (prune_colour unflushed n t target r.0 r.1 (room_kept (table_words n) dirties.same_length len) y
        ∙ rw (takes_one e y, clean_colour y, dirties.below phase_at (omega arith)) refl))
        (λ e. rw (e, takes_none e y, and_false) (clean_colour y))

    pub set_pass : pass_of (writes a w n t o f v) n ≡ record {
      phase = (pass_of w n).phase;
      at = (pass_of w n).at;
      steps = (pass_of w n).steps;
      col = λ y. greyed (is_marking (pass_of w n).phase and Calls.pruned (view a o) f v y) ((pass_of w n).col y);
    }
    set_pass = pass_ext _ _ (ap phase_of (set_beside.below phase_at (omega arith)))
        (set_beside.below pass_page_at (omega arith))
        (set_beside.below steps_at (omega arith))
        (fun_ext set_colour)
