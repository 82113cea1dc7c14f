-- The working tables after a read, as the collector machine's: n is the number of pages. Assumes nothing.
use Prim.Native.Nat.{ℕ, zero, suc, ◌<◌, ◌≤◌}
use native.Mathlib.Omega.{arith}
use mathlib.Core.Path.{◌≡◌, refl, sym, ap, ◌∙◌, fun_ext}
use mathlib.Core.Bool.{Bool, true, false, not, ◌&&◌}
use mathlib.Core.List.{List}
use mathlib.Core.Logic.{inl, inr}
use lib.ListN.{length}
use lib.Dec.{eqb, ltb}
use borrow.Author.Tests.{eqb-true, eqb-false, ne_eqb, ltb-true, lt-ltb, not-true}
use Rattle.words.specs.Tests.{by_bool, clash, and_split, eqb_swap}
use Rattle.pages.specs.Geometry.{is_ref, is_ref_at, object_count}
use Rattle.pages.specs.Objects.{word_of}
use Rattle.pages.specs.Soundness.{area_sound}
use Rattle.areas.specs.Layout.{known_at, pruned_at, table_words}
use Rattle.calls.specs.Objects.{learned}
use Rattle.collector.specs.Bits.{◌and◌, ◌or◌, anyb, anyb_elim, and_l, and_r, true_and, false_and, and_false, or_true, or_false}
use Rattle.collector.specs.Objects as Objects
use Rattle.collector.specs.Objects.{points}
use Rattle.collector.specs.State.{add}
use Rattle.collector.proofs.Tables.{is_false}
use Rattle.machine_view.specs.View.{view}
use Rattle.machine_calls.specs.Tables.{object_bit, locks_of, tables_of, pass_of}
use Rattle.machine_calls.proofs.Frames.{Beside, beside_self, beside_gain, wider, later, tables_ext, page_kept, object_kept, flag_kept, locks_kept, pass_kept}
use Rattle.machine_calls.proofs.Masks.{object_gain}
use Rattle.page_laws.specs.SoundFacts.{free_zero_law}
use Rattle.machine_view.proofs.Effects.{view_occ, view_word}
use Rattle.machine_calls.proofs.Areas.{reference}
use Rattle.records.specs.Records.{txn_count}

-- one more word: old, what was known before; txn, it is t; some, the object is not nothing; before, a word before names it; next, this
-- word does; same, it is this word's value
first : (old txn some : Bool) → old ≡ (old or (txn and (some and false)))
first old txn some = rw (and_false some, and_false txn) (sym (or_false old))

more : (old txn some before next same : Bool) → next ≡ same → (same ≡ true → some ≡ true)
    → ((old or (txn and (some and before))) or (txn and same)) ≡ (old or (txn and (some and (next or before))))
unfolding ◌and◌ ◌or◌
more true txn some before next same e h = refl
more false false some before next same e h = refl
more false true some before next true e h = rw (h refl, e) (or_true before)
more false true some before next false e h = rw e (or_false (some and before))

none : (old txn some before next : Bool) → (some ≡ true → next ≡ false) → (old or (txn and (some and before))) ≡ (old or (txn and (some and (next or before))))
unfolding ◌and◌ ◌or◌
none old txn true before next h = rw (h refl)
none old txn false before next h = refl

there : (occ some names : Bool) → (occ ≡ false → (some and names) ≡ false) → (some and names) ≡ (occ and some and names)
unfolding ◌and◌
there true some names h = refl
there false some names h = h refl

module _ (a w : List ℕ) (n t o : ℕ) (sound : area_sound a n ≡ true) (low : 1 ≤ o) (top : o ≤ object_count n) where
  -- word f is a reference other than 0: to an object of the store
  target : (f : ℕ) → (is_ref a o f && not (eqb (word_of a o f) 0)) ≡ true → (f < 4) × (1 ≤ word_of a o f) × (word_of a o f ≤ object_count n)
  unfolding is_ref_at
  target f e =
      let p = and_split (ltb f 4) (not (eqb (word_of a o f) 0)) e in
      let l = ltb-true f 4 p.0 in
      let z = eqb-false (word_of a o f) 0 (not-true (eqb (word_of a o f) 0) p.1) in
      (l, omega arith, reference a n sound o f low top l)

  learned_beside : (k : ℕ) → Beside (known_at n 1) (pruned_at n 1) w (learned a w n t o k)
  unfolding learned
  learned_beside zero = beside_self _ _ w
  learned_beside (suc f) = by_bool (is_ref a o f && not (eqb (word_of a o f) 0))
      (λ e. let r = target f e in rw e (later (learned_beside f) (wider (beside_gain _ (known_at n (word_of a o f)) t) (omega arith) (omega arith))))
      (λ e. rw e (learned_beside f))

  pub read_beside : Beside (known_at n 1) (pruned_at n 1) w (learned a w n t o 8)
  read_beside = learned_beside 8

  pub read_locks : locks_of (learned a w n t o 8) n ≡ locks_of w n
  read_locks = locks_kept read_beside n (inr (omega arith))

  pub read_pass : pass_of (learned a w n t o 8) n ≡ pass_of w n
  read_pass = pass_kept read_beside n (inr (omega arith)) (inl (omega arith))

  -- one of the first k words is a reference to y
  abbrev named : ℕ → ℕ → Bool
  named k y = not (eqb y 0) and anyb k (λ f. Objects.is_ref (view a o) f and eqb ((view a o).word f) y)

  -- a free object names nothing
  named_free : (y : ℕ) → (view a o).occ ≡ false → named 8 y ≡ false
  named_free y e = is_false (named 8 y) (λ h. anyb_elim 8 _ (and_r _ _ h) (λ f l k. eqb-false y 0 (not-true (eqb y 0) (and_l _ _ h))
      (sym (eqb-true _ _ (and_r _ _ k)) ∙ view_word a o low f l ∙ free_zero_law a n o sound low top f l (sym (view_occ a o low) ∙ e))))

  named_points : (y : ℕ) → named 8 y ≡ points (view a o) y
  unfolding points Objects.fields
  named_points y = there (view a o).occ _ _ (named_free y)

  module _ (len : table_words n ≤ length w) (small : t < txn_count) where
    -- a reference's word, and no other, names its object
    names : (f y : ℕ) → (is_ref a o f && not (eqb (word_of a o f) 0)) ≡ true → (Objects.is_ref (view a o) f and eqb ((view a o).word f) y) ≡ eqb y (word_of a o f)
    unfolding Objects.is_ref
    names f y e = let r = target f e in rw (view_word a o low f (omega arith), lt-ltb f 4 r.0) (true_and (eqb (word_of a o f) y) ∙ eqb_swap (word_of a o f) y)

    some_object : (f y : ℕ) → (is_ref a o f && not (eqb (word_of a o f) 0)) ≡ true → eqb y (word_of a o f) ≡ true → not (eqb y 0) ≡ true
    some_object f y e q = rw (eqb-true y (word_of a o f) q) (and_split (is_ref a o f) (not (eqb (word_of a o f) 0)) e).1

    no_name : (f y : ℕ) → (is_ref a o f && not (eqb (word_of a o f) 0)) ≡ false → not (eqb y 0) ≡ true → (Objects.is_ref (view a o) f and eqb ((view a o).word f) y) ≡ false
    unfolding Objects.is_ref is_ref_at
    no_name f y e z = by_bool (ltb f 4)
        (λ l. let k = ltb-true f 4 l in rw (view_word a o low f (omega arith), l, true_and) (ne_eqb (word_of a o f) y (λ q. clash z (rw (l, q) at e))))
        (λ l. rw l (false_and (eqb ((view a o).word f) y)))

    learned_known : (k : ℕ) → object_bit (learned a w n t o k) n (known_at n) ≡ (λ u y. object_bit w n (known_at n) u y or (eqb u t and named k y))
    unfolding learned anyb
    learned_known zero = fun_ext (λ u. fun_ext (λ y. first (object_bit w n (known_at n) u y) (eqb u t) (not (eqb y 0))))
    learned_known (suc f) = by_bool (is_ref a o f && not (eqb (word_of a o f) 0))
        (λ e. let r = target f e in rw e (object_gain _ n _ t (word_of a o f) r.1 r.2 (let d = (learned_beside f).same_length in omega arith) small
        ∙ ap (λ (b : ℕ → ℕ → Bool). add b t (word_of a o f)) (learned_known f)
        ∙ fun_ext (λ u. fun_ext (λ y. more (object_bit w n (known_at n) u y) (eqb u t) (not (eqb y 0)) _ _ _ (names f y e) (some_object f y e)))))
        (λ e. rw e (learned_known f ∙ fun_ext (λ u. fun_ext (λ y. none (object_bit w n (known_at n) u y) (eqb u t) (not (eqb y 0)) _ _ (no_name f y e)))))

    pub read_tables : tables_of (learned a w n t o 8) n ≡ record {
      kn = λ u y. (tables_of w n).kn u y or (eqb u t and points (view a o) y);
      prt = (tables_of w n).prt;
      cot = (tables_of w n).cot;
      cot_f = (tables_of w n).cot_f;
      dirty = (tables_of w n).dirty;
    }
    read_tables = tables_ext _ _
        (learned_known 8 ∙ fun_ext (λ u. fun_ext (λ y. ap (λ (b : Bool). object_bit w n (known_at n) u y or (eqb u t and b)) (named_points y))))
        (object_kept read_beside n _ (inl (omega arith)))
        (object_kept read_beside n _ (inl (omega arith)))
        (flag_kept read_beside n _ (inl (omega arith)))
        (page_kept read_beside n _ (inr (omega arith)))
