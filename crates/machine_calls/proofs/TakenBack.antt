-- The working tables where a change is taken back, and where marks are set and dropped, as the collector machine's: n is the number of
-- pages. Assumes nothing.
use Prim.Native.Nat.{ℕ, zero, suc, ◌+◌, ◌<◌, ◌≤◌}
use native.Mathlib.Omega.{arith}
use mathlib.Core.Path.{◌≡◌, refl, sym, ap, ◌∙◌, fun_ext}
use mathlib.Core.Bool.{Bool, true, false, not, cond}
use mathlib.Core.List.{List}
use mathlib.Core.Logic.{inl, inr}
use lib.ListN.{length, get_or, set}
use lib.Seq.{get_or-set_same, get_or-set_other}
use lib.Dec.{eqb, ltb}
use Rattle.words.specs.Tests.{by_bool}
use Rattle.pages.specs.Geometry.{page_of, object_count}
use Rattle.records.specs.declared.Record.{Record}
use Rattle.records.specs.Records.{txn_count, is_create}
use Rattle.areas.specs.Layout.{unflushed_at, known_at, pruned_at, table_words, mark_count, marked_at, order_from, order_at, undoing_at, clients_from}
use Rattle.areas.specs.Tables.{gain, lose}
use Rattle.calls.specs.Marks.{order_of, moved_up, others_set, set_last, taken_back, dropped}
use Rattle.collector.specs.Bits.{◌and◌, ◌or◌}
use Rattle.collector.specs.Objects as Objects
use Rattle.collector.specs.State.{add, remove}
use Rattle.machine_calls.specs.Tables.{locks_of, tables_of, pass_of}
use Rattle.machine_calls.proofs.Frames.{Beside, beside_set, beside_gain, beside_lose, beside_over, beside_self, wider, later, tables_ext, page_kept, object_kept, flag_kept, locks_kept, pass_kept}
use Rattle.machine_calls.proofs.Masks.{page_gain, object_lose}

-- an entry that goes where a create is taken back
gone : (create a b : Bool) → (a and (not create or not b)) ≡ (cond create (not b and a) a)
unfolding ◌and◌ ◌or◌
gone true true true = refl
gone true true false = refl
gone true false true = refl
gone true false false = refl
gone false true b = refl
gone false false b = refl

module _ (w : List ℕ) (n t c : ℕ) (r : Record) (low : 1 ≤ r.object) (top : r.object ≤ object_count n) where
  abbrev w1 : List ℕ
  w1 = gain w (unflushed_at n (page_of r.object)) t

  abbrev w2 : List ℕ
  w2 = set w1 (undoing_at n c) 1

  abbrev w3 : List ℕ
  w3 = lose w2 (known_at n r.object) t

  unflushed : Beside (unflushed_at n 0) (known_at n 1) w w1
  unflushed = wider (beside_gain w (unflushed_at n (page_of r.object)) t) (omega arith) (omega arith)

  noted : Beside (table_words n) (suc (undoing_at n c)) w1 w2
  noted = wider (beside_set w1 (undoing_at n c) 1) (omega arith) (omega arith)

  forgot : Beside (known_at n 1) (pruned_at n 1) w2 w3
  forgot = wider (beside_lose w2 (known_at n r.object) t) (omega arith) (omega arith)

  either : (P : List ℕ → Type 0) → (is_create r ≡ true → P w3) → (is_create r ≡ false → P w2) → P (taken_back w n t c r)
  unfolding taken_back
  either P f g = by_bool (is_create r) (λ e. rw e (f e)) (λ e. rw e (g e))

  pub back_beside : Beside (unflushed_at n 0) (suc (undoing_at n c)) w (taken_back w n t c r)
  back_beside = let b : Beside (unflushed_at n 0) (suc (undoing_at n c)) w w2 = later (wider unflushed (omega arith) (omega arith)) (wider noted (omega arith) (omega arith)) in
      either (λ v. Beside (unflushed_at n 0) (suc (undoing_at n c)) w v) (λ e. later b (wider forgot (omega arith) (omega arith))) (λ e. b)

  pub back_locks : locks_of (taken_back w n t c r) n ≡ locks_of w n
  back_locks = locks_kept back_beside n (inr (omega arith))

  pub back_pass : pass_of (taken_back w n t c r) n ≡ pass_of w n
  back_pass = either (λ v. pass_of v n ≡ pass_of w n) (λ e. pass_kept forgot n (inr (omega arith)) (inl (omega arith)) ∙ plain) (λ e. plain)
    where
      plain : pass_of w2 n ≡ pass_of w n
      plain = pass_kept noted n (inr (omega arith)) (inr (omega arith)) ∙ pass_kept unflushed n (inr (omega arith)) (inl (omega arith))

  -- only its own undoing word and words of the tables change
  pub back_above : (j : ℕ) → table_words n ≤ j → (j ≡ undoing_at n c → ⊥) → get_or (taken_back w n t c r) j 0 ≡ get_or w j 0
  back_above j l h = either (λ v. get_or v j 0 ≡ get_or w j 0) (λ e. forgot.above j (omega arith) ∙ plain) (λ e. plain)
    where
      plain : get_or w2 j 0 ≡ get_or w j 0
      plain = get_or-set_other w1 (undoing_at n c) j 1 0 h ∙ unflushed.above j (omega arith)

  pub back_noted : undoing_at n c < length w → get_or (taken_back w n t c r) (undoing_at n c) 0 ≡ 1
  back_noted l = either (λ v. get_or v (undoing_at n c) 0 ≡ 1) (λ e. forgot.above (undoing_at n c) (omega arith) ∙ plain) (λ e. plain)
    where
      plain : get_or w2 (undoing_at n c) 0 ≡ 1
      plain = get_or-set_same w1 (undoing_at n c) 1 0 (let a = unflushed.same_length in omega arith)

  pub back_tables : table_words n ≤ length w → t < txn_count → tables_of (taken_back w n t c r) n ≡ record {
    kn = λ u x. (tables_of w n).kn u x and (not (is_create r) or not (eqb u t and eqb x r.object));
    prt = (tables_of w n).prt;
    cot = (tables_of w n).cot;
    cot_f = (tables_of w n).cot_f;
    dirty = add (tables_of w n).dirty t (Objects.page_of r.object);
  }
  unfolding Objects.page_of
  back_tables len small = tables_ext _ _
      (fun_ext (λ u. fun_ext (λ x. known u x ∙ sym (gone (is_create r) ((tables_of w n).kn u x) (eqb u t and eqb x r.object)))))
      (elsewhere (λ v. (tables_of v n).prt) (object_kept forgot n _ (inl (omega arith))) (object_kept noted n _ (inr (omega arith))) (object_kept unflushed n _ (inl (omega arith))))
      (elsewhere (λ v. (tables_of v n).cot) (object_kept forgot n _ (inl (omega arith))) (object_kept noted n _ (inr (omega arith))) (object_kept unflushed n _ (inl (omega arith))))
      (elsewhere (λ v. (tables_of v n).cot_f) (flag_kept forgot n _ (inl (omega arith))) (flag_kept noted n _ (inr (omega arith))) (flag_kept unflushed n _ (inl (omega arith))))
      (elsewhere (λ v. (tables_of v n).dirty) (page_kept forgot n _ (inr (omega arith))) (page_kept noted n _ (inr (omega arith))) refl ∙ page_gain w n _ t (page_of r.object) (omega arith) (omega arith) small)
    where
      elsewhere : {A : Type 0} {a : A} (f : List ℕ → A) → f w3 ≡ f w2 → f w2 ≡ f w1 → f w1 ≡ a → f (taken_back w n t c r) ≡ a
      elsewhere {A} {a} f p q d = either (λ v. f v ≡ a) (λ e. p ∙ q ∙ d) (λ e. q ∙ d)

      before : (tables_of w2 n).kn ≡ (tables_of w n).kn
      before = object_kept noted n _ (inr (omega arith)) ∙ object_kept unflushed n _ (inl (omega arith))

      known : (u x : ℕ) → (tables_of (taken_back w n t c r) n).kn u x ≡ cond (is_create r) (remove (tables_of w n).kn t r.object u x) ((tables_of w n).kn u x)
      known u x = either (λ v. (tables_of v n).kn u x ≡ cond (is_create r) (remove (tables_of w n).kn t r.object u x) ((tables_of w n).kn u x))
          (λ e. rw e (ap (λ (b : ℕ → ℕ → Bool). b u x) (object_lose w2 n _ t r.object low top (let a = noted.same_length in let b = unflushed.same_length in omega arith)
          ∙ ap (λ (b : ℕ → ℕ → Bool). remove b t r.object) before)))
          (λ e. rw e (ap (λ (b : ℕ → ℕ → Bool). b u x) before))

-- marks stand behind the tables
module _ (w : List ℕ) (n t m : ℕ) (small : t < txn_count) (mark : m < mark_count) where
  pub set_last_beside : Beside (order_from n) (clients_from n) w (set_last w n t m)
  unfolding set_last
  set_last_beside = later (wider (beside_over (moved_up (order_of w n t m)) w (order_at n t 0) mark_count) (omega arith) (omega arith))
      (wider (beside_set _ (order_at n t m) (others_set w n t m + 1)) (omega arith) (omega arith))

pub dropped_beside : (w : List ℕ) (n t a k : ℕ) → t < txn_count → k ≤ mark_count → Beside (table_words n) (clients_from n) w (dropped w n t a k)
unfolding dropped
dropped_beside w n t a zero small l = beside_self (table_words n) (clients_from n) w
dropped_beside w n t a (suc j) small l = let b = dropped_beside w n t a j small (omega arith) in by_bool (ltb a (order_of (dropped w n t a j) n t j))
    (λ e. rw e (later b (later (wider (beside_set (dropped w n t a j) (marked_at n t j) 0) (omega arith) (omega arith)) (wider (beside_set _ (order_at n t j) 0) (omega arith) (omega arith)))))
    (λ e. rw e b)
