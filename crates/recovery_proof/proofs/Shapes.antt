-- What the line of a record does to an object is what the record does to it. Assumes nothing.
use Prim.Native.Nat.{ℕ}
use mathlib.Core.Path.{◌≡◌, refl, sym, ap, ◌∙◌}
use mathlib.Core.Bool.{Bool, true, false, cond}
use mathlib.Core.List.{List, ◌∷◌}
use mathlib.Core.Logic.{◌⊎◌, inl, inr}
use lib.Dec.{eqb}
use borrow.Author.Tests.{eqb-true}
use Rattle.words.specs.Tests.{if, by_bool, clash}
use Rattle.records.specs.declared.Record.{Record}
use Rattle.records.specs.Records.{is_end}
use Rattle.records.specs.Soundness.{names_object}
use Rattle.collector.specs.Bits.{◌and◌, true_and, false_and}
use Rattle.collector.specs.Objects.{Obj, blank}
use Rattle.book.specs.Pointers.{sweeps}
use Rattle.machine_view.specs.View.{applied, unapplied}
use Rattle.recovery_proof.specs.Lines.{Line, began, kept, ended, acts, cleared, with, without, replay, undo}
use Rattle.recovery_proof.specs.Shapes.{shape}

-- the kinds whose lines differ, and the rest
pub data Kind (r : Record) : Type 0 where
  begins : r.kind ≡ 1 → Kind r
  creates : r.kind ≡ 2 → Kind r
  sets : r.kind ≡ 3 → Kind r
  commits : r.kind ≡ 4 → Kind r
  aborts : r.kind ≡ 5 → Kind r
  uncreates : r.kind ≡ 6 → Kind r
  rest : eqb r.kind 1 ≡ false → eqb r.kind 2 ≡ false → eqb r.kind 3 ≡ false → eqb r.kind 4 ≡ false → eqb r.kind 5 ≡ false → eqb r.kind 6 ≡ false → Kind r

pub kind_of : (r : Record) → Kind r
kind_of r =
    is 1 begins (λ a. is 2 creates (λ b. is 3 sets (λ c. is 4 commits (λ d. is 5 aborts (λ e. is 6 uncreates (λ f. rest a b c d e f))))))
  where
    is : (k : ℕ) → (r.kind ≡ k → Kind r) → (eqb r.kind k ≡ false → Kind r) → Kind r
    is k f g = by_bool (eqb r.kind k) (λ h. f (eqb-true r.kind k h)) g

-- the line of each
module _ (r : Record) where
  pub shape_begin : r.kind ≡ 1 → shape r ≡ began r.txn
  unfolding shape
  shape_begin k = rw k refl

  pub shape_commit : r.kind ≡ 4 → shape r ≡ kept r.txn
  unfolding shape
  shape_commit k = rw k refl

  pub shape_aborted : r.kind ≡ 5 → shape r ≡ ended r.txn
  unfolding shape
  shape_aborted k = rw k refl

  pub shape_change : names_object r ≡ true → shape r ≡ acts r.txn r.object (applied r r.object) (unapplied r r.object)
  unfolding shape
  shape_change n = elim (kind_of r) [
    | begins k ↦ clash n (rw k refl)
    | creates k ↦ rw k refl
    | sets k ↦ rw k refl
    | commits k ↦ clash n (rw k refl)
    | aborts k ↦ clash n (rw k refl)
    | uncreates k ↦ rw k refl
    | rest a b c d f g ↦ clash n (rw (b, c, g) refl)
  ]

  pub shape_sweep : r.kind ≡ 7 → shape r ≡ cleared (sweeps r)
  unfolding shape
  shape_sweep k = rw k refl

  pub shape_rest : eqb r.kind 1 ≡ false → eqb r.kind 2 ≡ false → eqb r.kind 3 ≡ false → eqb r.kind 4 ≡ false → eqb r.kind 5 ≡ false → eqb r.kind 6 ≡ false
      → shape r ≡ cleared (sweeps r)
  unfolding shape
  shape_rest a b c d f g = rw (a, b, c, d, f, g) refl

-- a change at its object, which leaves the others
pub at_object : (f : ℕ → Obj → Obj) (o x : ℕ) (v : Obj) → (eqb o x ≡ false → f x v ≡ v) → cond (eqb o x) (f o v) v ≡ f x v
at_object f o x v h = by_bool (eqb o x) (λ e. rw (e, eqb-true o x e)) (λ e. rw e (sym (h e)))

at_counted : (b : Bool) (f : ℕ → Obj → Obj) (o x : ℕ) (v : Obj) → (eqb o x ≡ false → f x v ≡ v) → cond (b and eqb o x) (f o v) v ≡ if b (f x v) v
at_counted true f o x v h = rw (true_and (eqb o x)) (at_object f o x v h)
at_counted false f o x v h = rw (false_and (eqb o x)) refl

module _ (r : Record) (x : ℕ) (v : Obj) where
  -- a record that names another object, or none, leaves this one
  pub unnamed : names_object r ≡ true → eqb r.object x ≡ false → (applied r x v ≡ v) × (unapplied r x v ≡ v)
  unfolding applied unapplied
  unnamed n e = elim (kind_of r) [
    | begins k ↦ clash n (rw k refl)
    | creates k ↦ (rw (k, e) refl, rw (k, e) refl)
    | sets k ↦ (rw (k, e) refl, rw (k, e) refl)
    | commits k ↦ clash n (rw k refl)
    | aborts k ↦ clash n (rw k refl)
    | uncreates k ↦ (rw (k, e) refl, rw (k, e) refl)
    | rest a b c d f g ↦ clash n (rw (b, c, g) refl)
  ]

  nothing : (r.kind ≡ 1) ⊎ ((r.kind ≡ 4) ⊎ (r.kind ≡ 5)) → (applied r x v ≡ v) × (unapplied r x v ≡ v)
  unfolding applied unapplied
  nothing (inl k) = (rw k refl, rw k refl)
  nothing (inr (inl k)) = (rw k refl, rw k refl)
  nothing (inr (inr k)) = (rw k refl, rw k refl)

  sweeping : eqb r.kind 2 ≡ false → eqb r.kind 3 ≡ false → eqb r.kind 6 ≡ false → (applied r x v ≡ cond (sweeps r x) blank v) × (unapplied r x v ≡ v)
  unfolding applied unapplied
  sweeping b c g = (rw (b, c, g) (by_bool (sweeps r x) (λ e. rw e refl) (λ e. rw e refl)), rw (b, c, g) refl)

  pub sweep_applied : r.kind ≡ 7 → applied r x v ≡ cond (sweeps r x) blank v
  sweep_applied k = (sweeping (rw k refl) (rw k refl) (rw k refl)).0

  pub unapplied_none : names_object r ≡ false → unapplied r x v ≡ v
  unapplied_none n = elim (kind_of r) [
    | begins k ↦ (nothing (inl k)).1
    | creates k ↦ clash (rw k refl) n
    | sets k ↦ clash (rw k refl) n
    | commits k ↦ (nothing (inr (inl k))).1
    | aborts k ↦ (nothing (inr (inr k))).1
    | uncreates k ↦ clash (rw k refl) n
    | rest a b c d f g ↦ (sweeping b c g).1
  ]

module _ (base : ℕ → Obj) (r : Record) (x : ℕ) (ls : List Line) where
  pub replay_shape : replay base x (shape r ∷ ls) ≡ applied r x (replay base x ls)
  unfolding replay
  replay_shape = elim (kind_of r) [
    | begins k ↦ ap by (shape_begin r k) ∙ sym (nothing r x v (inl k)).0
    | creates k ↦ change (rw k refl)
    | sets k ↦ change (rw k refl)
    | commits k ↦ ap by (shape_commit r k) ∙ sym (nothing r x v (inr (inl k))).0
    | aborts k ↦ ap by (shape_aborted r k) ∙ sym (nothing r x v (inr (inr k))).0
    | uncreates k ↦ change (rw k refl)
    | rest a b c d f g ↦ ap by (shape_rest r a b c d f g) ∙ sym (sweeping r x v b c g).0
  ]
    where
      v : Obj
      v = replay base x ls

      by : Line → Obj
      by l = replay base x (l ∷ ls)

      change : names_object r ≡ true → replay base x (shape r ∷ ls) ≡ applied r x (replay base x ls)
      change n = ap by (shape_change r n) ∙ at_object (applied r) r.object x v (λ e. (unnamed r x v n e).0)

-- the transactions that the undoing counts before this record
abbrev pub counted : (ℕ → Bool) → Record → ℕ → Bool
counted w r = if (eqb r.kind 1) (with w r.txn) (if (is_end r) (without w r.txn) w)

module _ (w : ℕ → Bool) (r : Record) (x : ℕ) (ls : List Line) (v : Obj) where
  pub undo_shape : undo x w (shape r ∷ ls) v ≡ undo x (counted w r) ls (if (w r.txn) (unapplied r x v) v)
  unfolding undo
  undo_shape = elim (kind_of r) [
    | begins k ↦ ap by (shape_begin r k) ∙ rw ((nothing r x v (inl k)).1, both, k) refl
    | creates k ↦ change (rw k refl) (rw k refl)
    | sets k ↦ change (rw k refl) (rw k refl)
    | commits k ↦ ap by (shape_commit r k) ∙ rw ((nothing r x v (inr (inl k))).1, both, k) refl
    | aborts k ↦ ap by (shape_aborted r k) ∙ rw ((nothing r x v (inr (inr k))).1, both, k) refl
    | uncreates k ↦ change (rw k refl) (rw k refl)
    | rest a b c d f g ↦ ap by (shape_rest r a b c d f g) ∙ rw ((sweeping r x v b c g).1, both, a, d, f) refl
  ]
    where
      by : Line → Obj
      by l = undo x w (l ∷ ls) v

      both : if (w r.txn) v v ≡ v
      both = by_bool (w r.txn) (λ e. rw e refl) (λ e. rw e refl)

      change : names_object r ≡ true → counted w r ≡ w → undo x w (shape r ∷ ls) v ≡ undo x (counted w r) ls (if (w r.txn) (unapplied r x v) v)
      change n e = ap by (shape_change r n) ∙ rw e (ap (undo x w ls) (at_counted (w r.txn) (unapplied r) r.object x v (λ z. (unnamed r x v n z).1)))
