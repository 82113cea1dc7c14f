-- Records that take one another back: the undoing record of a create or a set, and where undoing gives back what stood before.
-- Assumes nothing.
use Prim.Native.Nat.{ℕ}
use mathlib.Core.Path.{◌≡◌, refl, sym, ap, ◌∙◌}
use mathlib.Core.Bool.{true, ◌||◌}
use mathlib.Core.Logic.{◌⊎◌, inl, inr}
use lib.Dec.{eqb}
use borrow.Author.Tests.{eqb-true, eq-eqb}
use Rattle.words.specs.Tests.{by_bool}
use Rattle.words.specs.Bits.{bit}
use Rattle.records.specs.declared.Record.{Record}
use Rattle.records.specs.Effects.{undoing}
use Rattle.records.specs.Soundness.{names_object}
use Rattle.records.specs.Order.{open_next, in_order}
use Rattle.collector.specs.Objects.{Obj, blank, put}
use Rattle.machine_view.specs.View.{applied, unapplied}
use Rattle.machine_view.proofs.Effects.{obj_ext}

-- a create or a set
abbrev pub Change : Record → Type 0
Change r = (r.kind ≡ 2) ⊎ (r.kind ≡ 3)

module _ (r : Record) where
  self : eqb r.object r.object ≡ true
  self = eq-eqb r.object r.object refl

  pub undoing_names : names_object (undoing r) ≡ true
  unfolding undoing
  undoing_names = by_bool (eqb r.kind 2) (λ e. rw e refl) (λ e. rw e refl)

  pub undoing_object : (undoing r).object ≡ r.object
  unfolding undoing
  undoing_object = by_bool (eqb r.kind 2) (λ e. rw e refl) (λ e. rw e refl)

  undoing_applied : Change r → (b : Obj) → applied (undoing r) r.object b ≡ unapplied r r.object b
  unfolding applied unapplied undoing
  undoing_applied (inl k) b = rw (k, self) refl
  undoing_applied (inr k) b = rw (k, self) refl

  undoing_unapplied : Change r → (b : Obj) → unapplied (undoing r) r.object b ≡ applied r r.object b
  unfolding applied unapplied undoing
  undoing_unapplied (inl k) b = rw (k, self) refl
  undoing_unapplied (inr k) b = rw (k, self) refl

  -- it is a change by kind, in order while its transaction is open, and leaves the open transactions
  pub change_kind : Change r → (eqb r.kind 2 || eqb r.kind 3) ≡ true
  change_kind (inl k) = rw k refl
  change_kind (inr k) = rw k refl

  pub undoing_order : (m : ℕ) → Change r → bit m r.txn ≡ true → in_order m (undoing r) ≡ true
  unfolding undoing
  undoing_order m (inl k) h = rw k h
  undoing_order m (inr k) h = rw k h

  pub undoing_open : (m : ℕ) → Change r → open_next m (undoing r) ≡ m
  unfolding undoing
  undoing_open m (inl k) = rw k refl
  undoing_open m (inr k) = rw k refl

  -- undoing gives back: a create of a free object with zeros, a set whose old word stands there, an uncreate of a new object
  pub create_back : (v : Obj) → r.kind ≡ 2 → v ≡ blank → unapplied r r.object (applied r r.object v) ≡ v
  unfolding unapplied
  create_back v k e = rw (k, self, e) refl

  pub set_back : (v : Obj) → r.kind ≡ 3 → v.word r.field ≡ r.old → unapplied r r.object (applied r r.object v) ≡ v
  unfolding applied unapplied put
  set_back v k e = rw (k, self) (obj_ext _ _ refl (λ f. by_bool (eqb f r.field) (λ h. rw (h, eqb-true f r.field h) (sym e)) (λ h. rw h refl)))

  -- a change undone: the object is as it was, and the undoing can be taken back
  module _ (c : Change r) (v now : Obj) (fits : unapplied r r.object (applied r r.object v) ≡ v) (is : now ≡ applied r r.object v) where
    pub undoing_was : applied (undoing r) r.object now ≡ v
    undoing_was = undoing_applied c now ∙ ap (unapplied r r.object) is ∙ fits

    pub undoing_back : unapplied (undoing r) r.object (applied (undoing r) r.object now) ≡ now
    undoing_back = ap (unapplied (undoing r) r.object) undoing_was ∙ undoing_unapplied c v ∙ sym is
