-- A cell, an occupied bit or a word of an object, that the records write is decided by them; any other is left alone. Assumes nothing.
use Prim.Native.Nat.{ℕ, zero, suc}
use mathlib.Core.Path.{◌≡◌, refl, sym, ap, ◌∙◌}
use mathlib.Core.Bool.{Bool, true, false, ◌&&◌, ◌||◌}
use mathlib.Core.List.{List, [], ◌∷◌, ◌++◌}
use lib.ListN.{drop}
use lib.Dec.{eqb}
use borrow.Author.Tests.{eqb-true, eqb-false, eq-eqb, ne_eqb}
use Rattle.words.specs.Tests.{if, by_bool, clash, or_false_l, or_false_r}
use Rattle.records.specs.declared.Record.{Record}
use Rattle.collector.specs.Objects.{Obj, blank, fresh, put}
use Rattle.book.specs.Pointers.{sweeps, makes_or_frees, writes}
use Rattle.machine_view.specs.View.{applied, unapplied}
use Rattle.machine_view.proofs.Effects.{obj_ext}
use Rattle.collector.proofs.Objects.{put_occ}
use Rattle.recovery_proof.specs.Lines.{replay, undo}
use Rattle.recovery_proof.specs.Shapes.{shapes, some_of, writes_occ, writes_word}
use Rattle.recovery_proof.proofs.Shapes.{begins, creates, sets, commits, aborts, uncreates, rest, kind_of, counted, replay_shape, undo_shape}

-- what a record does to object x: it makes it v, writes one word of it, or leaves it
data Does (r : Record) (x : ℕ) : Type 0 where
  remakes : (v : Obj) → makes_or_frees r x ≡ true → ((b : Obj) → applied r x b ≡ v) → Does r x
  rewrites : makes_or_frees r x ≡ false → ((f : ℕ) → writes r x f ≡ eqb r.field f) → ((b : Obj) → applied r x b ≡ put b r.field r.new)
      → ((b : Obj) → unapplied r x b ≡ put b r.field r.old) → Does r x
  leaves : makes_or_frees r x ≡ false → ((f : ℕ) → writes r x f ≡ false) → ((b : Obj) → applied r x b ≡ b) → ((b : Obj) → unapplied r x b ≡ b) → Does r x

does : (r : Record) (x : ℕ) → Does r x
unfolding applied unapplied
does r x = elim (kind_of r) [
  | begins k ↦ leaves (rw k refl) (λ f. rw k refl) (λ b. rw k refl) (λ b. rw k refl)
  | creates k ↦ by_bool (eqb r.object x)
      (λ e. remakes fresh (rw (k, e) refl) (λ b. rw (k, e) refl))
      (λ e. leaves (rw (k, e) refl) (λ f. rw (k, e) refl) (λ b. rw (k, e) refl) (λ b. rw (k, e) refl))
  | sets k ↦ by_bool (eqb r.object x)
      (λ e. rewrites (rw k refl) (λ f. rw (k, e) (or_right (eqb r.field f))) (λ b. rw (k, e) refl) (λ b. rw (k, e) refl))
      (λ e. leaves (rw k refl) (λ f. rw (k, e) refl) (λ b. rw (k, e) refl) (λ b. rw (k, e) refl))
  | commits k ↦ leaves (rw k refl) (λ f. rw k refl) (λ b. rw k refl) (λ b. rw k refl)
  | aborts k ↦ leaves (rw k refl) (λ f. rw k refl) (λ b. rw k refl) (λ b. rw k refl)
  | uncreates k ↦ by_bool (eqb r.object x)
      (λ e. remakes blank (rw (k, e) refl) (λ b. rw (k, e) refl))
      (λ e. leaves (rw (k, e) refl) (λ f. rw (k, e) refl) (λ b. rw (k, e) refl) (λ b. rw (k, e) refl))
  | rest a b c d f g ↦ by_bool (sweeps r x)
      (λ e. remakes blank (rw (b, g, e) refl) (λ v. rw (b, c, g, e) refl))
      (λ e. leaves (rw (b, g, e) refl) (λ h. rw (c, b, g, e) refl) (λ v. rw (b, c, g, e) refl) (λ v. rw (b, c, g) refl))
]
  where
    or_right : (b : Bool) → (b || false) ≡ b
    or_right true = refl
    or_right false = refl

put_word : (b : Obj) (f v g : ℕ) → eqb f g ≡ false → (put b f v).word g ≡ b.word g
unfolding put
put_word b f v g e = rw (ne_eqb g f (λ z. eqb-false f g e (sym z))) refl

put_here : (b : Obj) (f v g : ℕ) → eqb f g ≡ true → (put b f v).word g ≡ v
unfolding put
put_here b f v g e = rw (eq-eqb g f (sym (eqb-true f g e))) refl

-- one record
module _ (r : Record) (x : ℕ) (b : Obj) where
  -- the cells that it writes do not depend on what stood there
  applied_occ : (c : Obj) → (makes_or_frees r x ≡ false → b.occ ≡ c.occ) → (applied r x b).occ ≡ (applied r x c).occ
  applied_occ c h = elim (does r x) [
    | remakes v m p ↦ ap (λ (o : Obj). o.occ) (p b ∙ sym (p c))
    | rewrites m w p q ↦ rw (p b, p c) (put_occ b _ _ ∙ h m ∙ sym (put_occ c _ _))
    | leaves m w p q ↦ rw (p b, p c) (h m)
  ]

  applied_word : (f : ℕ) (c : Obj) → (writes r x f ≡ false → b.word f ≡ c.word f) → (applied r x b).word f ≡ (applied r x c).word f
  applied_word f c h = elim (does r x) [
    | remakes v m p ↦ ap (λ (o : Obj). o.word f) (p b ∙ sym (p c))
    | rewrites m w p q ↦ rw (p b, p c) (by_bool (eqb r.field f)
        (λ e. put_here b _ _ f e ∙ sym (put_here c _ _ f e))
        (λ e. put_word b _ _ f e ∙ h (w f ∙ e) ∙ sym (put_word c _ _ f e)))
    | leaves m w p q ↦ rw (p b, p c) (h (w f))
  ]

  -- the others it leaves
  occ_left : makes_or_frees r x ≡ false → ((applied r x b).occ ≡ b.occ) × ((unapplied r x b).occ ≡ b.occ)
  occ_left n = elim (does r x) [
    | remakes v m p ↦ clash m n
    | rewrites m w p q ↦ (ap (λ (o : Obj). o.occ) (p b) ∙ put_occ b _ _, ap (λ (o : Obj). o.occ) (q b) ∙ put_occ b _ _)
    | leaves m w p q ↦ (ap (λ (o : Obj). o.occ) (p b), ap (λ (o : Obj). o.occ) (q b))
  ]

  word_left : (f : ℕ) → writes r x f ≡ false → ((applied r x b).word f ≡ b.word f) × ((unapplied r x b).word f ≡ b.word f)
  word_left f n = elim (does r x) [
    | remakes v m p ↦ clash m (or_false_r (eqb r.kind 3 && eqb r.object x && eqb r.field f) (makes_or_frees r x) n)
    | rewrites m w p q ↦ (let e = sym (w f) ∙ n in (ap (λ (o : Obj). o.word f) (p b) ∙ put_word b _ _ f e, ap (λ (o : Obj). o.word f) (q b) ∙ put_word b _ _ f e))
    | leaves m w p q ↦ (ap (λ (o : Obj). o.word f) (p b), ap (λ (o : Obj). o.word f) (q b))
  ]

-- the tests over a list of records
pub some_first : (f : Record → Bool) (r : Record) (rs : List Record) → some_of f (r ∷ rs) ≡ false → (f r ≡ false) × (some_of f rs ≡ false)
unfolding some_of
some_first f r rs h = (or_false_l (f r) (some_of f rs) h, or_false_r (f r) (some_of f rs) h)

-- a longer log writes no less
pub some_older : (f : Record → Bool) (new rs : List Record) → some_of f (new ++ rs) ≡ false → some_of f rs ≡ false
some_older f [] rs h = h
some_older f (r ∷ new) rs h = some_older f new rs (some_first f r (new ++ rs) h).1

pub some_drop : (f : Record → Bool) (j : ℕ) (rs : List Record) → some_of f rs ≡ false → some_of f (drop j rs) ≡ false
some_drop f zero rs h = h
some_drop f (suc j) [] h = h
some_drop f (suc j) (r ∷ rs) h = some_drop f j rs (some_first f r rs h).1

-- a cell of object x: how an object is read there, and whether a record writes it
module _ {C : Type 0} (x : ℕ) (read : Obj → C) (hits : Record → Bool) where
  -- the log decides a cell that it writes
  cell_decided : ((r : Record) (b c : Obj) → (hits r ≡ false → read b ≡ read c) → read (applied r x b) ≡ read (applied r x c))
      → (A B : ℕ → Obj) (rs : List Record) → (some_of hits rs ≡ false → read (A x) ≡ read (B x)) → read (replay A x (shapes rs)) ≡ read (replay B x (shapes rs))
  unfolding replay shapes some_of
  cell_decided law A B [] h = h refl
  cell_decided law A B (r ∷ rs) h = ap read (replay_shape A r x (shapes rs))
      ∙ law r (replay A x (shapes rs)) (replay B x (shapes rs)) (λ e. cell_decided law A B rs (λ k. h (rw (e, k) refl)))
      ∙ sym (ap read (replay_shape B r x (shapes rs)))

  -- and leaves any other
  module _ (law : (r : Record) (b : Obj) → hits r ≡ false → (read (applied r x b) ≡ read b) × (read (unapplied r x b) ≡ read b)) where
    cell_replay : (A : ℕ → Obj) (rs : List Record) → some_of hits rs ≡ false → read (replay A x (shapes rs)) ≡ read (A x)
    unfolding replay shapes
    cell_replay A [] h = refl
    cell_replay A (r ∷ rs) h = let k = some_first hits r rs h in
        ap read (replay_shape A r x (shapes rs)) ∙ (law r (replay A x (shapes rs)) k.0).0 ∙ cell_replay A rs k.1

    cell_undo : (w : ℕ → Bool) (rs : List Record) (v : Obj) → some_of hits rs ≡ false → read (undo x w (shapes rs) v) ≡ read v
    unfolding undo shapes
    cell_undo w [] v h = refl
    cell_undo w (r ∷ rs) v h = let k = some_first hits r rs h in
        ap read (undo_shape w r x (shapes rs) v) ∙ cell_undo (counted w r) rs (if (w r.txn) (unapplied r x v) v) k.1 ∙ either (w r.txn) k.0
      where
        either : (b : Bool) → hits r ≡ false → read (if b (unapplied r x v) v) ≡ read v
        either true k = (law r v k).1
        either false k = refl

-- objects that agree in every cell that no record of the list writes
pub record SameCells (rs : List Record) (A B : ℕ → Obj) : Type 0 where
  pub occ : (x : ℕ) → writes_occ rs x ≡ false → (A x).occ ≡ (B x).occ
  pub word : (x f : ℕ) → writes_word rs x f ≡ false → (A x).word f ≡ (B x).word f

-- redoing the records over either gives the same objects
pub decided : (rs : List Record) (A B : ℕ → Obj) → SameCells rs A B → (x : ℕ) → replay A x (shapes rs) ≡ replay B x (shapes rs)
decided rs A B s x = obj_ext _ _
    (cell_decided x (λ o. o.occ) (λ r. makes_or_frees r x) (λ r b c. applied_occ r x b c) A B rs (s.occ x))
    (λ f. cell_decided x (λ o. o.word f) (λ r. writes r x f) (λ r b c. applied_word r x b f c) A B rs (s.word x f))

-- cells that no record writes are left alone, by redoing and by undoing
module _ (x : ℕ) where
  pub replay_occ : (A : ℕ → Obj) (rs : List Record) → writes_occ rs x ≡ false → (replay A x (shapes rs)).occ ≡ (A x).occ
  replay_occ = cell_replay x (λ o. o.occ) (λ r. makes_or_frees r x) (λ r b. occ_left r x b)

  pub replay_word : (f : ℕ) (A : ℕ → Obj) (rs : List Record) → writes_word rs x f ≡ false → (replay A x (shapes rs)).word f ≡ (A x).word f
  replay_word f = cell_replay x (λ o. o.word f) (λ r. writes r x f) (λ r b. word_left r x b f)

  pub undo_occ : (w : ℕ → Bool) (rs : List Record) (v : Obj) → writes_occ rs x ≡ false → (undo x w (shapes rs) v).occ ≡ v.occ
  undo_occ = cell_undo x (λ o. o.occ) (λ r. makes_or_frees r x) (λ r b. occ_left r x b)

  pub undo_word : (f : ℕ) (w : ℕ → Bool) (rs : List Record) (v : Obj) → writes_word rs x f ≡ false → (undo x w (shapes rs) v).word f ≡ v.word f
  undo_word f = cell_undo x (λ o. o.word f) (λ r. writes r x f) (λ r b. word_left r x b f)

pub same_longer : (new rs : List Record) {A B : ℕ → Obj} → SameCells rs A B → SameCells (new ++ rs) A B
same_longer new rs s = record { occ = λ x h. s.occ x (some_older _ new rs h); word = λ x f h. s.word x f (some_older _ new rs h) }

pub same_drop : (j : ℕ) (rs : List Record) {A B : ℕ → Obj} → SameCells (drop j rs) A B → SameCells rs A B
same_drop j rs s = record { occ = λ x h. s.occ x (some_drop _ j rs h); word = λ x f h. s.word x f (some_drop _ j rs h) }
