-- Down the log for the changes of a transaction that are left: what the walk does at each record, and what it leaves to do. An undoing
-- record is met before the change that it undoes, so the walk keeps how many such changes are still to come. Assumes nothing.
use Prim.Native.Nat.{ℕ, zero, suc, ◌+◌, ◌-◌, ◌<◌, ◌≤◌}
use Rattle.std.specs.Prelude.{◌≡◌, refl, Bool, not, ◌&&◌, ◌||◌, List, [], ◌∷◌, length, drop, eqb, Option, Some, None}
use Rattle.std.proofs.Common.{sym, ◌∙◌, add-one}
use Rattle.std.proofs.Math.Bool.{true, false}
use Rattle.std.proofs.Math.Seq.{drop-nil}
use native.Mathlib.Omega.{arith}
use borrow.Author.Tests.{eqb-true, ne_eqb}
use Rattle.words.specs.Tests.{if, by_bool, clash}
use Rattle.records.specs.declared.Record.{Record}
use Rattle.records.specs.Records.{record_at, is_begin, is_change, changes_object}
use Rattle.records.specs.Changes.{changes_in, changes_left}
use Rattle.record_laws.specs.RecordLaws.{begun_in, changes_next, changes_next_law}

-- the turn at record r, for t: None where it is a change that is left, or else how many changes further down are undone above. b: going
-- back appended it; p: how many were undone before it
unfoldable pub turn_at : Bool → Record → ℕ → ℕ → Option ℕ
turn_at b r t p = if (b && changes_object r t) (Some (p + 1)) (if (is_change r t) (if (eqb p 0) None (Some (p - 1))) (Some p))

-- the changes left from record i down, by the turn at it and by those below
abbrev pub turned : Option ℕ → ℕ → List ℕ → List ℕ
turned None i l = i ∷ l
turned (Some q) i l = drop q l

-- the changes of t among the first i records that are left once p are undone, where t began among the first c
unfoldable pub below : (ℕ → Bool) → List ℕ → ℕ → ℕ → ℕ → ℕ → List ℕ
below u g c t i p = if (begun_in g t c) (drop p (changes_in u g t i)) []

-- laws

drop_one : (p : ℕ) (l : List ℕ) → drop p (drop 1 l) ≡ drop (p + 1) l
drop_one p [] = drop-nil p ∙ sym (drop-nil (p + 1))
drop_one p (x ∷ l) = rw add-one

drop_change : (p i : ℕ) (l : List ℕ) → drop p (i ∷ l) ≡ turned (if (eqb p 0) None (Some (p - 1))) i l
drop_change zero i l = refl
drop_change (suc p) i l = let e : suc p - 1 ≡ p = omega arith in rw (ne_eqb (suc p) 0 (λ z. omega arith), e)

-- the tests in the order that the code has them: first a change that going back did not append. a: it did not append r
pub plain_change : (a : Bool) (r : Record) (t : ℕ) → a && is_change r t ≡ true → (not a && changes_object r t ≡ false) × (is_change r t ≡ true)
plain_change true r t h = (refl, h)
plain_change false r t h = clash h refl

less : (x y z k : Bool) → (x || y || z) && k ≡ false → (x || y) && k ≡ false
less true y z k h = h
less false true z k h = h
less false false z k h = refl

pub no_change : (a : Bool) (r : Record) (t : ℕ) → a && is_change r t ≡ false → not a && changes_object r t ≡ false → is_change r t ≡ false
no_change true r t h k = h
no_change false r t h k = less (eqb r.kind 2) (eqb r.kind 3) (eqb r.kind 6) (eqb r.txn t) k

module _ (b : Bool) (r : Record) (t p : ℕ) where
  pub turn_next : (i : ℕ) (l : List ℕ) → is_begin r t ≡ false → drop p (changes_next b t i r l) ≡ turned (turn_at b r t p) i l
  unfolding turn_at
  turn_next i l n = by_bool (b && changes_object r t)
      (λ e. rw (n, e) (drop_one p l))
      (λ e. by_bool (is_change r t) (λ f. rw (n, e, f) (drop_change p i l)) (λ f. rw (n, e, f)))

  pub turn_noted : b && changes_object r t ≡ true → Some (p + 1) ≡ turn_at b r t p
  unfolding turn_at
  turn_noted e = rw e

  module _ (e : b && changes_object r t ≡ false) where
    pub turn_other : is_change r t ≡ false → Some p ≡ turn_at b r t p
    unfolding turn_at
    turn_other f = rw (e, f)

    pub turn_left : is_change r t ≡ true → p ≡ 0 → None ≡ turn_at b r t p
    unfolding turn_at
    turn_left f z = rw (e, f, z)

    pub turn_undone : is_change r t ≡ true → (p ≡ 0 → ⊥) → Some (p - 1) ≡ turn_at b r t p
    unfolding turn_at
    turn_undone f z = rw (e, f, ne_eqb p 0 z)

  -- what a turn tells of its record
  abbrev Tells : Option ℕ → Type 0
  Tells None = (is_change r t ≡ true) × (p ≡ 0)
  Tells (Some q) = q ≤ p + 1

  tells : Tells (turn_at b r t p)
  unfolding turn_at
  tells = by_bool (b && changes_object r t)
      (λ e. rw e (omega arith))
      (λ e. by_bool (is_change r t)
      (λ f. by_bool (eqb p 0) (λ z. rw (e, f, z) (f, eqb-true p 0 z)) (λ z. rw (e, f, z) (omega arith)))
      (λ f. rw (e, f) (omega arith)))

  pub left_tells : turn_at b r t p ≡ None → (is_change r t ≡ true) × (p ≡ 0)
  left_tells e = rw e at tells

  pub past_tells : (q : ℕ) → turn_at b r t p ≡ Some q → q ≤ p + 1
  past_tells q e = rw e at tells

-- all changes that are left
pub below_all : (u : ℕ → Bool) (g : List ℕ) (c t : ℕ) → changes_left u g c t ≡ below u g c t c 0
unfolding below changes_left
below_all u g c t = refl

module _ (u : ℕ → Bool) (g : List ℕ) (c t : ℕ) where
  none_there : (b : Bool) (p : ℕ) → 0 < length (if b (drop {A = ℕ} p []) []) → ⊥
  none_there true p h = let z : 0 < length {A = ℕ} [] = rw drop-nil at h in omega arith
  none_there false p h = omega arith

  pub below_some : (i p : ℕ) → 0 < length (below u g c t i p) → 0 < i
  unfolding below changes_in
  below_some zero p h = absurd (none_there (begun_in g t c) p h)
  below_some (suc i) p h = omega arith

  -- some changes are left from record i down: one turn
  module _ (i p : ℕ) (some : 0 < length (below u g c t (i + 1) p)) where
    begun : begun_in g t c ≡ true
    unfolding below
    begun = by_bool (begun_in g t c) (λ e. e) (λ e. absurd (none_there false p (rw e at some)))

    go_on : drop p (changes_in u g t (i + 1)) ≡ turned (turn_at (u i) (record_at g i) t p) i (changes_in u g t i)
    unfolding below
    go_on = by_bool (is_begin (record_at g i) t)
        (λ n. absurd (none_there true p (rw (begun, ← changes_next_law u g t i, n) at some)))
        (λ n. rw (← changes_next_law u g t i) (turn_next (u i) (record_at g i) t p i (changes_in u g t i) n))

    pub below_left : turn_at (u i) (record_at g i) t p ≡ None → below u g c t (i + 1) p ≡ i ∷ below u g c t i p
    unfolding below
    below_left e = let z = (left_tells (u i) (record_at g i) t p e).1 in rw (begun, go_on, e, z)

    pub below_past : (q : ℕ) → turn_at (u i) (record_at g i) t p ≡ Some q → below u g c t (i + 1) p ≡ below u g c t i q
    unfolding below
    below_past q e = rw (begun, go_on, e)
