-- The changes left of a transaction that is open: it has begun in the log. Assumes nothing.
use Prim.Native.Nat.{ℕ, zero, suc, ◌+◌, ◌≤◌}
use native.Mathlib.Omega.{arith}
use mathlib.Core.Path.{◌≡◌, refl, sym, ◌∙◌}
use mathlib.Core.Bool.{Bool, true, false, not, ◌&&◌}
use mathlib.Core.List.{List}
use lib.ListN.{length, length-drop}
use lib.Dec.{eqb}
use borrow.Author.Tests.{eqb-true, eqb-false, eq-eqb, ne_eqb, not-true}
use Rattle.words.specs.Tests.{any, by_bool, clash, and_split, or_l, or_r, or_false}
use Rattle.words.specs.Bits.{bit, without_bit, bit_none, bit_with, bit_without}
use Rattle.records.specs.declared.Record.{Record}
use Rattle.records.specs.Records.{record_at, is_begin, is_change, changes_object}
use Rattle.records.specs.Order.{open_in, open_next}
use Rattle.records.specs.Changes.{changes_in, changes_left}
use Rattle.recovery_proof.proofs.Shapes.{begins, creates, sets, commits, aborts, uncreates, rest, kind_of}

-- an open transaction after a record: its begin, or it was open before and the record does not end it
data Stays (o t : ℕ) (r : Record) : Type 0 where
  opens : is_begin r t ≡ true → Stays o t r
  goes : is_begin r t ≡ false → bit o t ≡ true → Stays o t r

stays : (o t : ℕ) (r : Record) → bit (open_next o r) t ≡ true → Stays o t r
stays o t r h = elim (kind_of r) [
  | begins k ↦ by_bool (eqb r.txn t)
      (λ e. opens (rw (k, e) refl))
      (λ e. goes (rw (k, e) refl) (sym (bit_with o r.txn t ∙ rw (apart e) (or_false (bit o t))) ∙ rw k at h))
  | creates k ↦ goes (rw k refl) (rw k at h)
  | sets k ↦ goes (rw k refl) (rw k at h)
  | commits k ↦ ended (rw k at h) (rw k refl)
  | aborts k ↦ ended (rw k at h) (rw k refl)
  | uncreates k ↦ goes (rw k refl) (rw k at h)
  | rest a b c d f g ↦ goes (rw a refl) (rw (a, d, f) at h)
]
  where
    apart : eqb r.txn t ≡ false → eqb t r.txn ≡ false
    apart e = ne_eqb t r.txn (λ z. eqb-false r.txn t e (sym z))

    ended : bit (without_bit o r.txn) t ≡ true → is_begin r t ≡ false → Stays o t r
    ended h n = let p = and_split (bit o t) (not (eqb t r.txn)) (sym (bit_without o r.txn t) ∙ h) in by_bool (eqb r.txn t)
        (λ e. clash (eq-eqb t r.txn (sym (eqb-true r.txn t e))) (not-true _ p.1))
        (λ e. goes n p.0)

module _ (g : List ℕ) (t : ℕ) where
  -- an open transaction has begun, and its changes are those after its last begin
  begun : (c : ℕ) → bit (open_in g c) t ≡ true → any (λ i. is_begin (record_at g i) t) c ≡ true
  unfolding open_in any
  begun zero h = clash h (bit_none t)
  begun (suc i) h = elim (stays (open_in g i) t (record_at g i) h) [
    | opens b ↦ or_r (any (λ i. is_begin (record_at g i) t) i) (is_begin (record_at g i) t) b
    | goes n o ↦ or_l (any (λ i. is_begin (record_at g i) t) i) (is_begin (record_at g i) t) (begun i o)
  ]

  pub changes_left_law : (u : ℕ → Bool) (c : ℕ) → bit (open_in g c) t ≡ true → changes_left u g c t ≡ changes_in u g t c
  unfolding changes_left
  changes_left_law u c h = rw (begun c h) refl

  -- each has a record of its own beside the begin
  pub changes_few : (u : ℕ → Bool) (c : ℕ) → bit (open_in g c) t ≡ true → length (changes_in u g t c) + 1 ≤ c
  unfolding open_in changes_in
  changes_few u zero h = clash h (bit_none t)
  changes_few u (suc i) h = let r = record_at g i in let before = changes_in u g t i in elim (stays (open_in g i) t r h) [
    | opens b ↦ rw b (omega arith)
    | goes n o ↦ (let few = changes_few u i o in rw n (by_bool (u i && changes_object r t)
        (λ e. rw e (let d = length-drop 1 before in omega arith))
        (λ e. rw e (by_bool (is_change r t) (λ k. rw k (omega arith)) (λ k. rw k (omega arith))))))
  ]
