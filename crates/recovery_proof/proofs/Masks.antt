-- The mask of transactions that reopening undoes, and the lines' count of those not ended: on open transactions they are the same.
-- Assumes nothing.
use Prim.Native.Nat.{ℕ}
use mathlib.Core.Path.{◌≡◌, refl, ap, ◌∙◌}
use mathlib.Core.Bool.{Bool, true, false, not, ◌&&◌, ◌||◌}
use lib.Dec.{eqb}
use borrow.Author.Tests.{eqb-true, not-true}
use Rattle.words.specs.Tests.{if, clash, and_false}
use Rattle.words.specs.Bits.{bit, without_bit, bit_with, bit_without}
use Rattle.records.specs.declared.Record.{Record}
use Rattle.records.specs.Order.{open_next, in_order}
use Rattle.records.specs.Soundness.{names_object}
use Rattle.collector.specs.Bits.{◌and◌, ◌or◌}
use Rattle.recovery_proof.proofs.Shapes.{begins, creates, sets, commits, aborts, uncreates, rest, kind_of, counted}

-- the mask before the record: 'each leaves the mask at its begin'
abbrev pub mask_before : ℕ → Record → ℕ
mask_before m r = if (eqb r.kind 1) (without_bit m r.txn) m

module _ (m o : ℕ) (w : ℕ → Bool) (r : Record) (h : (t : ℕ) → bit m t ≡ (bit (open_next o r) t && w t)) where
  -- the transactions open at the record, of those that the lines count, are those of the mask
  pub mask_before_law : in_order o r ≡ true → (t : ℕ) → bit (mask_before m r) t ≡ (bit o t && counted w r t)
  unfolding ◌and◌ ◌or◌
  mask_before_law ok t = elim (kind_of r) [
    | begins k ↦ rw k (bit_without m r.txn t ∙ ap (λ (b : Bool). b && not (eqb t r.txn)) (rw k at (h t)) ∙ ap (λ (b : Bool). b && w t && not (eqb t r.txn)) (bit_with o r.txn t)
        ∙ begun (bit o t) (w t) (eqb t r.txn) (λ e. not-true _ (rw (← (eqb-true t r.txn e), k) at ok)))
    | creates k ↦ rw k (rw k at (h t))
    | sets k ↦ rw k (rw k at (h t))
    | commits k ↦ rw k (rw k at (h t) ∙ ap (λ (b : Bool). b && w t) (bit_without o r.txn t) ∙ over (bit o t) (w t) (eqb t r.txn))
    | aborts k ↦ rw k (rw k at (h t) ∙ ap (λ (b : Bool). b && w t) (bit_without o r.txn t) ∙ over (bit o t) (w t) (eqb t r.txn))
    | uncreates k ↦ rw k (rw k at (h t))
    | rest a b c d e f ↦ rw (a, d, e) (rw (a, d, e) at (h t))
  ]
    where
      begun : (a b c : Bool) → (c ≡ true → a ≡ false) → (((a || c) && b) && not c) ≡ (a && (b or c))
      begun a b true n = rw (n refl) (and_false b)
      begun true true false n = refl
      begun true false false n = refl
      begun false b false n = refl

      over : (a b c : Bool) → ((a && not c) && b) ≡ (a && (not c and b))
      over true b true = refl
      over true b false = refl
      over false b c = refl

  -- a record that changes an object is of an open transaction
  pub mask_here : names_object r ≡ true → in_order o r ≡ true → bit m r.txn ≡ w r.txn
  mask_here n ok = elim (kind_of r) [
    | begins k ↦ clash n (rw k refl)
    | creates k ↦ rw k at (h r.txn) ∙ rw (rw k at ok) refl
    | sets k ↦ rw k at (h r.txn) ∙ rw (rw k at ok) refl
    | commits k ↦ clash n (rw k refl)
    | aborts k ↦ clash n (rw k refl)
    | uncreates k ↦ rw k at (h r.txn) ∙ rw (rw k at ok) refl
    | rest a b c d f g ↦ clash n (rw (b, c, g) refl)
  ]
