-- The sweep lines of a pass step: one for the page whose slots were released, none where the maps stay. Assumes nothing.
use Prim.Native.Nat.{ℕ, zero, suc, ◌*◌, ◌^◌, ◌<◌}
use native.Mathlib.Omega.{arith}
use native.Mathlib.Decide.{ℕ_discrete}
use mathlib.Core.Path.{◌≡◌, refl, sym, ap, ◌∙◌}
use mathlib.Core.Bool.{Bool, true, false, not, ◌&&◌}
use mathlib.Core.List.{List, ◌∷◌}
use lib.ListN.{length}
use borrow.Author.Tests.{eq-eqb, ne_eqb, lt-ltb}
use Rattle.words.specs.Tests.{by_bool}
use Rattle.words.specs.Bits.{bit, bit_none, map_same, map_bits}
use Rattle.pages.specs.Objects.{map_at, taken, released}
use Rattle.records.specs.Records.{sweep_of}
use Rattle.machine_view.proofs.Slots.{within, released_occ}
use Rattle.book.specs.Lines.{Line, line}
use Rattle.book.specs.Feeding.{cleared_slots, sweep_lines}
use Rattle.pages.specs.Geometry.{page_words, slot_count}

module _ (before after : List ℕ) where
  pub cleared_is : (p m : ℕ) → m < 2 ^ slot_count → ((s : ℕ) → s < slot_count → (taken before p s && not (taken after p s)) ≡ bit m s) → cleared_slots before after p ≡ m
  unfolding cleared_slots
  cleared_is p m h k = map_same (λ s. taken before p s && not (taken after p s)) (bit m) 16 k ∙ map_bits 16 m h

  pub cleared_none : (p : ℕ) → ((s : ℕ) → s < slot_count → (taken before p s && not (taken after p s)) ≡ false) → cleared_slots before after p ≡ 0
  cleared_none p h = cleared_is p 0 (omega arith) (λ s l. h s l ∙ sym (bit_none s))

  pub sweep_none : (ls : List Line) (k : ℕ) → ((q : ℕ) → q < k → cleared_slots before after q ≡ 0) → sweep_lines before after ls k ≡ ls
  unfolding sweep_lines
  sweep_none ls zero h = refl
  sweep_none ls (suc q) h = rw (h q (omega arith)) (sweep_none ls q (λ r l. h r (omega arith)))

  pub sweep_one : (ls : List Line) (p m : ℕ) → cleared_slots before after p ≡ m → (m ≡ 0 → ⊥) → (k : ℕ) → p < k
      → ((q : ℕ) → q < k → (q ≡ p → ⊥) → cleared_slots before after q ≡ 0) → sweep_lines before after ls k ≡ line (sweep_of p m) 0 ∷ ls
  unfolding sweep_lines
  sweep_one ls p m e some zero l h = absurd (omega arith)
  sweep_one ls p m e some (suc q) l h = elim (ℕ_discrete q p) [
    | yes z ↦ rw (z, e, ne_eqb m 0 some) (ap (λ (r : List Line). line (sweep_of p m) 0 ∷ r) (sweep_none ls p (λ r d. h r (omega arith) (λ y. omega arith))))
    | no z ↦ rw (h q (omega arith) z) (sweep_one ls p m e some q (omega arith) (λ r d. h r (omega arith)))
  ]

never : (b : Bool) → (b && not b) ≡ false
never true = refl
never false = refl

stays : (b : Bool) → (b && not (b && true)) ≡ false
stays true = refl
stays false = refl

-- where the maps stay
pub sweep_kept : (before after : List ℕ) (ls : List Line) (n : ℕ) → ((q : ℕ) → q < n → map_at after q ≡ map_at before q) → sweep_lines before after ls n ≡ ls
sweep_kept before after ls n h = sweep_none before after ls n (λ q l. cleared_none before after q (λ s k. rw (h q l) (never (taken before q s))))

-- where slots of page p that were taken are released
pub sweep_released : (n : ℕ) (a : List ℕ) → length a ≡ page_words * n → (ls : List Line) (p m : ℕ) → p < n → m < 2 ^ slot_count → (m ≡ 0 → ⊥)
    → ((s : ℕ) → s < slot_count → bit m s ≡ true → taken a p s ≡ true) → sweep_lines a (released a p m) ls n ≡ line (sweep_of p m) 0 ∷ ls
sweep_released n a len ls p m hp hm some inside = sweep_one a (released a p m) ls p m
    (cleared_is a (released a p m) p m hm (λ s l. there s l)) some n hp
    (λ q l d. cleared_none a (released a p m) q (λ s k. elsewhere q s d))
  where
    now : (q s : ℕ) → taken (released a p m) q s ≡ (taken a q s && not (within p m 16 q s))
    now q s = released_occ n a len p m hp 16 (omega arith) q s

    there : (s : ℕ) → s < slot_count → (taken a p s && not (taken (released a p m) p s)) ≡ bit m s
    there s l = rw (now p s, eq-eqb p p refl, lt-ltb s 16 l) (by_bool (bit m s)
        (λ e. rw (e, inside s l e))
        (λ e. rw e (stays (taken a p s))))

    elsewhere : (q s : ℕ) → (q ≡ p → ⊥) → (taken a q s && not (taken (released a p m) q s)) ≡ false
    elsewhere q s d = rw (now q s, ne_eqb q p d) (stays (taken a q s))
