-- The way back from an object to the root by the finders. Assumes nothing.
use Prim.Native.Nat.{ℕ, zero, suc, ◌+◌, ◌-◌, ◌<◌, ◌≤◌}
use native.Mathlib.Omega.{arith}
use native.Mathlib.Decide.{ℕ_discrete}
use mathlib.Core.Path.{◌≡◌, sym, ap, ◌∙◌, subst}
use mathlib.Core.List.{List}
use lib.ListN.{length, get_or, set, length-set}
use lib.Seq.{get_or-set_same, get_or-set_other, ext_get_or}
use lib.Dec.{ltb}
use borrow.Author.Tests.{ltb-true, ltb-false}
use Rattle.words.specs.Tests.{by_bool}
use Rattle.pages.specs.Geometry.{object_count, max_pages, root}
use Rattle.chain_search.specs.Ending.{Back}
use Rattle.chain_trace.specs.Tracing.{Traceable, Reversed}

-- d objects of the way are in the queue, and x is the last of them
pub record Trail (from : List ℕ) (o : ℕ) (queue : List ℕ) (x d : ℕ) : Type 0 where
  pub chain : List ℕ
  pub back : Back from o chain
  pub room : object_count max_pages ≤ length queue
  pub some : 1 ≤ d
  pub few : d ≤ length chain
  pub here : x ≡ get_or chain (length chain - d) 0
  pub words : (k : ℕ) → k < d → get_or queue k 0 ≡ get_or chain (length chain - 1 - k) 0

pub trail_start : (from queue : List ℕ) (o : ℕ) → Traceable from queue o → Trail from o (set queue 0 o) o 1
trail_start from queue o t = let b = t.back in let r = t.room in record {
  chain = t.chain;
  back = b;
  room = (let e = length-set queue 0 o in omega arith);
  some = omega arith;
  few = b.some;
  here = sym b.last;
  words = λ k l. let z : k ≡ 0 = omega arith in rw z (get_or-set_same queue 0 o 0 (omega arith) ∙ sym b.last ∙ ap (λ (i : ℕ). get_or t.chain i 0) (omega arith));
}

module _ (from queue : List ℕ) (o x d : ℕ) (t : Trail from o queue x d) where
  -- where x is in the store
  pub trail_low : 1 ≤ x
  trail_low = let s = t.some in let f = t.few in subst (λ (y : ℕ). 1 ≤ y) (sym t.here) (t.back.low (length t.chain - d) (omega arith))

  pub trail_top : x ≤ object_count max_pages
  trail_top = let s = t.some in let f = t.few in subst (λ (y : ℕ). y ≤ object_count max_pages) (sym t.here) (t.back.top (length t.chain - d) (omega arith))

  -- where x is not the root, the way goes on
  pub trail_more : (x ≡ root → ⊥) → d < length t.chain
  trail_more n = elim (ℕ_discrete (length t.chain) d) [
    | yes e ↦ (let z : length t.chain - d ≡ 0 = omega arith in absurd (n (t.here ∙ ap (λ (i : ℕ). get_or t.chain i 0) z ∙ t.back.first)))
    | no e ↦ (let f = t.few in omega arith)
  ]

  pub trail_room : (x ≡ root → ⊥) → d < object_count max_pages
  trail_room n = let m = trail_more n in let f = t.back.few in omega arith

  pub trail_next : (x ≡ root → ⊥) → Trail from o (set queue d (get_or from (x - 1) 0)) (get_or from (x - 1) 0) (d + 1)
  trail_next n =
      let m = trail_more n in
      let s = t.some in
      let f = t.back.few in
      let r = t.room in
      let p : suc (length t.chain - (d + 1)) ≡ length t.chain - d = omega arith in
      let e : get_or from (x - 1) 0 ≡ get_or t.chain (length t.chain - (d + 1)) 0 =
      ap (λ (y : ℕ). get_or from (y - 1) 0) (t.here ∙ ap (λ (i : ℕ). get_or t.chain i 0) (sym p)) ∙ t.back.finder (length t.chain - (d + 1)) (omega arith) in
      record {
        chain = t.chain;
        back = t.back;
        room = (let z = length-set queue d (get_or from (x - 1) 0) in omega arith);
        some = omega arith;
        few = omega arith;
        here = e;
        words = λ k l. elim (ℕ_discrete k d) [
          | yes z ↦ (let i : length t.chain - (d + 1) ≡ length t.chain - 1 - d = omega arith in rw z (get_or-set_same queue d (get_or from (x - 1) 0) 0 (omega arith) ∙ e ∙ ap (λ (i : ℕ). get_or t.chain i 0) i))
          | no z ↦ get_or-set_other queue d k (get_or from (x - 1) 0) 0 z ∙ t.words k (omega arith)
        ];
      }

  pub trail_done : x ≡ root → Reversed from o queue d
  trail_done e = let s = t.some in let f = t.few in elim (ℕ_discrete (length t.chain) d) [
    | yes z ↦ record { chain = t.chain; back = t.back; size = sym z; words = λ k l. t.words k l ∙ ap (λ (i : ℕ). get_or t.chain (i - 1 - k) 0) z }
    | no z ↦ absurd (t.back.once (length t.chain - d) (omega arith) (omega arith) (sym t.here ∙ e))
  ]

-- the finders settle the chain: seen from its end, and so its length
module _ (from : List ℕ) (o : ℕ) where
  same_end : (c d : List ℕ) → Back from o c → Back from o d → (k : ℕ) → k < length c → k < length d → get_or c (length c - 1 - k) 0 ≡ get_or d (length d - 1 - k) 0
  same_end c d p q zero l m = ap (λ (k : ℕ). get_or c k 0) (omega arith) ∙ p.last ∙ sym q.last ∙ ap (λ (k : ℕ). get_or d k 0) (omega arith)
  same_end c d p q (suc k) l m =
      let e = same_end c d p q k (omega arith) (omega arith) in
      let i : suc (length c - 1 - suc k) ≡ length c - 1 - k = omega arith in
      let j : suc (length d - 1 - suc k) ≡ length d - 1 - k = omega arith in
      sym (p.finder (length c - 1 - suc k) (omega arith))
      ∙ ap (λ (y : ℕ). get_or from (y - 1) 0) (ap (λ (k : ℕ). get_or c k 0) i ∙ e ∙ ap (λ (k : ℕ). get_or d k 0) (sym j))
      ∙ q.finder (length d - 1 - suc k) (omega arith)

  no_longer : (c d : List ℕ) → Back from o c → Back from o d → length c < length d → ⊥
  no_longer c d p q l =
      let s = p.some in
      let e = same_end c d p q (length c - 1) (omega arith) (omega arith) in
      let z : length c - 1 - (length c - 1) ≡ 0 = omega arith in
      q.once (length d - 1 - (length c - 1)) (omega arith) (omega arith) (sym e ∙ ap (λ (i : ℕ). get_or c i 0) z ∙ p.first)

  pub same_chain : (c d : List ℕ) → Back from o c → Back from o d → c ≡ d
  same_chain c d p q =
      let a = no_longer c d p q in
      let b = no_longer d c q p in
      let e : length c ≡ length d = elim (ℕ_discrete (length c) (length d)) [ yes z ↦ z | no z ↦ absurd (lengths a b z) ] in
      ext_get_or 0 c d e (λ i l. let x : length c - 1 - (length c - 1 - i) ≡ i = omega arith in let y : length d - 1 - (length c - 1 - i) ≡ i = omega arith in
      ap (λ (k : ℕ). get_or c k 0) (sym x) ∙ same_end c d p q (length c - 1 - i) (omega arith) (omega arith) ∙ ap (λ (k : ℕ). get_or d k 0) y)
    where
      lengths : {k l : ℕ} → (k < l → ⊥) → (l < k → ⊥) → (k ≡ l → ⊥) → ⊥
      lengths {k} {l} a b z = by_bool (ltb k l) (λ t. a (ltb-true k l t)) (λ t. b (let h = ltb-false k l t in omega arith))
