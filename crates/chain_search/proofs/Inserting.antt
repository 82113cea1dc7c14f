-- What enters stands at the end, and the words before it that are not lower move up past it. Assumes nothing.
use Prim.Native.Nat.{ℕ, suc, ◌-◌, ◌<◌, ◌≤◌}
use native.Mathlib.Omega.{arith}
use native.Mathlib.Decide.{ℕ_discrete}
use mathlib.Core.Path.{◌≡◌, ◌∙◌}
use mathlib.Core.List.{List}
use lib.ListN.{length, get_or, set, length-set}
use lib.Seq.{get_or-set_same, get_or-set_other}
use Rattle.chain_search.specs.Entering.{Inserted}

-- x stands at k, and the words of q from k to tail, all of them x or above it, have moved up
pub record Moved (q : List ℕ) (tail x k : ℕ) (r : List ℕ) : Type 0 where
  pub size : length r ≡ length q
  pub before : (j : ℕ) → j < k → get_or r j 0 ≡ get_or q j 0
  pub here : get_or r k 0 ≡ x
  pub after : (j : ℕ) → k ≤ j → j < tail → get_or r (suc j) 0 ≡ get_or q j 0
  pub higher : (j : ℕ) → k ≤ j → j < tail → x ≤ get_or q j 0

pub moved_none : (q : List ℕ) (tail x : ℕ) → tail < length q → Moved q tail x tail (set q tail x)
moved_none q tail x l = record {
  size = length-set q tail x;
  before = λ j c. get_or-set_other q tail j x 0 (λ z. omega arith);
  here = get_or-set_same q tail x 0 l;
  after = λ j c d. absurd (omega arith);
  higher = λ j c d. absurd (omega arith);
}

module _ (q : List ℕ) (tail x k : ℕ) (r : List ℕ) (v : Moved q tail x k r) (room : tail < length q) where
  last : 0 < k → get_or r (k - 1) 0 ≡ get_or q (k - 1) 0
  last l = v.before (k - 1) (omega arith)

  pub moved_next : 0 < k → k ≤ tail → x ≤ get_or r (k - 1) 0 → Moved q tail x (k - 1) (set (set r k (get_or r (k - 1) 0)) (k - 1) x)
  moved_next l b h = let s = v.size in let e = last l in let y = get_or r (k - 1) 0 in let u = length-set r k y in record {
    size = length-set (set r k y) (k - 1) x ∙ u ∙ v.size;
    before = λ j c. get_or-set_other (set r k y) (k - 1) j x 0 (λ z. omega arith) ∙ get_or-set_other r k j y 0 (λ z. omega arith) ∙ v.before j (omega arith);
    here = get_or-set_same (set r k y) (k - 1) x 0 (omega arith);
    after = λ j c d. get_or-set_other (set r k y) (k - 1) (suc j) x 0 (λ z. omega arith) ∙ (elim (ℕ_discrete j (k - 1)) [
      | yes z ↦ (let w : suc j ≡ k = omega arith in rw (w, z) (get_or-set_same r k y 0 (omega arith) ∙ e))
      | no z ↦ get_or-set_other r k (suc j) y 0 (λ w. z (omega arith)) ∙ v.after j (omega arith) d
    ]);
    higher = λ j c d. elim (ℕ_discrete j (k - 1)) [
      | yes z ↦ rw z (omega arith)
      | no z ↦ v.higher j (omega arith) d
    ];
  }

  pub inserted : (first : ℕ) → first ≤ k → k ≤ tail → (first < k → get_or r (k - 1) 0 < x) → Inserted q first tail x r
  inserted first l b h = record {
    size = v.size;
    place = k;
    low = l;
    top = b;
    before = v.before;
    here = v.here;
    after = v.after;
    higher = v.higher;
    lower = λ c. let e = last (omega arith) in let y = h c in omega arith;
  }
