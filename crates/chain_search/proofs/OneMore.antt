-- One more object passes a test: where it stands among the others. Assumes nothing.
use Prim.Native.Nat.{ℕ, zero, suc, ◌+◌, ◌-◌, ◌<◌, ◌≤◌}
use native.Mathlib.Omega.{arith}
use native.Mathlib.Decide.{ℕ_discrete}
use mathlib.Core.Path.{◌≡◌, sym, ap, ◌∙◌, subst}
use mathlib.Core.Bool.{Bool, true, false}
use mathlib.Core.List.{List, [], ◌∷◌, ◌++◌, append_assoc, append-nil}
use lib.ListN.{length, get_or, length-append, get_or-append}
use lib.Seq.{get_or-append_seam, get_or-append-add}
use lib.Dec.{ltb}
use borrow.Author.Tests.{ltb-true, ltb-false}
use Rattle.words.specs.Tests.{by_bool}
use Rattle.reach.specs.Search.{passing}
use Rattle.chain_laws.specs.Passing.{passing_in, passing_out, passing_same, passing_passes, passing_stands, passing_ascends}

-- test g is test f, and x passes too
pub record OneMore (f g : ℕ → Bool) (x : ℕ) : Type 0 where
  pub before : f x ≡ false
  pub now : g x ≡ true
  pub others : (y : ℕ) → (y ≡ x → ⊥) → g y ≡ f y

module _ (f g : ℕ → Bool) (x : ℕ) (one : OneMore f g x) (low : 1 ≤ x) where
  abbrev lowers : List ℕ
  lowers = passing f (x - 1)

  -- the lower ones, and the others
  record Split (m : ℕ) : Type 0 where
    rest : List ℕ
    without : passing f m ≡ lowers ++ rest
    with_it : passing g m ≡ lowers ++ (x ∷ rest)

  split_here : (m : ℕ) → x ≡ suc m → Split (suc m)
  split_here m e = let z : m ≡ x - 1 = omega arith in record {
    rest = [];
    without = passing_out f m (subst (λ (y : ℕ). f y ≡ false) e one.before) ∙ ap (passing f) z ∙ sym (append-nil lowers);
    with_it = passing_in g m (subst (λ (y : ℕ). g y ≡ true) e one.now) ∙ ap (λ (l : List ℕ). l ++ (suc m ∷ [])) (passing_same g f m (λ y a b. one.others y (λ q. omega arith)) ∙ ap (passing f) z) ∙ ap (λ (y : ℕ). lowers ++ (y ∷ [])) (sym e);
  }

  split_more : (m : ℕ) → (suc m ≡ x → ⊥) → Split m → Split (suc m)
  split_more m d s = let same = one.others (suc m) d in by_bool (f (suc m))
      (λ t. record {
        rest = s.rest ++ (suc m ∷ []);
        without = passing_in f m t ∙ ap (λ (l : List ℕ). l ++ (suc m ∷ [])) s.without ∙ append_assoc lowers s.rest (suc m ∷ []);
        with_it = passing_in g m (same ∙ t) ∙ ap (λ (l : List ℕ). l ++ (suc m ∷ [])) s.with_it ∙ append_assoc lowers (x ∷ s.rest) (suc m ∷ []);
      })
      (λ t. record { rest = s.rest; without = passing_out f m t ∙ s.without; with_it = passing_out g m (same ∙ t) ∙ s.with_it })

  split : (m : ℕ) → x ≤ m → Split m
  split zero l = absurd (omega arith)
  split (suc m) l = elim (ℕ_discrete x (suc m)) [ yes e ↦ split_here m e | no e ↦ split_more m (λ z. e (sym z)) (split m (omega arith)) ]

  module _ (m : ℕ) (top : x ≤ m) where
    lowers_length : length lowers ≤ length (passing f m)
    lowers_length = let s = split m top in let e = ap length s.without ∙ length-append lowers s.rest in omega arith

    at_lower : (i : ℕ) → i < length lowers → get_or (passing f m) i 0 ≡ get_or lowers i 0
    at_lower i l = let s = split m top in ap (λ (k : List ℕ). get_or k i 0) s.without ∙ get_or-append lowers s.rest 0 i l

    -- a place between those below x and those not below it is behind the lower ones
    pub place_settled : (p : ℕ) → p ≤ length (passing f m) → ((i : ℕ) → p ≤ i → i < length (passing f m) → x ≤ get_or (passing f m) i 0) →
        (0 < p → get_or (passing f m) (p - 1) 0 < x) → p ≡ length lowers
    place_settled p l h k = elim (ℕ_discrete p (length lowers)) [
      | yes e ↦ e
      | no e ↦ by_bool (ltb p (length lowers))
          (λ t. absurd (let b = ltb-true p (length lowers) t in let n = lowers_length in let y = h p (omega arith) (omega arith) in let z = at_lower p b in let w = (passing_passes f (x - 1) p b).top in omega arith))
          (λ t. absurd (let b = ltb-false p (length lowers) t in let y = k (omega arith) in
          let q = passing_passes f m (p - 1) (omega arith) in
          let s = passing_stands f (x - 1) (get_or (passing f m) (p - 1) 0) (record { low = q.low; top = omega arith; yes = q.yes }) in
          let a = passing_ascends f m s.place (p - 1) (let u = s.below in omega arith) (omega arith) in let z = at_lower s.place s.below in let w = s.here in omega arith))
    ]

    -- x stands there, and the others as they stood
    pub more_length : length (passing g m) ≡ suc (length (passing f m))
    more_length = let s = split m top in
        let a = ap length s.without ∙ length-append lowers s.rest in
        let b = ap length s.with_it ∙ length-append lowers (x ∷ s.rest) in omega arith

    pub more_lower : (i : ℕ) → i < length lowers → get_or (passing g m) i 0 ≡ get_or (passing f m) i 0
    more_lower i l = let s = split m top in ap (λ (k : List ℕ). get_or k i 0) s.with_it ∙ get_or-append lowers (x ∷ s.rest) 0 i l ∙ sym (at_lower i l)

    pub more_here : get_or (passing g m) (length lowers) 0 ≡ x
    more_here = let s = split m top in ap (λ (k : List ℕ). get_or k (length lowers) 0) s.with_it ∙ get_or-append_seam lowers x s.rest 0

    pub more_higher : (i : ℕ) → length lowers ≤ i → get_or (passing g m) (suc i) 0 ≡ get_or (passing f m) i 0
    more_higher i l = let s = split m top in let k = i - length lowers in
        let a : suc i ≡ length lowers + suc k = omega arith in let b : length lowers + k ≡ i = omega arith in
        ap (λ (l : List ℕ). get_or l (suc i) 0) s.with_it
        ∙ ap (λ (j : ℕ). get_or (lowers ++ (x ∷ s.rest)) j 0) a
        ∙ get_or-append-add lowers (x ∷ s.rest) (suc k) 0
        ∙ sym (get_or-append-add lowers s.rest k 0)
        ∙ ap (λ (j : ℕ). get_or (lowers ++ s.rest) j 0) b
        ∙ ap (λ (l : List ℕ). get_or l i 0) (sym s.without)
