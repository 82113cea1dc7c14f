-- The objects that pass a test, in ascending number: which they are, where they stand, and one more of them. Assumes nothing.
use Rattle.std.specs.Prelude.{ℕ, zero, suc, ◌+◌, ◌<◌, ◌≤◌, ◌≡◌, refl, Bool, true, false, List, [], ◌∷◌, ◌++◌, length, get_or}
use Rattle.std.proofs.Common.{arith, sym, ap, ◌∙◌}
use Rattle.std.proofs.Math.Decide.{ℕ_discrete}
use Rattle.std.proofs.Math.ListN.{get_or-append}
use Rattle.std.proofs.lemmas.List.{get_or_at}
use Rattle.words.specs.Tests.{count, by_bool}
use Rattle.reach.specs.Search.{passing}
use Rattle.chain_laws.specs.Order.{link_length}

module _ (l : List ℕ) (x : ℕ) where
  snoc_left : (i : ℕ) → i < length l → get_or (l ++ (x ∷ [])) i 0 ≡ get_or l i 0
  snoc_left i h = get_or-append l (x ∷ []) 0 i h

  snoc_last : (i : ℕ) → i ≡ length l → get_or (l ++ (x ∷ [])) i 0 ≡ x
  snoc_last i e = get_or_at l x [] 0 i (sym e)

-- one object more to look at
module _ (f : ℕ → Bool) (k : ℕ) where
  pub passing_in : f (suc k) ≡ true → passing f (suc k) ≡ passing f k ++ (suc k ∷ [])
  unfolding passing
  passing_in e = rw e

  pub passing_out : f (suc k) ≡ false → passing f (suc k) ≡ passing f k
  unfolding passing
  passing_out e = rw e

pub passing_nobody : (f : ℕ → Bool) → passing f 0 ≡ []
unfolding passing
passing_nobody f = refl

pub passing_same : (f g : ℕ → Bool) (m : ℕ) → ((x : ℕ) → 1 ≤ x → x ≤ m → f x ≡ g x) → passing f m ≡ passing g m
unfolding passing
passing_same f g zero h = refl
passing_same f g (suc m) h = rw (passing_same f g m (λ x a b. h x a (omega arith)), h (suc m) (omega arith) (omega arith))

pub passing_none : (f : ℕ → Bool) (m : ℕ) → ((x : ℕ) → f x ≡ false) → passing f m ≡ []
unfolding passing
passing_none f zero h = refl
passing_none f (suc m) h = rw (h (suc m)) (passing_none f m h)

pub passing_length : (f : ℕ → Bool) (m : ℕ) → length (passing f m) ≡ count (λ k. f (suc k)) m
unfolding passing count
passing_length f zero = refl
passing_length f (suc m) = let e = passing_length f m in by_bool (f (suc m))
    (λ t. rw t (link_length (passing f m) (suc m) ∙ (omega arith)))
    (λ t. rw t (e ∙ (omega arith)))

-- who stands there: at place i, some x from 1 to m that passes
pub record Passes (f : ℕ → Bool) (m x : ℕ) : Type 0 where
  pub low : 1 ≤ x
  pub top : x ≤ m
  pub yes : f x ≡ true

pub passing_passes : (f : ℕ → Bool) (m i : ℕ) → i < length (passing f m) → Passes f m (get_or (passing f m) i 0)
passing_passes f zero i l = absurd (let e = ap length (passing_nobody f) in omega arith)
passing_passes f (suc m) i l = by_bool (f (suc m))
    (λ t. let e = passing_in f m t in let s = link_length (passing f m) (suc m) in let z = ap length e in elim (ℕ_discrete i (length (passing f m))) [
      | yes q ↦ rw (e, snoc_last (passing f m) (suc m) i q) (record { low = omega arith; top = omega arith; yes = t })
      | no q ↦ rw (e, snoc_left (passing f m) (suc m) i (omega arith)) (wider (passing_passes f m i (omega arith)))
    ])
    (λ t. let e = passing_out f m t in let z = ap length e in rw e (wider (passing_passes f m i (omega arith))))
  where
    wider : {x : ℕ} → Passes f m x → Passes f (suc m) x
    wider p = record { low = p.low; top = (let h = p.top in omega arith); yes = p.yes }

-- whoever passes stands somewhere
pub record Stands (l : List ℕ) (x : ℕ) : Type 0 where
  pub place : ℕ
  pub below : place < length l
  pub here : get_or l place 0 ≡ x

pub passing_stands : (f : ℕ → Bool) (m x : ℕ) → Passes f m x → Stands (passing f m) x
passing_stands f zero x p = absurd (let h = p.low in let k = p.top in omega arith)
passing_stands f (suc m) x p = elim (ℕ_discrete x (suc m)) [
  | yes q ↦ (let t : f (suc m) ≡ true = rw q at p.yes in let s = link_length (passing f m) (suc m) in
      rw (passing_in f m t) (record { place = length (passing f m); below = omega arith; here = snoc_last (passing f m) (suc m) _ refl ∙ sym q }))
  | no q ↦ (let h = p.top in let r = passing_stands f m x (record { low = p.low; top = omega arith; yes = p.yes }) in
      let b = r.below in let s = link_length (passing f m) (suc m) in by_bool (f (suc m))
      (λ t. rw (passing_in f m t) (record { place = r.place; below = omega arith; here = snoc_left (passing f m) (suc m) _ b ∙ r.here }))
      (λ t. rw (passing_out f m t) r))
]

pub passing_ascends : (f : ℕ → Bool) (m i j : ℕ) → i < j → j < length (passing f m) → get_or (passing f m) i 0 < get_or (passing f m) j 0
passing_ascends f zero i j h l = absurd (let e = ap length (passing_nobody f) in omega arith)
passing_ascends f (suc m) i j h l = by_bool (f (suc m))
    (λ t. let e = passing_in f m t in let s = link_length (passing f m) (suc m) in let z = ap length e in elim (ℕ_discrete j (length (passing f m))) [
      | yes q ↦ rw (e, snoc_last (passing f m) (suc m) j q, snoc_left (passing f m) (suc m) i (omega arith)) (let b = (passing_passes f m i (omega arith)).top in omega arith)
      | no q ↦ rw (e, snoc_left (passing f m) (suc m) j (omega arith), snoc_left (passing f m) (suc m) i (omega arith)) (passing_ascends f m i j h (omega arith))
    ])
    (λ t. let e = passing_out f m t in let z = ap length e in rw e (passing_ascends f m i j h (omega arith)))
