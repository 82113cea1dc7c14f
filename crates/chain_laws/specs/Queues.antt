-- A queue of chains: whom its chains lead to, and the queue behind which come the links of one chain. Assumes nothing.
use Rattle.std.specs.Prelude.{ℕ, zero, suc, ◌+◌, ◌-◌, ◌<◌, ◌≤◌, ◌≡◌, refl, Bool, true, false, ◌||◌, List, [], ◌∷◌, ◌++◌, length, get_or, eqb, ltb}
use Rattle.std.proofs.Common.{arith, sym, ap, ◌∙◌, subst, inl, inr, length-append, get_or-append-add, eqb-true, eq-eqb, ltb-true, ltb-false}
use Rattle.std.proofs.Math.ListN.{get_or-append}
use Rattle.words.specs.Tests.{count, by_bool, clash, or_cases, or_l, or_r, count_same}
use Rattle.words.specs.Counts.{count_either}
use Rattle.reach.specs.Search.{last_of, found, passing, extended}
use Rattle.chain_laws.specs.Passing.{passing_length, passing_passes, passing_stands}

pub last_linked : (c : List ℕ) (x : ℕ) → last_of (c ++ (x ∷ [])) ≡ x
unfolding last_of
last_linked [] x = refl
last_linked (u ∷ []) x = refl
last_linked (u ∷ v ∷ c) x = last_linked (v ∷ c) x

pub found_append : (q r : List (List ℕ)) (x : ℕ) → found (q ++ r) x ≡ found q x || found r x
unfolding found
found_append [] r x = refl
found_append (c ∷ q) r x = by_bool (eqb (last_of c) x) (λ e. rw e) (λ e. rw e (found_append q r x))

-- a chain of the queue leads to x: where it stands
pub record Leads (q : List (List ℕ)) (x : ℕ) : Type 0 where
  pub place : ℕ
  pub below : place < length q
  pub here : last_of (get_or q place []) ≡ x

pub found_leads : (q : List (List ℕ)) (x : ℕ) → found q x ≡ true → Leads q x
unfolding found
found_leads [] x h = clash h refl
found_leads (c ∷ q) x h = elim (or_cases (eqb (last_of c) x) (found q x) h) [
  | inl e ↦ record { place = 0; below = omega arith; here = eqb-true (last_of c) x e }
  | inr e ↦ (let r = found_leads q x e in record { place = suc r.place; below = (let l = r.below in omega arith); here = r.here })
]

pub leads_found : (q : List (List ℕ)) (i : ℕ) → i < length q → found q (last_of (get_or q i [])) ≡ true
unfolding found
leads_found [] i l = absurd (omega arith)
leads_found (c ∷ q) zero l = or_l _ (found q (last_of c)) (eq-eqb (last_of c) (last_of c) refl)
leads_found (c ∷ q) (suc i) l = or_r (eqb (last_of c) (last_of (get_or q i []))) _ (leads_found q i (omega arith))

-- the chains with one link more
extended_length : (c l : List ℕ) → length (extended c l) ≡ length l
unfolding extended
extended_length c [] = refl
extended_length c (x ∷ l) = ap suc (extended_length c l)

extended_at : (c l : List ℕ) (i : ℕ) → i < length l → get_or (extended c l) i [] ≡ c ++ (get_or l i 0 ∷ [])
unfolding extended
extended_at c [] i h = absurd (omega arith)
extended_at c (x ∷ l) zero h = refl
extended_at c (x ∷ l) (suc i) h = extended_at c l i (omega arith)

-- the queue with them behind it
module _ (q : List (List ℕ)) (c l : List ℕ) where
  pub grown_length : length (q ++ extended c l) ≡ length q + length l
  grown_length = length-append q (extended c l) ∙ ap (λ (k : ℕ). length q + k) (extended_length c l)

  pub grown_old : (i : ℕ) → i < length q → get_or (q ++ extended c l) i [] ≡ get_or q i []
  grown_old i h = get_or-append q (extended c l) [] i h

  pub grown_new : (i : ℕ) → i < length l → get_or (q ++ extended c l) (length q + i) [] ≡ c ++ (get_or l i 0 ∷ [])
  grown_new i h = get_or-append-add q (extended c l) i [] ∙ extended_at c l i h

-- a place of that queue is an old one, or one of the links
pub data Place (q : List (List ℕ)) (l : List ℕ) : ℕ → Type 0 where
  old : (i : ℕ) → i < length q → Place q l i
  more : (k : ℕ) → k < length l → Place q l (length q + k)

pub grown_place : (q : List (List ℕ)) (c l : List ℕ) (i : ℕ) → i < length (q ++ extended c l) → Place q l i
grown_place q c l i h = by_bool (ltb i (length q))
    (λ t. old i (ltb-true i (length q) t))
    (λ t. let b = ltb-false i (length q) t in let e = grown_length q c l in let z : length q + (i - length q) ≡ i = omega arith in subst (Place q l) z (more (i - length q) (omega arith)))

-- .. where the links go to the objects that pass a test
module _ (q : List (List ℕ)) (c : List ℕ) (f : ℕ → Bool) (m : ℕ) where
  links_found : (x : ℕ) → 1 ≤ x → x ≤ m → found (extended c (passing f m)) x ≡ f x
  links_found x a b = by_bool (f x) (λ t. rw t (passes_found t)) (λ t. rw t (by_bool (found (extended c (passing f m)) x) (λ e. clash (found_passes e) t) (λ e. e)))
    where
      passes_found : f x ≡ true → found (extended c (passing f m)) x ≡ true
      passes_found t = let s = passing_stands f m x (record { low = a; top = b; yes = t }) in
          let e : last_of (get_or (extended c (passing f m)) s.place []) ≡ x = ap last_of (extended_at c (passing f m) s.place s.below) ∙ last_linked c _ ∙ s.here in
          subst (λ (y : ℕ). found (extended c (passing f m)) y ≡ true) e (leads_found (extended c (passing f m)) s.place (let k = s.below in let z = extended_length c (passing f m) in omega arith))

      found_passes : found (extended c (passing f m)) x ≡ true → f x ≡ true
      found_passes h = let r = found_leads (extended c (passing f m)) x h in
          let k : r.place < length (passing f m) = (let l = r.below in let z = extended_length c (passing f m) in omega arith) in
          let e : get_or (passing f m) r.place 0 ≡ x = sym (last_linked c _) ∙ ap last_of (sym (extended_at c (passing f m) r.place k)) ∙ r.here in
          subst (λ (y : ℕ). f y ≡ true) e (passing_passes f m r.place k).yes

  pub grown_found : (x : ℕ) → 1 ≤ x → x ≤ m → found (q ++ extended c (passing f m)) x ≡ found q x || f x
  grown_found x a b = found_append q (extended c (passing f m)) x ∙ ap (λ (t : Bool). found q x || t) (links_found x a b)

  -- as many chains as objects that they lead to
  pub grown_size : length q ≡ count (λ k. found q (suc k)) m → ((x : ℕ) → f x ≡ true → found q x ≡ false) →
      length (q ++ extended c (passing f m)) ≡ count (λ k. found (q ++ extended c (passing f m)) (suc k)) m
  grown_size s h =
      grown_length q c (passing f m)
      ∙ ap (λ (k : ℕ). k + length (passing f m)) s
      ∙ ap (λ (k : ℕ). count (λ k. found q (suc k)) m + k) (passing_length f m)
      ∙ sym (count_either (λ k. f (suc k)) (λ k. found q (suc k)) m (λ k l. h (suc k)))
      ∙ sym (count_same (λ k. found (q ++ extended c (passing f m)) (suc k)) (λ k. found q (suc k) || f (suc k)) m (λ k l. grown_found (suc k) (omega arith) (omega arith)))
