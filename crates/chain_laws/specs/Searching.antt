-- What holds of the queue at each step of the search. Assumes nothing.
use Rattle.std.specs.Prelude.{ℕ, zero, suc, ◌+◌, ◌-◌, ◌<◌, ◌≤◌, ◌≡◌, Bool, true, false, not, ◌&&◌, List, [], ◌∷◌, ◌++◌, length, get_or, ltb, eqb}
use Rattle.std.proofs.Common.{arith, sym, ap, ◌∙◌, subst, inl, inr, lt-ltb, le-ltb, ltb-true, ltb-false, ne_eqb}
use Rattle.std.proofs.Math.Decide.{ℕ_discrete}
use Rattle.std.proofs.Math.Path.{refl}
use Rattle.std.proofs.lemmas.Bool.{not-true}
use Rattle.words.specs.Tests.{count, by_bool, clash, and_split, or_false}
use Rattle.pages.specs.Geometry.{object_count, root}
use Rattle.reach.specs.Reaching.{Refers, refers_to}
use Rattle.reach.specs.Chains.{Chain, Ahead, link}
use Rattle.reach.specs.Search.{last_of, found, passing, extended, followed, searched}
use Rattle.chain_laws.specs.Order.{UpTo, ahead_trans, link_length, ahead_longer, ahead_linked, ahead_lower}
use Rattle.chain_laws.specs.Passing.{passing_passes, passing_stands, passing_ascends}
use Rattle.chain_laws.specs.Queues.{Place, old, more, grown_place, last_linked, found_leads, leads_found, grown_length, grown_old, grown_new, grown_size}
use Rattle.chain_laws.specs.Links.{Names, refers_names, refers_told, Object, Within}
use Rattle.reach.specs.Chains as chains

-- a chain is one link more than chain j of the queue, which was among the first h
pub record Linked (h : ℕ) (q : List (List ℕ)) (c : List ℕ) : Type 0 where
  pub place : ℕ
  pub before : place < h
  pub object : ℕ
  pub here : c ≡ get_or q place [] ++ (object ∷ [])

-- a chain of the queue leads to x, and is c or ahead of it
pub record Covers (q : List (List ℕ)) (x : ℕ) (c : List ℕ) : Type 0 where
  pub place : ℕ
  pub below : place < length q
  pub leads : last_of (get_or q place []) ≡ x
  pub ahead : UpTo (get_or q place []) c

-- the queue of page area a, of n pages, once its first h chains were taken: as many chains as objects found; the first is the root's, and no
-- other one leads there; each is a chain, of objects; each but the first is a link more than one that was taken; each is ahead of those
-- behind it; and one link more than one that was taken is covered
pub record Queue (a : List ℕ) (n h : ℕ) (q : List (List ℕ)) : Type 0 where
  pub size : length q ≡ count (λ k. found q (suc k)) (object_count n)
  pub some : 0 < length q
  pub first : get_or q 0 [] ≡ root ∷ []
  pub once : (i : ℕ) → 0 < i → i < length q → last_of (get_or q i []) ≡ root → ⊥
  pub chains : (i : ℕ) → i < length q → Chain a (last_of (get_or q i [])) (get_or q i [])
  pub object : (i : ℕ) → i < length q → Object n (last_of (get_or q i []))
  pub linked : (i : ℕ) → 0 < i → i < length q → Linked h q (get_or q i [])
  pub sorted : (i j : ℕ) → i < j → j < length q → Ahead (get_or q i []) (get_or q j [])
  pub closed : (i f x : ℕ) → i < h → i < length q → Refers a (last_of (get_or q i [])) f x → Covers q x (get_or q i [] ++ (x ∷ []))

-- the test of those that chain c finds
abbrev pub finds : List ℕ → List (List ℕ) → List ℕ → ℕ → Bool
finds a q c x = refers_to a (last_of c) x && not (found q x)

pub last_root : last_of (root ∷ []) ≡ root
unfolding last_of
last_root = refl

pub chain_some : {a : List ℕ} {o : ℕ} {c : List ℕ} → Chain a o c → 0 < length c
chain_some chains.root = omega arith
chain_some (link {u} {x} {c} f p r) = let e = link_length c x in omega arith

-- chain h of the queue is taken
module _ (a : List ℕ) (n h : ℕ) (q : List (List ℕ)) (v : Queue a n h q) (within : Within a n) (taken : h < length q) where
  abbrev new : List ℕ
  new = passing (finds a q (get_or q h [])) (object_count n)

  abbrev after : List (List ℕ)
  after = q ++ extended (get_or q h []) (passing (finds a q (get_or q h [])) (object_count n))

  at_old : (i : ℕ) → i < length q → get_or after i [] ≡ get_or q i []
  at_old i l = grown_old q (get_or q h []) new i l

  at_new : (k : ℕ) → k < length new → get_or after (length q + k) [] ≡ get_or q h [] ++ (get_or new k 0 ∷ [])
  at_new k l = grown_new q (get_or q h []) new k l

  -- whom a link leads to
  record Found (x : ℕ) : Type 0 where
    names : Names a (last_of (get_or q h [])) x
    fresh : found q x ≡ false

  new_found : (k : ℕ) → k < length new → Found (get_or new k 0)
  new_found k l =
      let p = passing_passes (finds a q (get_or q h [])) (object_count n) k l in
      let s = and_split _ _ p.yes in
      record { names = refers_names a _ _ s.0; fresh = not-true _ s.1 }

  fresh_root : (x : ℕ) → found q x ≡ false → x ≡ root → ⊥
  fresh_root x e z = clash (subst (λ (y : ℕ). found q y ≡ true) (ap last_of v.first ∙ last_root ∙ sym z) (leads_found q 0 v.some)) e

  -- what stood in the queue is ahead of a new link
  old_ahead : (x i : ℕ) → i < length q → Ahead (get_or q i []) (get_or q h [] ++ (x ∷ []))
  old_ahead x i l = elim (ℕ_discrete i h) [
    | yes e ↦ subst (λ (j : ℕ). Ahead (get_or q j []) (get_or q h [] ++ (x ∷ []))) (sym e) (ahead_longer (get_or q h []) x)
    | no e ↦ by_bool (ltb i h)
        (λ t. ahead_trans (get_or q i []) (get_or q h []) (get_or q h [] ++ (x ∷ [])) (v.sorted i h (ltb-true i h t) taken) (ahead_longer (get_or q h []) x))
        (λ t. let b = ltb-false i h t in let r = v.linked i (omega arith) l in
        subst (λ (d : List ℕ). Ahead d (get_or q h [] ++ (x ∷ []))) (sym r.here) (ahead_linked (get_or q r.place []) (get_or q h []) r.object x (v.sorted r.place h r.before taken)))
  ]

  -- who was found before chain h is reached by a chain ahead of a link of it
  old_covers : (x : ℕ) → found q x ≡ true → Covers after x (get_or q h [] ++ (x ∷ []))
  old_covers x e = let r = found_leads q x e in let z = at_old r.place r.below in record {
    place = r.place;
    below = (let l = r.below in let k = grown_length q (get_or q h []) new in omega arith);
    leads = ap last_of z ∙ r.here;
    ahead = inr (subst (λ (d : List ℕ). Ahead d (get_or q h [] ++ (x ∷ []))) (sym z) (old_ahead x r.place r.below));
  }

  new_covers : (x : ℕ) → Object n x → refers_to a (last_of (get_or q h [])) x ≡ true → found q x ≡ false → Covers after x (get_or q h [] ++ (x ∷ []))
  new_covers x o e f =
      let s = passing_stands (finds a q (get_or q h [])) (object_count n) x (record { low = o.low; top = o.top; yes = rw (e, f) }) in
      let z : get_or after (length q + s.place) [] ≡ get_or q h [] ++ (x ∷ []) = at_new s.place s.below ∙ ap (λ (y : ℕ). get_or q h [] ++ (y ∷ [])) s.here in
      record {
        place = length q + s.place;
        below = (let l = s.below in let k = grown_length q (get_or q h []) new in omega arith);
        leads = ap last_of z ∙ last_linked (get_or q h []) x;
        ahead = inl (sym z);
      }

  taken_covers : (f x : ℕ) → Refers a (last_of (get_or q h [])) f x → Covers after x (get_or q h [] ++ (x ∷ []))
  taken_covers f x r = by_bool (found q x)
      (λ t. old_covers x t)
      (λ t. new_covers x (within _ f x (v.object h taken) r) (refers_told a _ f x r) t)

  still_covers : (x : ℕ) (c : List ℕ) → Covers q x c → Covers after x c
  still_covers x c r = let z = at_old r.place r.below in record {
    place = r.place;
    below = (let l = r.below in let k = grown_length q (get_or q h []) new in omega arith);
    leads = ap last_of z ∙ r.leads;
    ahead = subst (λ (d : List ℕ). UpTo d c) (sym z) r.ahead;
  }

  by_place : (P : ℕ → List ℕ → Type 0) → ((i : ℕ) → i < length q → P i (get_or q i [])) → ((k : ℕ) → k < length new → P (length q + k) (get_or q h [] ++ (get_or new k 0 ∷ []))) →
      (i : ℕ) → i < length after → P i (get_or after i [])
  by_place P f g i l = elim (grown_place q (get_or q h []) new i l) as (λ (j : ℕ) (_ : Place q new j). P j (get_or after j [])) [
    | old i b ↦ subst (P i) (sym (at_old i b)) (f i b)
    | more k b ↦ subst (P (length q + k)) (sym (at_new k b)) (g k b)
  ]

  still_linked : (c : List ℕ) → Linked h q c → Linked (suc h) after c
  still_linked c r = let b = r.before in record { place = r.place; before = omega arith; object = r.object; here = r.here ∙ ap (λ (d : List ℕ). d ++ (r.object ∷ [])) (sym (at_old r.place (omega arith))) }

  new_linked : (x : ℕ) → Linked (suc h) after (get_or q h [] ++ (x ∷ []))
  new_linked x = record { place = h; before = omega arith; object = x; here = ap (λ (d : List ℕ). d ++ (x ∷ [])) (sym (at_old h taken)) }

  more_sorted : (i j : ℕ) → i < j → Place q new i → Place q new j → Ahead (get_or after i []) (get_or after j [])
  more_sorted i j l (old _ a') (old _ b) = rw (at_old i a', at_old j b) (v.sorted i j l b)
  more_sorted i j l (old _ a') (more k b) = rw (at_old i a', at_new k b) (old_ahead (get_or new k 0) i a')
  more_sorted i j l (more k b) (old _ a') = absurd (omega arith)
  more_sorted i j l (more k b) (more k' b') = rw (at_new k b, at_new k' b') (ahead_lower (get_or q h []) _ _ (passing_ascends (finds a q (get_or q h [])) (object_count n) k k' (omega arith) b'))

  more_closed : (i f x : ℕ) → i < suc h → Refers a (last_of (get_or after i [])) f x → Covers after x (get_or after i [] ++ (x ∷ []))
  more_closed i f x b r = elim (ℕ_discrete i h) [
    | yes e ↦ (let z : get_or after i [] ≡ get_or q h [] = ap (λ (j : ℕ). get_or after j []) e ∙ at_old h taken in
        subst (λ (c : List ℕ). Covers after x (c ++ (x ∷ []))) (sym z) (taken_covers f x (subst (λ (c : List ℕ). Refers a (last_of c) f x) z r)))
    | no e ↦ (let l : i < length q = omega arith in let z = at_old i l in
        subst (λ (c : List ℕ). Covers after x (c ++ (x ∷ []))) (sym z) (still_covers x _ (v.closed i f x (omega arith) l (subst (λ (c : List ℕ). Refers a (last_of c) f x) z r))))
  ]

  pub taken_queue : Queue a n (suc h) after
  taken_queue = record {
    size = grown_size q (get_or q h []) (finds a q (get_or q h [])) (object_count n) v.size (λ x e. not-true _ (and_split (refers_to a (last_of (get_or q h [])) x) (not (found q x)) e).1);
    some = (let k = grown_length q (get_or q h []) new in let s = v.some in omega arith);
    first = at_old 0 v.some ∙ v.first;
    once = λ i p l. by_place (λ i c. 0 < i → last_of c ≡ root → ⊥) (λ i b p. v.once i p b) (λ k b p e. fresh_root _ (new_found k b).fresh (sym (last_linked (get_or q h []) _) ∙ e)) i l p;
    chains = by_place (λ i c. Chain a (last_of c) c) v.chains
        (λ k b. let r = (new_found k b).names in subst (λ (y : ℕ). Chain a y (get_or q h [] ++ (get_or new k 0 ∷ []))) (sym (last_linked (get_or q h []) _)) (link r.word (v.chains h taken) r.refers));
    object = by_place (λ i c. Object n (last_of c)) v.object
        (λ k b. let p = passing_passes (finds a q (get_or q h [])) (object_count n) k b in subst (Object n) (sym (last_linked (get_or q h []) _)) (record { low = p.low; top = p.top }));
    linked = λ i p l. by_place (λ i c. 0 < i → Linked (suc h) after c) (λ i b p. still_linked _ (v.linked i p b)) (λ k b p. new_linked _) i l p;
    sorted = λ i j l b. more_sorted i j l (grown_place q (get_or q h []) new i (omega arith)) (grown_place q (get_or q h []) new j b);
    closed = λ i f x b l r. more_closed i f x b r;
  }

-- no chain is left to take
pub rest_queue : (a : List ℕ) (n h : ℕ) (q : List (List ℕ)) → Queue a n h q → length q ≤ h → Queue a n (suc h) q
rest_queue a n h q v l = record {
  size = v.size;
  some = v.some;
  first = v.first;
  once = v.once;
  chains = v.chains;
  object = v.object;
  linked = λ i p b. let r = v.linked i p b in record { place = r.place; before = (let k = r.before in omega arith); object = r.object; here = r.here };
  sorted = v.sorted;
  closed = λ i f x b k r. v.closed i f x (omega arith) k r;
}

-- at first
pub found_root : (x : ℕ) → found ((root ∷ []) ∷ []) x ≡ eqb root x
unfolding found last_of
found_root x = or_false (eqb root x)

count_root : (m : ℕ) → 1 ≤ m → count (λ k. found ((root ∷ []) ∷ []) (suc k)) m ≡ 1
unfolding count
count_root zero l = absurd (omega arith)
count_root (suc zero) l = rw (found_root 1)
count_root (suc (suc m)) l = rw (count_root (suc m) (omega arith), found_root (suc (suc m)), ne_eqb root (suc (suc m)) (λ z. omega arith))

-- the search, step by step
module _ (a : List ℕ) (n : ℕ) where
  pub searched_first : searched a n 0 ≡ (root ∷ []) ∷ []
  unfolding searched
  searched_first = refl

  pub searched_next : (h : ℕ) → h < length (searched a n h) → searched a n (suc h) ≡ followed a n (searched a n h) (get_or (searched a n h) h [])
  unfolding searched
  searched_next h l = rw (lt-ltb h (length (searched a n h)) l)

  pub searched_rest : (h : ℕ) → length (searched a n h) ≤ h → searched a n (suc h) ≡ searched a n h
  unfolding searched
  searched_rest h l = rw (le-ltb h (length (searched a n h)) l)

  pub followed_finds : (q : List (List ℕ)) (c : List ℕ) → followed a n q c ≡ q ++ extended c (passing (finds a q c) (object_count n))
  unfolding followed
  followed_finds q c = refl

module _ (a : List ℕ) (n : ℕ) (some : 1 ≤ n) where
  first_queue : Queue a n 0 ((root ∷ []) ∷ [])
  first_queue = record {
    size = sym (count_root (object_count n) (omega arith));
    some = omega arith;
    first = refl;
    once = λ i p l. absurd (omega arith);
    chains = λ i l. let z : 0 ≡ i = omega arith in subst (λ (j : ℕ). Chain a (last_of (get_or ((root ∷ []) ∷ []) j [])) (get_or ((root ∷ []) ∷ []) j [])) z (subst (λ (y : ℕ). Chain a y (root ∷ [])) (sym last_root) chains.root);
    object = λ i l. let z : 0 ≡ i = omega arith in subst (λ (j : ℕ). Object n (last_of (get_or ((root ∷ []) ∷ []) j []))) z (subst (Object n) (sym last_root) (record { low = omega arith; top = omega arith }));
    linked = λ i p l. absurd (omega arith);
    sorted = λ i j l b. absurd (omega arith);
    closed = λ i f x b l r. absurd (omega arith);
  }

  -- the queue at every step
  pub searched_queue : Within a n → (h : ℕ) → Queue a n h (searched a n h)
  searched_queue w zero = subst (Queue a n 0) (sym (searched_first a n)) first_queue
  searched_queue w (suc h) = let q = searched a n h in let v = searched_queue w h in by_bool (ltb h (length q))
      (λ t. let l = ltb-true h (length q) t in subst (Queue a n (suc h)) (sym (searched_next a n h l ∙ followed_finds a n q (get_or q h []))) (taken_queue a n h q v w l))
      (λ t. let l = ltb-false h (length q) t in subst (Queue a n (suc h)) (sym (searched_rest a n h l)) (rest_queue a n h q v l))
