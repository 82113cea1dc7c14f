-- The search gives the chain that is ahead of all others, or there is none. Assumes nothing.
use Rattle.std.specs.Prelude.{ℕ, zero, suc, ◌<◌, ◌≤◌, ◌≡◌, refl, true, false, List, [], ◌∷◌, ◌++◌, length, get_or, eqb}
use Rattle.std.proofs.Common.{arith, sym, ap, ◌∙◌, subst, inl, inr, eqb-true, eq-eqb}
use Rattle.std.proofs.Math.Decide.{ℕ_discrete}
use Rattle.words.specs.Tests.{by_bool, clash, or_false_l, or_false_r}
use Rattle.words.specs.Counts.{count_most}
use Rattle.pages.specs.Geometry as geometry
use Rattle.pages.specs.Geometry.{object_count}
use Rattle.reach.specs.Reaching as reaching
use Rattle.reach.specs.Reaching.{Reached, next}
use Rattle.reach.specs.Chains as chains
use Rattle.reach.specs.Chains.{Chain, link, Least}
use Rattle.reach.specs.Search.{last_of, found, searched, chain_to, chain_in}
use Rattle.chain_laws.specs.Order.{UpTo, up_linked, up_trans}
use Rattle.chain_laws.specs.Queues.{found_leads, leads_found}
use Rattle.chain_laws.specs.Links.{Within}
use Rattle.chain_laws.specs.Searching.{Covers, Queue, last_root, searched_queue}

-- the chain that a queue gives for o stands at the first place that leads there
pub record FirstTo (q : List (List ℕ)) (o j : ℕ) : Type 0 where
  pub place : ℕ
  pub before : place ≤ j
  pub leads : last_of (get_or q place []) ≡ o
  pub here : chain_to q o ≡ get_or q place []

pub first_to : (q : List (List ℕ)) (o j : ℕ) → j < length q → last_of (get_or q j []) ≡ o → FirstTo q o j
unfolding chain_to
first_to [] o j l e = absurd (omega arith)
first_to (c ∷ q) o zero l e = record { place = 0; before = omega arith; leads = e; here = rw (eq-eqb (last_of c) o e) }
first_to (c ∷ q) o (suc j) l e = by_bool (eqb (last_of c) o)
    (λ t. record { place = 0; before = omega arith; leads = eqb-true (last_of c) o t; here = rw t })
    (λ t. let r = first_to q o j (omega arith) e in record { place = suc r.place; before = (let k = r.before in omega arith); leads = r.leads; here = rw t r.here })

pub none_to : (q : List (List ℕ)) (o : ℕ) → found q o ≡ false → chain_to q o ≡ []
unfolding found chain_to
none_to [] o h = refl
none_to (c ∷ q) o h = rw (or_false_l (eqb (last_of c) o) (found q o) h) (none_to q o (or_false_r (eqb (last_of c) o) (found q o) h))

-- what more chains come behind a queue that leads to o changes nothing
pub still_to : (q r : List (List ℕ)) (o : ℕ) → found q o ≡ true → chain_to (q ++ r) o ≡ chain_to q o
unfolding found chain_to
still_to [] r o h = clash h refl
still_to (c ∷ q) r o h = by_bool (eqb (last_of c) o) (λ t. rw t) (λ t. rw t (still_to q r o (rw t at h)))

module _ (a : List ℕ) (n : ℕ) (some : 1 ≤ n) (within : Within a n) where
  abbrev all : List (List ℕ)
  all = searched a n (object_count n)

  queue : Queue a n (object_count n) all
  queue = searched_queue a n some within (object_count n)

  -- no chain is left to take
  all_taken : length all ≤ object_count n
  all_taken = let s = queue.size in let l = count_most (λ k. found all (suc k)) (object_count n) in omega arith

  -- every chain is covered
  covered : (o : ℕ) (d : List ℕ) → Chain a o d → Covers all o d
  covered o _ chains.root = let f = queue.first in record { place = 0; below = queue.some; leads = ap last_of f ∙ last_root; ahead = inl (sym f) }
  covered o _ (link {u} {x} {c} f p r) =
      let k = covered u c p in
      let z = queue.closed k.place f x (let b = k.below in let t = all_taken in omega arith) k.below (subst (λ (y : ℕ). reaching.Refers a y f x) (sym k.leads) r) in
      record {
        place = z.place;
        below = z.below;
        leads = z.leads;
        ahead = up_trans (get_or all z.place []) (get_or all k.place [] ++ (x ∷ [])) (c ++ (x ∷ [])) z.ahead (up_linked (get_or all k.place []) c x k.ahead);
      }

  up_places : (i j : ℕ) → i ≤ j → j < length all → UpTo (get_or all i []) (get_or all j [])
  up_places i j l b = elim (ℕ_discrete i j) [
    | yes e ↦ inl (ap (λ (k : ℕ). get_or all k []) (sym e))
    | no e ↦ inr (queue.sorted i j (omega arith) b)
  ]

  module _ (o : ℕ) where
    pub chain_found : (d : List ℕ) → Chain a o d → found all o ≡ true
    chain_found d p = let k = covered o d p in subst (λ (y : ℕ). found all y ≡ true) k.leads (leads_found all k.place k.below)

    -- 'show a chain .. with the fewest links'
    pub shown_least : found all o ≡ true → Least a o (chain_in a n o)
    shown_least h =
        let w = found_leads all o h in
        let f = first_to all o w.place w.below w.here in
        record {
          chain = subst (Chain a o) (sym f.here) (subst (λ (y : ℕ). Chain a y (get_or all f.place [])) f.leads (queue.chains f.place (let k = f.before in let l = w.below in omega arith)));
          ahead = λ d p.
              let k = covered o d p in
              let g = first_to all o k.place k.below k.leads in
              up_trans (chain_in a n o) (get_or all k.place []) d (subst (λ (c : List ℕ). UpTo c (get_or all k.place [])) (sym g.here) (up_places g.place k.place g.before k.below)) k.ahead;
        }

    -- 'or none'
    pub shown_none : found all o ≡ false → (chain_in a n o ≡ []) × ((d : List ℕ) → Chain a o d → ⊥)
    shown_none h = (none_to all o h, λ d p. clash (chain_found d p) h)

-- chains and reaching
pub chain_reached : {a : List ℕ} {o : ℕ} {c : List ℕ} → Chain a o c → Reached a o
chain_reached chains.root = reaching.root
chain_reached (link f p r) = next f (chain_reached p) r

pub record SomeChain (a : List ℕ) (o : ℕ) : Type 0 where
  pub objects : List ℕ
  pub chain : Chain a o objects

pub reached_chain : {a : List ℕ} {o : ℕ} → Reached a o → SomeChain a o
reached_chain reaching.root = record { objects = geometry.root ∷ []; chain = chains.root }
reached_chain (next f p r) = let k = reached_chain p in record { objects = _; chain = link f k.chain r }
