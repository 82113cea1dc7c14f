-- The search begins with the root, and ends: the finders lead back along the chain of an object that was found. Assumes nothing.
use Prim.Native.Nat.{ℕ, zero, suc, ◌+◌, ◌-◌, ◌<◌, ◌≤◌}
use native.Mathlib.Omega.{arith}
use native.Mathlib.Decide.{ℕ_discrete}
use native.Mathlib.Numerals.{add-one}
use mathlib.Core.Path.{◌≡◌, refl, sym, ap, ◌∙◌, subst}
use mathlib.Core.Bool.{Bool, true, false, ◌||◌}
use mathlib.Core.List.{List, [], ◌∷◌, ◌++◌}
use lib.ListN.{length, get_or, set, length-set, get_or-append}
use lib.Seq.{get_or-set_same, get_or-set_other, get_or_at}
use lib.Dec.{ltb}
use borrow.Author.Tests.{ltb-true, ltb-false, ne_eqb}
use Rattle.words.specs.Tests.{by_bool, clash, or_false}
use Rattle.words.specs.Counts.{count_most}
use Rattle.pages.specs.Geometry.{max_pages, object_count, root}
use Rattle.reach.specs.Search.{last_of, found, passing, extended, searched, chain_to, chain_in}
use Rattle.chain_laws.specs.Order.{link_length}
use Rattle.chain_laws.specs.Passing.{passing_none}
use Rattle.chain_laws.specs.Queues.{found_leads, found_append, grown_length}
use Rattle.chain_laws.specs.Links.{Object, sound_within}
use Rattle.chain_laws.specs.Searching.{Queue, last_root, found_root, searched_first, searched_next, searched_rest, followed_finds, finds, searched_queue}
use Rattle.chain_laws.specs.Answers.{first_to, none_to, still_to}
use Rattle.chain_search.specs.Following.{SearchedArea, has_finder, Finder, Between, Shows}
use Rattle.chain_search.specs.Ending.{Back, Ended}
use Rattle.chain_search.proofs.Steps.{shows_tail}

-- the root is its own finder
module _ (a : List ℕ) (n : ℕ) (from queue : List ℕ) (zeros : (i : ℕ) → get_or from i 0 ≡ 0) (from_room : object_count max_pages ≤ length from) (queue_room : object_count max_pages ≤ length queue) where
  start_marks : (x : ℕ) → Object n x → has_finder (set from 0 root) x ≡ found ((root ∷ []) ∷ []) x || false
  start_marks x o = rw (found_root x) (elim (ℕ_discrete root x) [
    | yes e ↦ rw (← e, get_or-set_same from 0 root 0 (omega arith))
    | no e ↦ (let l = o.low in rw (get_or-set_other from 0 (x - 1) root 0 (λ z. e (omega arith)), zeros (x - 1), ne_eqb root x e))
  ])

  start : Between n ((root ∷ []) ∷ []) 0 (λ x. false) (set from 0 root) (set queue 0 root) 1
  start = let e = ap length (passing_none (λ x. false) (object_count n) (λ x. refl)) in record {
    from_room = (let z = length-set from 0 root in omega arith);
    queue_room = (let z = length-set queue 0 root in omega arith);
    size = omega arith;
    old = λ i l. let z : i ≡ 0 = omega arith in rw z (get_or-set_same queue 0 root 0 (omega arith) ∙ sym last_root);
    new = λ i l. absurd (omega arith);
    marks = start_marks;
    finders = λ i p l. absurd (omega arith);
    found_here = λ x o t. clash t refl;
  }

  pub search_start : Shows a n 0 (set from 0 root) (set queue 0 root) 1
  search_start = subst (λ (q : List (List ℕ)). Between n q 0 (λ x. false) (set from 0 root) (set queue 0 root) 1) (sym (searched_first a n)) start

-- what is found stays so, and where nobody is left the queue stays as it is
module _ (a : List ℕ) (n : ℕ) where
  found_step : (h o : ℕ) → found (searched a n h) o ≡ true → (found (searched a n (suc h)) o ≡ true) × (chain_to (searched a n (suc h)) o ≡ chain_to (searched a n h) o)
  found_step h o f = let q = searched a n h in by_bool (ltb h (length q))
      (λ t. let e = searched_next a n h (ltb-true h (length q) t) ∙ followed_finds a n q (get_or q h []) in let r = extended (get_or q h []) (passing (finds a q (get_or q h [])) (object_count n)) in
      (ap (λ (k : List (List ℕ)). found k o) e ∙ found_append q r o ∙ ap (λ (b : Bool). b || found r o) f, ap (λ (k : List (List ℕ)). chain_to k o) e ∙ still_to q r o f))
      (λ t. let e = searched_rest a n h (ltb-false h (length q) t) in (ap (λ (k : List (List ℕ)). found k o) e ∙ f, ap (λ (k : List (List ℕ)). chain_to k o) e))

  chain_stays : (h o : ℕ) → found (searched a n h) o ≡ true → (k : ℕ) → (found (searched a n (k + h)) o ≡ true) × (chain_to (searched a n (k + h)) o ≡ chain_to (searched a n h) o)
  chain_stays h o f zero = let z : 0 + h ≡ h = omega arith in rw z (f, refl)
  chain_stays h o f (suc k) = let z : suc k + h ≡ suc (k + h) = omega arith in let r = chain_stays h o f k in let s = found_step (k + h) o r.0 in rw z (s.0, s.1 ∙ r.1)

  rest_stays : (h : ℕ) → length (searched a n h) ≤ h → (k : ℕ) → searched a n (k + h) ≡ searched a n h
  rest_stays h l zero = ap (searched a n) (omega arith)
  rest_stays h l (suc k) = let e = rest_stays h l k in let z : suc k + h ≡ suc (k + h) = omega arith in
      ap (searched a n) z ∙ searched_rest a n (k + h) (let d = ap length e in omega arith) ∙ e

-- one link more of a chain along which the finders lead back
back_link : (from : List ℕ) (z y : ℕ) (c : List ℕ) → Back from z c → get_or from (y - 1) 0 ≡ z → 1 ≤ y → y ≤ object_count max_pages → (y ≡ root → ⊥) → length c < object_count max_pages →
    Back from y (c ++ (y ∷ []))
back_link from z y c b e low top d few = let s = link_length c y in let some = b.some in record {
  some = omega arith;
  few = omega arith;
  first = left 0 b.some ∙ b.first;
  last = get_or_at c y [] 0 (length (c ++ (y ∷ [])) - 1) (omega arith);
  low = λ i l. by_place (λ k. 1 ≤ k) b.low low i l;
  top = λ i l. by_place (λ k. k ≤ object_count max_pages) b.top top i l;
  finder = λ i l. elim (ℕ_discrete (suc i) (length c)) [
    | yes q ↦ (let p : length c - 1 ≡ i = omega arith in ap (λ (k : ℕ). get_or from (k - 1) 0) (get_or_at c y [] 0 (suc i) (sym q)) ∙ e ∙ sym b.last ∙ ap (λ (k : ℕ). get_or c k 0) p ∙ sym (left i (omega arith)))
    | no q ↦ ap (λ (k : ℕ). get_or from (k - 1) 0) (left (suc i) (omega arith)) ∙ b.finder i (omega arith) ∙ sym (left i (omega arith))
  ];
  once = λ i p l r. elim (ℕ_discrete i (length c)) [
    | yes q ↦ d (sym (get_or_at c y [] 0 i (sym q)) ∙ r)
    | no q ↦ b.once i p (omega arith) (sym (left i (omega arith)) ∙ r)
  ];
}
  where
    left : (i : ℕ) → i < length c → get_or (c ++ (y ∷ [])) i 0 ≡ get_or c i 0
    left i l = get_or-append c (y ∷ []) 0 i l

    by_place : (P : ℕ → Type 0) → ((i : ℕ) → i < length c → P (get_or c i 0)) → P y → (i : ℕ) → i < length (c ++ (y ∷ [])) → P (get_or (c ++ (y ∷ [])) i 0)
    by_place P f g i l = let s = link_length c y in elim (ℕ_discrete i (length c)) [
      | yes q ↦ subst P (sym (get_or_at c y [] 0 i (sym q))) g
      | no q ↦ subst P (sym (left i (omega arith))) (f i (omega arith))
    ]

module _ (a : List ℕ) (n head : ℕ) (from queue : List ℕ) (tail : ℕ) (area : SearchedArea a n) (s : Shows a n head from queue tail) where
  abbrev q : List (List ℕ)
  q = searched a n head

  chains : Queue a n head q
  chains = searched_queue a n area.some (sound_within a n area.sound) head

  few : length q ≤ object_count n
  few = let e = chains.size in let l = count_most (λ k. found q (suc k)) (object_count n) in omega arith

  pub tail_few : tail ≤ object_count max_pages
  tail_few = let f = few in let e = shows_tail a n head from queue tail s in let w = area.few in omega arith

  -- the finders lead back along every chain of the queue, and chain i has i + 1 objects or fewer
  record Along (i : ℕ) : Type 0 where
    back : Back from (last_of (get_or q i [])) (get_or q i [])
    short : length (get_or q i []) ≤ suc i

  along_root : Along 0
  along_root = let w = area.some in record {
    back = subst (λ (c : List ℕ). Back from (last_of c) c) (sym chains.first) (subst (λ (x : ℕ). Back from x (root ∷ [])) (sym last_root) root_back);
    short = subst (λ (c : List ℕ). length c ≤ 1) (sym chains.first) (omega arith);
  }
    where
      root_back : Back from root (root ∷ [])
      root_back = record {
        some = omega arith;
        few = omega arith;
        first = refl;
        last = refl;
        low = λ i l. let z : i ≡ 0 = omega arith in rw z (omega arith);
        top = λ i l. let z : i ≡ 0 = omega arith in rw z (omega arith);
        finder = λ i l. absurd (omega arith);
        once = λ i p l. absurd (omega arith);
      }

  along_link : (i : ℕ) → 0 < i → i < length q → (f : Finder q from i) → Along f.place → Along i
  along_link i p l f g =
      let o = chains.object i l in
      let w = area.few in
      let k = few in
      let b = f.before in
      let h = g.short in
      let y = last_of (get_or q i []) in
      let z = link_length (get_or q f.place []) y in record {
        back = subst (Back from y) (sym f.here) (back_link from (last_of (get_or q f.place [])) y (get_or q f.place []) g.back f.finder o.low (let t = o.top in omega arith) (chains.once i p l) (omega arith));
        short = subst (λ (c : List ℕ). length c ≤ suc i) (sym f.here) (omega arith);
      }

  along : (k i : ℕ) → i < k → i < length q → Along i
  along zero i l b = absurd (omega arith)
  along (suc k) i l b = elim (ℕ_discrete i 0) [
    | yes e ↦ subst Along (sym e) along_root
    | no e ↦ (let f = s.finders i (omega arith) b in along_link i (omega arith) b f (along k f.place (let c = f.before in omega arith) (let c = f.before in omega arith)))
  ]

  module _ (o : ℕ) (object : Object n o) where
    found_so : (b : Bool) → has_finder from o ≡ b → found q o ≡ b
    found_so b e = sym (or_false (found q o)) ∙ sym (s.marks o object) ∙ e

    pub ended_found : head ≤ tail → has_finder from o ≡ true → Back from o (chain_in a n o)
    ended_found l e =
        let t = shows_tail a n head from queue tail s in
        let k = few in
        let f = found_so true e in
        let w = found_leads q o f in
        let r = first_to q o w.place w.below w.here in
        let z : object_count n - head + head ≡ object_count n = omega arith in
        let c : chain_in a n o ≡ get_or q r.place [] = ap (λ (h : ℕ). chain_to (searched a n h) o) (sym z) ∙ (chain_stays a n head o f (object_count n - head)).1 ∙ r.here in
        subst (Back from o) (sym c) (subst (λ (x : ℕ). Back from x (get_or q r.place [])) r.leads (along (suc r.place) r.place (omega arith) (let b = r.before in let d = w.below in omega arith)).back)

    pub ended_none : head ≤ tail → tail ≤ head → has_finder from o ≡ false → chain_in a n o ≡ []
    ended_none l m e =
        let t = shows_tail a n head from queue tail s in
        let k = few in
        let z : object_count n - head + head ≡ object_count n = omega arith in
        let r = rest_stays a n head (omega arith) (object_count n - head) in
        ap (λ (h : ℕ). chain_to (searched a n h) o) (sym z) ∙ ap (λ (q : List (List ℕ)). chain_to q o) r ∙ none_to q o (found_so false e)

    pub ended : head ≤ tail → tail ≤ head → Ended a n o from (has_finder from o)
    ended l m = by_answer (has_finder from o) refl
      where
        by_answer : (b : Bool) → has_finder from o ≡ b → Ended a n o from b
        by_answer true e = ended_found l e
        by_answer false e = ended_none l m e

-- the queue does not get shorter
pub tail_grows : (a : List ℕ) (n head : ℕ) (from queue from' queue' : List ℕ) (tail r : ℕ) → Shows a n head from queue tail → Shows a n (head + 1) from' queue' r → tail ≤ r
tail_grows a n head from queue from' queue' tail r s t =
    let d = shows_tail a n head from queue tail s in
    let e = shows_tail a n (head + 1) from' queue' r t ∙ ap (λ (h : ℕ). length (searched a n h)) (add-one head) in
    let q = searched a n head in by_bool (ltb head (length q))
    (λ b. let z = ap length (searched_next a n head (ltb-true head (length q) b) ∙ followed_finds a n q (get_or q head [])) ∙ grown_length q (get_or q head []) (passing (finds a q (get_or q head [])) (object_count n)) in omega arith)
    (λ b. let z = ap length (searched_rest a n head (ltb-false head (length q) b)) in omega arith)
