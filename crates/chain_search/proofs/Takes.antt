-- The arrays while an object is taken: the test of those that it has found may be put in other words, and one more may enter.
-- Assumes nothing.
use Prim.Native.Nat.{ℕ, suc, ◌+◌, ◌-◌, ◌<◌, ◌≤◌}
use native.Mathlib.Omega.{arith}
use native.Mathlib.Decide.{ℕ_discrete}
use mathlib.Core.Path.{◌≡◌, refl, sym, ap, ◌∙◌, subst}
use mathlib.Core.Bool.{Bool, false, not, ◌||◌}
use mathlib.Core.List.{List, []}
use lib.ListN.{length, get_or, set, length-set}
use lib.Seq.{get_or-set_same, get_or-set_other}
use lib.Dec.{ltb, eqb}
use borrow.Author.Tests.{ltb-true, ltb-false, ne_eqb}
use Rattle.words.specs.Tests.{by_bool, clash, or_true}
use Rattle.pages.specs.Geometry.{max_pages, object_count}
use Rattle.reach.specs.Search.{last_of, found, passing}
use Rattle.chain_laws.specs.Passing.{passing_same}
use Rattle.chain_laws.specs.Queues.{leads_found}
use Rattle.chain_laws.specs.Links.{Object}
use Rattle.chain_search.specs.Entering.{Inserted}
use Rattle.chain_search.specs.Following.{Finder, Between}
use Rattle.chain_search.proofs.OneMore.{OneMore, place_settled, more_length, more_lower, more_here, more_higher}

pub between_same : (n : ℕ) (q : List (List ℕ)) (u : ℕ) (f g : ℕ → Bool) (from queue : List ℕ) (tail : ℕ) → ((x : ℕ) → Object n x → f x ≡ g x) →
    Between n q u f from queue tail → Between n q u g from queue tail
between_same n q u f g from queue tail h b =
    let e : passing f (object_count n) ≡ passing g (object_count n) = passing_same f g (object_count n) (λ x l t. h x (record { low = l; top = t })) in record {
      from_room = b.from_room;
      queue_room = b.queue_room;
      size = b.size ∙ ap (λ (l : List ℕ). length q + length l) e;
      old = b.old;
      new = subst (λ (l : List ℕ). (i : ℕ) → i < length l → get_or queue (length q + i) 0 ≡ get_or l i 0) e b.new;
      marks = λ x o. b.marks x o ∙ ap (λ (t : Bool). found q x || t) (h x o);
      finders = b.finders;
      found_here = λ x o t. b.found_here x o (h x o ∙ t);
    }

pub between_none : (n : ℕ) (q : List (List ℕ)) (u v : ℕ) (from queue : List ℕ) (tail : ℕ) → Between n q u (λ x. false) from queue tail → Between n q v (λ x. false) from queue tail
between_none n q u v from queue tail b = record {
  from_room = b.from_room;
  queue_room = b.queue_room;
  size = b.size;
  old = b.old;
  new = b.new;
  marks = b.marks;
  finders = b.finders;
  found_here = λ x o t. clash t refl;
}

-- x enters, whom u found
module _ (n : ℕ) (q : List (List ℕ)) (u x : ℕ) (f g : ℕ → Bool) (from queue queue' : List ℕ) (tail : ℕ) (b : Between n q u f from queue tail)
    (few : n ≤ max_pages) (objects : (i : ℕ) → i < length q → Object n (last_of (get_or q i []))) (some : u ≡ 0 → ⊥) (o : Object n x) (fresh : found q x ≡ false)
    (one : OneMore f g x) (v : Inserted queue (length q) tail x queue') where
  abbrev m : ℕ
  m = object_count n

  abbrev from' : List ℕ
  from' = set from (x - 1) u

  finder_here : get_or from' (x - 1) 0 ≡ u
  finder_here = let l = o.low in let t = o.top in let r = b.from_room in get_or-set_same from (x - 1) u 0 (omega arith)

  finder_kept : (y : ℕ) → 1 ≤ y → (y ≡ x → ⊥) → get_or from' (y - 1) 0 ≡ get_or from (y - 1) 0
  finder_kept y l d = let k = o.low in get_or-set_other from (x - 1) (y - 1) u 0 (λ z. d (omega arith))

  -- where x stands among those that u found
  place : ℕ
  place = v.place - length q

  settled : v.place - length q ≡ length (passing f (x - 1))
  settled = let l = v.low in let t = v.top in let s = b.size in
      place_settled f g x one o.low m o.top (v.place - length q) (omega arith)
      (λ i c d. let e = b.new i d in let h = v.higher (length q + i) (omega arith) (omega arith) in omega arith)
      (λ c. let e = b.new (v.place - length q - 1) (omega arith) in let h = v.lower (omega arith) in
      let z : length q + (v.place - length q - 1) ≡ v.place - 1 = omega arith in
      subst (λ (y : ℕ). y < x) (ap (λ (i : ℕ). get_or queue i 0) (sym z) ∙ e) h)

  new_places : (i : ℕ) → i < length (passing g m) → get_or queue' (length q + i) 0 ≡ get_or (passing g m) i 0
  new_places i l =
      let low = v.low in
      let top = v.top in
      let size = b.size in
      let s = settled in
      let len = more_length f g x one o.low m o.top in
      elim (ℕ_discrete i (length (passing f (x - 1)))) [
        | yes e ↦ (let z : length q + i ≡ v.place = omega arith in ap (λ (k : ℕ). get_or queue' k 0) z ∙ v.here ∙ sym (more_here f g x one o.low m o.top) ∙ ap (λ (k : ℕ). get_or (passing g m) k 0) (sym e))
        | no e ↦ by_bool (ltb i (length (passing f (x - 1))))
            (λ t. let c = ltb-true i (length (passing f (x - 1))) t in v.before (length q + i) (omega arith) ∙ b.new i (omega arith) ∙ sym (more_lower f g x one o.low m o.top i c))
            (λ t. let c = ltb-false i (length (passing f (x - 1))) t in let z : length q + i ≡ suc (length q + (i - 1)) = omega arith in let y : suc (i - 1) ≡ i = omega arith in
            ap (λ (k : ℕ). get_or queue' k 0) z
            ∙ v.after (length q + (i - 1)) (omega arith) (omega arith)
            ∙ b.new (i - 1) (omega arith)
            ∙ sym (more_higher f g x one o.low m o.top (i - 1) (omega arith))
            ∙ ap (λ (k : ℕ). get_or (passing g m) k 0) y)
      ]

  new_marks : (y : ℕ) → Object n y → not (eqb (get_or from' (y - 1) 0) 0) ≡ found q y || g y
  new_marks y p = elim (ℕ_discrete y x) [
    | yes e ↦ rw (e, finder_here, ne_eqb u 0 some, one.now) (sym (or_true (found q x)))
    | no e ↦ rw (finder_kept y p.low e, one.others y e) (b.marks y p)
  ]

  kept_finders : (i : ℕ) → 0 < i → i < length q → Finder q from' i
  kept_finders i l t = let k = b.finders i l t in record {
    place = k.place;
    before = k.before;
    finder = finder_kept _ (objects i t).low (λ z. clash (leads_found q i t) (rw z fresh)) ∙ k.finder;
    here = k.here;
  }

  pub between_entered : Between n q u g from' queue' (tail + 1)
  between_entered = record {
    from_room = (let r = b.from_room in let e = length-set from (x - 1) u in omega arith);
    queue_room = (let r = b.queue_room in let e = v.size in omega arith);
    size = (let s = b.size in let e = more_length f g x one o.low m o.top in omega arith);
    old = λ i l. v.before i (let k = v.low in omega arith) ∙ b.old i l;
    new = new_places;
    marks = new_marks;
    finders = kept_finders;
    found_here = λ y p t. elim (ℕ_discrete y x) [
      | yes e ↦ rw e finder_here
      | no e ↦ finder_kept y p.low e ∙ b.found_here y p (sym (one.others y e) ∙ t)
    ];
  }
