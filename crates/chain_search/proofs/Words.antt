-- One word of the object that is taken: it names nobody, or somebody found before, or somebody who enters. Assumes nothing.
use Prim.Native.Nat.{ℕ, suc, ◌+◌, ◌-◌, ◌<◌}
use native.Mathlib.Omega.{arith}
use native.Mathlib.Decide.{ℕ_discrete}
use mathlib.Core.Path.{◌≡◌, sym, ap, ◌∙◌, subst}
use mathlib.Core.Bool.{Bool, true, false, not, ◌&&◌, ◌||◌}
use mathlib.Core.Logic.{inl, inr}
use mathlib.Core.List.{List, [], ◌++◌}
use lib.ListN.{get_or}
use lib.Dec.{eqb}
use borrow.Author.Tests.{eq-eqb, ne_eqb, not-true}
use Rattle.words.specs.Tests.{any, any_next, by_bool, clash, and_split, and_false, or_cases, or_false, or_true, or_false_l, or_false_r}
use Rattle.words.specs.Counts.{count_less}
use Rattle.pages.specs.Geometry.{slot_words, max_pages, object_count, is_ref}
use Rattle.pages.specs.Objects.{word_of}
use Rattle.reach.specs.Search.{found, passing, extended, searched}
use Rattle.chain_laws.specs.Queues.{grown_length, grown_found, grown_size}
use Rattle.chain_laws.specs.Links.{Object, sound_within}
use Rattle.chain_laws.specs.Searching.{Queue, searched_queue}
use Rattle.chain_search.specs.Entering.{Inserted, Visited, known, entered}
use Rattle.chain_search.specs.Following.{SearchedArea, named_in, Taking}
use Rattle.chain_search.proofs.OneMore.{OneMore}
use Rattle.chain_search.proofs.Takes.{between_same, between_entered}

-- those found by the words below k
abbrev finds_in : List ℕ → List (List ℕ) → ℕ → ℕ → ℕ → Bool
finds_in a q u k x = named_in a u k x && not (found q x)

-- one word more: of an object that it does not name, and of the one that it names
module _ (a : List ℕ) (q : List (List ℕ)) (u f x : ℕ) where
  word_not : (is_ref a u f && eqb (word_of a u f) x) ≡ false → finds_in a q u f x ≡ finds_in a q u (f + 1) x
  word_not e = ap (λ (t : Bool). (not (eqb x 0) && t) && not (found q x))
      (sym (or_false (any (λ f. is_ref a u f && eqb (word_of a u f) x) f)) ∙ ap (λ (t : Bool). any (λ f. is_ref a u f && eqb (word_of a u f) x) f || t) (sym e) ∙ any_next (λ f. is_ref a u f && eqb (word_of a u f) x) f)

  word_names : (is_ref a u f && eqb (word_of a u f) x) ≡ true → (x ≡ 0 → ⊥) → finds_in a q u (f + 1) x ≡ not (found q x)
  word_names e n =
      let t : any (λ f. is_ref a u f && eqb (word_of a u f) x) (f + 1) ≡ true = sym (any_next (λ f. is_ref a u f && eqb (word_of a u f) x) f) ∙ ap (λ (t : Bool). any (λ f. is_ref a u f && eqb (word_of a u f) x) f || t) e ∙ or_true (any (λ f. is_ref a u f && eqb (word_of a u f) x) f) in
      rw (ne_eqb x 0 n, t)

module _ (a : List ℕ) (n head first u f : ℕ) (from queue : List ℕ) (tail : ℕ) (area : SearchedArea a n) (t : Taking a n head first u f from queue tail) where
  abbrev q : List (List ℕ)
  q = searched a n head

  chains : Queue a n head q
  chains = searched_queue a n area.some (sound_within a n area.sound) head

  pub taken_object : Object n u
  taken_object = subst (Object n) (sym t.object) (chains.object head t.taken)

  same : ((x : ℕ) → Object n x → finds_in a q u f x ≡ finds_in a q u (f + 1) x) → Taking a n head first u (f + 1) from queue tail
  same h = record { taken = t.taken; start = t.start; object = t.object; between = between_same n q u (finds_in a q u f) (finds_in a q u (f + 1)) from queue tail h t.between }

  pub past_data : is_ref a u f ≡ false → Taking a n head first u (f + 1) from queue tail
  past_data e = same (λ x o. word_not a q u f x (rw e))

  pub past_nothing : word_of a u f ≡ 0 → Taking a n head first u (f + 1) from queue tail
  past_nothing e = same (λ x o. word_not a q u f x (rw (e, ne_eqb 0 x (λ z. let l = o.low in omega arith)) (and_false (is_ref a u f))))

  -- word f names x
  module _ (x : ℕ) (ref : is_ref a u f ≡ true) (word : word_of a u f ≡ x) (some : x ≡ 0 → ⊥) (field : f < slot_words) where
    pub named_object : Object n x
    named_object = sound_within a n area.sound u f x taken_object (record { word = field; reference = ref; target = word; some = some })

    other : (y : ℕ) → (y ≡ x → ⊥) → finds_in a q u f y ≡ finds_in a q u (f + 1) y
    other y d = word_not a q u f y (rw (word, ne_eqb x y (λ z. d (sym z))) (and_false (is_ref a u f)))

    here : finds_in a q u (f + 1) x ≡ not (found q x)
    here = word_names a q u f x (rw (ref, eq-eqb (word_of a u f) x word)) some

    unfound : get_or from (x - 1) 0 ≡ 0 → (found q x || finds_in a q u f x) ≡ false
    unfound e = sym (t.between.marks x named_object) ∙ rw e

    -- there is room for one more
    pub room : get_or from (x - 1) 0 ≡ 0 → tail < object_count max_pages
    room e =
        let m = object_count n in
        let o = named_object in
        let l = o.low in
        let few = area.few in
        let z : suc (x - 1) ≡ x = omega arith in
        let g = grown_size q [] (finds_in a q u f) m chains.size (λ y h. not-true _ (and_split (named_in a u f y) (not (found q y)) h).1) in
        let k = grown_length q [] (passing (finds_in a q u f) m) in
        let c = count_less (λ k. found (q ++ extended [] (passing (finds_in a q u f) m)) (suc k)) m (x - 1) (let h = o.top in omega arith)
        (subst (λ (y : ℕ). found (q ++ extended [] (passing (finds_in a q u f) m)) y ≡ false) (sym z) (grown_found q [] (finds_in a q u f) m x o.low o.top ∙ unfound e)) in
        let s = t.between.size in
        omega arith

    known_same : (get_or from (x - 1) 0 ≡ 0 → ⊥) → finds_in a q u f x ≡ finds_in a q u (f + 1) x
    known_same d =
        let b : (found q x || finds_in a q u f x) ≡ true = sym (t.between.marks x named_object) ∙ rw (ne_eqb (get_or from (x - 1) 0) 0 d) in
        by_bool (found q x) (λ e. let z : not (found q x) ≡ false = rw e in rw (here, e) (and_false (named_in a u f x)))
        (λ e. elim (or_cases (found q x) (finds_in a q u f x) b) [ inl h ↦ clash h e | inr h ↦ h ∙ sym (here ∙ rw e) ])

    enters : get_or from (x - 1) 0 ≡ 0 → OneMore (finds_in a q u f) (finds_in a q u (f + 1)) x
    enters e = let h = unfound e in record { before = or_false_r (found q x) _ h; now = here ∙ rw (or_false_l (found q x) _ h); others = λ y d. sym (other y d) }

    pub visited : (from' queue' : List ℕ) (r : ℕ) → Visited from queue first tail u x from' queue' r → Taking a n head first u (f + 1) from' queue' r
    visited from' queue' _ (known d e g) = rw (e, g) (same (λ y o. elim (ℕ_discrete y x) [ yes z ↦ rw z (known_same d) | no z ↦ other y z ]))
    visited from' queue' _ (entered e g v) = record {
      taken = t.taken;
      start = t.start;
      object = t.object;
      between = rw g (between_entered n q u x (finds_in a q u f) (finds_in a q u (f + 1)) from queue queue' tail t.between area.few chains.object
          (λ z. let l = taken_object.low in omega arith) named_object (or_false_l (found q x) _ (unfound e)) (enters e)
          (subst (λ (k : ℕ). Inserted queue k tail x queue') t.start v));
    }
