-- An object is taken from the queue, and once its words are followed the queue is that of the next step. Assumes nothing.
use Prim.Native.Nat.{ℕ, ◌+◌, ◌-◌, ◌<◌}
use native.Mathlib.Omega.{arith}
use native.Mathlib.Numerals.{add-one}
use mathlib.Core.Path.{◌≡◌, refl, sym, ap, ◌∙◌, subst}
use mathlib.Core.Bool.{Bool, false, not, ◌&&◌}
use mathlib.Core.List.{List, [], ◌∷◌, ◌++◌}
use lib.ListN.{length, get_or}
use lib.Dec.{eqb}
use Rattle.words.specs.Tests.{any, clash, and_false, or_false}
use Rattle.pages.specs.Geometry.{slot_words, object_count}
use Rattle.reach.specs.Search.{last_of, found, passing, extended, searched}
use Rattle.chain_laws.specs.Passing.{passing_none, passing_passes}
use Rattle.chain_laws.specs.Queues.{Place, old, more, grown_place, last_linked, grown_length, grown_old, grown_new, grown_found}
use Rattle.chain_laws.specs.Searching.{finds, searched_next, followed_finds}
use Rattle.chain_search.specs.Following.{Finder, Between, named_in, Taking, Shows}
use Rattle.chain_search.proofs.Takes.{between_same, between_none}

no_length : (m : ℕ) → length (passing (λ x. false) m) ≡ 0
no_length m = ap length (passing_none (λ x. false) m (λ x. refl))

pub shows_tail : (a : List ℕ) (n head : ℕ) (from queue : List ℕ) (tail : ℕ) → Shows a n head from queue tail → tail ≡ length (searched a n head)
shows_tail a n head from queue tail s = let e = no_length (object_count n) in s.size ∙ (omega arith)

no_word : (a : List ℕ) (u x : ℕ) (b : Bool) → false ≡ named_in a u 0 x && b
unfolding any
no_word a u x b = sym (ap (λ (t : Bool). t && b) (and_false (not (eqb x 0))))

pub take_start : (a : List ℕ) (n head : ℕ) (from queue : List ℕ) (tail : ℕ) → Shows a n head from queue tail → head < tail →
    Taking a n head tail (get_or queue head 0) 0 from queue tail
take_start a n head from queue tail s l = let e = shows_tail a n head from queue tail s in record {
  taken = omega arith;
  start = e;
  object = s.old head (omega arith);
  between = between_same n (searched a n head) (get_or queue head 0) (λ x. false) _ from queue tail (λ x o. no_word a (get_or queue head 0) x (not (found (searched a n head) x)))
      (between_none n (searched a n head) 0 (get_or queue head 0) from queue tail s);
}

module _ (a : List ℕ) (n head first u : ℕ) (from queue : List ℕ) (tail : ℕ) (t : Taking a n head first u slot_words from queue tail) where
  abbrev q : List (List ℕ)
  q = searched a n head

  abbrev c : List ℕ
  c = get_or (searched a n head) head []

  abbrev new : List ℕ
  new = passing (finds a q c) (object_count n)

  between : Between n q u (finds a q c) from queue tail
  between = subst (λ (v : ℕ). Between n q u (λ x. named_in a v slot_words x && not (found q x)) from queue tail) t.object t.between

  leads_old : (i : ℕ) → i < length q → last_of (get_or (q ++ extended c new) i []) ≡ last_of (get_or q i [])
  leads_old i l = ap last_of (grown_old q c new i l)

  leads_new : (k : ℕ) → k < length new → last_of (get_or (q ++ extended c new) (length q + k) []) ≡ get_or new k 0
  leads_new k l = ap last_of (grown_new q c new k l) ∙ last_linked c (get_or new k 0)

  places : (i : ℕ) → Place q new i → get_or queue i 0 ≡ last_of (get_or (q ++ extended c new) i [])
  places _ (old i l) = between.old i l ∙ sym (leads_old i l)
  places _ (more k l) = between.new k l ∙ sym (leads_new k l)

  finders : (i : ℕ) → 0 < i → Place q new i → Finder (q ++ extended c new) from i
  finders _ p (old i l) = let k = between.finders i p l in let e = grown_old q c new i l in let d = grown_old q c new k.place (let b = k.before in omega arith) in record {
    place = k.place;
    before = k.before;
    finder = ap (λ (c : List ℕ). get_or from (last_of c - 1) 0) e ∙ k.finder ∙ ap last_of (sym d);
    here = e ∙ k.here ∙ ap (λ (x : ℕ). get_or q k.place [] ++ (x ∷ [])) (sym (ap last_of e)) ∙ ap (λ (b : List ℕ). b ++ (last_of (get_or (q ++ extended c new) i []) ∷ [])) (sym d);
  }
  finders _ p (more k l) = let e = leads_new k l in let g = passing_passes (finds a q c) (object_count n) k l in let d = grown_old q c new head t.taken in record {
    place = head;
    before = (let b = t.taken in omega arith);
    finder = ap (λ (x : ℕ). get_or from (x - 1) 0) e ∙ between.found_here (get_or new k 0) (record { low = g.low; top = g.top }) g.yes ∙ t.object ∙ ap last_of (sym d);
    here = grown_new q c new k l ∙ ap (λ (x : ℕ). c ++ (x ∷ [])) (sym e) ∙ ap (λ (b : List ℕ). b ++ (last_of (get_or (q ++ extended c new) (length q + k) []) ∷ [])) (sym d);
  }

  after : Between n (q ++ extended c new) 0 (λ x. false) from queue tail
  after = let none = no_length (object_count n) in record {
    from_room = between.from_room;
    queue_room = between.queue_room;
    size = (let s = between.size in let e = grown_length q c new in omega arith);
    old = λ i l. places i (grown_place q c new i l);
    new = λ i l. absurd (omega arith);
    marks = λ x o. between.marks x o ∙ sym (grown_found q c (finds a q c) (object_count n) x o.low o.top) ∙ sym (or_false _);
    finders = λ i p l. finders i p (grown_place q c new i l);
    found_here = λ x o e. clash e refl;
  }

  pub take_end : Shows a n (head + 1) from queue tail
  take_end = subst (λ (r : List (List ℕ)). Between n r 0 (λ x. false) from queue tail) (sym (ap (searched a n) (add-one head) ∙ searched_next a n head t.taken ∙ followed_finds a n q c)) after
