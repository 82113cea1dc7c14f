-- Reaching and leading in the claim's words, and in the machine's: the same for the pages that lines show. n is the number of pages.
-- Assumes nothing.
use Prim.Native.Nat.{ℕ, zero, suc, ◌≤◌, ◌<◌}
use native.Mathlib.Omega.{arith}
use native.Mathlib.Decide.{dec_le}
use mathlib.Core.Path.{◌≡◌, refl, sym, ap, ◌∙◌}
use mathlib.Core.Bool.{Bool, true, ◌||◌}
use mathlib.Core.List.{List, [], ◌∷◌}
use lib.ListN.{length, get_or-eq_default}
use lib.Dec.{eqb}
use borrow.Author.Tests.{eqb-true, ltb-true, lt-ltb, le-leb}
use Rattle.words.specs.Tests.{by_bool}
use Rattle.pages.specs.Geometry.{is_ref, is_ref_at, page_of, slot_of, slot_at, object_count, ref_words, slot_words}
use Rattle.page_laws.specs.SoundFacts.{ref_in_range}
use Rattle.pages.specs.Objects.{occupied, word_of}
use Rattle.records.specs.declared.Record.{Record}
use Rattle.book.specs.Lines.{Line, filtered, pages_after}
use Rattle.book.specs.Pointers.{Leads}
use Rattle.reach.specs.Reaching.{Refers, Reached, root, next, reached_some}
use Rattle.collector.specs.Bits.{anyb_elim, and_l, and_r}
use Rattle.collector.specs.Objects as O
use Rattle.collector.specs.Objects.{Obj, Tag, points, Reach, edge, Whole}
use Rattle.collector.specs.Claim as Claim
use Rattle.collector.proofs.Objects.{points_some, word_edge}
use Rattle.machine_view.specs.View.{view, applied, names}
use Rattle.record_laws.specs.RecordLaws.{SoundRecord, sound_record}
use Rattle.machine_view.proofs.Effects.{view_occ, view_word}
use Rattle.book_laws.specs.Seen.{seen}
use Rattle.book_laws.specs.Keeping.{here, later, SoundLines, Origin}
use Rattle.book_laws.proofs.Folds.{after_view}
use Rattle.book_laws.proofs.Tags.{born_old, unbroken_tag, tag_unbroken}

-- both kinds of 'is a reference' are the word's number below 4
same_ref : (a : List ℕ) (b : Obj) (o f : ℕ) → is_ref a o f ≡ O.is_ref b f
unfolding is_ref_at O.is_ref
same_ref a b o f = refl

-- what an edge of the machine says
pub edge_word : {A : Type 0} (b : Obj) (x : ℕ) → points b x ≡ true → ((f : ℕ) → f < slot_words → O.is_ref b f ≡ true → b.word f ≡ x → A) → A
unfolding points O.fields
edge_word b x h k = anyb_elim 8 _ (and_r _ _ h) (λ f l e. k f l (and_l _ _ e) (eqb-true _ _ (and_r _ _ e)))

ref_four : (b : Obj) (f : ℕ) → O.is_ref b f ≡ true → f < 4
unfolding O.is_ref
ref_four b f h = ltb-true f 4 h

ref_small : (b : Obj) (f : ℕ) → O.is_ref b f ≡ true → f < slot_words
ref_small b f h = let k = ref_four b f h in omega arith

-- references of the pages that a book starts from are objects of the store
pub first_range : (n : ℕ) (a : List ℕ) → Origin n a → (x f : ℕ) → f < 4 → (view a x).word f ≤ object_count n
unfolding view O.blank is_ref_at
first_range n a o zero f l = omega arith
first_range n a o (suc k) f l = rw (le-leb 1 (suc k) (omega arith), lt-ltb f slot_words (omega arith)) (elim (dec_le (suc k) (object_count n)) [
  | yes h ↦ ref_in_range a n (suc k) o.sound (omega arith) h f (omega arith) (lt-ltb f ref_words l)
  | no h ↦ rw (get_or-eq_default a 0 {n = slot_at (page_of (suc k)) (slot_of (suc k)) f} (let e = o.size in omega arith)) (omega arith)
])

pub put_range : (b : Obj) (g v f m : ℕ) → b.word f ≤ m → (f ≡ g → v ≤ m) → (O.put b g v).word f ≤ m
unfolding O.put
put_range b g v f m h k = by_bool (eqb f g) (λ e. rw e (k (eqb-true f g e))) (λ e. rw e h)

-- a sound record writes references of the store
pub applied_range : {n : ℕ} (r : Record) → SoundRecord n r → (x : ℕ) (b : Obj) (f : ℕ) → f < 4 → b.word f ≤ object_count n → (applied r x b).word f ≤ object_count n
unfolding applied O.fresh O.blank
applied_range {n} r h x b f l k = by_bool (names 2 r x)
    (λ e. rw e (omega arith))
    (λ e. rw e (by_bool (names 3 r x)
    (λ d. rw d (put_range b r.field r.new f (object_count n) k (λ z. h.new_reference (eqb-true r.kind 3 (Rattle.words.specs.Tests.and_l (eqb r.kind 3) (eqb r.object x) d)) (omega arith))))
    (λ d. rw d (by_bool (names 6 r x || Rattle.book.specs.Pointers.sweeps r x) (λ q. rw q (omega arith)) (λ q. rw q k)))))

module _ (n : ℕ) (a : List ℕ) (first : Origin n a) (c : Line → Bool) (ls : List Line) (ok : SoundLines n ls) where
  abbrev pub pages : List ℕ
  pages = pages_after a (filtered c ls)

  abbrev pub object : ℕ → Obj
  object x = (seen a c ls x).object

  abbrev pub tag : ℕ → Tag
  tag x = (seen a c ls x).tag

  shows : (x : ℕ) → view pages x ≡ object x
  shows x = after_view n a first.size c ls (λ l i e. ok l i) x

  occ_is : (x : ℕ) → 1 ≤ x → (object x).occ ≡ occupied pages x
  occ_is x l = ap (λ (b : Obj). b.occ) (sym (shows x)) ∙ view_occ pages x l

  word_is : (x f : ℕ) → 1 ≤ x → f < slot_words → (object x).word f ≡ word_of pages x f
  word_is x f l k = ap (λ (b : Obj). b.word f) (sym (shows x)) ∙ view_word pages x l f k

  -- a reference of the claim is an edge of the machine
  to_edge : (o f x : ℕ) → 1 ≤ o → (object o).occ ≡ true → Refers pages o f x → points (object o) x ≡ true
  to_edge o f x l e r =
      let w : (object o).word f ≡ x = word_is o f l r.word ∙ r.target in
      rw w at (word_edge (object o) f (sym (same_ref pages (object o) o f) ∙ r.reference) e (λ z. r.some (sym w ∙ z)))

  from_edge : {A : Type 0} (o x : ℕ) → 1 ≤ o → points (object o) x ≡ true → ((f : ℕ) → Refers pages o f x → A) → A
  from_edge o x l h k = edge_word (object o) x h (λ f m e w. k f (record {
    word = m;
    reference = same_ref pages (object o) o f ∙ e;
    target = sym (word_is o f l m) ∙ w;
    some = points_some (object o) x h;
  }))

  -- what the claim reaches, the machine reaches, where that is occupied
  pub to_reach : ((x : ℕ) → Reach object x → (object x).occ ≡ true) → {x : ℕ} → Reached pages x → Reach object x
  to_reach wf root = O.root
  to_reach wf (next {o} {x} f p r) = let q = to_reach wf p in edge q refl (to_edge o f x (reached_some p) (wf o q) r)

  from_reach : {x : ℕ} → Reach object x → Reached pages x
  from_reach O.root = root
  from_reach (edge {o} {x} p h e) = let q = from_reach p in from_edge o x (reached_some q) e (λ f r. next f q r)

  -- the machine's pointers lead as the claim says
  pub leads_out : Claim.Leads object tag → ((x : ℕ) → Reach object x → (object x).occ ≡ true) → Leads pages (filtered c ls)
  leads_out h wf = record {
    there = λ o f x p r. sym (occ_is x (let k = r.some in omega arith)) ∙ h.occupied o x (to_reach wf p) (to_edge o f x (reached_some p) (wf o (to_reach wf p)) r);
    unbrokenly = λ o f x p r. tag_unbroken a c ls o f x
        (let w : (object o).word f ≡ x = word_is o f (reached_some p) r.word ∙ r.target in
        rw w at (h.since o f (to_reach wf p) (sym (same_ref pages (object o) o f) ∙ r.reference) (λ z. r.some (sym w ∙ z))));
  }

  -- references of lines are objects of the store
  range_at : (ms : List Line) → SoundLines n ms → (x f : ℕ) → f < 4 → (seen a c ms x).object.word f ≤ object_count n
  unfolding seen
  range_at [] h x f l = first_range n a first x f l
  range_at (l ∷ ms) h x f k = let ih = range_at ms (λ m i. h m (later i)) x f k in by_bool (c l)
      (λ e. rw e (applied_range l.entry (sound_record n l.entry (h l here)) x (seen a c ms x).object f k ih))
      (λ e. rw e ih)

  pub whole_in : Leads pages (filtered c ls) → occupied pages 1 ≡ true → Whole (object_count n) (suc (length ls)) object tag
  whole_in h top = record {
    leads = λ o f p r z. let q = from_reach p in
        let w : word_of pages o f ≡ (object o).word f = sym (word_is o f (reached_some q) (ref_small (object o) f r)) in
        unbroken_tag a c ls o f ((object o).word f) (h.unbrokenly o f ((object o).word f) q
        (record { word = ref_small (object o) f r; reference = same_ref pages (object o) o f ∙ r; target = w; some = z }));
    young = λ x e. let k = born_old a c ls x in omega arith;
    range = λ o x e. edge_word (object o) x e (λ f l r w. rw w at (range_at ls ok o f (ref_four (object o) f r)));
    wf = λ x p. here_occ (from_reach p);
  }
    where
      here_occ : {x : ℕ} → Reached pages x → (object x).occ ≡ true
      here_occ root = occ_is 1 (omega arith) ∙ top
      here_occ (next {o} {x} f p r) = occ_is x (let k = r.some in omega arith) ∙ h.there o f x p r
