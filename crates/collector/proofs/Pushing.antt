-- Create and set keep the invariant in every world that going back may lead to: the object as it was can be taken back then, and where it is,
-- the entries that the call made stay. Assumes nothing.
use Prim.Native.Nat.{ℕ, zero, suc}
use mathlib.Core.Path.{◌≡◌, refl, sym, ap, ◌∙◌}
use mathlib.Core.Bool.{Bool, true, false, not, cond}
use mathlib.Core.List.{List, ◌∷◌}
use mathlib.Core.Logic.{inl, inr}
use lib.Dec.{eqb}
use borrow.Author.Tests.{eqb-true, eqb-false, eq-eqb, ne_eqb}
use Rattle.collector.specs.Bits.{◌and◌, ◌or◌, by_bool, clash, and_r, and_false, false_and, or_false, or_swap}
use Rattle.collector.specs.Objects.{page_of}
use Rattle.collector.specs.State.{Locks, St, add}
use Rattle.collector.specs.Calls.{pruned, entered, created, cutting, written}
use Rattle.collector.specs.Undo.{Item, Stacks, with, push, forgotten, popped, item_of}
use Rattle.collector.proofs.Invariant.{Inv}
use Rattle.collector.proofs.Tables.{is_false}
use Rattle.collector.proofs.Facts.{CreateFacts, SetFacts}
use Rattle.collector.proofs.Known.{known_there}
use Rattle.collector.proofs.Create.{entry_facts, keep_create}
use Rattle.collector.proofs.Write.{cut_facts, keep_set}
use Rattle.collector.proofs.Worlds.{Own, Worlds, here, deeper, Deep, inv_of, fewer, carried, same_state}
use Rattle.collector.proofs.Depths.{deep_entry, deep_cut}

-- t changes object o; under: what the change leaves where it is taken back
module _ (t o : ℕ) (step under : St → St) (Found : St → Type 0)
    (keep : (s : St) → Found s → Inv s → Inv (step s))
    (mine : (s : St) → Found s → s.locks.wr t (page_of o) ≡ true)
    (locks : (s : St) → (step s).locks ≡ s.locks)
    (kept_under : (k : ℕ) (s : St) (us : Stacks) → Found s → Inv s → Worlds k s us → Worlds k (under s) us)
    (back : (s : St) → Found s → Inv s → under s ≡ popped (step s) t (item_of s o))
    (found : (s : St) (u : ℕ) (i : Item) → eqb u t ≡ false → eqb o i.o ≡ false → Found s → Found (popped s u i))
    (swap : (s : St) (u : ℕ) (i : Item) → eqb u t ≡ false → eqb o i.o ≡ false → Found s → step (popped s u i) ≡ popped (step s) u i) where
  abbrev Top : Stacks → St → ℕ → Item → List Item → Type 0
  Top us s u i r = push us t (item_of s o) u ≡ i ∷ r

  own : (s : St) (us : Stacks) → Found s → ((u : ℕ) (i : Item) (r : List Item) → us u ≡ i ∷ r → Own s u i) → (u : ℕ) (i : Item) (r : List Item) → Top us s u i r → Own (step s) u i
  own s us f w u i r e = ap (λ (l : Locks). l.wr u (page_of i.o)) (locks s) ∙ by_bool (eqb u t)
      (λ d. let z : item_of s o ∷ us t ≡ i ∷ r = rw d at e in let y : item_of s o ≡ i = cc in rw (eqb-true u t d, ← y) (mine s f))
      (λ d. w u i r (rw d at e))

  -- another's object
  apart : (s : St) (u : ℕ) (i : Item) → eqb u t ≡ false → Inv s → Found s → Own s u i → eqb o i.o ≡ false
  apart s u i d j f w = ne_eqb o i.o (λ z. eqb-false u t d (j.exclusive.sole u t (page_of o) (rw z w) (mine s f)))

  stacks : (s : St) (us : Stacks) (u : ℕ) (i : Item) (r : List Item) → eqb u t ≡ false → eqb o i.o ≡ false
      → (v : ℕ) → push (with us u r) t (item_of (popped s u i) o) v ≡ with (push us t (item_of s o)) u r v
  stacks s us u i r d n v = by_bool (eqb v t)
      (λ e. let z : eqb v u ≡ false = ne_eqb v u (λ y. eqb-false u t d (sym y ∙ eqb-true v t e)) in
      let y : eqb t u ≡ false = ne_eqb t u (λ q. eqb-false u t d (sym q)) in rw (e, z, y, n))
      (λ e. rw e)

  pub pushed : (k : ℕ) (s : St) (us : Stacks) → Found s → Worlds k s us → Worlds k (step s) (push us t (item_of s o))
  pushed zero s us f w = here (keep s f (inv_of w))
  pushed (suc k) s us f (deeper j w d) = deeper (keep s f j) (own s us f w) (λ u i r e. by_bool (eqb u t)
      (λ q. let z : item_of s o ∷ us t ≡ i ∷ r = rw q at e in let y : item_of s o ≡ i = cc in let x : us t ≡ r = cc in
      carried k _ _ us _ (back s f j ∙ ap (λ (h : Item). popped (step s) t h) y ∙ ap (λ (v : ℕ). popped (step s) v i) (sym (eqb-true u t q)))
      (λ v. by_bool (eqb v t) (λ p. rw (eqb-true v t p, eqb-true u t q, eq-eqb t t refl) x) (λ p. rw (eqb-true u t q, p)))
      (kept_under k s us f j (fewer k (deeper j w d))))
      (λ q. let n = apart s u i q j f (w u i r (rw q at e)) in
      carried k _ _ _ _ (swap s u i q n f) (stacks s us u i r q n)
      (pushed k (popped s u i) (with us u r) (found s u i q n f) (d u i r (rw q at e)))))

-- what another knows is not forgotten, and its entries are others
known_other : (kn : ℕ → ℕ → Bool) (u : ℕ) (i : Item) (w x : ℕ) → eqb w u ≡ false → forgotten kn u i w x ≡ kn w x
unfolding ◌and◌ ◌or◌
known_other kn u i w x e = rw e (all_true (kn w x) i.was.occ)
  where
    all_true : (a b : Bool) → (a and (b or true)) ≡ a
    all_true true true = refl
    all_true true false = refl
    all_true false b = refl

differs : (t u : ℕ) → eqb u t ≡ false → eqb t u ≡ false
differs t u d = ne_eqb t u (λ z. eqb-false u t d (sym z))

-- two places that are not the same
twice : {A : Type 0} (o p x : ℕ) (a b c : A) → eqb o p ≡ false → cond (eqb x o) a (cond (eqb x p) b c) ≡ cond (eqb x p) b (cond (eqb x o) a c)
twice o p x a b c n = by_bool (eqb x o) (λ e. rw (e, eqb-true x o e, n)) (λ e. rw e)

or_again : (a b : Bool) → (a or b) ≡ (a or b or b)
unfolding ◌or◌
or_again true b = refl
or_again false true = refl
or_again false false = refl

-- an entry taken back that was not there, and one that was not taken back
unseen : (a b : Bool) → (b ≡ true → a ≡ false) → a ≡ ((a or b) and (false or not b))
unfolding ◌and◌ ◌or◌
unseen a true h = h refl ∙ sym (and_false (a or true))
unseen true false h = refl
unseen false false h = refl

stays : (a b : Bool) → a ≡ (a and (true or b))
unfolding ◌and◌ ◌or◌
stays true b = refl
stays false b = refl

module _ (t o m : ℕ) where
  -- create
  create_back : (s : St) → CreateFacts s t o m → Inv s → entered s t o m ≡ popped (created s t o m) t (item_of s o)
  create_back s f j = same_state _ _ (record {
    count = refl;
    cmt = λ x. refl;
    rec = λ x. by_bool (eqb x o) (λ e. rw (e, eqb-true x o e)) (λ e. rw e);
    cop = λ x. refl;
    cmt_tag = λ x. refl;
    rec_tag = λ x. by_bool (eqb x o) (λ e. rw (e, eqb-true x o e)) (λ e. rw e);
    now = refl;
    locks = refl;
    kn = λ w x. rw f.free (forgets w x);
    prt = λ w x. refl;
    cot = λ w x. refl;
    cot_f = λ x. refl;
    dirty = λ w p. or_again (s.tables.dirty w p) _;
    pass = refl;
  })
    where
      -- nobody knows what is not there
      unknown : (w x : ℕ) → (eqb w t and eqb x o) ≡ true → s.tables.kn w x ≡ false
      unknown w x e = is_false (s.tables.kn w x) (λ k. clash (known_there s j w x k) (rw (eqb-true x o (and_r _ _ e)) f.free))

      forgets : (w x : ℕ) → s.tables.kn w x ≡ (add s.tables.kn t o w x and (false or not (eqb w t and eqb x o)))
      forgets w x = unseen (s.tables.kn w x) (eqb w t and eqb x o) (unknown w x)

  create_swap : (s : St) (u : ℕ) (i : Item) → eqb u t ≡ false → eqb o i.o ≡ false → CreateFacts s t o m → created (popped s u i) t o m ≡ popped (created s t o m) u i
  create_swap s u i d n f = same_state _ _ (record {
    count = refl;
    cmt = λ x. refl;
    rec = λ x. twice o i.o x _ _ _ n;
    cop = λ x. refl;
    cmt_tag = λ x. refl;
    rec_tag = λ x. twice o i.o x _ _ _ n;
    now = refl;
    locks = refl;
    kn = λ w x. by_bool (eqb w u)
        (λ e. mine w x (ne_eqb w t (λ z. eqb-false u t d (sym (eqb-true w u e) ∙ z))))
        (λ e. ap (λ (b : Bool). b or (eqb w t and eqb x o)) (known_other s.tables.kn u i w x e) ∙ sym (known_other (add s.tables.kn t o) u i w x e));
    prt = λ w x. refl;
    cot = λ w x. refl;
    cot_f = λ x. refl;
    dirty = λ w p. or_swap (s.tables.dirty w p) _ _;
    pass = refl;
  })
    where
      mine : (w x : ℕ) → eqb w t ≡ false → add (forgotten s.tables.kn u i) t o w x ≡ forgotten (add s.tables.kn t o) u i w x
      mine w x e = rw (e, false_and, or_false, or_false)

  pub deep_create : (s : St) (us : Stacks) → CreateFacts s t o m → Deep s us → Deep (created s t o m) (push us t (item_of s o))
  deep_create s us f w k = pushed t o (λ s. created s t o m) (λ s. entered s t o m) (λ s. CreateFacts s t o m) (λ s f. keep_create s t o m f) (λ s f. f.own) (λ s. refl)
      (λ k s us f j w. deep_entry t o m k s us (entry_facts s t o m f j) w)
      create_back
      (λ s u i d n f. record { ranged = f.ranged; own = f.own; free = rw n f.free; line = f.line })
      create_swap k s us f (w k)

module _ (t o f v m : ℕ) where
  -- set
  set_back : (s : St) → SetFacts s t o f v m → Inv s → cutting s t (pruned (s.pages.rec o) f v) (page_of o) m ≡ popped (written s t o f v m) t (item_of s o)
  set_back s g j = same_state _ _ (record {
    count = refl;
    cmt = λ x. refl;
    rec = λ x. by_bool (eqb x o) (λ e. rw (e, eqb-true x o e)) (λ e. rw e);
    cop = λ x. refl;
    cmt_tag = λ x. refl;
    rec_tag = λ x. by_bool (eqb x o) (λ e. rw (e, eqb-true x o e)) (λ e. rw e);
    now = refl;
    locks = refl;
    kn = λ w x. rw (known_there s j t o g.known) (stays (s.tables.kn w x) _);
    prt = λ w x. refl;
    cot = λ w x. refl;
    cot_f = λ x. refl;
    dirty = λ w p. or_again (s.tables.dirty w p) _;
    pass = refl;
  })

  set_swap : (s : St) (u : ℕ) (i : Item) → eqb u t ≡ false → eqb o i.o ≡ false → SetFacts s t o f v m → written (popped s u i) t o f v m ≡ popped (written s t o f v m) u i
  set_swap s u i d n g = same_state _ _ (record {
    count = refl;
    cmt = λ x. refl;
    rec = λ x. rw n (twice o i.o x _ _ _ n);
    cop = λ x. refl;
    cmt_tag = λ x. refl;
    rec_tag = λ x. rw n (twice o i.o x _ _ _ n);
    now = refl;
    locks = refl;
    kn = λ w x. refl;
    prt = λ w x. rw n refl;
    cot = λ w x. refl;
    cot_f = λ x. refl;
    dirty = λ w p. or_swap (s.tables.dirty w p) _ _;
    pass = rw n refl;
  })

  set_found : (s : St) (u : ℕ) (i : Item) → eqb u t ≡ false → eqb o i.o ≡ false → SetFacts s t o f v m → SetFacts (popped s u i) t o f v m
  set_found s u i d n g = record {
    own = g.own;
    known = known_other s.tables.kn u i t o (differs t u d) ∙ g.known;
    target = λ h. elim (g.target (rw n at h)) [ inl e ↦ inl e | inr e ↦ inr (known_other s.tables.kn u i t v (differs t u d) ∙ e) ];
    line = g.line;
  }

  pub deep_set : (s : St) (us : Stacks) → SetFacts s t o f v m → Deep s us → Deep (written s t o f v m) (push us t (item_of s o))
  deep_set s us g w k = pushed t o (λ s. written s t o f v m) (λ s. cutting s t (pruned (s.pages.rec o) f v) (page_of o) m) (λ s. SetFacts s t o f v m)
      (λ s g. keep_set s t o f v m g) (λ s g. g.own) (λ s. refl)
      (λ k s us g j w. deep_cut t (pruned (s.pages.rec o) f v) (page_of o) m k s us (cut_facts s t o f v m g j) w)
      set_back set_found set_swap k s us g (w k)
