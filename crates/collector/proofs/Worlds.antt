-- The invariant in every world that going back may lead to: at any depth of changes taken back, of any transactions in any order. A step
-- keeps it where the step and taking back can change places. Assumes nothing.
use Prim.Native.Nat.{ℕ, zero, suc}
use native.Mathlib.Omega.{arith}
use mathlib.Core.Path.{◌≡◌, refl, sym, ◌∙◌}
use mathlib.Core.Bool.{Bool, true}
use mathlib.Core.List.{List, [], ◌∷◌}
use lib.Dec.{eqb}
use borrow.Author.Tests.{eqb-true}
use Rattle.collector.specs.Bits.{by_bool}
use Rattle.collector.specs.Objects.{page_of}
use Rattle.collector.specs.State.{St}
use Rattle.collector.specs.Undo.{Item, Stacks, with, popped}
use Rattle.collector.proofs.Invariant.{Inv}

-- the page of what t can take back is t's
abbrev pub Own : St → ℕ → Item → Type 0
Own s t i = s.locks.wr t (page_of i.o) ≡ true

-- down to depth k
pub data Worlds : ℕ → St → Stacks → Type 0 where
  here : {s : St} {us : Stacks} → Inv s → Worlds zero s us
  deeper : {k : ℕ} {s : St} {us : Stacks} → Inv s → ((t : ℕ) (i : Item) (r : List Item) → us t ≡ i ∷ r → Own s t i)
      → ((t : ℕ) (i : Item) (r : List Item) → us t ≡ i ∷ r → Worlds k (popped s t i) (with us t r)) → Worlds (suc k) s us

-- at every depth
abbrev pub Deep : St → Stacks → Type 0
Deep s us = (k : ℕ) → Worlds k s us

pub inv_of : {k : ℕ} {s : St} {us : Stacks} → Worlds k s us → Inv s
inv_of (here i) = i
inv_of (deeper i o d) = i

pub own_of : {k : ℕ} {s : St} {us : Stacks} → Worlds (suc k) s us → (t : ℕ) (i : Item) (r : List Item) → us t ≡ i ∷ r → Own s t i
own_of (deeper i o d) = o

pub below : {k : ℕ} {s : St} {us : Stacks} → Worlds (suc k) s us → (t : ℕ) (i : Item) (r : List Item) → us t ≡ i ∷ r → Worlds k (popped s t i) (with us t r)
below (deeper i o d) = d

pub fewer : (k : ℕ) {s : St} {us : Stacks} → Worlds (suc k) s us → Worlds k s us
fewer zero (deeper i o d) = here i
fewer (suc k) (deeper i o d) = deeper i o (λ t j r e. fewer k (d t j r e))

-- the same state and the same items
pub carried : (k : ℕ) (s s' : St) (us us' : Stacks) → s ≡ s' → ((t : ℕ) → us t ≡ us' t) → Worlds k s us → Worlds k s' us'
carried k s s' us us' e h w = let d : us ≡ us' = λ j t. h t j in rw (e, d) at w

-- states that are the same part by part
pub record SameParts (s s' : St) : Type 0 where
  pub count : s.count ≡ s'.count
  pub cmt : (x : ℕ) → s.pages.cmt x ≡ s'.pages.cmt x
  pub rec : (x : ℕ) → s.pages.rec x ≡ s'.pages.rec x
  pub cop : (x : ℕ) → s.pages.cop x ≡ s'.pages.cop x
  pub cmt_tag : (x : ℕ) → s.tags.cmt_tag x ≡ s'.tags.cmt_tag x
  pub rec_tag : (x : ℕ) → s.tags.rec_tag x ≡ s'.tags.rec_tag x
  pub now : s.tags.now ≡ s'.tags.now
  pub locks : s.locks ≡ s'.locks
  pub kn : (u x : ℕ) → s.tables.kn u x ≡ s'.tables.kn u x
  pub prt : (u x : ℕ) → s.tables.prt u x ≡ s'.tables.prt u x
  pub cot : (u x : ℕ) → s.tables.cot u x ≡ s'.tables.cot u x
  pub cot_f : (x : ℕ) → s.tables.cot_f x ≡ s'.tables.cot_f x
  pub dirty : (u p : ℕ) → s.tables.dirty u p ≡ s'.tables.dirty u p
  pub pass : s.pass ≡ s'.pass

pub same_state : (s s' : St) → SameParts s s' → s ≡ s'
same_state s s' e = λ j. record {
  count = e.count j;
  pages = record { cmt = λ x. e.cmt x j; rec = λ x. e.rec x j; cop = λ x. e.cop x j };
  tags = record { cmt_tag = λ x. e.cmt_tag x j; rec_tag = λ x. e.rec_tag x j; now = e.now j };
  locks = e.locks j;
  tables = record { kn = λ u x. e.kn u x j; prt = λ u x. e.prt u x j; cot = λ u x. e.cot u x j; cot_f = λ x. e.cot_f x j; dirty = λ u p. e.dirty u p j };
  pass = e.pass j;
}

-- states that differ at most in what is known and not flushed, or in the received and committed objects
pub same_tables : (s s' : St) → s.count ≡ s'.count → s.pages ≡ s'.pages → s.tags ≡ s'.tags → s.locks ≡ s'.locks → s.pass ≡ s'.pass
    → ((u x : ℕ) → s.tables.kn u x ≡ s'.tables.kn u x) → ((u p : ℕ) → s.tables.dirty u p ≡ s'.tables.dirty u p)
    → s.tables.prt ≡ s'.tables.prt → s.tables.cot ≡ s'.tables.cot → s.tables.cot_f ≡ s'.tables.cot_f → s ≡ s'
same_tables s s' n p a l b k d r c f = λ j. record {
  count = n j;
  pages = p j;
  tags = a j;
  locks = l j;
  tables = record { kn = λ u x. k u x j; prt = r j; cot = c j; cot_f = f j; dirty = λ u x. d u x j };
  pass = b j;
}

-- items after a step: those of before, of transactions that pass a test
abbrev pub Part : Stacks → Stacks → (ℕ → Bool) → Type 0
Part vs us q = (u : ℕ) (i : Item) (r : List Item) → vs u ≡ i ∷ r → (us u ≡ i ∷ r) × (q u ≡ true)

part_with : (vs us : Stacks) (q : ℕ → Bool) (t : ℕ) (r : List Item) → q t ≡ true → Part vs us q → Part (with vs t r) (with us t r) q
part_with vs us q t r p h u i s e = by_bool (eqb u t)
    (λ d. (rw d (rw d at e), rw (eqb-true u t d) p))
    (λ d. let k = h u i s (rw d at e) in (rw d k.0, k.1))

-- a step of a state by some a, with what it must have found; q: whose changes can still be taken back after it; next: by what the step is
-- made in the world below
module _ (A : Type 0) (step : A → St → St) (Found : A → St → Type 0) (q : ℕ → Bool) (next : A → ℕ → Item → A)
    (keep : (a : A) (s : St) → Found a s → Inv s → Inv (step a s))
    (own : (a : A) (s : St) (t : ℕ) (i : Item) → q t ≡ true → Own s t i → Own (step a s) t i)
    (found : (a : A) (s : St) (t : ℕ) (i : Item) → q t ≡ true → Own s t i → Inv s → Found a s → Found (next a t i) (popped s t i))
    (swap : (a : A) (s : St) (t : ℕ) (i : Item) → q t ≡ true → Own s t i → Inv s → Found a s → step (next a t i) (popped s t i) ≡ popped (step a s) t i) where
  pub stepped : (k : ℕ) (a : A) (s : St) (us vs : Stacks) → Part vs us q → Found a s → Worlds k s us → Worlds k (step a s) vs
  stepped zero a s us vs h f w = here (keep a s f (inv_of w))
  stepped (suc k) a s us vs h f (deeper j o d) = deeper (keep a s f j)
      (λ t i r e. let p = h t i r e in own a s t i p.1 (o t i r p.0))
      (λ t i r e. let p = h t i r e in let w = o t i r p.0 in
      carried k _ _ _ _ (swap a s t i p.1 w j f) (λ u. refl)
      (stepped k (next a t i) (popped s t i) (with us t r) (with vs t r) (part_with vs us q t r p.1 h) (found a s t i p.1 w j f) (d t i r p.0)))

-- a step that is the same in every world
module _ (step : St → St) (Found : St → Type 0) (q : ℕ → Bool)
    (keep : (s : St) → Found s → Inv s → Inv (step s))
    (own : (s : St) (t : ℕ) (i : Item) → q t ≡ true → Own s t i → Own (step s) t i)
    (found : (s : St) (t : ℕ) (i : Item) → q t ≡ true → Own s t i → Inv s → Found s → Found (popped s t i))
    (swap : (s : St) (t : ℕ) (i : Item) → q t ≡ true → Own s t i → Inv s → Found s → step (popped s t i) ≡ popped (step s) t i) where
  pub stepped_alike : (s : St) (us vs : Stacks) → Part vs us q → Found s → Deep s us → Deep (step s) vs
  stepped_alike s us vs h f w k = stepped Unit (λ a. step) (λ a. Found) q (λ a t i. tt) (λ a. keep) (λ a. own) (λ a. found) (λ a. swap) k tt s us vs h f (w k)

-- all items are those of before
pub all_of : (us : Stacks) → Part us us (λ u. true)
all_of us u i r e = (e, refl)

pub no_item : {A : Type 0} {i : Item} {r : List Item} → [] ≡ i ∷ r → A
no_item e = let z : ◌≡◌ {A = ℕ} 0 1 = cc in absurd (omega arith)

-- nothing can be taken back
pub flat : (k : ℕ) (s : St) (us : Stacks) → ((t : ℕ) → us t ≡ []) → Inv s → Worlds k s us
flat zero s us h j = here j
flat (suc k) s us h j = deeper j (λ t i r e. no_item (sym (h t) ∙ e)) (λ t i r e. no_item (sym (h t) ∙ e))

-- equal parts
pub deep_same : (s s' : St) (us : Stacks) → s'.count ≡ s.count → s'.pages ≡ s.pages → s'.tags ≡ s.tags → s'.locks ≡ s.locks
    → s'.tables ≡ s.tables → s'.pass ≡ s.pass → Deep s us → Deep s' us
deep_same s s' us n p a l b k w = let e : s' ≡ s = λ j. record { count = n j; pages = p j; tags = a j; locks = l j; tables = b j; pass = k j } in rw e w

-- t's newest change is taken back
pub taken : (s : St) (us : Stacks) (t : ℕ) (i : Item) (r : List Item) → us t ≡ i ∷ r → Deep s us → Deep (popped s t i) (with us t r)
taken s us t i r e w k = below (w (suc k)) t i r e
