-- Document 02, L8: which own numbers the book's lines write, and which objects show after them. Assumes nothing.
use Prim.Native.Nat.{ℕ, zero, suc, ◌≤◌}
use native.Mathlib.Omega.{arith}
use mathlib.Core.Path.{◌≡◌, refl, sym, ◌∙◌}
use mathlib.Core.Bool.{Bool, true, ◌||◌}
use mathlib.Core.List.{List, [], ◌∷◌}
use lib.Dec.{eqb}
use borrow.Author.Tests.{eqb-true}
use Rattle.words.specs.Tests.{by_bool, and_split}
use Rattle.pages.specs.Geometry.{is_ref}
use Rattle.pages.specs.Objects.{word_of}
use Rattle.records.specs.declared.Record.{Record}
use Rattle.records.specs.Records.{set_of}
use Rattle.records.specs.Effects.{undoing}
use Rattle.calls.specs.Calls.{Call}
use Rattle.calls.specs.Calls.Call.{begin, commit, abort, grant, lock_read, lock_write, read, create, set_word, flush, force, store, empty, pass, step, reopen, restep, mark, back, look}
use Rattle.book.specs.Lines.{Line, line, struck_out, is_left, left, struck_newest, undoing_newest, undone_lines}
use Rattle.book.specs.Books.{Book, full_pages}
use Rattle.book.specs.Feeding.{cleared_slots, sweep_lines, undoes, goes_back, fed}
use Rattle.book.specs.Pointers.{sweeps}
use Rattle.collector.specs.Objects.{Obj, blank, fresh, put}
use Rattle.machine_view.specs.View.{view, names, applied}
use Rattle.book_laws.specs.Seen.{seen}
use Rattle.book_laws.specs.Keeping.{Each, later, here}
use Rattle.book_laws.proofs.Members.{each_cons}
use Rattle.book_laws.proofs.Ends.{left_facts}
use Rattle.book_laws.proofs.Undoing.{strikes_newest, strikes_each}
use Rattle.book_laws.proofs.GoingBack.{went_lines}
use Rattle.book_laws.proofs.Soundness.{stop_each}

-- word f of object x is a reference word, of whatever page area (`ref_same`)
abbrev pub Ref : ℕ → ℕ → Type 0
Ref x f = is_ref [] x f ≡ true

-- the pages that a book starts from stay
went_origin : (k : ℕ) (b : Book) (t : ℕ) → (goes_back k b t).origin ≡ b.origin
unfolding goes_back
went_origin zero b t = refl
went_origin (suc k) b t = went_origin k (undoes b t) t

pub fed_origin : (n : ℕ) (b : Book) (r₀ r₁ : List ℕ) (c : Call) → (fed n b c r₀ r₁).origin ≡ b.origin
unfolding fed
fed_origin n b r₀ r₁ (begin t c) = refl
fed_origin n b r₀ r₁ (commit t) = refl
fed_origin n b r₀ r₁ (abort t) = refl
fed_origin n b r₀ r₁ (grant c p r) = refl
fed_origin n b r₀ r₁ (lock_read t p) = refl
fed_origin n b r₀ r₁ (lock_write t p) = refl
fed_origin n b r₀ r₁ (read t o buffer) = refl
fed_origin n b r₀ r₁ (create t o) = refl
fed_origin n b r₀ r₁ (set_word t o f v) = refl
fed_origin n b r₀ r₁ (flush t p image) = refl
fed_origin n b r₀ r₁ force = refl
fed_origin n b r₀ r₁ (store p) = refl
fed_origin n b r₀ r₁ empty = refl
fed_origin n b r₀ r₁ pass = refl
fed_origin n b r₀ r₁ step = refl
fed_origin n b r₀ r₁ reopen = refl
fed_origin n b r₀ r₁ restep = refl
fed_origin n b r₀ r₁ (mark t m) = refl
fed_origin n b r₀ r₁ (back t m) = went_origin _ b t
fed_origin n b r₀ r₁ (look q) = refl

-- G: where a reference word may have its object's number
module _ (G : ℕ → ℕ → Type 0) where
  -- an object numbered x, and a map of objects
  abbrev pub OwnAt : ℕ → Obj → Type 0
  OwnAt x b = (f : ℕ) → 1 ≤ x → Ref x f → b.word f ≡ x → G x f

  abbrev pub OwnOf : (ℕ → Obj) → Type 0
  OwnOf v = (x : ℕ) → OwnAt x (v x)

  -- a line: what its set writes, and what it overwrites, since undoing writes that
  pub record OwnLine (l : Line) : Type 0 where
    pub new : l.entry.kind ≡ 3 → 1 ≤ l.entry.object → Ref l.entry.object l.entry.field → l.entry.new ≡ l.entry.object → G l.entry.object l.entry.field
    pub old : l.entry.kind ≡ 3 → 1 ≤ l.entry.object → Ref l.entry.object l.entry.field → l.entry.old ≡ l.entry.object → G l.entry.object l.entry.field

  -- what a line makes of an object
  applied_own : (l : Line) → OwnLine l → (x : ℕ) (b : Obj) → OwnAt x b → OwnAt x (applied l.entry x b)
  unfolding applied fresh blank put
  applied_own l o x b h f low r e = by_bool (names 2 l.entry x)
      (λ c. absurd (let z : 0 ≡ x = rw c at e in omega arith))
      (λ c. by_bool (names 3 l.entry x)
      (λ d. let p = and_split (eqb l.entry.kind 3) (eqb l.entry.object x) d in
      let k : l.entry.object ≡ x = eqb-true _ _ p.1 in
      by_bool (eqb f l.entry.field)
      (λ g. let z : f ≡ l.entry.field = eqb-true _ _ g in
      rw (z, ← k) (o.new (eqb-true _ _ p.0) (rw k low) (rw (k, ← z) r) ((rw (c, d, g) at e) ∙ sym k)))
      (λ g. h f low r (rw (c, d, g) at e)))
      (λ d. by_bool (names 6 l.entry x || sweeps l.entry x)
      (λ g. absurd (let z : 0 ≡ x = rw (c, d, g) at e in omega arith))
      (λ g. h f low r (rw (c, d, g) at e))))

  pub seen_own : (a : List ℕ) (c : Line → Bool) (ls : List Line) → Each OwnLine ls → OwnOf (view a) → OwnOf (λ x. (seen a c ls x).object)
  unfolding seen
  seen_own a c [] h o x = o x
  seen_own a c (l ∷ ls) h o x = let on = seen_own a c ls (λ m i. h m (later i)) o x in by_bool (c l)
      (λ e. rw e (applied_own l (h l here) x (seen a c ls x).object on))
      (λ e. rw e on)

  -- a line of another kind
  unset : (r : Record) (i : ℕ) → (r.kind ≡ 3 → ⊥) → OwnLine (line r i)
  unset r i k = record { new = λ e. absurd (k e); old = λ e. absurd (k e) }

  -- an undoing line: old and new change places
  undoing_own : (l : Line) (i : ℕ) → OwnLine l → (eqb l.entry.kind 2 || eqb l.entry.kind 3) ≡ true → OwnLine (struck_out (line (undoing l.entry) i))
  unfolding undoing
  undoing_own l i o k = by_bool (eqb l.entry.kind 2)
      (λ e. rw e (record { new = λ z. absurd (omega arith); old = λ z. absurd (omega arith) }))
      (λ e. let z : l.entry.kind ≡ 3 = eqb-true _ _ (rw e at k) in rw e (record { new = λ y. o.old z; old = λ y. o.new z }))

  struck_each : (i : ℕ) (ls : List Line) → Each OwnLine ls → Each OwnLine (struck_newest i ls)
  struck_each i ls h = strikes_each i OwnLine (strikes_newest i ls) h (λ l j e. let o = h l j in record { new = o.new; old = o.old })

  undoing_each : (i : ℕ) (ls rest : List Line) → Each OwnLine ls → Each OwnLine rest → Each OwnLine (undoing_newest i ls rest)
  unfolding undoing_newest
  undoing_each i [] rest h r = r
  undoing_each i (l ∷ ls) rest h r = by_bool (is_left i l)
      (λ e. rw e (each_cons (undoing_own l i (h l here) (left_facts i l e).kind) r))
      (λ e. rw e (undoing_each i ls rest (λ m j. h m (later j)) r))

  undone_each : (i k : ℕ) (ls : List Line) → Each OwnLine ls → Each OwnLine (undone_lines i k ls)
  unfolding undone_lines
  undone_each i zero ls h = h
  undone_each i (suc k) ls h = undone_each i k _ (undoing_each i ls (struck_newest i ls) h (struck_each i ls h))

  sweeps_each : (before after : List ℕ) (ls : List Line) (k : ℕ) → Each OwnLine ls → Each OwnLine (sweep_lines before after ls k)
  unfolding sweep_lines
  sweeps_each before after ls zero h = h
  sweeps_each before after ls (suc p) h = let ih = sweeps_each before after ls p h in by_bool (eqb (cleared_slots before after p) 0)
      (λ e. rw e ih)
      (λ e. rw e (each_cons (unset _ 0 (λ z. omega arith)) ih))

  -- an accepted call: a set is asked for, all others keep it
  module _ (n : ℕ) (b : Book) (h : Each OwnLine b.lines) (r₀ r₁ : List ℕ) where
    pub fed_own : (c : Call) → ((t o f v : ℕ) → c ≡ set_word t o f v → OwnLine (line (set_of t o f (word_of (full_pages b) o f) v) (b.running t))) → Each OwnLine (fed n b c r₀ r₁).lines
    unfolding fed
    fed_own (begin t c) s = each_cons (unset _ _ (λ z. omega arith)) h
    fed_own (commit t) s = each_cons (unset _ _ (λ z. omega arith)) h
    fed_own (abort t) s = each_cons (unset _ _ (λ z. omega arith)) (undone_each (b.running t) (left (b.running t) b.lines) b.lines h)
    fed_own (grant c p r) s = h
    fed_own (lock_read t p) s = h
    fed_own (lock_write t p) s = h
    fed_own (read t o buffer) s = h
    fed_own (create t o) s = each_cons (unset _ _ (λ z. omega arith)) h
    fed_own (set_word t o f v) s = each_cons (s t o f v refl) h
    fed_own (flush t p image) s = h
    fed_own force s = h
    fed_own (store p) s = h
    fed_own empty s = h
    fed_own pass s = h
    fed_own step s = sweeps_each r₀ r₁ b.lines n h
    fed_own reopen s = stop_each OwnLine b h
    fed_own restep s = h
    fed_own (mark t m) s = h
    fed_own (back t m) s = rw (went_lines t _ b) (undone_each (b.running t) _ b.lines h)
    fed_own (look q) s = h
