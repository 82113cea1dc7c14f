-- An accepted set keeps the invariant. n is the number of pages. Assumes nothing.
use Prim.Native.Nat.{ℕ, suc, ◌≤◌, ◌<◌}
use native.Mathlib.Omega.{arith}
use mathlib.Core.Path.{◌≡◌, refl, sym, ap, ◌∙◌, subst}
use mathlib.Core.Bool.{true, cond}
use mathlib.Core.List.{List}
use mathlib.Core.Logic.{inl, inr}
use lib.ListN.{length}
use lib.Dec.{eqb}
use borrow.Author.Tests.{eqb-true, lt-ltb}
use Rattle.words.specs.Tests.{by_bool}
use Rattle.pages.specs.Geometry.{is_ref_at, object_count}
use Rattle.pages.specs.Objects.{word_of}
use Rattle.records.specs.declared.Record.{Record}
use Rattle.records.specs.Records.{set_of}
use Rattle.areas.specs.Answers.{accepted}
use Rattle.areas.specs.Areas.{Areas, Out}
use Rattle.calls.specs.Calls.{set_word}
use Rattle.calls.specs.Objects.{word_set, call_set}
use Rattle.acceptance.specs.Entered.{Open, opened}
use Rattle.acceptance.specs.Objects as Accepted
use Rattle.acceptance.specs.Objects.{set_outcome, known_facts}
use Rattle.book.specs.Books.{Book}
use Rattle.book.specs.Feeding.{fed, adds}
use Rattle.collector.specs.Objects.{Obj, put, stamp}
use Rattle.collector.specs.State.{Tables}
use Rattle.collector.specs.Calls as C
use Rattle.collector.specs.Undo.{push, item_of}
use Rattle.collector.proofs.Worlds.{Deep}
use Rattle.collector.proofs.Pushing.{deep_set}
use Rattle.collector.proofs.Known.{known_there}
use Rattle.machine_calls.specs.Tables.{tables_of}
use Rattle.machine_calls.proofs.Areas.{reference}
use Rattle.machine_calls.proofs.Facts as Facts
use Rattle.machine_calls.proofs.Written.{writes, set_beside, set_tables}
use Rattle.machine_calls.proofs.Shows.{set_shows}
use Rattle.machine_view.proofs.Effects.{view_word}
use Rattle.recovery_proof.proofs.Reversal.{set_back}
use Rattle.book_laws.specs.Seen.{Seen, acted, seen_full}
use Rattle.book_laws.proofs.Acts.{set_acts}
use Rattle.record_laws.specs.SoundRecords.{set_sound}
use Rattle.book_laws.proofs.Invariant.{adds_inv}
use Rattle.demand.proofs.State.{machine, OpenInv}
use Rattle.demand.proofs.Change.{machine_shows, full_shown, Changing, change_runs, collector_after, open_change}

-- what a set makes of an object, as the machine says it
written_at : (m t o f a v x : ℕ) (see : ℕ → Seen) → acted m (set_of t o f a v) x (see x)
    ≡ record { object = cond (eqb x o) (put (see o).object f v) (see x).object; tag = cond (eqb x o) (stamp (see o).tag f m) (see x).tag }
written_at m t o f a v x see = set_acts m x (see x) t o f a v ∙ by_bool (eqb x o) (λ e. rw (e, eqb-true x o e) refl) (λ e. rw e refl)

module _ (n : ℕ) (some : 1 ≤ n) (s : Areas) (b : Book) (i : OpenInv n s b) (h : Open s n) (t o f v : ℕ) (g : Accepted.SetFacts s n t o f v) where
  abbrev w : List ℕ
  w = writes s.received s.work n t o f v

  abbrev m : ℕ
  m = suc (length b.lines)

  abbrev r : Record
  r = set_of t o f (word_of s.received o f) v

  -- a reference written is 0 or known, so it is in range
  new_range : f < 4 → v ≤ object_count n
  unfolding is_ref_at
  new_range l = elim (g.may (lt-ltb f 4 l)) [ inl z ↦ omega arith | inr k ↦ (known_facts s.work n t v k).object.top ]

  changing : Changing n s b t r w
  changing = record {
    kind = inr refl;
    txn = refl;
    small = g.txn;
    active = g.active;
    ok = set_sound n t g.txn o g.object.top f (word_of s.received o f) v g.object.low g.field
        (reference s.received n h.ranged.received_sound o f g.object.low g.object.top) new_range;
    room = g.room;
    own = Facts.own_is s n (machine n s b) (machine_shows n s b) t o g.txn g.object g.lock;
    back = set_back r (seen_full b o).object refl (ap (λ (x : Obj). x.word f) (full_shown n s b i o) ∙ view_word s.received o g.object.low f g.field);
    there = known_there (machine n s b) i.collector t o (Facts.set_facts s n (machine n s b) (machine_shows n s b) t o f v m g (omega arith)).known;
    beside = set_beside s.received s.work n t o f v h.ranged.received_sound g.object.low g.object.top g.field;
  }

  machine_kept : Deep (C.written (machine n s b) t o f v m) (push i.going.stack t (item_of (machine n s b) o))
  machine_kept = deep_set t o f v m (machine n s b) i.going.stack (Facts.set_facts s n (machine n s b) (machine_shows n s b) t o f v m g (omega arith)) i.going.deep

  -- what is known stays known
  known_after : (u x : ℕ) → b.known u x ≡ true → (tables_of w n).kn u x ≡ true
  known_after u x q = ap (λ (b : Tables). b.kn u x)
      (set_tables s.received s.work n t o f v h.ranged.received_sound g.object.low g.object.top g.field h.sized.tables.1 g.txn) ∙ i.known u x q

  set_kept : OpenInv n (word_set s n t o f v) (adds b t r)
  unfolding word_set
  set_kept = let c = changing in let run = change_runs n some s b i h t r w c b.known in
      open_change n some s b i h t r w c b.known
      (collector_after n some s b i h t r w c b.known (push i.going.stack t (item_of (machine n s b) o)) (C.written (machine n s b) t o f v m)
      (set_shows s.work n h.sized.tables.1 (machine n s b) (machine_shows n s b) t o g.txn g.object.low g.object.top
      s.received h.ranged.received_sound (full_shown n s b i o) f v m g.field)
      machine_kept _ _ refl refl (λ x. written_at m t o f (word_of s.received o f) v x (seen_full b)))
      (adds_inv b i.book t r run refl refl (λ z. omega arith) (λ z. omega arith) refl)
      known_after

pub open_set : (n : ℕ) → 1 ≤ n → (s : Areas) (b : Book) → OpenInv n s b → (t o f v : ℕ) → accepted (call_set s t o f v).answer ≡ true
    → OpenInv n (call_set s t o f v).after (fed n b (set_word t o f v) s.received (call_set s t o f v).after.received)
unfolding fed
open_set n some s b i t o f v a =
    let k = (set_outcome s t o f v).ran a in
    let h = opened true s k.n k.ready in
    let e : k.n ≡ n = sym h.sized.count ∙ i.size in
    let g : (call_set s t o f v).after ≡ word_set s n t o f v = ap (λ (x : Out). x.after) k.gives ∙ ap (λ (p : ℕ). word_set s p t o f v) e in
    rw g (subst (λ (x : List ℕ). OpenInv n (word_set s n t o f v) (adds b t (set_of t o f (word_of x o f) v))) i.full
    (set_kept n some s b i (rw e at h) t o f v (rw e at (Accepted.set_facts s k.n t o f v k.passed))))
