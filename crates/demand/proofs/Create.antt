-- An accepted create keeps the invariant. n is the number of pages. Assumes nothing.
use Prim.Native.Nat.{ℕ, suc, ◌≤◌}
use native.Mathlib.Omega.{arith}
use mathlib.Core.Path.{◌≡◌, refl, sym, ap, ◌∙◌}
use mathlib.Core.Bool.{true, cond}
use mathlib.Core.List.{List, []}
use mathlib.Core.Logic.{inl, inr}
use lib.ListN.{length}
use lib.Dec.{eqb}
use borrow.Author.Tests.{eqb-true, eq-eqb}
use Rattle.words.specs.Tests.{or_cases, by_bool, clash}
use Rattle.pages.specs.Geometry.{root}
use Rattle.pages.specs.Objects.{occupied}
use Rattle.records.specs.Records.{create_of}
use Rattle.areas.specs.Answers.{accepted}
use Rattle.areas.specs.Areas.{Areas, Out}
use Rattle.calls.specs.Calls.{create}
use Rattle.calls.specs.Objects.{created, call_create}
use Rattle.acceptance.specs.Entered.{Open, opened}
use Rattle.acceptance.specs.Objects as Accepted
use Rattle.acceptance.specs.Objects.{create_outcome}
use Rattle.book.specs.Books.{Book}
use Rattle.book.specs.Feeding.{fed, adds, learns}
use Rattle.collector.specs.Bits.{or_l, or_r, and_intro}
use Rattle.collector.specs.Objects.{Obj, blank, fresh, born_at}
use Rattle.collector.proofs.Objects.{blank_occ}
use Rattle.collector.specs.State.{Tables, add}
use Rattle.collector.specs.Calls as C
use Rattle.collector.specs.Undo.{push, item_of}
use Rattle.collector.proofs.Worlds.{Deep}
use Rattle.collector.proofs.Pushing.{deep_create}
use Rattle.machine_calls.specs.Tables.{tables_of}
use Rattle.machine_calls.proofs.Frames.{wider}
use Rattle.machine_calls.proofs.Facts as Facts
use Rattle.machine_calls.proofs.Created.{makes, create_beside, create_tables}
use Rattle.machine_calls.proofs.Shows.{create_shows}
use Rattle.machine_view.proofs.Effects.{view_free}
use Rattle.recovery_proof.proofs.Reversal.{create_back}
use Rattle.book_laws.specs.Seen.{Seen, acted, seen_full}
use Rattle.book_laws.proofs.Acts.{create_acts}
use Rattle.page_laws.specs.SoundFacts.{sound_facts, free_zero_law}
use Rattle.record_laws.specs.SoundRecords.{create_sound}
use Rattle.book_laws.proofs.Fed.{fed_inv}
use Rattle.demand.proofs.State.{machine, OpenInv}
use Rattle.demand.proofs.Change.{machine_shows, full_shown, Changing, change_runs, collector_after, open_change}

-- what a create makes of an object, as the machine says it
created_at : (m t o x : ℕ) (v : Seen) → acted m (create_of t o) x v ≡ record { object = cond (eqb x o) fresh v.object; tag = cond (eqb x o) (born_at m) v.tag }
created_at m t o x v = create_acts m x v t o ∙ by_bool (eqb x o) (λ e. rw e refl) (λ e. rw e refl)

module _ (n : ℕ) (some : 1 ≤ n) (s : Areas) (b : Book) (i : OpenInv n s b) (h : Open s n) (t o : ℕ) (f : Accepted.CreateFacts s n t o) where
  abbrev w : List ℕ
  w = makes s.work n t o

  abbrev m : ℕ
  m = suc (length b.lines)

  not_root : o ≡ root → ⊥
  not_root e = clash (sound_facts s.received n h.ranged.received_sound).rooted (ap (occupied s.received) (sym e) ∙ f.free)

  was_blank : (seen_full b o).object ≡ blank
  was_blank = full_shown n s b i o
      ∙ view_free s.received o f.object.low f.free (λ k l. free_zero_law s.received n o h.ranged.received_sound f.object.low f.object.top k l f.free)

  changing : Changing n s b t (create_of t o) w
  changing = record {
    kind = inl refl;
    txn = refl;
    small = f.txn;
    active = f.active;
    ok = create_sound n t f.txn o f.object.top (let l = f.object.low in omega (arith, not_root));
    room = f.room;
    own = Facts.own_is s n (machine n s b) (machine_shows n s b) t o f.txn f.object f.lock;
    back = create_back (create_of t o) (seen_full b o).object refl was_blank;
    there = ap (λ (v : Obj). v.occ) was_blank ∙ blank_occ;
    beside = wider (create_beside s.work n t o f.object.low f.object.top) (omega arith) (omega arith);
  }

  machine_kept : Deep (C.created (machine n s b) t o m) (push i.going.stack t (item_of (machine n s b) o))
  machine_kept = deep_create t o m (machine n s b) i.going.stack
      (Facts.create_facts s n (machine n s b) (machine_shows n s b) t o m (full_shown n s b i o) f (omega arith)) i.going.deep

  -- what t knows
  knows : (u x : ℕ) → (tables_of w n).kn u x ≡ add (tables_of s.work n).kn t o u x
  knows u x = ap (λ (b : Tables). b.kn u x) (create_tables s.work n t o f.object.low f.object.top h.sized.tables.1 f.txn)

  known_after : (u x : ℕ) → (learns (adds b t (create_of t o)) t (eqb o)).known u x ≡ true → (tables_of w n).kn u x ≡ true
  known_after u x q = knows u x ∙ by_bool (eqb u t)
      (λ e. elim (or_cases (b.known t x) (eqb o x) (rw e at q)) [
        | inl d ↦ or_l _ _ (i.known u x (ap (λ (v : ℕ). b.known v x) (eqb-true u t e) ∙ d))
        | inr d ↦ or_r _ _ (and_intro _ _ e (eq-eqb x o (sym (eqb-true o x d))))
      ])
      (λ e. or_l _ _ (i.known u x (rw e at q)))

  create_kept : OpenInv n (created s n t o) (learns (adds b t (create_of t o)) t (eqb o))
  unfolding created fed
  create_kept = let c = changing in let k = (learns (adds b t (create_of t o)) t (eqb o)).known in
      open_change n some s b i h t (create_of t o) w c k
      (collector_after n some s b i h t (create_of t o) w c k (push i.going.stack t (item_of (machine n s b) o)) (C.created (machine n s b) t o m)
      (create_shows s.work n h.sized.tables.1 (machine n s b) (machine_shows n s b) t o f.txn f.object.low f.object.top m)
      machine_kept _ _ refl refl (λ x. created_at m t o x (seen_full b x)))
      (fed_inv n b (create t o) [] [] i.book (change_runs n some s b i h t (create_of t o) w c k))
      known_after

pub open_create : (n : ℕ) → 1 ≤ n → (s : Areas) (b : Book) → OpenInv n s b → (t o : ℕ) → accepted (call_create s t o).answer ≡ true
    → OpenInv n (call_create s t o).after (fed n b (create t o) s.received (call_create s t o).after.received)
unfolding fed
open_create n some s b i t o a =
    let k = (create_outcome s t o).ran a in
    let h = opened true s k.n k.ready in
    let e : k.n ≡ n = sym h.sized.count ∙ i.size in
    let g : (call_create s t o).after ≡ created s n t o = ap (λ (x : Out). x.after) k.gives ∙ ap (λ (p : ℕ). created s p t o) e in
    rw g (create_kept n some s b i (rw e at h) t o (rw e at (Accepted.create_facts s k.n t o k.passed)))
