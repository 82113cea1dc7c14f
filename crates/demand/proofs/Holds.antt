-- What the invariant gives at each point of a list: the claim's `Holds`. n is the number of pages. Assumes nothing.
use Prim.Native.Nat.{ℕ, zero, suc, ◌≤◌}
use native.Mathlib.Omega.{arith}
use mathlib.Core.Path.{◌≡◌, refl, sym, ap, ◌∙◌}
use mathlib.Core.Bool.{Bool, true, false, not, ◌&&◌}
use lib.Dec.{eqb}
use borrow.Author.Tests.{not-true}
use Rattle.words.specs.Tests.{if, by_bool, clash, and_split}
use Rattle.pages.specs.Geometry.{is_object}
use Rattle.pages.specs.Objects.{occupied, released}
use Rattle.records.specs.Effects.{effect}
use Rattle.areas.specs.Areas.{Areas, Out, appended}
use Rattle.areas.specs.Layout.{pass_page_at, phase_at}
use Rattle.areas.specs.Tables.{at}
use Rattle.areas.specs.Entry.{pages}
use Rattle.calls.specs.Calls.{step, perform}
use Rattle.calls.specs.Pass.{call_step, freed_map, sweep_map, locked, swept_page}
use Rattle.acceptance.specs.Entered.{Open, opened}
use Rattle.acceptance.specs.Pass.{step_outcome, step_way, step_facts, StepWay, scans, turns, sweeps, sweeping}
use Rattle.book.specs.Books as Books
use Rattle.book.specs.Books.{Book, committed_lines, full_lines, committed_pages, full_pages, counts_full, storing}
use Rattle.book.specs.Demand.{Point, Holds, Spares, Reopens, accepts, reclaims}
use Rattle.book.specs.Pointers.{Leads}
use Rattle.reach.specs.Reaching.{Reached}
use Rattle.collector.specs.Bits.{true_and}
use Rattle.collector.specs.Objects as O
use Rattle.collector.specs.Objects.{Obj, Reach, edge}
use Rattle.collector.specs.State as M
use Rattle.collector.specs.Claim as Claim
use Rattle.collector.specs.Calls as C
use Rattle.collector.proofs.Safety.{sound}
use Rattle.machine_view.proofs.Effects.{view_occ}
use Rattle.machine_calls.specs.Tables.{phase_of}
use Rattle.machine_pass.proofs.Sweep.{dead_at, swept_view}
use Rattle.book_laws.specs.Seen.{committed_of, seen_committed, seen_full}
use Rattle.demand.proofs.State.{machine, OpenInv}
use Rattle.demand.proofs.Pointing.{leads_out}
use Rattle.page_laws.specs.Places.{object_range}

-- what a step that cleared an object's slot was
pub record Swept (n : ℕ) (s : Areas) (o : ℕ) : Type 0 where
  pub opens : Open s n
  pub phase : phase_of (at s.work phase_at) ≡ M.sweeping
  pub dead : dead_at n s.copies s.work opens.ranged.working.created (at s.work pass_page_at) o ≡ true

not_both : {A : Type 0} (b : Bool) → b ≡ true → not b ≡ true → A
not_both b p q = clash p (not-true b q)

pub sweeping_phase : (k : ℕ) → (k ≡ 0 → ⊥) → eqb k 1 ≡ false → phase_of k ≡ M.sweeping
sweeping_phase zero z e = absurd (z refl)
sweeping_phase (suc zero) z e = clash refl e
sweeping_phase (suc (suc k)) z e = refl

module _ (n : ℕ) (s : Areas) (h : Open s n) (o : ℕ) (range : is_object n o ≡ true) where
  low : 1 ≤ o
  low = (object_range n o range).0

  -- the received pages after the sweep of the page
  freed : ℕ → Areas
  freed m = if (eqb m 0) s (swept_page s (at s.work pass_page_at) m)

  swept_received : (m : ℕ) → (eqb m 0 ≡ false) → (freed m).received ≡ released s.received (at s.work pass_page_at) m
  unfolding freed swept_page appended effect
  swept_received m e = rw e refl

  kept_received : (m : ℕ) → (eqb m 0 ≡ true) → (freed m).received ≡ s.received
  unfolding freed
  kept_received m e = rw e refl

  cleared_dead : occupied s.received o ≡ true → not (occupied (freed (freed_map s n (at s.work pass_page_at))).received o) ≡ true
      → dead_at n s.copies s.work h.ranged.working.created (at s.work pass_page_at) o ≡ true
  unfolding freed_map
  cleared_dead p q = by_bool (locked s.work n (at s.work pass_page_at))
      (λ e. not_both (occupied s.received o) p (rw (kept_received 0 refl) at (rw e at q)))
      (λ e. let m = sweep_map s.copies s.work n (at s.work pass_page_at) in by_bool (eqb m 0)
      (λ z. not_both (occupied s.received o) p (rw (kept_received m z) at (rw e at q)))
      (λ z. by_bool (dead_at n s.copies s.work h.ranged.working.created (at s.work pass_page_at) o) (λ d. d)
      (λ d. not_both (occupied (released s.received (at s.work pass_page_at) m) o) (still m d) (rw (swept_received m z) at (rw e at q)))))
    where
      still : (m : ℕ) → dead_at n s.copies s.work h.ranged.working.created (at s.work pass_page_at) o ≡ false
          → occupied (released s.received (at s.work pass_page_at) (sweep_map s.copies s.work n (at s.work pass_page_at))) o ≡ true
      still m d = sym (view_occ (released s.received (at s.work pass_page_at) (sweep_map s.copies s.work n (at s.work pass_page_at))) o low)
          ∙ ap (λ (b : Obj). b.occ) (swept_view n s.copies s.work h.ranged.working.created h.sized.copies_len s.received h.sized.received_len (at s.work pass_page_at) o h.ranged.working.pass_page)
          ∙ rw d (view_occ s.received o low ∙ p)

-- the three ways of a step
step_swept : (n : ℕ) (s : Areas) (h : Open s n) (o : ℕ) (out : Out) → is_object n o ≡ true → occupied s.received o ≡ true → not (occupied out.after.received o) ≡ true
    → (at s.work phase_at ≡ 0 → ⊥) → StepWay s n out → Swept n s o
unfolding freed
step_swept n s h o out r p q z (scans e g d) = not_both (occupied s.received o) p (rw d at q)
step_swept n s h o out r p q z (turns e g d) = not_both (occupied s.received o) p (rw d at q)
step_swept n s h o out r p q z (sweeps e c d) = record {
  opens = h;
  phase = sweeping_phase (at s.work phase_at) z e;
  dead = cleared_dead n s h o r p (rw d at q);
}

pub reclaimed : (n : ℕ) (q : Point) → pages q.store ≡ n → (o : ℕ) → accepts q step ≡ true → reclaims n q step o ≡ true → Swept n q.store o
unfolding perform
reclaimed n q size o a r =
    let s = q.store in
    let k = (step_outcome s).ran a in
    let h' = opened true s k.n k.ready in
    let e : k.n ≡ n = sym h'.sized.count ∙ size in
    let h : Open s n = rw e at h' in
    let g : call_step s ≡ Rattle.acceptance.specs.Pass.stepped s n = k.gives ∙ ap (Rattle.acceptance.specs.Pass.stepped s) e in
    let c = and_split (is_object n o && occupied s.received o) (not (occupied (call_step s).after.received o)) r in
    let d = and_split (is_object n o) (occupied s.received o) c.0 in
    step_swept n s h o (call_step s) d.0 d.1 c.1 (step_facts s k.passed).one_runs (step_way s n (call_step s) a g)

-- the machine reclaims what the words do
machine_reclaims : (n : ℕ) (s : Areas) (b : Book) (o : ℕ) → Swept n s o → Claim.reclaims (machine n s b) o ≡ true
machine_reclaims n s b o w = rw (w.phase, true_and (C.dead (machine n s b) o)) w.dead

module _ (n : ℕ) (some : 1 ≤ n) (s : Areas) (b : Book) (i : OpenInv n s b) where
  safe : Claim.Sound (machine n s b)
  safe = sound (machine n s b) i.collector

  -- what the full pages reach is occupied
  full_there : {x : ℕ} → Reach (λ y. (seen_full b y).object) x → (seen_full b x).object.occ ≡ true
  full_there O.root = i.collector.agreed.keeps 1 (i.collector.whole.wf 1 O.root)
  full_there (edge {o} {x} p h e) = safe.full.occupied o x p e

  pub open_full : Leads (full_pages b) (full_lines b)
  unfolding full_lines
  open_full = leads_out n b.origin i.sound.origin (counts_full b) b.lines i.sound.lines safe.full (λ x p. full_there p)

  pub open_committed : Leads (committed_pages b) (committed_lines b)
  unfolding committed_lines committed_of
  open_committed = i.log.leads 0 (omega arith)

  reached_committed : {x : ℕ} → Reached (committed_pages b) x → Reach (λ y. (seen_committed b y).object) x
  unfolding committed_lines
  reached_committed p = Rattle.demand.proofs.Pointing.to_reach n b.origin i.sound.origin (Rattle.book.specs.Books.counts_committed b) b.lines i.sound.lines i.collector.whole.wf p

  pub open_spares : Spares n (record { store = s; book = b })
  open_spares = record {
    reached = λ o a r p. safe.unreached o (machine_reclaims n s b o (reclaimed n (record { store = s; book = b }) i.size o a r)) (reached_committed p);
    known = λ t o a r u k. safe.unknown t o (machine_reclaims n s b o (reclaimed n (record { store = s; book = b }) i.size o a r)) (i.known t o k);
  }

  pub open_reopens : Reopens n (record { store = s; book = b })
  open_reopens = record { stored = λ a e. wrong e; copies = λ a e. wrong e; received = λ a e. wrong e }
    where
      wrong : {A : Type 0} → b.stage ≡ storing n → A
      wrong e = let d : Books.opened ≡ storing n = sym i.stage ∙ e in let z : ◌≡◌ {A = ℕ} 0 1 = cc in absurd (omega arith)

  pub open_holds : Holds n (record { store = s; book = b })
  open_holds = record {
    shown = λ e. i.full;
    finished = λ e. i.stage;
    committed = open_committed;
    full = open_full;
    spares = open_spares;
    reopens = open_reopens;
  }
