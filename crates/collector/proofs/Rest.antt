-- A state with nobody at work: after formatting, and after a reopening. Assumes nothing.
use Prim.Native.Nat.{ℕ, ◌*◌, ◌≤◌}
use native.Mathlib.Omega.{arith}
use mathlib.Core.Path.{◌≡◌, refl}
use mathlib.Core.Bool.{true, cond}
use mathlib.Core.Logic.{inl}
use lib.Dec.{eqb}
use Rattle.collector.specs.Bits.{by_bool, clash}
use Rattle.collector.specs.Objects.{Obj, Tag, blank, fresh, born_at, points, root, edge, Reach, Whole}
use Rattle.collector.specs.State.{St, objects, at_rest, formatted}
use Rattle.collector.specs.Calls.{reset}
use Rattle.collector.proofs.Objects.{fresh_occ, fresh_none, blank_none}
use Rattle.collector.proofs.Safe.{idle_mark, idle_sweep}
use Rattle.collector.proofs.Invariant.{Inv}

at_rest_law : (p : ℕ) (m : ℕ → Obj) (a : ℕ → Tag) (n : ℕ) → 1 ≤ 16 * p → Whole (16 * p) n m a → Inv (at_rest p m a n)
at_rest_law p m a n l w = record {
  whole = w;
  exclusive = record { active = λ t e. clash e refl; reader = λ t q e. clash e refl; writer = λ t q e. clash e refl; sole = λ t u q e. clash e refl; alone = λ t u q e. refl };
  agreed = record { one = l; free_r = λ o e. refl; free_c = λ o e. refl; keeps = λ o k. k; range_c = w.range };
  prune = record { kept_r = λ t o x e k. inl k; kept_c = λ t o x e k. inl k; ranged = λ t x e. clash e refl; clean = λ t o e d. refl };
  known = record { wrote = λ t o x e k. inl k; knows = λ t x e. clash e refl; made = λ t o e. clash e refl };
  dated = record { free_t = λ o e. refl; same_born = λ x h. refl; young = w.young; tagged = λ t o f e. clash e refl };
  marks = λ r. clash refl r;
  counted = record { ranged = λ o e. clash refl e; page = omega arith; scanned = λ e. idle_mark refl e; turned = λ e. idle_sweep refl e; over = λ e. refl };
}

pub keep_reset : (s : St) (m : ℕ → Obj) (a : ℕ → Tag) (n : ℕ) → Whole (objects s) n m a → Inv s → Inv (reset s m a n)
keep_reset s m a n w i = at_rest_law s.count m a n i.agreed.one w

pub start : (p : ℕ) → 1 ≤ p → Inv (formatted p)
unfolding formatted born_at
start p l = at_rest_law p m (λ o. born_at 0) 0 (omega arith) (record {
  leads = λ o f q r z. omega arith;
  young = λ x h. omega arith;
  range = λ o x e. none o x e;
  wf = λ x q. only q;
})
  where
    m : ℕ → Obj
    m o = cond (eqb o 1) fresh blank

    none : {A : Type 0} (o x : ℕ) → points (m o) x ≡ true → A
    none o x e = by_bool (eqb o 1) (λ d. fresh_none x (rw d at e)) (λ d. blank_none x (rw d at e))

    only : {x : ℕ} → Reach m x → (m x).occ ≡ true
    only root = fresh_occ
    only (edge {o} {x} q h e) = none o x e
