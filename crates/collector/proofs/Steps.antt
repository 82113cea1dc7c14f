-- How many steps a pass takes: no more than 17 for each page and one. Assumes nothing.
use Prim.Native.Nat.{ℕ, suc, ◌*◌, ◌-◌, ◌≤◌, ◌<◌}
use native.Mathlib.Omega.{arith}
use mathlib.Core.Path.{◌≡◌, refl}
use Rattle.collector.specs.State.{is_black, St, objects}
use Rattle.collector.proofs.Count.{countb_most, countb_less}
use Rattle.collector.proofs.Safe.{by_phase}
use Rattle.collector.proofs.Invariant.{Inv}
use Rattle.collector.proofs.Facts.{MarkFacts}

-- each object is scanned once
pub steps_marking : (s : St) (o : ℕ) → MarkFacts s o → Inv s → s.pass.steps < 16 * s.count
steps_marking s o g i = let l = i.counted.ranged o (rw g.colour refl) in let k : suc (o - 1) ≡ o = omega arith in
    rw (i.counted.scanned g.phase) (countb_less (objects s) (λ j. is_black (s.pass.col (suc j))) (o - 1) (omega arith) (rw (k, g.colour) refl))

pub steps_most : (s : St) → Inv s → s.pass.steps ≤ 17 * s.count
steps_most s i = let b = countb_most (objects s) (λ j. is_black (s.pass.col (suc j))) in let l = i.counted.page in by_phase s.pass.phase
    (λ p. let e = i.counted.over p in omega arith)
    (λ p. let e = i.counted.scanned p in omega arith)
    (λ p. let e = i.counted.turned p in omega arith)
