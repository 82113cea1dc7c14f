-- The phase word as the machine's phase. Assumes nothing.
use Prim.Native.Nat.{ℕ, zero, suc}
use native.Mathlib.Omega.{arith}
use mathlib.Core.Path.{◌≡◌, refl, sym, ap}
use mathlib.Core.Bool.{not}
use lib.Dec.{eqb}
use borrow.Author.Tests.{ne_eqb}
use mathlib.Core.List.{List}
use Rattle.areas.specs.Layout.{phase_at}
use Rattle.areas.specs.Tables.{at, pass_runs}
use Rattle.collector.specs.State.{is_idle, is_marking}
use Rattle.machine_calls.specs.Tables.{phase_of}

pub phase_idle : (k : ℕ) → is_idle (phase_of k) ≡ eqb k 0
phase_idle zero = refl
phase_idle (suc zero) = refl
phase_idle (suc (suc k)) = sym (ne_eqb (suc (suc k)) 0 (λ z. omega arith))

pub phase_marking : (k : ℕ) → is_marking (phase_of k) ≡ eqb k 1
phase_marking zero = refl
phase_marking (suc zero) = refl
phase_marking (suc (suc k)) = sym (ne_eqb (suc (suc k)) 1 (λ z. omega arith))

pub runs_phase : (w : List ℕ) → pass_runs w ≡ not (is_idle (phase_of (at w phase_at)))
runs_phase w = ap not (sym (phase_idle (at w phase_at)))
