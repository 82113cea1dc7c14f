-- An accepted call that only looks: what it went through, and its outcome. Assumes nothing.
use Rattle.std.specs.Prelude.{Ok}
use Prim.Native.Nat.{ℕ}
use mathlib.Core.Path.{◌≡◌, sym, ap, subst}
use mathlib.Core.Bool.{true}
use Rattle.areas.specs.Answers.{accepted}
use Rattle.areas.specs.Areas.{Areas, done}
use Rattle.areas.specs.Entry.{pages}
use Rattle.calls.specs.Looks.{Look, call_look}
use Rattle.acceptance.specs.Ran.{Ran}
use Rattle.acceptance.specs.Looks.{look_outcome}

module _ (s : Areas) (q : Look) (v : ℕ) (t : (call_look s q).answer ≡ Ok v) where
  pub look_ran : Ran true q.own s (q.tests s) (call_look s q) (λ n. done (q.value s n) s)
  look_ran = (look_outcome s q).ran (ap accepted t)

  pub look_gave : call_look s q ≡ done (q.value s (pages s)) s
  look_gave = subst (λ (n : ℕ). call_look s q ≡ done (q.value s n) s) (sym look_ran.ready.count) look_ran.gives
