-- An accepted call of an open store, by what it went through. n is the number of pages. Assumes nothing.
use Rattle.std.specs.Prelude.{Ok}
use Prim.Native.Nat.{ℕ}
use mathlib.Core.Path.{◌≡◌, sym, ap, ◌∙◌}
use mathlib.Core.Bool.{Bool, true}
use mathlib.Core.List.{List}
use Rattle.areas.specs.Answers.{accepted, Test, verdict}
use Rattle.areas.specs.Areas.{Areas, Out}
use Rattle.areas.specs.Entry.{pages}
use Rattle.acceptance.specs.Entered.{Open, opened}
use Rattle.acceptance.specs.Ran.{Outcome}

pub through : (own : Bool) (s : Areas) (tests : ℕ → List Test) (o : Out) (k : ℕ → Out) (n : ℕ) (P : Areas → Type 0) → Outcome true own s tests o k → accepted o.answer ≡ true → pages s ≡ n
    → (Open s n → verdict (tests n) ≡ Ok tt → P (k n).after) → P o.after
through own s tests o k n P h a size f =
    let r = h.ran a in
    let p = opened own s r.n r.ready in
    let e : r.n ≡ n = sym p.sized.count ∙ size in
    let g : o.after ≡ (k n).after = ap (λ (x : Out). x.after) r.gives ∙ ap (λ (m : ℕ). (k m).after) e in
    rw g (f (rw e at p) (rw e at r.passed))
