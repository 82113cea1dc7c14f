use native.Mathlib.Omega.{arith}
use borrow.Author.Rules.{rules}
use Prim.Native.Nat.{ℕ, ◌+◌}
use mathlib.Core.Path.{◌≡◌, refl, ap, ◌∙◌}
use mathlib.Core.List.{List}
use lib.Seq.{paste-zero}
use lib.ListN.{length, length-set, set, get_or}
use Rattle.pages.specs.Geometry.{slot_words}
use Rattle.page_laws.specs.Runs.{paste_next}
use Rattle.page_rows.proofs.rows.put_row.Goals as goal

pub loop-f-init : goal.loop-f-init
loop-f-init c = (omega arith, refl, paste-zero c.args.a.now c.args.b c.args.r)

pub loop-f-preserved : goal.loop-f-preserved
loop-f-preserved c = let k : length c.args.r ≡ slot_words = search rules in let a = c.args in let f = c.loop-f.f in (omega arith, simp length-set c.loop-f.invariant.1, ap (λ (l : List ℕ). set l (a.b + f) (get_or a.r f 0)) c.loop-f.invariant.2 ∙ paste_next a.a.now a.b a.r f (omega arith) (omega arith))

pub returns : goal.returns
returns c = let e : c.loop-f.f ≡ slot_words = omega arith in rw e at c.loop-f.invariant.2
