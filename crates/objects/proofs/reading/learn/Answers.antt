use Rattle.objects.specs.Reading.{learned_none, learned_next_law}
use Rattle.pages.specs.Geometry.{slot_words}
use mathlib.Core.Path.{◌≡◌, refl}
use native.Mathlib.Omega.{arith}
use Rattle.objects.proofs.reading.learn.Goals as goal

pub loop-f-init : goal.loop-f-init
loop-f-init c = (omega arith, refl, learned_none _ _ _ _ _)

pub learn_word-requires : goal.learn_word-requires
learn_word-requires c = let p = c.requires in let l = c.loop-f.invariant.1 in record { n_in_bounds = (p.n_in_bounds.0, (p.n_in_bounds.1.0, omega arith), p.n_in_bounds.2); t_lt_txn_count = (p.t_lt_txn_count.0, p.t_lt_txn_count.1, p.t_lt_txn_count.2, omega arith) }

pub loop-f-preserved : goal.loop-f-preserved
loop-f-preserved c = (omega arith, omega (arith, c.learn_word.auto.work), learned_next_law _ _ _ _ _ _ _ _ c.loop-f.invariant.2 c.learn_word.ensures)

pub returns : goal.returns
returns c = let e : c.loop-f.f ≡ slot_words = omega arith in rw e at c.loop-f.invariant.2
