use mathlib.Core.Path.{◌≡◌, refl}
use native.Mathlib.Omega.{arith}
use Rattle.records.specs.Records.{txn_count}
use Rattle.records.specs.Changes.{reserved}
use Rattle.reserves.specs.Reserves.{reserved_next}
use Rattle.words.specs.Tests as tests
use Rattle.reserves.proofs.reserved.Goals as goal

pub loop-t-init : goal.loop-t-init
unfolding tests.sum
loop-t-init c = (omega arith, omega arith, refl)

pub reserve_of-sum-requires : goal.reserve_of-sum-requires
reserve_of-sum-requires c = let f = c.walk_down-walk.ensures.few _ c.loop-t-test.true in omega arith

pub overflow_add-sum : goal.overflow_add-sum
overflow_add-sum c = omega (arith, c.reserve_of-sum.ensures.1)

pub loop-t-preserved : goal.loop-t-preserved
loop-t-preserved c =
    (omega arith, omega (arith, c.reserve_of-sum.ensures.1), reserved_next _ _ _ _ _ _ _ _ _ c.walk_down-walk.ensures c.loop-t-test.true c.loop-t.invariant.2 c.reserve_of-sum.ensures.0)

pub returns : goal.returns
unfolding reserved
returns c = let e : c.loop-t.t ≡ txn_count = omega arith in record { value = rw e at c.loop-t.invariant.2; upper_bound = omega arith }
