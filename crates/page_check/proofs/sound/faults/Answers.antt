-- A word that is 0 where all bits are looked at, or where none is. Assumes nothing.
use Rattle.page_check.specs.SoundLaws.{faults_none}
use native.Mathlib.Omega.{arith}
use Rattle.page_check.proofs.sound.faults.Goals as goal

pub returns : goal.returns
returns c t e =
    let s = c.args in
    faults_none s.a.now s.before s.i s.j s.free c.above.result s.top t
    (omega (arith, c.shared_slice_known-4-1.given s.i)) (omega (arith, c.shared_slice_known-4-1.given s.j)) e c.above.ensures
