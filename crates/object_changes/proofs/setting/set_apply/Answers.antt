use Prim.Native.Nat.{ℕ}
use Rattle.records.specs.Effects.{effect}
use Rattle.records.specs.Records.{set_of, recorded}
use lib.ListN.{get_or}
use mathlib.Core.Path.{ap, ◌∙◌}
use native.Mathlib.Omega.{arith}
use Rattle.object_changes.proofs.setting.set_apply.Goals as goal

pub enter_write-requires : goal.enter_write-requires
enter_write-requires c = let p = c.requires in let e = c.word_of-old.ensures in (p.2, p.3, p.4, p.5, λ r. (let k = p.7 r in omega arith))

pub append-requires : goal.append-requires
append-requires c = rw (c.set_of.ensures, c.word_of-old.ensures) c.requires.0

pub returns : goal.returns
returns c = let a = c.args in let e = c.word_of-old.ensures in let d = c.set_of.ensures ∙ ap (λ (x : ℕ). set_of a.t a.o a.f x a.v) e in let z = c.append.ensures in (z.0, z.1 ∙ ap (effect a.received.now) d, z.2 ∙ ap (recorded a.log.now (get_or a.counts.now 0 0)) d, z.3, cc)
