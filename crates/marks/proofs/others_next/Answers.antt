use native.Mathlib.Omega.{arith}
use Rattle.marks.proofs.others_next.Goals as goal

pub returns-then-j-m : goal.returns-then-j-m
returns-then-j-m c = rw c.if-j-m.true

pub returns-else-j-m : goal.returns-else-j-m
returns-else-j-m c = rw c.if-j-m.false (omega arith)
