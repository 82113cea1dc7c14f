use native.Mathlib.Omega.{arith}
use lib.ListN.{length-set}
use borrow.Author.Rules.{rules}
use Rattle.pass_record.specs.Step.{with_record}
use Rattle.pass_record.proofs.put_pass.Goals as goal

pub bounds-work-3 : goal.bounds-work-3
bounds-work-3 c = simp length-set (omega arith)

pub bounds-work-4 : goal.bounds-work-4
bounds-work-4 c = simp length-set (omega arith)

pub returns : goal.returns
unfolding with_record
returns c = search rules
