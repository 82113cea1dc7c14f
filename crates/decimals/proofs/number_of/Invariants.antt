use Rattle.std.proofs.Common.{◌≡◌, ◌≤◌, drop}
use Rattle.decimals.specs.Digits.{largest}
use Rattle.decimals.specs.Numbers.{digits_from, number_in}
use Rattle.decimals.proofs.number_of.Given as goal

abbrev pub invariant-loop-b : goal.invariant-loop-b
invariant-loop-b l = (l.n ≤ largest) × (digits_from l.n (drop l.b-index l.s) ≡ number_in l.s)
