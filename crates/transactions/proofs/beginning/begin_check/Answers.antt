use mathlib.Core.Path.{sym, ◌∙◌}
use borrow.Author.Tests.{not-true, not-false}
use Rattle.transactions.specs.Checks.{client_range, begin_outside, begin_active, begin_passes, begin_full}
use native.Mathlib.Omega.{arith}
use Rattle.transactions.proofs.beginning.begin_check.Goals as goal

pub returns-then-not-t-client : goal.returns-then-not-t-client
returns-then-not-t-client c = begin_outside _ _ _ _ (not-true _ c.if-not-t-client.true-raw)

pub returns-then-has : goal.returns-then-has
returns-then-has c = begin_active _ _ _ _ (not-false _ c.if-not-t-client.false-raw) (sym c.has.ensures ∙ c.if-has.true)

pub returns-then-room_beyond : goal.returns-then-room_beyond
returns-then-room_beyond c = begin_passes _ _ _ _ (not-false _ c.if-not-t-client.false-raw) (sym c.has.ensures ∙ c.if-has.false) (sym c.room_beyond.ensures ∙ c.if-room_beyond.true)

pub returns-else-room_beyond : goal.returns-else-room_beyond
returns-else-room_beyond c = begin_full _ _ _ _ (not-false _ c.if-not-t-client.false-raw) (sym c.has.ensures ∙ c.if-has.false) (sym c.room_beyond.ensures ∙ c.if-room_beyond.false)

pub has-requires : goal.has-requires
has-requires c = let h = client_range c.args.t c.args.client (not-false _ c.if-not-t-client.false-raw) in (omega arith, omega arith)
