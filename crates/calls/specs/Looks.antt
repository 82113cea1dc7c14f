-- Calls that only look at the store: such a call has tests and a value of the store as it stands, and what it fills is a buffer of its own.
-- 'calls that requests add on this store join' demand 3: a call that only looks is one value of `Look`. Assumes nothing.
use Rattle.std.specs.Prelude.{ℕ, ◌≡◌, Bool, true, List}
use Rattle.areas.specs.Answers.{Test, spares}
use Rattle.areas.specs.Areas.{Areas, Out, done}
use Rattle.areas.specs.Entry.{called}

-- own: the lengths of the call's own buffers are right; its own tests and its value, for n pages. Refusal 1 is the frame's alone
pub record Look : Type 0 where
  pub own : Bool
  pub tests : Areas → ℕ → List Test
  pub value : Areas → ℕ → ℕ
  pub spares_1 : (s : Areas) (n : ℕ) → spares 1 (tests s n) ≡ true

-- no word of the store changes
unfoldable pub call_look : Areas → Look → Out
call_look s q = called true q.own s (q.tests s) (λ n. done (q.value s n) s)
