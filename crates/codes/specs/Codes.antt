-- The answer of a C function. Assumes nothing.
use Rattle.std.specs.Prelude.{ℕ, ◌+◌, ◌*◌, ◌≤◌, ◌≡◌, Ok, Err}
use Rattle.std.proofs.Common.{arith, ap, ◌∙◌}
use Rattle.areas.specs.declared.Refusal.{Refusal}
use Rattle.areas.specs.declared.Refusal.TheVariants.{Malformed, NotOpen, OutOfRange, WrongState, NotLocked, Held, Unknown, Occupied, Differs, Unflushed, LogFull, Unstable, InUse, Unsound, Free, Unmarked, CommitsOutOfRange, SelfReference, RightMissing}
use Rattle.areas.specs.Answers.{number_of, answer_of, value_of, Answer}
use Rattle.areas.specs.Areas.{Areas, Out}

-- the answer's number, and its value, in one word of 64 bits
abbrev pub coded : Answer → ℕ
coded a = 4294967296 * answer_of a + value_of a

-- document 02's last number
number_small : (x : Refusal) → number_of x ≤ 24
number_small Malformed = omega arith
number_small NotOpen = omega arith
number_small OutOfRange = omega arith
number_small WrongState = omega arith
number_small NotLocked = omega arith
number_small (Held h) = omega arith
number_small Unknown = omega arith
number_small Occupied = omega arith
number_small Differs = omega arith
number_small Unflushed = omega arith
number_small LogFull = omega arith
number_small Unstable = omega arith
number_small InUse = omega arith
number_small Unsound = omega arith
number_small Free = omega arith
number_small Unmarked = omega arith
number_small CommitsOutOfRange = omega arith
number_small SelfReference = omega arith
number_small RightMissing = omega arith

pub answer_small : (a : Answer) → answer_of a ≤ 24
answer_small (Ok v) = omega arith
answer_small (Err x) = number_small x

-- a call's outcome, as a C function tells it: its code, and the areas
pub told : (n : ℕ) (a : Answer) (s : Areas) (o : Out) → n ≡ coded a → record { answer = a; after = s } ≡ o → (n ≡ coded o.answer) × (s ≡ o.after)
told n a s o c e = (c ∙ ap (λ (o : Out). coded o.answer) e, ap (λ (o : Out). o.after) e)
