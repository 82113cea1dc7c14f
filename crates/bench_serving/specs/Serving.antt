-- Document 01, 'The bench program': the input served byte by byte.
-- What this comes to is a law, `served_input`: a whole input gives the output that crate bench_run says.
use Rattle.std.specs.Prelude.{ℕ, ◌+◌, List, [], ◌∷◌, ◌++◌, Option, Some, None}
use Rattle.areas.specs.Answers.{answer_of, value_of, Answer}
use Rattle.areas.specs.Areas.{Areas}
use Rattle.bench_run.specs.Bench.{bench_store, bench_call}
use Rattle.bench_names.specs.declared.Command.{Command}
use Rattle.bench_output.specs.Output.{output_line}
use Rattle.bench_feeding.specs.Reading.{no_line, fed, finished}
use Rattle.bench_feeding.specs.declared.Line.{Line}

-- where the serving stands: the store, the line so far, and the number of the next line
pub record State : Type 0 where
  pub store : Areas
  pub line : Line
  pub number : ℕ

-- with another line so far
abbrev pub with_line : State → Line → State
with_line s l = record { store = s.store; line = l; number = s.number }

-- what bytes give: where the serving stands after them, and their output lines
pub record Served : Type 0 where
  pub after : State
  pub output : List ℕ

-- 'It formats P = 4, L = 64 and reads calls'
abbrev pub opened : State
opened = record { store = bench_store; line = no_line; number = 1 }

-- 'Each output line is line number, answer (0 or a refusal) and value.'
abbrev pub answer_text : ℕ → Answer → List ℕ
answer_text n a = output_line n (answer_of a) (value_of a)

-- the call of a line, if one ended, and its output line
unfoldable pub served_end : State → Option Command → Served
served_end s None = record { after = s; output = [] }
served_end s (Some c) =
    let o = bench_call s.store c in
    record { after = record { store = o.after; line = s.line; number = s.number + 1 }; output = answer_text s.number o.answer }

-- 'lines end in CRLF': one byte, and the line that it ends
unfoldable pub served_byte : State → ℕ → Served
served_byte s b = let f = fed s.line b in served_end (with_line s f.line) f.ended

-- some bytes, and then others: the output lines of both
abbrev pub joined : Served → Served → Served
joined w v = record { after = v.after; output = w.output ++ v.output }

-- the bytes of a list, one by one
unfoldable pub served : State → List ℕ → Served
served s [] = record { after = s; output = [] }
served s (b ∷ bs) = let w = served_byte s b in joined w (served w.after bs)

-- 'which the last input line may lack': the input ends, and with it the last line
unfoldable pub served_last : State → Served
served_last s = served_end (with_line s no_line) (finished s.line)

-- a whole input: its bytes, and its end
abbrev pub served_all : State → List ℕ → Served
served_all s bs = let w = served s bs in joined w (served_last w.after)
