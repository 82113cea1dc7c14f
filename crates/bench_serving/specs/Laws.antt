-- Laws of `served`: how many numbers and bytes of output it takes; chunks; the whole input.
use Rattle.std.specs.Prelude.{ℕ, ◌+◌, ◌*◌, ◌≤◌, ◌≡◌, refl, List, [], ◌∷◌, ◌++◌, map, length, Option, Some, None}
use Rattle.std.proofs.Common.{sym, ap, ◌∙◌, append-nil, append_assoc, arith, length-append}
use Rattle.texts.specs.Lines.{lines_of}
use Rattle.areas.specs.Areas.{Areas}
use Rattle.areas.specs.Answers.{answer_of, value_of}
use Rattle.bench_names.specs.declared.Command.{Command}
use Rattle.bench_commands.specs.Commands.{command_of}
use Rattle.bench_output.specs.Output.{line_room, line_fits}
use Rattle.bench_run.specs.Bench.{bench_call, bench_store, output_from, bench_output}
use Rattle.bench_feeding.specs.Reading.{no_line, fed, finished}
use Rattle.bench_feeding.specs.declared.Line.{Line}
use Rattle.feeding_laws.specs.Fed.{and_then, commands_from}
use Rattle.feeding_laws.specs.Stream.{commands_of_lines}
use Rattle.bench_serving.specs.Serving.{State, Served, with_line, opened, answer_text, served_end, served_byte, joined, served, served_last, served_all}

-- the numbers and the bytes of output that lines take at most
pub record Within (s : State) (w : Served) (lines : ℕ) : Type 0 where
  pub numbers : w.after.number ≤ s.number + lines
  pub bytes : length w.output ≤ line_room * lines

end_within : (s : State) (e : Option Command) → Within s (served_end s e) 1
unfolding served_end
end_within s None = record { numbers = omega arith; bytes = omega arith }
end_within s (Some c) =
    let a = (bench_call s.store c).answer in
    record { numbers = omega arith; bytes = omega (arith, line_fits s.number (answer_of a) (value_of a)) }

pub byte_within : (s : State) (b : ℕ) → Within s (served_byte s b) 1
unfolding served_byte
byte_within s b =
    let f = fed s.line b in
    let w = end_within (with_line s f.line) f.ended in
    record { numbers = w.numbers; bytes = w.bytes }

pub last_within : (s : State) → Within s (served_last s) 1
unfolding served_last
last_within s =
    let w = end_within (with_line s no_line) (finished s.line) in
    record { numbers = w.numbers; bytes = w.bytes }

pub served_within : (s : State) (bs : List ℕ) → Within s (served s bs) (length bs)
unfolding served
served_within s [] = record { numbers = omega arith; bytes = omega arith }
served_within s (b ∷ bs) =
    let w = byte_within s b in
    let v = served_within (served_byte s b).after bs in
    record { numbers = omega arith; bytes = simp length-append (omega arith) }

-- a chunk and then another is both joined
pub served_chunks : (s : State) (a b : List ℕ) → served s (a ++ b) ≡ joined (served s a) (served (served s a).after b)
unfolding served
served_chunks s [] b = refl
served_chunks s (x ∷ a) b =
    let w = served_byte s x in
    ap (joined w) (served_chunks w.after a b)
    ∙ ap (λ (o : List ℕ). record { after = (served (served w.after a).after b).after; output = o }) (sym (append_assoc w.output (served w.after a).output (served (served w.after a).after b).output))

-- the output of commands, from number i on: `output_from` of the lines that they are of
output_of : Areas → ℕ → List Command → List ℕ
output_of s i [] = []
output_of s i (c ∷ cs) = let o = bench_call s c in answer_text i o.answer ++ output_of o.after (i + 1) cs

output_lines : (s : Areas) (i : ℕ) (ls : List (List ℕ)) → output_of s i (map command_of ls) ≡ output_from s i ls
unfolding output_of output_from
output_lines s i [] = refl
output_lines s i (l ∷ ls) = let o = bench_call s (command_of l) in ap (λ (x : List ℕ). answer_text i o.answer ++ x) (output_lines o.after (i + 1) ls)

-- a line that ended, or none, and the commands that follow
end_output : (s : State) (e : Option Command) (cs : List Command)
    → (served_end s e).output ++ output_of (served_end s e).after.store (served_end s e).after.number cs ≡ output_of s.store s.number (and_then e cs)
unfolding output_of served_end
end_output s None cs = refl
end_output s (Some c) cs = refl

end_line : (s : State) (e : Option Command) → (served_end s e).after.line ≡ s.line
unfolding served_end
end_line s None = refl
end_line s (Some c) = refl

last_output : (s : State) → (served_last s).output ≡ output_of s.store s.number (commands_from s.line [])
unfolding output_of served_last commands_from
last_output s = sym (append-nil _) ∙ end_output (with_line s no_line) (finished s.line) []

all_output : (s : State) (bs : List ℕ) → (served_all s bs).output ≡ output_of s.store s.number (commands_from s.line bs)
unfolding served served_byte commands_from
all_output s [] = last_output s
all_output s (b ∷ bs) =
    let f = fed s.line b in
    let t = with_line s f.line in
    let w = served_end t f.ended in
    append_assoc w.output (served w.after bs).output (served_last (served w.after bs).after).output
    ∙ ap (λ (x : List ℕ). w.output ++ x) (all_output w.after bs)
    ∙ ap (λ (l : Line). w.output ++ output_of w.after.store w.after.number (commands_from l bs)) (end_line t f.ended)
    ∙ end_output t f.ended (commands_from f.line bs)

pub served_input : (input : List ℕ) → (served_all opened input).output ≡ bench_output input
unfolding bench_output
served_input input = all_output opened input ∙ ap (output_of bench_store 1) (commands_of_lines input) ∙ output_lines bench_store 1 (lines_of input)
