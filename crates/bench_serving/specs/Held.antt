-- What the code of the bench program holds while it serves an input: the areas, the place, and the output buffer.
use Rattle.std.specs.Prelude.{ℕ, ◌+◌, ◌*◌, ◌^◌, ◌<◌, ◌≤◌, ◌≡◌, List, length, take, drop}
use Rattle.std.proofs.Common.{ap, ◌∙◌, arith, take_at}
use Rattle.std.proofs.lemmas.List.Edits.{sets, sets-eq}
use Rattle.std.proofs.Math.Seq.{length-sets}
use Rattle.areas.specs.Areas.{Areas}
use Rattle.bench_output.specs.Output.{line_room}
use Rattle.bench_serving.specs.declared.Place.{Place}
use Rattle.bench_serving.specs.Serving.{State, Served, opened, answer_text}
use Rattle.bench_serving.specs.Laws.{Within}
use Rattle.areas.specs.Answers.{Answer}

-- the areas, the place, and the output buffer
pub record Held : Type 0 where
  pub store : Areas
  pub place : Place
  pub out : List ℕ

-- from its parts
abbrev pub held : Areas → Place → List ℕ → Held
held s p o = record { store = s; place = p; out = o }

-- where the serving stands, without the buffer
abbrev pub state_of : Areas → Place → State
state_of s p = record { store = s; line = p.line; number = p.number }

-- what bytes give, with their output lines in the buffer o from u on; its other bytes stay
abbrev pub filled : Served → ℕ → List ℕ → Held
filled w u o =
    held w.after.store (record { line = w.after.line; number = w.after.number; used = u + length w.output })
    (sets o u w.output)

-- nothing is read, and nothing is in the buffer
abbrev pub started : Place
started = record { line = opened.line; number = opened.number; used = 0 }

-- with the buffer free again
abbrev pub emptied : Place → Place
emptied p = record { line = p.line; number = p.number; used = 0 }

-- past the output line of an answer
abbrev pub told : Place → Answer → Place
told p a = record { line = p.line; number = p.number + 1; used = p.used + length (answer_text p.number a) }

-- room for n lines more, and numbers for them
pub record Fits (p : Place) (o : List ℕ) (n : ℕ) : Type 0 where
  pub room : p.used + line_room * n ≤ length o
  pub numbers : p.number + n < 2 ^ 64

-- output lines that have room from the start of the buffer are the bytes used there
pub lines_held : (s : State) (w : Served) (n : ℕ) (o : List ℕ) (h : Held) → Within s w n → line_room * n ≤ length o → h ≡ filled w 0 o
    → (h.place.used ≤ length h.out) × (take h.place.used h.out ≡ w.output)
lines_held s w n o h i r e =
    let used : length w.output ≡ h.place.used = omega (arith, ap (λ (k : Held). k.place.used) e) in
    let size = ap (λ (k : Held). length k.out) e ∙ length-sets o 0 w.output in
    let text = ap (λ (k : Held). k.out) e ∙ sets-eq w.output o 0 (omega arith) in
    (omega arith, ap (take h.place.used) text ∙ take_at w.output (drop (0 + length w.output) o) h.place.used used)
