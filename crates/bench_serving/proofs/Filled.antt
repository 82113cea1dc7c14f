-- What the code holds after a line that ended, a byte, and several bytes.
use Prim.Native.Nat.{ℕ, ◌+◌, ◌-◌, ◌≤◌, ◌<◌}
use mathlib.Core.Path.{◌≡◌, sym, ap, ◌∙◌}
use mathlib.Core.List.{List, ◌++◌}
use native.Mathlib.Nat.{add-zero}
use native.Mathlib.Omega.{arith}
use lib.ListN.{length, get_or, drop, length-append}
use lib.Seq.{sets, length-sets}
use Rattle.std.specs.Prelude.{Option, Some, None}
use Rattle.texts.specs.Walk.{at_byte, at_end}
use Rattle.decimals.specs.DecimalLaws.{sets_append}
use Rattle.areas.specs.Areas.{Areas, Out}
use Rattle.areas.specs.Answers.{answer_of, value_of, Answer}
use Rattle.bench_names.specs.declared.Command.{Command}
use Rattle.bench_output.specs.Output.{output_line}
use Rattle.bench_run.specs.Bench.{bench_call}
use Rattle.bench_feeding.specs.Reading.{no_line, fed, finished}
use Rattle.bench_feeding.specs.declared.Line.{Line}
use Rattle.bench_feeding.specs.declared.Fed.{Fed}
use Rattle.bench_serving.specs.Serving.{with_line, answer_text, served_end, served_byte, served, served_last}
use Rattle.bench_serving.specs.Held.{Held, held, state_of, filled, told, Fits}
use Rattle.bench_serving.specs.Laws.{byte_within}
use Rattle.bench_serving.specs.declared.Place.{Place}

-- further bytes, after what is held
abbrev pub onward : Held → List ℕ → Held
onward h bs = filled (served (state_of h.store h.place) bs) h.place.used h.out

-- past an output line, with its answer and value
pub line_told : (p : Place) (a : Answer) (o o' : List ℕ) (k v r : ℕ) → k ≡ answer_of a → v ≡ value_of a
    → (r ≡ p.used + length (output_line p.number k v)) × (o' ≡ sets o p.used (output_line p.number k v))
    → (record { line = p.line; number = p.number + 1; used = r } ≡ told p a) × (o' ≡ sets o p.used (answer_text p.number a))
line_told p a o o' k v r f g e =
    let text : output_line p.number k v ≡ answer_text p.number a = cc in (
      ap (λ (u : ℕ). record { line = p.line; number = p.number + 1; used = u }) (e.0 ∙ ap (λ (t : List ℕ). p.used + length t) text),
      e.1 ∙ ap (sets o p.used) text,
    )

module _ (s : Areas) (p : Place) (o : List ℕ) where
  -- a place with so many bytes used
  abbrev with_used : ℕ → Place
  with_used u = record { line = p.line; number = p.number; used = u }

  pub none_held : (e : Option Command) → e ≡ None → held s p o ≡ filled (served_end (state_of s p) e) p.used o
  unfolding served_end
  none_held e q = ap (λ (u : ℕ). held s (with_used u) o) (sym (add-zero p.used)) ∙ ap (λ (x : Option Command). filled (served_end (state_of s p) x) p.used o) (sym q)

  pub line_held : (t : Areas) (p' : Place) (o' : List ℕ) (e : Option Command) (c : Command) (a : Answer) → e ≡ Some c → record { answer = a; after = t } ≡ bench_call s c
      → (p' ≡ told p a) × (o' ≡ sets o p.used (answer_text p.number a)) → held t p' o' ≡ filled (served_end (state_of s p) e) p.used o
  unfolding served_end
  line_held t p' o' e c a q call tell =
      ap (λ (r : Place). held t r o') tell.0
      ∙ ap (held t (told p a)) tell.1
      ∙ ap (λ (u : Out). held u.after (told p u.answer) (sets o p.used (answer_text p.number u.answer))) call
      ∙ ap (λ (x : Option Command). filled (served_end (state_of s p) x) p.used o) (sym q)

  pub byte_held : (b : ℕ) (f : Fed) (h : Held) → f ≡ fed p.line b
      → h ≡ filled (served_end (with_line (state_of s p) f.line) f.ended) p.used o → h ≡ filled (served_byte (state_of s p) b) p.used o
  unfolding served_byte
  byte_held b f h q e = e ∙ ap (λ (g : Fed). filled (served_end (with_line (state_of s p) g.line) g.ended) p.used o) q

  pub last_held : (l : Line) (x : Option Command) (h : Held) → l ≡ no_line → x ≡ finished p.line
      → h ≡ filled (served_end (with_line (state_of s p) l) x) p.used o → h ≡ filled (served_last (state_of s p)) p.used o
  unfolding served_last
  last_held l x h q r e =
      e
      ∙ ap (λ (m : Line). filled (served_end (with_line (state_of s p) m) x) p.used o) q
      ∙ ap (λ (y : Option Command). filled (served_end (with_line (state_of s p) no_line) y) p.used o) r

  -- of the bytes from i on, g is what they all give: at the end, and past a byte
  module _ (bytes : List ℕ) (i : ℕ) (g : Held) (all : onward (held s p o) (drop i bytes) ≡ g) where
    pub bytes_end : length bytes ≤ i → held s p o ≡ g
    unfolding served
    bytes_end n = ap (λ (u : ℕ). held s (with_used u) o) (sym (add-zero p.used)) ∙ sym (at_end (onward (held s p o)) bytes i n) ∙ all

    module _ (n : i < length bytes) (h : Held) (e : h ≡ filled (served_byte (state_of s p) (get_or bytes i 0)) p.used o) where
      pub bytes_more : onward h (drop (i + 1) bytes) ≡ g
      unfolding served
      bytes_more =
          let w = served_byte (state_of s p) (get_or bytes i 0) in
          let v = served w.after (drop (i + 1) bytes) in
          let at : ℕ → Place = λ u. record { line = v.after.line; number = v.after.number; used = u } in
          let m : p.used + length w.output + length v.output ≡ p.used + length (w.output ++ v.output) = omega (arith, length-append w.output v.output) in
          ap (λ (k : Held). onward k (drop (i + 1) bytes)) e
          ∙ ap (λ (u : ℕ). held v.after.store (at u) (sets (sets o p.used w.output) (p.used + length w.output) v.output)) m
          ∙ ap (held v.after.store (at (p.used + length (w.output ++ v.output)))) (sym (sets_append o p.used w.output v.output))
          ∙ sym (at_byte (onward (held s p o)) bytes i n)
          ∙ all

      pub more_fits : Fits p o (length bytes - i) → Fits h.place h.out (length bytes - (i + 1))
      more_fits f =
          let w = byte_within (state_of s p) (get_or bytes i 0) in
          let used = ap (λ (k : Held). k.place.used) e in
          let number = ap (λ (k : Held). k.place.number) e in
          let room = ap (λ (k : Held). length k.out) e ∙ length-sets o p.used (served_byte (state_of s p) (get_or bytes i 0)).output in
          record { room = omega arith; numbers = omega arith }
