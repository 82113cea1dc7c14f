-- Laws of the numbers of a line: the first field after a comma is read, and those that follow are left.
use Prim.Native.Nat.{ℕ, ◌+◌, ◌-◌, ◌<◌}
use mathlib.Core.Path.{◌≡◌, refl, sym, ap, ◌∙◌}
use mathlib.Core.List.{List, [], ◌∷◌}
use native.Mathlib.Omega.{arith}
use lib.ListN.{length, take, drop}
use lib.Seq.{drop-drop}
use Rattle.std.specs.Prelude.{Option, Some, None}
use Rattle.texts.specs.Fields.{fields_of}
use Rattle.texts.specs.Parts.{field_length, following}
use Rattle.texts.specs.Walk.{at_byte}
use Rattle.texts.specs.FieldLaws.{fields_part, part_rest}
use Rattle.decimals.specs.Numbers.{number_in}
use Rattle.bench_commands.specs.Commands.{and_number, numbers_from, call_of, call_of_fields, command_of}
use Rattle.bench_commands.specs.declared.Numbers.{Numbers}
use Rattle.bench_commands.specs.declared.Numbers.TheVariants.{Zero}

numbers_field : (ns : Option Numbers) (f : List ℕ) (fs : List (List ℕ)) → numbers_from ns (f ∷ fs) ≡ numbers_from (and_number ns (number_in f)) fs
unfolding numbers_from
numbers_field ns f fs = refl

pub numbers_none : (ns : Option Numbers) → numbers_from ns [] ≡ ns
unfolding numbers_from
numbers_none ns = refl

none_on : (x : Option ℕ) → and_number None x ≡ None
none_on None = refl
none_on (Some a) = refl

-- past a field that is no number, or a fifth number, there are none
pub numbers_over : (fs : List (List ℕ)) → numbers_from None fs ≡ None
unfolding numbers_from
numbers_over [] = refl
numbers_over (f ∷ fs) = ap (λ (m : Option Numbers). numbers_from m fs) (none_on (number_in f)) ∙ numbers_over fs

-- past a comma before a: the field of k bytes from there is read, and those that follow are left
module _ (s : List ℕ) (ns : Option Numbers) (a k : ℕ) where
  abbrev after_field : ℕ → List ℕ → Option Numbers
  after_field n l = numbers_from (and_number ns (number_in (take n (drop a s)))) (following l)

  fields_more : k ≡ field_length (take (length s - a) (drop a s)) → numbers_from ns (fields_of (drop a s)) ≡ after_field (a + k - a) (drop (a + k) s)
  fields_more e =
      let t = drop a s in
      let n : field_length t ≡ k = sym (e ∙ ap field_length (part_rest s a)) in
      let m : k ≡ a + k - a = omega arith in
      ap (numbers_from ns) (fields_part t)
      ∙ numbers_field ns (take (field_length t) t) (following (drop (field_length t) t))
      ∙ ap (λ (j : ℕ). after_field j (drop j t)) n
      ∙ ap (after_field k) (drop-drop k a s)
      ∙ ap (λ (j : ℕ). after_field j (drop (a + k) s)) m

pub numbers_more : (s : List ℕ) (ns : Option Numbers) (e k : ℕ) → e < length s → k ≡ field_length (take (length s - (e + 1)) (drop (e + 1) s))
    → numbers_from ns (following (drop e s)) ≡ after_field s ns (e + 1) k (e + 1 + k - (e + 1)) (drop (e + 1 + k) s)
numbers_more s ns e k h q = at_byte (λ (l : List ℕ). numbers_from ns (following l)) s e h ∙ fields_more s ns (e + 1) k q

-- a line's command, from its first field and the numbers of the rest
pub command_parts : (s : List ℕ) (e : ℕ) (ns : Option Numbers) → e ≡ field_length s → ns ≡ numbers_from (Some Zero) (following (take (length s - e) (drop e s)))
    → call_of (take e s) ns ≡ command_of s
unfolding command_of
command_parts s e ns p q =
    ap (call_of (take e s)) (q ∙ ap (λ (l : List ℕ). numbers_from (Some Zero) (following l)) (part_rest s e))
    ∙ ap (λ (n : ℕ). call_of (take n s) (numbers_from (Some Zero) (following (drop n s)))) p
    ∙ ap call_of_fields (sym (fields_part s))
