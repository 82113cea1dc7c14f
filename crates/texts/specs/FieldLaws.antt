-- Laws of fields: a line is its first field, and what follows it.
use Rattle.std.specs.Prelude.{ℕ, suc, ◌+◌, ◌-◌, ◌≤◌, ◌≡◌, refl, Bool, true, false, cond as if, List, [], ◌∷◌, eqb, length, take, drop}
use Rattle.std.proofs.Common.{ap, ◌∙◌, arith, length-drop, take_all, eq-eqb, ne_eqb}
use Rattle.texts.specs.Text.{comma}
use Rattle.texts.specs.Lines.{onto}
use Rattle.texts.specs.Fields.{fields_of}
use Rattle.texts.specs.Parts.{field_length, following}

pub length_end : field_length [] ≡ 0
unfolding field_length
length_end = refl

module _ (b : ℕ) (bs : List ℕ) where
  pub length_stop : b ≡ comma → field_length (b ∷ bs) ≡ 0
  unfolding field_length
  length_stop e = rw (eq-eqb b comma e)

  pub length_more : (b ≡ comma → ⊥) → field_length (b ∷ bs) ≡ suc (field_length bs)
  unfolding field_length
  length_more n = rw (ne_eqb b comma n)

-- the test of one byte, for either case of it
length_le_by : (t : Bool) (m n : ℕ) → m ≤ n → if t 0 (suc m) ≤ suc n
length_le_by true m n h = omega arith
length_le_by false m n h = omega arith

pub length_le : (s : List ℕ) → field_length s ≤ length s
unfolding field_length
length_le [] = omega arith
length_le (b ∷ bs) = length_le_by (eqb b comma) (field_length bs) (length bs) (length_le bs)

-- a line's fields are the first and those that follow
abbrev pub parted : List ℕ → ℕ → List (List ℕ)
parted s n = take n s ∷ following (drop n s)

parted_by : (t : Bool) (b n : ℕ) (bs : List ℕ) → fields_of bs ≡ parted bs n
    → if t ([] ∷ fields_of bs) (onto b (fields_of bs)) ≡ parted (b ∷ bs) (if t 0 (suc n))
parted_by true b n bs e = refl
parted_by false b n bs e = rw e

pub fields_part : (s : List ℕ) → fields_of s ≡ parted s (field_length s)
unfolding fields_of field_length
fields_part [] = refl
fields_part (b ∷ bs) = parted_by (eqb b comma) b (field_length bs) bs (fields_part bs)

-- a part that runs to the end
pub part_rest : (s : List ℕ) (a : ℕ) → take (length s - a) (drop a s) ≡ drop a s
part_rest s a = take_all (length s - a) (drop a s) (omega (arith, length-drop a s))

-- the first field of the rest, k bytes from a, ends in the line
pub field_ends : (s : List ℕ) (a k : ℕ) → a ≤ length s → k ≡ field_length (take (length s - a) (drop a s)) → a + k ≤ length s
field_ends s a k h e = omega (arith, e ∙ ap field_length (part_rest s a), length_le (drop a s), length-drop a s)
