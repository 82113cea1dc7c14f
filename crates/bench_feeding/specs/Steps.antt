-- What a byte makes of the line, case by case.
use Rattle.std.specs.Prelude.{ℕ, ◌≡◌, Bool, true, false, ◌&&◌, cond as if, Some, None, eqb}
use Rattle.std.proofs.Common.{ap, ◌∙◌, eq-eqb, ne_eqb}
use Rattle.texts.specs.Text.{cr, lf}
use Rattle.bench_feeding.specs.Reading.{no_line, pushed, settled, held_command, fed, finished}
use Rattle.bench_feeding.specs.declared.Line.{Line}
use Rattle.bench_feeding.specs.declared.Fed.{Fed}

-- a choice whose test is known
module _ {A : Type 0} (t : Bool) (x y : A) where
  pub if_t : t ≡ true → if t x y ≡ x
  if_t e = ap (λ (s : Bool). if s x y) e

  pub if_f : t ≡ false → if t x y ≡ y
  if_f e = ap (λ (s : Bool). if s x y) e

-- the line with a CR that came last
abbrev pub with_cr : Line → Line
with_cr l = record { bytes = l.bytes; count = l.count; cr = true }

-- no line ended
abbrev pub going : Line → Fed
going l = record { line = l; ended = None }

module _ (l : Line) where
  pub settled_cr : l.cr ≡ true → settled l ≡ pushed l cr
  unfolding settled
  settled_cr e = if_t _ _ _ e

  pub settled_not : l.cr ≡ false → settled l ≡ l
  unfolding settled
  settled_not e = if_f _ _ _ e

  pub fed_end : (b : ℕ) → l.cr && eqb b lf ≡ true → fed l b ≡ record { line = no_line; ended = Some (held_command l) }
  unfolding fed
  fed_end b e = if_t _ _ _ e

  pub fed_cr : (b : ℕ) → l.cr && eqb b lf ≡ false → b ≡ cr → fed l b ≡ going (with_cr (settled l))
  unfolding fed
  fed_cr b e h = if_f _ _ _ e ∙ if_t _ _ _ (eq-eqb b cr h)

  pub fed_byte : (b : ℕ) → l.cr && eqb b lf ≡ false → (b ≡ cr → ⊥) → fed l b ≡ going (pushed (settled l) b)
  unfolding fed
  fed_byte b e h = if_f _ _ _ e ∙ if_f _ _ _ (ne_eqb b cr h)

  pub finished_none : (settled l).count ≡ 0 → finished l ≡ None
  unfolding finished
  finished_none e = if_t _ _ _ (eq-eqb (settled l).count 0 e)

  pub finished_some : ((settled l).count ≡ 0 → ⊥) → finished l ≡ Some (held_command (settled l))
  unfolding finished
  finished_some n = if_f _ _ _ (ne_eqb (settled l).count 0 n)
