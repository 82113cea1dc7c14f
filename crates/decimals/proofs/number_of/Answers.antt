use Rattle.std.proofs.Common.{rules, arith, ℕ, sym, ap, ◌∙◌, ◌+◌, ◌*◌, ◌≤◌, ◌<◌, ◌≡◌, slice_index_or, drop}
use Rattle.texts.specs.Walk.{at_byte, at_end}
use Rattle.decimals.specs.Digits.{largest, base}
use Rattle.decimals.specs.Numbers.{digits_from, and_digit}
use Rattle.decimals.proofs.NumberLaws.{digits_end, digits_other, digits_over, digits_more}
use Rattle.decimals.proofs.number_of.Goals as goal

pub returns-then-not-is_ascii_digit : goal.returns-then-not-is_ascii_digit
returns-then-not-is_ascii_digit c =
    sym
    (at_byte (digits_from c.loop-b.n) c.args.s.now c.loop-b.b-index (search rules)
    ∙ digits_other _ _ _ (sym c.is_ascii_digit.ensures.value ∙ c.if-not-is_ascii_digit.true))
    ∙ c.loop-b.invariant.1

pub returns-then-n-gt-LARGEST : goal.returns-then-n-gt-LARGEST
returns-then-n-gt-LARGEST c =
    let b = slice_index_or c.args.s.now c.loop-b.b-index 0 in
    let h : largest < and_digit c.loop-b.n b = search rules in
    sym (at_byte (digits_from c.loop-b.n) c.args.s.now c.loop-b.b-index (search rules) ∙ digits_over _ _ _ h)
    ∙ c.loop-b.invariant.1

pub loop-b-preserved : goal.loop-b-preserved
loop-b-preserved c =
    let b = slice_index_or c.args.s.now c.loop-b.b-index 0 in
    let h : and_digit c.loop-b.n b ≤ largest = search rules in
    let e : base * c.loop-b.n + c.from.result ≡ and_digit c.loop-b.n b = search rules in (
      omega (arith, h, e),
      ap (λ (m : ℕ). digits_from m (drop (c.loop-b.b-index + 1) c.args.s.now)) e
          ∙ sym
          (at_byte (digits_from c.loop-b.n) c.args.s.now c.loop-b.b-index (search rules)
          ∙ digits_more _ _ _ (sym c.is_ascii_digit.ensures.value ∙ c.if-not-is_ascii_digit.false) h)
          ∙ c.loop-b.invariant.1,
    )

pub returns : goal.returns
returns c =
    sym
    (at_end (digits_from c.loop-b.n) c.args.s.now c.loop-b.b-index (search rules) ∙ digits_end _)
    ∙ c.loop-b.invariant.1
