use Rattle.std.proofs.Common.{rules, ℕ, ◌≡◌, sym, ◌∙◌, add-one}
use Rattle.std.proofs.lemmas.Iterator.{IsFirst-from_position, YieldsList-from_slice, index_from_first}
use borrow.Author.Tests.{tests}
use Rattle.texts.specs.Text.{comma}
use Rattle.texts.specs.Parts.{field_length}
use Rattle.texts.specs.FieldLaws.{length_end, length_stop, length_more}
use Rattle.texts.proofs.field_len.Goals as goal

pub returns : goal.returns
returns c =
    let Here = λ (b : ℕ). b ≡ comma in
    let Other = λ (b : ℕ). b ≡ comma → ⊥ in
    c.unwrap_or.ensures
    ∙ sym
    (index_from_first field_length Here Other length_end length_stop (λ b bs n. length_more b bs n ∙ sym (add-one _)) c.args.s.now c.position.result
    (IsFirst-from_position
    _
    _
    _
    Here
    Other
    c.position.ensures.ran
    (YieldsList-from_slice c.args.s.now cc)
    (λ x q k. search (rules, tests))
    (λ x q k. search (rules, tests))))
