use Rattle.std.proofs.Common.{rules, arith, ℕ, ◌+◌, sym, ap, ◌∙◌, drop, Option, Some}
use Rattle.texts.specs.Parts.{following}
use Rattle.texts.specs.Walk.{at_end}
use Rattle.texts.specs.FieldLaws.{field_ends}
use Rattle.bench_commands.specs.Commands.{and_number, numbers_from}
use Rattle.bench_commands.specs.declared.Numbers.{Numbers}
use Rattle.bench_commands.proofs.Parted.{numbers_more, numbers_none, numbers_over}
use Rattle.bench_commands.proofs.numbers_of.Goals as goal

pub overflow_add-e : goal.overflow_add-e
overflow_add-e c =
    let h = field_ends c.args.s.now (c.loop-e.e + 1) c.field_len.result (search rules) c.field_len.ensures in
    search rules

pub slice_bounds-number_of-end : goal.slice_bounds-number_of-end
slice_bounds-number_of-end c =
    let h = field_ends c.args.s.now (c.loop-e.e + 1) c.field_len.result (search rules) c.field_len.ensures in
    search rules

pub returns-in_err-x : goal.returns-in_err-x
returns-in_err-x c =
    let s = c.args.s.now in
    let e = c.loop-e.e in
    let k = c.field_len.result in
    c.from_residual.ensures
    ∙ sym (numbers_over _)
    ∙ ap (λ (n : Option ℕ). numbers_from (and_number (Some c.loop-e.ns) n) (following (drop (e + 1 + k) s))) c.in_err-x.ensures
    ∙ sym (numbers_more s (Some c.loop-e.ns) e k (search rules) c.field_len.ensures)
    ∙ c.loop-e.invariant.1

pub returns-in_err-ns : goal.returns-in_err-ns
returns-in_err-ns c =
    let s = c.args.s.now in
    let e = c.loop-e.e in
    let k = c.field_len.result in
    c.from_residual-in_err-ns.ensures
    ∙ sym (numbers_over _)
    ∙ ap (λ (m : Option Numbers). numbers_from m (following (drop (e + 1 + k) s))) (c.in_err-ns.ensures
    ∙ ap (and_number (Some c.loop-e.ns)) c.in_ok-x.ensures)
    ∙ sym (numbers_more s (Some c.loop-e.ns) e k (search rules) c.field_len.ensures)
    ∙ c.loop-e.invariant.1

pub loop-e-preserved : goal.loop-e-preserved
loop-e-preserved c =
    let s = c.args.s.now in
    let e = c.loop-e.e in
    let k = c.field_len.result in
    let h = field_ends s (e + 1) k (search rules) c.field_len.ensures in (
      omega arith,
      ap (λ (m : Option Numbers). numbers_from m (following (drop (e + 1 + k) s))) (c.in_ok-ns.ensures
          ∙ ap (and_number (Some c.loop-e.ns)) c.in_ok-x.ensures)
          ∙ sym (numbers_more s (Some c.loop-e.ns) e k (search rules) c.field_len.ensures)
          ∙ c.loop-e.invariant.1,
    )

pub returns : goal.returns
returns c =
    sym (numbers_none _)
    ∙ sym (at_end (λ l. numbers_from (Some c.loop-e.ns) (following l)) c.args.s.now c.loop-e.e (search rules))
    ∙ c.loop-e.invariant.1
