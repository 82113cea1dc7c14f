-- `bench::main` meets its contract: the areas are formatted, and given all rights, into the bench store.
use Rattle.std.specs.Prelude.{ℕ, ◌≡◌, true, refl}
use Rattle.std.proofs.Common.{sym, ap, ◌∙◌}
use Rattle.areas.specs.Answers.{all_passed, need_holds, Answer}
use Rattle.areas.specs.Areas.{Areas, Out, checked_pass}
use Rattle.areas.specs.Ranges.{fit, lengths_fit}
use Rattle.areas.specs.Entry.{pages, records}
use Rattle.calls.specs.Formatting.{formatted, format_tests, call_format}
use Rattle.bench_run.specs.Bench.{bench_pages, bench_records, all_given}
use Rattle.bench.proofs.main.Goals as goal

-- areas of the bench store's lengths are formatted into it
format_bench : (s t : Areas) (a : Answer) → fit s ≡ true → pages s ≡ bench_pages → records s ≡ bench_records → record { answer = a; after = t } ≡ call_format s → t ≡ formatted bench_pages bench_records
unfolding call_format format_tests
format_bench s t a f p r e =
    ap (λ (o : Out). o.after) (e ∙ sym (checked_pass _ s _ (sym (all_passed ∙ need_holds _ _ (fit s) _ f))))
    ∙ ap (λ (n : ℕ). formatted n (records s)) p
    ∙ ap (formatted bench_pages) r

pub take_all-requires : goal.take_all-requires
unfolding lengths_fit
take_all-requires c = c.give_all.ensures ∙ ap (λ (s : Areas). all_given s bench_pages) (format_bench _ _ _ refl refl refl c.format.ensures)
