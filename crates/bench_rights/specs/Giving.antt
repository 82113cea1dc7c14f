-- The bench program's rights, page by page. Assumes nothing.
use Rattle.std.specs.Prelude.{ℕ, ◌+◌, ◌≤◌, ◌≡◌, refl, true, false, eqb, Ok, Err}
use Rattle.std.proofs.Common.{add-one, arith, sym, ap, ◌∙◌}
use Rattle.words.specs.Tests.{if_t, if_f}
use Rattle.areas.specs.declared.Refusal.{Refusal}
use Rattle.areas.specs.Areas.{Areas, Out}
use Rattle.areas.specs.Layout.{writing}
use Rattle.calls.specs.Rights.{call_grant}
use Rattle.calls.specs.Calls.{perform}
use Rattle.bench_run.specs.Bench.{bench_pages, bench_client, all_given, rights_again}
use Rattle.areas.specs.Answers.{Answer}

pub given_none : (s : Areas) → s ≡ all_given s 0
unfolding all_given
given_none s = refl

-- one page more
pub given_next : (s x t : Areas) (p : ℕ) (a : Answer) → x ≡ all_given s p → record { answer = a; after = t } ≡ call_grant x bench_client p writing → t ≡ all_given s (p + 1)
unfolding all_given perform
given_next s x t p a e d = ap (λ (o : Out). o.after) d ∙ ap (λ (y : Areas). (call_grant y bench_client p writing).after) e ∙ ap (all_given s) (sym (add-one p))

pub given_end : (s x : Areas) (p : ℕ) → p ≤ bench_pages → bench_pages ≤ p → x ≡ all_given s p → x ≡ all_given s bench_pages
given_end s x p a b e = e ∙ ap (all_given s) (omega arith)

-- after a reopening's step that answered a
again : (s : Areas) (a d : Answer) → a ≡ d → rights_again (record { answer = d; after = s }) ≡ rights_again (record { answer = a; after = s })
again s a d e = ap (λ (r : Answer). rights_again (record { answer = r; after = s })) (sym e)

pub again_given : (s t : Areas) (v : ℕ) (a : Answer) → a ≡ Ok v → eqb v bench_pages ≡ true → t ≡ all_given s bench_pages → record { answer = Ok v; after = t } ≡ rights_again (record { answer = a; after = s })
unfolding rights_again
again_given s t v a o e d = ap (λ (x : Areas). record { answer = Ok v; after = x }) d ∙ sym (if_t _ _ _ e) ∙ again s a (Ok v) o

pub again_not : (s : Areas) (v : ℕ) (a : Answer) → a ≡ Ok v → eqb v bench_pages ≡ false → record { answer = Ok v; after = s } ≡ rights_again (record { answer = a; after = s })
unfolding rights_again
again_not s v a o e = sym (if_f _ _ _ e) ∙ again s a (Ok v) o

pub again_refused : (s : Areas) (x : Refusal) (a : Answer) → a ≡ Err x → record { answer = Err x; after = s } ≡ rights_again (record { answer = a; after = s })
unfolding rights_again
again_refused s x a o = again s a (Err x) o
