-- Which calls are accepted where the book stands; a refusal changes nothing. n is the number of pages. Assumes nothing.
use Prim.Native.Nat.{ℕ}
use mathlib.Core.Path.{◌≡◌, refl, sym, ap, ◌∙◌}
use mathlib.Core.Bool.{true, false}
use borrow.Author.Tests.{eq-eqb}
use Rattle.areas.specs.Answers.{accepted, need_holds, all_passed}
use Rattle.areas.specs.Areas.{Areas, Out}
use Rattle.areas.specs.Layout.{finished, running}
use Rattle.areas.specs.Entry.{reopening, called_passed}
use Rattle.calls.specs.Calls.{perform}
use Rattle.calls.specs.Reopening.{restep_tests, call_restep}
use Rattle.acceptance.specs.Calls.{refused_keeps, format_keeps, buffer_keeps, chain_keeps, share_keeps}
use Rattle.book.specs.Books as Books
use Rattle.book.specs.Books.{Book, storing}
use Rattle.demand.proofs.State.{Inv3, open_store, cut_store, reopening_store}
use Rattle.demand.proofs.Finished.{accepted_open}
use Rattle.demand.proofs.HoldsWaiting.{awaiting_opened, awaiting_storing, storing_opened}
use Rattle.guarantees.specs.Unchanged.{RefusalsChangeNothing}
use Rattle.guarantees.specs.Stages.{InStage, AlwaysInStage}
use Rattle.guarantees.proofs.Fine.{Fine}
use Rattle.guarantees.proofs.Always.{as_open}
use Rattle.guarantees.proofs.Refusals.{always, formed}

open_word : (n : ℕ) (s : Areas) (b : Book) → Inv3 n s b → b.stage ≡ Books.opened → reopening s ≡ finished
open_word n s b (open_store i) e = i.word
open_word n s b (cut_store i) e = awaiting_opened (sym i.stage ∙ e)
open_word n s b (reopening_store k l i) e = storing_opened (sym i.stage ∙ e)

storing_word : (n : ℕ) (s : Areas) (b : Book) (k : ℕ) → Inv3 n s b → b.stage ≡ storing k → reopening s ≡ running
storing_word n s b k (open_store i) e = storing_opened (sym e ∙ i.stage)
storing_word n s b k (cut_store i) e = awaiting_storing (sym i.stage ∙ e)
storing_word n s b k (reopening_store j l i) e = i.word

-- a reopening runs in a store that is well formed
step_taken : (n : ℕ) (s : Areas) (b : Book) → Fine n s b → reopening s ≡ running → accepted (call_restep s).answer ≡ true
unfolding call_restep restep_tests
step_taken n s b f w = sym (ap (λ (o : Out). accepted o.answer) (called_passed false true s (λ m. restep_tests s) _ (formed n s b f true refl) refl (all_passed ∙ need_holds _ _ _ _ (eq-eqb (reopening s) running w))))

pub always_in_stage : AlwaysInStage
unfolding perform
always_in_stage = always InStage (λ n some q u. record {
  taken = λ c r a. (as_open n q.store q.book u.inv (accepted_open q.store c r a)).stage;
  takes = open_word n q.store q.book u.inv;
  stepped = λ k e. step_taken n q.store q.book u.fine (storing_word n q.store q.book k u.inv e);
})

pub refusals_change_nothing : RefusalsChangeNothing
refusals_change_nothing = record { calls = refused_keeps; format = format_keeps; buffer = buffer_keeps; chain = chain_keeps; share = share_keeps }
