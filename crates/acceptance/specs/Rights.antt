-- Document 02, L9: what an accepted change of a right knows, and which is accepted. n is the number of pages. Assumes nothing.
use Rattle.std.specs.Prelude.{ℕ, ◌<◌, ◌≤◌, ◌≡◌, true, false, not, ◌&&◌, ltb, Ok}
use Rattle.std.proofs.Common.{ap, ◌∙◌, ltb-true, leb-true}
use Rattle.std.proofs.lemmas.Bool.{not-true}
use Rattle.words.specs.Tests.{and_split}
use Rattle.areas.specs.Answers.{verdict, passed, all_passed, need_holds}
use Rattle.areas.specs.Areas.{Areas, done, with_work}
use Rattle.areas.specs.Layout.{client_count, writing}
use Rattle.calls.specs.Rights.{is_client, is_right, has_active, grant_tests, right_given, call_grant}
use Rattle.acceptance.specs.Ran.{Outcome, outcome_done}

pub record GrantFacts (s : Areas) (n c p r : ℕ) : Type 0 where
  pub client : c < client_count
  pub page : p < n
  pub right : r ≤ writing
  pub idle : has_active s.work n c ≡ false

pub grant_facts : (s : Areas) (n c p r : ℕ) → verdict (grant_tests s n c p r) ≡ Ok tt → GrantFacts s n c p r
unfolding grant_tests
grant_facts s n c p r h =
    let b = and_split (is_client c && ltb p n) (is_right r) (passed _ 0 h) in
    let a = and_split (is_client c) (ltb p n) b.0 in
    record { client = ltb-true _ _ a.0; page = ltb-true _ _ a.1; right = leb-true _ _ b.1; idle = not-true _ (passed _ 1 h) }

pub grant_passes : (s : Areas) (n c p r : ℕ) → is_client c && ltb p n && is_right r ≡ true → has_active s.work n c ≡ false → Ok tt ≡ verdict (grant_tests s n c p r)
unfolding grant_tests
grant_passes s n c p r h f = all_passed ∙ need_holds _ _ _ _ (ap not f) ∙ need_holds _ _ _ _ h

pub grant_outcome : (s : Areas) (c p r : ℕ) →
    Outcome true true s (λ n. grant_tests s n c p r) (call_grant s c p r) (λ n. done 0 (with_work s (right_given s.work n c p r)))
unfolding call_grant
grant_outcome s c p r = outcome_done _ _ _ _ (λ n. 0) (λ n. with_work s (right_given s.work n c p r))
