-- Document 02, L9: the right that a lock needs, and the tests of a change of one, as the code makes them. n is the number of pages.
-- Assumes nothing.
use Rattle.std.specs.Prelude.{ℕ, ◌+◌, ◌<◌, ◌≤◌, ◌≡◌, refl, Bool, true, false, ◌&&◌, ◌||◌, List, [], eqb, leb, ltb, Ok, Err}
use Rattle.std.proofs.Common.{ap, ◌∙◌, arith}
use Rattle.std.proofs.Math.Bool.{not}
use Rattle.words.specs.Tests.{any, any_next}
use Rattle.records.specs.Records.{txn_count}
use Rattle.areas.specs.declared.Refusal.TheVariants.{OutOfRange, WrongState}
use Rattle.areas.specs.Answers.{verdict, need_holds, need_fails, Check}
use Rattle.areas.specs.Areas.{Areas, areas}
use Rattle.areas.specs.Layout.{HasUndoing, client_count, right_at}
use Rattle.areas.specs.Tables.{at, is_active}
use Rattle.calls.specs.Rights.{is_client, is_right, client_of, may_lock, has_active, grant_tests}
use Rattle.acceptance.specs.Entered.{Open}
use Rattle.acceptance.specs.Rights.{grant_facts}

-- as the code finds it: t's client, and its right on page p
pub right_found : (w : List ℕ) (n t p right : ℕ) {c r : ℕ} → c ≡ client_of w n t → r ≡ at w (right_at n c p) → leb right r ≡ may_lock w n t p right
unfolding may_lock
right_found w n t p right e d = rw (d, e)

-- of the first k transactions, some active one is client c's
unfoldable pub active_below : List ℕ → ℕ → ℕ → ℕ → Bool
active_below w n c k = any (λ t. is_active w t && eqb (client_of w n t) c) k

pub active_none : (w : List ℕ) (n c : ℕ) → false ≡ active_below w n c 0
unfolding active_below any
active_none w n c = refl

pub active_next : (w : List ℕ) (n c t : ℕ) {found active : Bool} {d : ℕ} → found ≡ active_below w n c t → active ≡ is_active w t → d ≡ client_of w n t →
    found || (active && eqb d c) ≡ active_below w n c (t + 1)
unfolding active_below
active_next w n c t e a d = rw (e, a, d) (any_next (λ t. is_active w t && eqb (client_of w n t) c) t)

pub active_end : (w : List ℕ) (n c t : ℕ) {found : Bool} → t ≤ txn_count → txn_count ≤ t → found ≡ active_below w n c t → found ≡ has_active w n c
unfolding active_below has_active
active_end w n c t a b e = e ∙ ap (any (λ t. is_active w t && eqb (client_of w n t) c)) (omega arith)

-- the lists that a check does not read
pub grant_as : (s c r g k w : List ℕ) (n d p x : ℕ) {y : Check} → y ≡ verdict (grant_tests (areas [] [] [] [] [] w) n d p x) → y ≡ verdict (grant_tests (areas s c r g k w) n d p x)
unfolding grant_tests
grant_as s c r g k w n d p x e = e

module _ (s : Areas) (n c p r : ℕ) where
  pub grant_outside : is_client c && ltb p n && is_right r ≡ false → Err OutOfRange ≡ verdict (grant_tests s n c p r)
  unfolding grant_tests
  grant_outside h = need_fails _ _ _ _ h

  pub grant_active : is_client c && ltb p n && is_right r ≡ true → has_active s.work n c ≡ true → Err WrongState ≡ verdict (grant_tests s n c p r)
  unfolding grant_tests
  grant_active h a = need_fails _ _ _ _ (ap not a) ∙ need_holds _ _ _ _ h

-- what the code that makes the change needs of a call whose tests passed
pub grant_ready : (s : Areas) (n c p r : ℕ) → Open s n → verdict (grant_tests s n c p r) ≡ Ok tt → HasUndoing s.work n 0 × (c < client_count) × (p < n)
grant_ready s n c p r o h = let f = grant_facts s n c p r h in let z = o.sized in ((z.top, omega arith), f.client, f.page)
