-- An accepted change of a right keeps the invariant: no other word changes, and demand 3 looks at no right. n is the number of pages.
-- Assumes nothing.
use Prim.Native.Nat.{ℕ, suc, ◌≤◌}
use native.Mathlib.Omega.{arith}
use mathlib.Core.Path.{◌≡◌, sym, ap, ◌∙◌}
use mathlib.Core.Bool.{true}
use mathlib.Core.List.{List}
use lib.Seq.{get_or-set_other}
use Rattle.areas.specs.Answers.{accepted}
use Rattle.areas.specs.Areas.{Areas, Out, with_work}
use Rattle.areas.specs.Layout.{marked_at, order_at, right_at}
use Rattle.calls.specs.Calls.{grant}
use Rattle.calls.specs.Rights.{right_given, call_grant}
use Rattle.acceptance.specs.Entered.{opened}
use Rattle.acceptance.specs.Rights as Accepted
use Rattle.book.specs.Books.{Book}
use Rattle.book.specs.Feeding.{fed}
use Rattle.machine_calls.proofs.Frames.{Beside, beside_set, wider}
use Rattle.demand.proofs.State.{OpenInv}
use Rattle.demand.proofs.Marks.{marks_kept}

pub grant_beside : (w : List ℕ) (n c p r : ℕ) → Beside (right_at n c p) (suc (right_at n c p)) w (right_given w n c p r)
unfolding right_given
grant_beside w n c p r = beside_set w (right_at n c p) r

-- the words of marks stand before it
granted : (n : ℕ) (s : Areas) (b : Book) → OpenInv n s b → (c p r : ℕ) → Accepted.GrantFacts s n c p r → OpenInv n (with_work s (right_given s.work n c p r)) b
unfolding right_given
granted n s b i c p r f = let a = f.client in let q = f.page in
    marks_kept n s b i (right_given s.work n c p r) (wider (grant_beside s.work n c p r) (omega arith) (omega arith))
    (λ t m x y z. get_or-set_other s.work (right_at n c p) (marked_at n t m) r 0 (λ e. omega arith)
    ∙ i.going.notes.marks t m x y (λ e. z (get_or-set_other s.work (right_at n c p) (order_at n t m) r 0 (λ d. omega arith) ∙ e)))

pub open_grant : (n : ℕ) → 1 ≤ n → (s : Areas) (b : Book) → OpenInv n s b → (c p r : ℕ) → accepted (call_grant s c p r).answer ≡ true
    → OpenInv n (call_grant s c p r).after (fed n b (grant c p r) s.received (call_grant s c p r).after.received)
unfolding fed
open_grant n some s b i c p r a =
    let k = (Accepted.grant_outcome s c p r).ran a in
    let o = opened true s k.n k.ready in
    let e : k.n ≡ n = sym o.sized.count ∙ i.size in
    let g : (call_grant s c p r).after ≡ with_work s (right_given s.work n c p r) = ap (λ (q : Out). q.after) k.gives ∙ ap (λ (m : ℕ). with_work s (right_given s.work m c p r)) e in
    rw g (granted n s b i c p r (rw e at (Accepted.grant_facts s k.n c p r k.passed)))
