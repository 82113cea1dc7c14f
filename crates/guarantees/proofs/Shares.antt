-- The share of a pass: what the call shows, that the shares add up, and that a pass whose commits made their steps is over. n is the number
-- of pages of the store, k that of the pages that the pass covers, m that of the commits. Assumes nothing.
use Rattle.std.specs.Prelude.{Ok}
use Prim.Native.Nat.{ℕ, zero, suc, ◌+◌, ◌*◌, ◌≤◌, ◌<◌, min}
use native.Mathlib.Omega.{arith}
use native.Mathlib.Nat.{div-add-mod, mod-lt, suc-mul, mul_comm}
use mathlib.Core.Path.{◌≡◌, refl, sym, ap, ◌∙◌}
use mathlib.Core.Bool.{true, false}
use mathlib.Core.List.{List}
use lib.Dec.{eqb, ltb, leb}
use borrow.Author.Tests.{ltb-true, ltb-false, leb-true, eqb-true, ne_eqb}
use Rattle.words.specs.Tests.{if, sum, by_bool, and_split}
use Rattle.areas.specs.Answers.{passed, value_of}
use Rattle.areas.specs.Areas.{Areas, Out, done}
use Rattle.areas.specs.Tables.{pass_runs}
use Rattle.calls.specs.Calls.{perform}
use Rattle.calls.specs.Objects.{if_accepted}
use Rattle.calls.specs.PassShares.{pass_bound, max_commits, share_whole, share_rest, owed, share_of, pass_share_tests, pass_share_look, call_pass_share, pass_share_after}
use Rattle.book.specs.Feeding.{put}
use Rattle.book.specs.Demand.{Event, call, power, Point, accepts, after}
use Rattle.guarantees.specs.Ledgers.{kept}
use Rattle.guarantees.specs.Steps.{Part, starts, steps, stops, commits, other, part_of, tallied, tally, covered_in}
use Rattle.guarantees.specs.Shares.{ShareIsACall, ShowsShare, ShareShown, SharesAddUp, Spread, unspread, spreading, spread, Shared, AlwaysShared}
use Rattle.guarantees.proofs.Always.{Sure}
use Rattle.guarantees.proofs.Ledgers.{always_kept}
use Rattle.guarantees.proofs.Looked.{look_ran, look_gave}
use Rattle.guarantees.proofs.Tally.{Stepping, keep_stepping, start_stepping, disk_stepping}
use Rattle.guarantees.proofs.Steps.{below_so}

pub share_is_a_call : ShareIsACall
unfolding perform call_pass_share
share_is_a_call s buffer m = refl

-- so many commits owe so many steps
owed_some : (q r m : ℕ) → sum (λ i. q + if (ltb i r) 1 0) m ≡ m * q + min m r
unfolding sum
owed_some q r zero = omega arith
owed_some q r (suc m) = let ih = owed_some q r m in let e : suc m * q ≡ m * q + q = suc-mul m q in
    by_bool (ltb m r)
    (λ t. let l = ltb-true m r t in rw t (omega arith))
    (λ t. let l = ltb-false m r t in rw t (omega arith))

pub shares_add_up : SharesAddUp
shares_add_up k m some =
    let below : share_rest k m < m = mod-lt (pass_bound k) (omega arith) in
    let e = div-add-mod (pass_bound k) m in
    let c = mul_comm (share_whole k m) m in
    let a = owed_some (share_whole k m) (share_rest k m) m in
    record { divided = omega arith; below = below; all = a ∙ omega arith }

-- an accepted call
module _ (s : Areas) (b : List ℕ) (m v : ℕ) (t : (call_pass_share s b m).answer ≡ Ok v) where
  gave : call_pass_share s b m ≡ done (share_whole (covered_in s) m) s
  unfolding call_pass_share pass_share_look
  gave = look_gave s (pass_share_look b m) v t

  range : (leb 1 m ≡ true) × (leb m max_commits ≡ true)
  unfolding call_pass_share pass_share_look pass_share_tests
  range = and_split (leb 1 m) (leb m max_commits) (passed _ 0 (look_ran s (pass_share_look b m) v t).passed)

  shows_share : ShowsShare s b m v
  unfolding pass_share_after
  shows_share = record {
    some = leb-true _ _ range.0;
    few = leb-true _ _ range.1;
    value = ap value_of (sym t ∙ ap (λ (x : Out). x.answer) gave);
    shown = ap (λ (x : Out). if_accepted x.answer (share_of (covered_in s) m) b) gave;
  }

pub share_shown : ShareShown
share_shown = shows_share

-- sums of steps
sum_zero : (m : ℕ) → sum (λ i. 0) m ≡ 0
unfolding sum
sum_zero zero = refl
sum_zero (suc m) = let ih = sum_zero m in omega arith

sum_most : (f g : ℕ → ℕ) (m : ℕ) → ((i : ℕ) → i < m → f i ≤ g i) → sum f m ≤ sum g m
unfolding sum
sum_most f g zero h = omega arith
sum_most f g (suc m) h = let ih = sum_most f g m (λ i l. h i (omega arith)) in let k = h m (omega arith) in omega arith

sum_first : (f : ℕ → ℕ) (m : ℕ) → sum f (suc m) ≡ f 0 + sum (λ i. f (suc i)) m
unfolding sum
sum_first f zero = omega arith
sum_first f (suc m) = let ih = sum_first f m in omega arith

-- one more at place j
sum_before : (f : ℕ → ℕ) (j v m : ℕ) → m ≤ j → sum (put f j v) m ≡ sum f m
unfolding sum
sum_before f j v zero h = refl
sum_before f j v (suc m) h = let ih = sum_before f j v m (omega arith) in let e : eqb m j ≡ false = ne_eqb m j (λ z. omega arith) in rw (e, ih) refl

sum_more : (f : ℕ → ℕ) (j m : ℕ) → sum (put f j (suc (f j))) m ≤ suc (sum f m)
unfolding sum
sum_more f j zero = omega arith
sum_more f j (suc m) = by_bool (eqb m j)
    (λ e. let d = eqb-true m j e in let k = sum_before f j (suc (f j)) m (omega arith) in let z : f m ≡ f j = ap f d in rw e (omega arith))
    (λ e. let ih = sum_more f j m in rw e (omega arith))

-- the steps of the ledger are among those of the tally
part_sums : (p : Part) (l : Spread) (t : ℕ) → ((m : ℕ) → sum l.after m ≤ t) → (m : ℕ) → sum (spreading l p).after m ≤ tallied t p
part_sums starts l t h m = let e = sum_zero m in omega arith
part_sums steps l t h m = let k = sum_more l.after l.made m in let e = h m in omega arith
part_sums stops l t h m = let e = sum_zero m in omega arith
part_sums commits l t h m = h m
part_sums other l t h m = h m

record Spreads (n : ℕ) (q : Point) (l : Spread) : Type 0 where
  all : ℕ
  stepping : Stepping n q all
  sums : (m : ℕ) → sum l.after m ≤ all

kept_sums : (q : Point) (l : Spread) (t : ℕ) (e : Event) → ((m : ℕ) → sum l.after m ≤ t) → (m : ℕ) → sum (kept spread q l e).after m ≤ kept tally q t e
unfolding kept
kept_sums q l t (call c) h m = by_bool (accepts q c) (λ a. rw a (part_sums (part_of c) l t h m)) (λ a. rw a (h m))
kept_sums q l t power h m = let e = sum_zero m in omega arith

keep_spreads : (n : ℕ) → 1 ≤ n → (q : Point) (l : Spread) (e : Event) → Sure n q → Spreads n q l → Spreads n (after n q e) (kept spread q l e)
keep_spreads n some q l e u j = record { all = kept tally q j.all e; stepping = keep_stepping n some q j.all e u j.stepping; sums = kept_sums q l j.all e j.sums }

-- what was owed is the bound
shared_so : (n : ℕ) (q : Point) (l : Spread) → Sure n q → Spreads n q l → Shared q l
shared_so n q l u j m some paid = by_bool (pass_runs q.store.work)
    (λ e. absurd (
    let k = covered_in q.store in
    let b = below_so n q j.all u j.stepping e in
    let o = (shares_add_up k m some).all in
    let p = sum_most (owed k m) (λ i. l.after (suc i)) m paid in
    let f = sum_first l.after m in
    let h = j.sums (suc m) in
    omega arith))
    (λ e. e)

none_spread : (m : ℕ) → sum unspread.after m ≤ 0
none_spread m = let e = sum_zero m in omega arith

pub always_shared : AlwaysShared
always_shared = always_kept Spread spread Spreads Shared keep_spreads shared_so
    (λ n k. record { all = 0; stepping = start_stepping n k; sums = none_spread })
    (λ s. record { all = 0; stepping = disk_stepping s; sums = none_spread })
