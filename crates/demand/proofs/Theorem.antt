-- Demand 3: the invariant holds at every point of every list, and gives the claim. Assumes nothing.
use Prim.Native.Nat.{ℕ, ◌≤◌}
use native.Mathlib.Omega.{arith}
use mathlib.Core.Path.{◌≡◌, refl}
use mathlib.Core.Bool.{true, false}
use mathlib.Core.List.{List, [], ◌∷◌}
use Rattle.words.specs.Tests.{by_bool}
use Rattle.areas.specs.Answers.{accepted}
use Rattle.areas.specs.Areas.{Areas}
use Rattle.calls.specs.Calls.{Call, reopens, perform}
use Rattle.calls.specs.Calls.Call.{begin, commit, abort, grant, lock_read, lock_write, read, create, set_word, flush, force, store, empty, pass, step, reopen, restep, mark, back, look}
use Rattle.calls.specs.Looks.{Look}
use Rattle.acceptance.specs.Looks.{look_keeps}
use Rattle.acceptance.specs.Calls.{refused_keeps}
use Rattle.book.specs.Books.{Book}
use Rattle.book.specs.Feeding.{fed}
use Rattle.book.specs.Demand.{Event, call, power, Point, accepts, after, start, Holds, Throughout, last, then, Demand3}
use Rattle.demand.proofs.State.{OpenInv, Inv3, open_store, cut_store, reopening_store}
use Rattle.demand.proofs.Finished.{accepted_open}
use Rattle.demand.proofs.Holds.{open_holds}
use Rattle.demand.proofs.HoldsWaiting.{await_holds, storing_holds}
use Rattle.demand.proofs.Begin.{open_begin}
use Rattle.demand.proofs.Commit.{open_commit}
use Rattle.demand.proofs.Abort.{open_abort}
use Rattle.demand.proofs.Rights.{open_grant}
use Rattle.demand.proofs.Locks.{open_lock_read, open_lock_write}
use Rattle.demand.proofs.Reading.{open_read}
use Rattle.demand.proofs.Create.{open_create}
use Rattle.demand.proofs.Write.{open_set}
use Rattle.demand.proofs.Flush.{open_flush}
use Rattle.demand.proofs.Stability.{open_force, open_store as open_store_page, open_empty}
use Rattle.demand.proofs.Passing.{open_pass, open_step}
use Rattle.demand.proofs.Sweep.{open_sweep}
use Rattle.demand.proofs.Marks.{open_mark, open_back}
use Rattle.demand.proofs.Cut.{cut_kept}
use Rattle.demand.proofs.Reopen.{reopen_kept}
use Rattle.demand.proofs.Restep.{restep_kept}
use Rattle.demand.proofs.Start.{start_inv}

-- the store and the book after an accepted call
abbrev pub Kept : ℕ → Areas → Book → Call → Type 0
Kept n s b c = Inv3 n (perform s c).after (fed n b c s.received (perform s c).after.received)

-- a call that needs the reopening finished is accepted by an open store only
when_open : (n : ℕ) (s : Areas) (b : Book) (c : Call) → reopens c ≡ false → (OpenInv n s b → Kept n s b c) → Inv3 n s b → accepted (perform s c).answer ≡ true → Kept n s b c
when_open n s b c r k (open_store i) a = k i
when_open n s b c r k (cut_store i) a = absurd (let w = accepted_open s c r a in let z = i.word in omega arith)
when_open n s b c r k (reopening_store j l i) a = absurd (let w = accepted_open s c r a in let z = i.word in omega arith)

-- a call that only looks changes neither store nor book
looked_keeps : (n : ℕ) (s : Areas) (b : Book) (q : Look) → Inv3 n s b → Kept n s b (look q)
unfolding perform fed
looked_keeps n s b q i = rw (look_keeps s q) i

-- every accepted call keeps the invariant
pub accepted_keeps : (n : ℕ) → 1 ≤ n → (s : Areas) (b : Book) (c : Call) → Inv3 n s b → accepted (perform s c).answer ≡ true → Kept n s b c
unfolding perform
accepted_keeps n some s b (begin t c) i a = when_open n s b (begin t c) refl (λ o. open_store (open_begin n some s b o t c a)) i a
accepted_keeps n some s b (commit t) i a = when_open n s b (commit t) refl (λ o. open_store (open_commit n some s b o t a)) i a
accepted_keeps n some s b (abort t) i a = when_open n s b (abort t) refl (λ o. open_store (open_abort n some s b o t a)) i a
accepted_keeps n some s b (grant c p r) i a = when_open n s b (grant c p r) refl (λ o. open_store (open_grant n some s b o c p r a)) i a
accepted_keeps n some s b (lock_read t p) i a = when_open n s b (lock_read t p) refl (λ o. open_store (open_lock_read n some s b o t p a)) i a
accepted_keeps n some s b (lock_write t p) i a = when_open n s b (lock_write t p) refl (λ o. open_store (open_lock_write n some s b o t p a)) i a
accepted_keeps n some s b (read t x buffer) i a = when_open n s b (read t x buffer) refl (λ o. open_store (open_read n some s b o t x buffer a)) i a
accepted_keeps n some s b (create t x) i a = when_open n s b (create t x) refl (λ o. open_store (open_create n some s b o t x a)) i a
accepted_keeps n some s b (set_word t x f v) i a = when_open n s b (set_word t x f v) refl (λ o. open_store (open_set n some s b o t x f v a)) i a
accepted_keeps n some s b (flush t p image) i a = when_open n s b (flush t p image) refl (λ o. open_store (open_flush n some s b o t p image a)) i a
accepted_keeps n some s b force i a = when_open n s b force refl (λ o. open_store (open_force n some s b o a)) i a
accepted_keeps n some s b (store p) i a = when_open n s b (store p) refl (λ o. open_store (open_store_page n some s b o p a)) i a
accepted_keeps n some s b empty i a = when_open n s b empty refl (λ o. open_store (open_empty n some s b o a)) i a
accepted_keeps n some s b pass i a = when_open n s b pass refl (λ o. open_store (open_pass n some s b o a)) i a
accepted_keeps n some s b step i a = when_open n s b step refl (λ o. open_store (open_step n some s b o (open_sweep n some s b o) a)) i a
accepted_keeps n some s b reopen i a = reopen_kept n some s b i a
accepted_keeps n some s b restep i a = restep_kept n some s b i a
accepted_keeps n some s b (mark t m) i a = when_open n s b (mark t m) refl (λ o. open_store (open_mark n some s b o t m a)) i a
accepted_keeps n some s b (back t m) i a = when_open n s b (back t m) refl (λ o. open_store (open_back n some s b o t m a)) i a
accepted_keeps n some s b (look q) i a = looked_keeps n s b q i

abbrev Inv : ℕ → Point → Type 0
Inv n q = Inv3 n q.store q.book

-- every event does: an accepted call, a refused one, a cut
pub keep : (n : ℕ) → 1 ≤ n → (q : Point) (e : Event) → Inv n q → Inv n (after n q e)
unfolding after
keep n some q (call c) i = by_bool (accepts q c)
    (λ a. rw a (accepted_keeps n some q.store q.book c i a))
    (λ a. rw (a, refused_keeps q.store c a) i)
keep n some q power i = cut_kept n some q.store q.book i

-- the invariant gives the claim at a point
pub holds : (n : ℕ) → 1 ≤ n → (s : Areas) (b : Book) → Inv3 n s b → Holds n (record { store = s; book = b })
holds n some s b (open_store i) = open_holds n some s b i
holds n some s b (cut_store i) = await_holds n s b i
holds n some s b (reopening_store k l i) = storing_holds n some s b k i

-- at every point of a list from any start that meets the invariant
pub everywhere : (n : ℕ) → 1 ≤ n → (es : List Event) (q : Point) → Inv n q → Throughout n q es
everywhere n some [] q i = last (holds n some q.store q.book i)
everywhere n some (e ∷ es) q i = then (holds n some q.store q.book i) (everywhere n some es (after n q e) (keep n some q e i))

-- Demand 3.
pub demand3 : Demand3
demand3 n l some most records few es = everywhere n some es (start n l) (start_inv n l some)
