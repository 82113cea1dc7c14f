-- An accepted call that leaves the book not open is a reopen or a step of one: what is claimed of a store that is not open is to be shown
-- of these two. n is the number of pages. Assumes nothing.
use Prim.Native.Nat.{ℕ, ◌≤◌}
use mathlib.Core.Path.{◌≡◌, refl}
use mathlib.Core.Bool.{true, false}
use mathlib.Core.List.{List}
use Rattle.areas.specs.Answers.{accepted}
use Rattle.areas.specs.Areas.{Areas}
use Rattle.calls.specs.Calls.{Call, reopens, perform}
use Rattle.calls.specs.Calls.Call.{begin, commit, abort, grant, lock_read, lock_write, read, create, set_word, flush, force, store, empty, pass, step, reopen, restep, mark, back, look}
use Rattle.book.specs.Books.{Book, opened}
use Rattle.book.specs.Feeding.{fed}
use Rattle.demand.proofs.State.{OpenInv, Inv3}
use Rattle.demand.proofs.Finished.{accepted_open}
use Rattle.demand.proofs.Marks.{open_back}
use Rattle.guarantees.proofs.Always.{as_open}

module _ (n : ℕ) (some : 1 ≤ n) (s : Areas) (b : Book) (v : Inv3 n s b) where
  -- a call other than these two is accepted by an open store
  pub here : (c : Call) → reopens c ≡ false → accepted (perform s c).answer ≡ true → OpenInv n s b
  here c r a = as_open n s b v (accepted_open s c r a)

  pub closed_after : (A : Call → Type 0) → (accepted (perform s reopen).answer ≡ true → A reopen) → (accepted (perform s restep).answer ≡ true → A restep)
      → (c : Call) → accepted (perform s c).answer ≡ true → (r : List ℕ) → ((fed n b c s.received r).stage ≡ opened → ⊥) → A c
  unfolding fed perform
  closed_after A x y (begin t c) a r shut = absurd (shut (here (begin t c) refl a).stage)
  closed_after A x y (commit t) a r shut = absurd (shut (here (commit t) refl a).stage)
  closed_after A x y (abort t) a r shut = absurd (shut (here (abort t) refl a).stage)
  closed_after A x y (grant c p w) a r shut = absurd (shut (here (grant c p w) refl a).stage)
  closed_after A x y (lock_read t p) a r shut = absurd (shut (here (lock_read t p) refl a).stage)
  closed_after A x y (lock_write t p) a r shut = absurd (shut (here (lock_write t p) refl a).stage)
  closed_after A x y (read t o buffer) a r shut = absurd (shut (here (read t o buffer) refl a).stage)
  closed_after A x y (create t o) a r shut = absurd (shut (here (create t o) refl a).stage)
  closed_after A x y (set_word t o f w) a r shut = absurd (shut (here (set_word t o f w) refl a).stage)
  closed_after A x y (flush t p image) a r shut = absurd (shut (here (flush t p image) refl a).stage)
  closed_after A x y force a r shut = absurd (shut (here force refl a).stage)
  closed_after A x y (store p) a r shut = absurd (shut (here (store p) refl a).stage)
  closed_after A x y empty a r shut = absurd (shut (here empty refl a).stage)
  closed_after A x y pass a r shut = absurd (shut (here pass refl a).stage)
  closed_after A x y step a r shut = absurd (shut (here step refl a).stage)
  closed_after A x y reopen a r shut = x a
  closed_after A x y restep a r shut = y a
  closed_after A x y (mark t m) a r shut = absurd (shut (here (mark t m) refl a).stage)
  closed_after A x y (back t m) a r shut = absurd (shut (open_back n some s b (here (back t m) refl a) t m a).stage)
  closed_after A x y (look q) a r shut = absurd (shut (here (look q) refl a).stage)
