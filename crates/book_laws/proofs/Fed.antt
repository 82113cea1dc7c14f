-- The book's invariant is kept by every accepted call and by a cut. Assumes nothing.
use Prim.Native.Nat.{ℕ, ◌-◌}
use native.Mathlib.Omega.{arith}
use mathlib.Core.Path.{refl}
use mathlib.Core.List.{List}
use lib.Dec.{eqb}
use Rattle.pages.specs.Objects.{word_of}
use Rattle.records.specs.Records.{create_of, set_of}
use Rattle.calls.specs.Calls.{Call, begin, commit, abort, grant, lock_read, lock_write, read, create, set_word, flush, force, store, empty, pass, step, reopen, restep, mark, back, look}
use Rattle.book.specs.Lines.{left}
use Rattle.book.specs.Books.{Book, storing, full_pages}
use Rattle.book.specs.Feeding.{fed, adds, stepped}
use Rattle.reach.specs.Reaching.{refers_to}
use Rattle.book_laws.specs.Keeping.{BookInv, Expects}
use Rattle.book_laws.proofs.Invariant.{adds_inv, sweeps_inv, learn_inv, force_inv, mark_inv, stage_inv, begin_inv, stop_inv}
use Rattle.book_laws.proofs.Finishing.{commit_inv}
use Rattle.book_laws.proofs.GoingBack.{went_inv, abort_all_inv}

pub fed_inv : (n : ℕ) (b : Book) (c : Call) (before after : List ℕ) → BookInv b → Expects b c → BookInv (fed n b c before after)
unfolding fed
fed_inv n b (begin t c) before after i h = begin_inv b i t h.0 h.1
fed_inv n b (commit t) before after i h = commit_inv b i t h
fed_inv n b (abort t) before after i h = abort_all_inv t b i h
fed_inv n b (grant c p r) before after i h = i
fed_inv n b (lock_read t p) before after i h = i
fed_inv n b (lock_write t p) before after i h = i
fed_inv n b (read t o buffer) before after i h = learn_inv b i t (refers_to (full_pages b) o)
fed_inv n b (create t o) before after i h = learn_inv (adds b t (create_of t o)) (adds_inv b i t (create_of t o) h refl refl (λ z. omega arith) (λ z. omega arith) refl) t (eqb o)
fed_inv n b (set_word t o f v) before after i h = adds_inv b i t (set_of t o f (word_of (full_pages b) o f) v) h refl refl (λ z. omega arith) (λ z. omega arith) refl
fed_inv n b (flush t p image) before after i h = i
fed_inv n b force before after i h = force_inv b i h
fed_inv n b (store p) before after i h = i
fed_inv n b empty before after i h = i
fed_inv n b pass before after i h = i
fed_inv n b step before after i h = sweeps_inv b i before after n
fed_inv n b reopen before after i h = stop_inv (storing 0) b i
fed_inv n b restep before after i h = stage_inv b i (stepped n b.stage)
fed_inv n b (mark t m) before after i h = mark_inv b i t m
fed_inv n b (back t m) before after i h = went_inv (left (b.running t) b.lines - b.marked t m) b i t h (omega arith)
fed_inv n b (look q) before after i h = i
