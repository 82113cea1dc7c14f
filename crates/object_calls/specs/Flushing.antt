-- A flush: what its tests give the code, and its outcome. Assumes nothing.
use Rattle.std.specs.Prelude.{ℕ, ◌*◌, ◌<◌, ◌≤◌, ◌≡◌, true, List, [], length, eqb, Ok}
use Rattle.std.proofs.Common.{arith, eqb-true}
use Rattle.pages.specs.Geometry.{page_words}
use Rattle.pages.specs.Objects.{copied_page}
use Rattle.records.specs.Records.{txn_count}
use Rattle.areas.specs.Answers.{verdict}
use Rattle.areas.specs.Areas.{areas, out, done}
use Rattle.areas.specs.Layout.{HasTables, unflushed_at}
use Rattle.areas.specs.Tables.{lose}
use Rattle.calls.specs.Objects.{flush_tests, flushed}
use Rattle.acceptance.specs.Lengths.{Sized}
use Rattle.acceptance.specs.Objects.{flush_facts}

-- an image of the right length
pub own_fits : (b : List ℕ) (k : ℕ) → eqb (length b) k ≡ true → k ≤ length b
own_fits b k h = let e = eqb-true (length b) k h in omega arith

pub flush_ready : (s c r g k w image : List ℕ) (n t p : ℕ) → Sized (areas s c r g k w) n →
    verdict (flush_tests (areas [] [] r [] [] w) n t p image) ≡ Ok tt →
    (page_words * n ≤ length r) × (page_words * n ≤ length c) × HasTables w n × (t < txn_count) × (p < n)
flush_ready s c r g k w image n t p h q =
    let f = flush_facts (areas [] [] r [] [] w) n t p image q in
    let a = h.received_len in
    let b = h.copies_len in
    (omega arith, omega arith, h.tables, f.txn, f.page)

pub flush_out : (s c r g k w : List ℕ) (n t p : ℕ) (c' w' : List ℕ) → (c' ≡ copied_page r c p) × (w' ≡ lose w (unflushed_at n p) t) →
    out (Ok 0) s c' r g k w' ≡ done 0 (flushed (areas s c r g k w) n t p)
unfolding flushed
flush_out s c r g k w n t p c' w' e = rw (e.0, e.1)
