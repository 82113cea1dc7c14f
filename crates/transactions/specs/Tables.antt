-- The working tables at the begin and at the end of a transaction, by the runs of words that the code changes. n is the number of pages.
-- Assumes nothing.
use Rattle.std.specs.Prelude.{ℕ, ◌+◌, ◌-◌, ◌≤◌, ◌≡◌, not, List, set, eqb}
use Rattle.std.proofs.Common.{sym, ap, ◌∙◌, arith}
use Rattle.words.specs.Spans.{over, fill, over_outside}
use Rattle.pages.specs.Geometry.{object_count, root}
use Rattle.areas.specs.Layout.{active_at, phase_at, readers_at, writers_at, unflushed_at, known_at, pruned_at, created_at, colour_at, mark_count, marked_at, order_at, client_at}
use Rattle.areas.specs.Tables.{gain, lose, pass_runs}
use Rattle.calls.specs.Transactions.{leaves, begun_tables, ended_entry, ended_entries, without_marks, ended_tables}
use Rattle.store_ops.specs.Tables.{over_join}

-- the masks of known objects begin at a, that of the root stands at b
pub tables_begun : (w : List ℕ) (n t c : ℕ) {v u x y : List ℕ} {a b : ℕ} → a ≡ known_at n 1 → b ≡ known_at n root →
    v ≡ gain w active_at t → u ≡ leaves t v a (object_count n) → x ≡ gain u b t → y ≡ set x (client_at n t) c → y ≡ begun_tables w n t c
unfolding begun_tables
tables_begun w n t c ea eb g l k h = h ∙ rw (k, l, g, ea, eb)

-- a run of words up to word b, and the k words from b to e
joined : (f : ℕ → ℕ) (w : List ℕ) (a b e k : ℕ) → a ≤ b → e ≡ b + k → over f (over f w a (b - a)) b k ≡ over f w a (e - a)
joined f w a b e k l d =
    let p : b ≡ a + (b - a) = omega arith in
    let q : e - a ≡ (b - a) + k = omega arith in
    ap (λ (i : ℕ). over f (over f w a (b - a)) i k) p ∙ over_join f w a (b - a) k ∙ ap (over f w a) (sym q)

module _ (w : List ℕ) (n t : ℕ) where
  masks : leaves t (leaves t (leaves t (leaves t w (readers_at n 0) n) (writers_at n 0) n) (unflushed_at n 0) n) (known_at n 1) (object_count n)
      ≡ leaves t w (readers_at n 0) (pruned_at n 1 - readers_at n 0)
  masks =
      let a = readers_at n 0 in
      let e : n ≡ writers_at n 0 - a = omega arith in
      ap (λ (k : ℕ). leaves t (leaves t (leaves t (leaves t w a k) (writers_at n 0) n) (unflushed_at n 0) n) (known_at n 1) (object_count n)) e
      ∙ ap (λ (x : List ℕ). leaves t (leaves t x (unflushed_at n 0) n) (known_at n 1) (object_count n)) (joined _ w a (writers_at n 0) (unflushed_at n 0) n (omega arith) (omega arith))
      ∙ ap (λ (x : List ℕ). leaves t x (known_at n 1) (object_count n)) (joined _ w a (unflushed_at n 0) (known_at n 1) n (omega arith) (omega arith))
      ∙ joined _ w a (known_at n 1) (pruned_at n 1) (object_count n) (omega arith) (omega arith)

  entries : ended_entries t (ended_entries t w (pruned_at n 1) (object_count n)) (created_at n 1) (object_count n)
      ≡ ended_entries t w (pruned_at n 1) (colour_at n 1 - pruned_at n 1)
  entries =
      let f = ended_entry (pass_runs w) t in
      let e : object_count n ≡ created_at n 1 - pruned_at n 1 = omega arith in
      ap (λ (p : ℕ). over (ended_entry (not (eqb p 0)) t) (over f w (pruned_at n 1) (object_count n)) (created_at n 1) (object_count n)) (over_outside f w (pruned_at n 1) (object_count n) phase_at 0 (λ k l z. omega arith))
      ∙ ap (λ (k : ℕ). over f (over f w (pruned_at n 1) k) (created_at n 1) (object_count n)) e
      ∙ joined f w (pruned_at n 1) (created_at n 1) (colour_at n 1) (object_count n) (omega arith) (omega arith)

-- t's marks begin at a, their places in the order at b
pub marks_ended : (w : List ℕ) (n t : ℕ) {v x : List ℕ} {a b : ℕ} → a ≡ marked_at n t 0 → b ≡ order_at n t 0 →
    v ≡ fill (λ m. 0) w a mark_count → x ≡ fill (λ m. 0) v b mark_count → x ≡ without_marks w n t
unfolding without_marks
marks_ended w n t ea eb hv hx = hx ∙ rw (hv, ea, eb)

-- the masks begin at a, the entries at b, and end at d
pub tables_ended : (w : List ℕ) (n t : ℕ) {v u x y z : List ℕ} {a b d : ℕ} → a ≡ readers_at n 0 → b ≡ pruned_at n 1 → d ≡ colour_at n 1 →
    v ≡ lose w active_at t → u ≡ leaves t v a (b - a) → x ≡ ended_entries t u b (d - b) → y ≡ without_marks x n t → z ≡ set y (client_at n t) 0 → z ≡ ended_tables w n t
unfolding ended_tables
tables_ended w n t ea eb ed hv hu hx hy hz =
    let l = lose w active_at t in
    hz ∙ rw hy (ap (λ (z : List ℕ). set (without_marks z n t) (client_at n t) 0) (hx ∙ rw (hu, hv, ea, eb, ed)
    (sym (ap (λ (y : List ℕ). ended_entries t (ended_entries t y (pruned_at n 1) (object_count n)) (created_at n 1) (object_count n)) (masks l n t)
    ∙ entries (leaves t l (readers_at n 0) (pruned_at n 1 - readers_at n 0)) n t))))
