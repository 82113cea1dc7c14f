-- A read: what its tests give the code, its outcome and its buffer. Assumes nothing.
use Rattle.std.specs.Prelude.{ℕ, ◌*◌, ◌<◌, ◌≤◌, ◌≡◌, Bool, true, false, List, [], length, eqb, Ok, Err}
use Rattle.std.proofs.Common.{sym, ◌∙◌, arith}
use Rattle.std.proofs.Math.Path.{ap}
use Rattle.pages.specs.Geometry.{slot_words, page_words, object_count}
use Rattle.pages.specs.Objects.{word_of}
use Rattle.pages.specs.Soundness.{area_sound}
use Rattle.records.specs.Records.{txn_count}
use Rattle.areas.specs.declared.Refusal.{Refusal}
use Rattle.areas.specs.declared.Refusal.TheVariants.{Malformed, NotOpen}
use Rattle.areas.specs.Answers.{verdict}
use Rattle.areas.specs.Areas.{Areas, Out, areas, out}
use Rattle.areas.specs.Layout.{HasTables}
use Rattle.areas.specs.Entry.{pages, well_formed, is_ready, called_malformed, called_closed, called_refused, called_passed}
use Rattle.acceptance.specs.Entered.{Open}
use Rattle.acceptance.specs.Objects.{read_facts}
use Rattle.object_checks.specs.Tests.{read_looks}
use Rattle.calls.specs.Objects.{read_tests, learned, object_words, call_read, if_accepted, buffer_after}

-- the outcome and the buffer, which goes by the answer
abbrev pub ReadGives : Out → List ℕ → Areas → ℕ → ℕ → List ℕ → Type 0
ReadGives x l s t o b = (x ≡ call_read s t o b) × (l ≡ buffer_after s t o b)

buffer_by : (s : Areas) (t o : ℕ) (b : List ℕ) (x : Out) → x ≡ call_read s t o b → if_accepted x.answer (object_words s.received o) b ≡ buffer_after s t o b
unfolding buffer_after
buffer_by s t o b x e = ap (λ (y : Out). if_accepted y.answer (object_words s.received o) b) e

module _ (s c r g k w : List ℕ) (t o : ℕ) (b : List ℕ) where
  -- what the tests give the code
  pub read_ready : (n : ℕ) → Open (areas s c r g k w) n → length b ≡ slot_words → verdict (read_tests (areas [] [] [] [] [] w) n t o) ≡ Ok tt →
      (page_words * n ≤ length r) × HasTables w n × (area_sound r n ≡ true) × (length b ≡ slot_words) × (t < txn_count) × (1 ≤ o) × (o ≤ object_count n)
  read_ready n h e p =
      let q = read_facts (areas [] [] [] [] [] w) n t o p in
      let z = h.sized.received_len in
      (omega arith, h.sized.tables, h.ranged.received_sound, e, q.txn, q.object.low, q.object.top)

  pub read_malformed : well_formed (eqb (length b) slot_words) (areas s c r g k w) ≡ false → ReadGives (out (Err Malformed) s c r g k w) b (areas s c r g k w) t o b
  unfolding call_read
  read_malformed h = let q = called_malformed _ _ _ _ _ h in (q, buffer_by (areas s c r g k w) t o b _ q)

  module _ (h : well_formed (eqb (length b) slot_words) (areas s c r g k w) ≡ true) where
    pub read_closed : is_ready true (areas s c r g k w) ≡ false → ReadGives (out (Err NotOpen) s c r g k w) b (areas s c r g k w) t o b
    unfolding call_read
    read_closed e = let q = called_closed _ _ _ _ _ h e in (q, buffer_by (areas s c r g k w) t o b _ q)

    module _ (e : is_ready true (areas s c r g k w) ≡ true) where
      pub read_refused : (x : Refusal) → Err x ≡ verdict (read_tests (areas [] [] [] [] [] w) (pages (areas s c r g k w)) t o) →
          ReadGives (out (Err x) s c r g k w) b (areas s c r g k w) t o b
      unfolding call_read
      read_refused x d = let q = called_refused _ _ _ _ _ _ h e (d ∙ ap verdict (read_looks s c r g k w _ t o)) in (q, buffer_by (areas s c r g k w) t o b _ q)

      pub read_passed : (v : ℕ) (w' b' : List ℕ) → Ok tt ≡ verdict (read_tests (areas [] [] [] [] [] w) (pages (areas s c r g k w)) t o) →
          (v ≡ word_of r o 0) × (w' ≡ learned r w (pages (areas s c r g k w)) t o slot_words) × (b' ≡ object_words r o) →
          ReadGives (out (Ok v) s c r g k w') b' (areas s c r g k w) t o b
      unfolding call_read
      read_passed v w' b' d z =
          let q : out (Ok v) s c r g k w' ≡ call_read (areas s c r g k w) t o b =
          rw (z.0, z.1) (called_passed _ _ _ _ _ h e (d ∙ ap verdict (read_looks s c r g k w _ t o))) in
          (q, z.2 ∙ buffer_by (areas s c r g k w) t o b _ q)
