-- The buffer once the chain is in it and the rest is cleared. Assumes nothing.
use Prim.Native.Nat.{ℕ, ◌+◌, ◌-◌, ◌<◌, ◌≤◌}
use native.Mathlib.Omega.{arith}
use mathlib.Core.Path.{◌≡◌, sym, ap, ◌∙◌}
use mathlib.Core.List.{List, []}
use lib.ListN.{length, get_or, replicate, length-append, length-replicate, get_or-replicate, get_or-append}
use lib.Seq.{ext_get_or, get_or-append-add}
use lib.Dec.{ltb}
use borrow.Author.Tests.{ltb-true, ltb-false}
use Rattle.words.specs.Tests.{by_bool}
use Rattle.words.specs.Spans.{length_fill, fill_outside, fill_inside}
use Rattle.calls.specs.Chains.{chain_words, shown}
use Rattle.chain_search.specs.Ending.{Back}
use Rattle.chain_trace.specs.Tracing.{Reversed}
use Rattle.chain_trace.specs.Showing.{shown_from, cleared_from}
use Rattle.chain_trace.proofs.Trailing.{same_chain}

-- chain c stands at the front of buffer r
module _ (c r : List ℕ) (size : length r ≡ chain_words) (few : length c ≤ chain_words) (front : (i : ℕ) → i < length c → get_or r i 0 ≡ get_or c i 0) where
  lengths : length (cleared_from (length c) r) ≡ length (shown c)
  lengths =
      length_fill (λ i. 0) r (length c) (chain_words - length c)
      ∙ size
      ∙ sym (length-append c (replicate (chain_words - length c) 0) ∙ ap (λ (k : ℕ). length c + k) (length-replicate (chain_words - length c) 0) ∙ (omega arith))

  word : (i : ℕ) → i < length (cleared_from (length c) r) → get_or (cleared_from (length c) r) i 0 ≡ get_or (shown c) i 0
  word i l = by_bool (ltb i (length c))
      (λ t. let b = ltb-true i (length c) t in
      fill_outside (λ i. 0) r (length c) (chain_words - length c) i 0 (λ k h z. omega arith) ∙ front i b ∙ sym (get_or-append c (replicate (chain_words - length c) 0) 0 i b))
      (λ t. let b = ltb-false i (length c) t in
      let k = i - length c in
      let e : length c + (i - length c) ≡ i = omega arith in
      let h = length_fill (λ i. 0) r (length c) (chain_words - length c) in
      ap (λ (j : ℕ). get_or (cleared_from (length c) r) j 0) (sym e)
      ∙ fill_inside (λ i. 0) r (length c) (chain_words - length c) (i - length c) (omega arith) (omega arith)
      ∙ sym (get_or-replicate (chain_words - length c) (i - length c) 0 0 (omega arith))
      ∙ sym (get_or-append-add c (replicate (chain_words - length c) 0) (i - length c) 0)
      ∙ ap (λ (j : ℕ). get_or (shown c) j 0) e)

  cleared_shown : cleared_from (length c) r ≡ shown c
  cleared_shown = ext_get_or 0 (cleared_from (length c) r) (shown c) lengths word

-- no chain
pub none_shown : (r : List ℕ) → length r ≡ chain_words → cleared_from 0 r ≡ shown []
none_shown r size = cleared_shown [] r size (omega arith) (λ i l. absurd (omega arith))

module _ (from : List ℕ) (o : ℕ) (queue : List ℕ) (d : ℕ) (r : Reversed from o queue d) (c b : List ℕ) (back : Back from o c) (size : length b ≡ chain_words) where
  same : r.chain ≡ c
  same = same_chain from o r.chain c r.back back

  pub traced_length : d ≡ length c
  traced_length = r.size ∙ ap length same

  front : (i : ℕ) → i < length c → get_or (shown_from queue d b) i 0 ≡ get_or c i 0
  front i l =
      let e = traced_length in
      let few = back.few in
      let z : 0 + i ≡ i = omega arith in
      let y : d - 1 - (d - 1 - i) ≡ i = omega arith in
      ap (λ (j : ℕ). get_or (shown_from queue d b) j 0) (sym z)
      ∙ fill_inside (λ i. get_or queue (d - 1 - i) 0) b 0 d i (omega arith) (omega arith)
      ∙ r.words (d - 1 - i) (omega arith)
      ∙ ap (λ (j : ℕ). get_or r.chain j 0) y
      ∙ ap (λ (l : List ℕ). get_or l i 0) same

  pub chain_shown : cleared_from d (shown_from queue d b) ≡ shown c
  chain_shown = let few = back.few in
      ap (λ (k : ℕ). cleared_from k (shown_from queue d b)) traced_length ∙ cleared_shown c (shown_from queue d b) (length_fill (λ i. get_or queue (d - 1 - i) 0) b 0 d ∙ size) few front
