-- Where the bench program can stand between two chunks of its input. The contract of `read` does not say what is read: so some input leads there.
use Rattle.std.specs.Prelude.{ℕ, ◌+◌, ◌^◌, ◌<◌, ◌≤◌, ◌≡◌, List, [], ◌++◌, length}
use Rattle.std.proofs.Common.{sym, ap, ◌∙◌, arith}
use Rattle.areas.specs.Areas.{Areas}
use Rattle.bench_run.specs.Bench.{bench_store}
use Rattle.bench_serving.specs.Serving.{State, Served, opened, served, served_last}
use Rattle.bench_serving.specs.Laws.{served_within, served_chunks}
use Rattle.bench_serving.specs.Held.{Held, state_of, filled, started}
use Rattle.bench_serving.specs.declared.Place.{Place}

-- the bytes that are read at a time
abbrev pub chunk : ℕ
chunk = 1024

-- some input leads here from the formatted bench store, and there are numbers for so many lines more
pub record Reached (s : State) (lines : ℕ) : Type 0 where
  pub input : List ℕ
  pub leads : (served opened input).after ≡ s
  pub numbers : s.number + lines < 2 ^ 64

-- what is handed over to be written: the output lines of bytes after some input, or that of its last line
pub data Lines (x : List ℕ) : Type 0 where
  of_bytes : (s : State) (n : ℕ) (bytes : List ℕ) → Reached s n → x ≡ (served s bytes).output → Lines x
  of_last : (s : State) (n : ℕ) → Reached s n → x ≡ (served_last s).output → Lines x

pub reached_start : (s : Areas) (p : Place) (n : ℕ) → s ≡ bench_store → p ≡ started → 1 + n < 2 ^ 64 → Reached (state_of s p) n
unfolding served
reached_start s p n e f h =
    let number = ap (λ (q : Place). q.number) f in
    record {
      input = [];
      leads = ap (λ (t : Areas). state_of t started) (sym e) ∙ ap (state_of s) (sym f);
      numbers = omega arith;
    }

pub reached_fewer : (s : State) (n m : ℕ) → Reached s n → m ≤ n → Reached s m
reached_fewer s n m r h = record { input = r.input; leads = r.leads; numbers = omega arith }

-- the bytes of a chunk lead further
pub reached_more : (s : State) (bytes : List ℕ) (n m : ℕ) (o : List ℕ) (h : Held) → Reached s n → m + length bytes ≤ n → h ≡ filled (served s bytes) 0 o
    → Reached (state_of h.store h.place) m
reached_more s bytes n m o h r k e =
    let state : state_of h.store h.place ≡ (served s bytes).after = ap (λ (g : Held). state_of g.store g.place) e in
    let number = ap (λ (t : State). t.number) state in
    let within = served_within s bytes in
    record {
      input = r.input ++ bytes;
      leads =
          ap (λ (w : Served). w.after) (served_chunks opened r.input bytes)
          ∙ ap (λ (t : State). (served t bytes).after) r.leads
          ∙ sym state;
      numbers = omega arith;
    }
