-- A freshly formatted store has the invariant. n is the number of pages, l the number of records. Assumes nothing.
use Prim.Native.Nat.{ℕ, ◌≤◌}
use native.Mathlib.Omega.{arith}
use mathlib.Core.Path.{◌≡◌, refl, sym, ◌∙◌}
use mathlib.Core.Bool.{true}
use mathlib.Core.List.{List, []}
use lib.ListN.{length-replicate}
use lib.Seq.{get_or-set_same, get_or-set_other}
use Rattle.words.specs.Spans.{zero_at}
use Rattle.pages.specs.Objects.{formatted_pages}
use Rattle.records.specs.Soundness.{record_sound}
use Rattle.areas.specs.Areas.{Areas}
use Rattle.areas.specs.Layout.{work_words}
use Rattle.areas.specs.Tables.{at}
use Rattle.areas.specs.Entry.{pages, reopening}
use Rattle.calls.specs.Formatting.{formatted}
use Rattle.book.specs.Lines.{filtered, pages_after}
use Rattle.book.specs.Books.{blank, counts_committed, committed_lines}
use Rattle.book.specs.Pointers.{unbroken, Leads}
use Rattle.reach.specs.Reaching.{reached_some}
use Rattle.book_laws.specs.Keeping.{Origin, SoundFrom}
use Rattle.book_laws.proofs.Invariant.{blank_inv}
use Rattle.book_laws.proofs.Members.{each_nil}
use Rattle.demand.proofs.Formatted.{zeros, formatted_length, formatted_origin, no_word}
use Rattle.demand.proofs.State.{Inv3, open_store}
use Rattle.demand.proofs.Stopping.{whole_of}
use Rattle.demand.proofs.Rest.{Resting, rest_open}

-- a book with no line is as sound as the pages that it starts from
pub blank_sound : (n : ℕ) (a : List ℕ) → Origin n a → SoundFrom n a []
blank_sound n a o = record { origin = o; lines = each_nil (λ m. record_sound n m.entry ≡ true) }

module _ (n l : ℕ) (some : 1 ≤ n) where
  abbrev s : Areas
  s = formatted n l

  leads : Leads (formatted_pages n) []
  unfolding unbroken
  leads = record {
    there = λ o f x p r. absurd (r.some (sym r.target ∙ no_word n some o f (reached_some p) r.word));
    unbrokenly = λ o f x p r. refl;
  }

  word : reopening s ≡ 2
  unfolding formatted
  word = get_or-set_same (zeros (work_words n l)) 0 2 0 (rw (length-replicate {A = ℕ} (work_words n l) 0) (omega arith))

  clear : (i : ℕ) → 2 ≤ i → at s.work i ≡ 0
  unfolding formatted
  clear i h = get_or-set_other (zeros (work_words n l)) 0 i 2 0 (λ z. omega arith) ∙ zero_at (work_words n l) i

  size : pages s ≡ n
  unfolding formatted
  size = rw (formatted_length n some) (omega arith)

  resting : Resting n s (blank (formatted_pages n))
  unfolding formatted committed_lines filtered pages_after
  resting = record {
    size = size;
    stage = refl;
    word = word;
    clear = clear;
    received_count_law = refl;
    stable_count_law = refl;
    stored = refl;
    copies = refl;
    received = refl;
    book = blank_inv (formatted_pages n);
    sound = blank_sound n (formatted_pages n) (formatted_origin n some);
    idle = λ t. refl;
    forgot = λ t x. refl;
    all_stable = refl;
    whole = whole_of n (formatted_pages n) (formatted_origin n some) (counts_committed (blank (formatted_pages n))) [] (each_nil (λ m. record_sound n m.entry ≡ true)) leads;
    leads = leads;
  }

pub start_inv : (n l : ℕ) → 1 ≤ n → Inv3 n (formatted n l) (blank (formatted_pages n))
start_inv n l some = open_store (rest_open n some (formatted n l) (blank (formatted_pages n)) (resting n l some))
