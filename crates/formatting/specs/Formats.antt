-- What formatting makes of each area, by its length, and that these together are the formatted store. Assumes nothing.
use Rattle.std.specs.Prelude.{ℕ, ◌*◌, ◌≡◌, true, false, List, length, Ok, Err}
use Rattle.std.proofs.Math.Path.{refl, ap}
use Rattle.std.proofs.Common.{sym, ◌∙◌}
use Rattle.std.proofs.Math.ListN.{set, replicate}
use Rattle.pages.specs.Geometry.{page_words, root}
use Rattle.pages.specs.Objects.{occupy, formatted_pages}
use Rattle.areas.specs.declared.Refusal.TheVariants.{Malformed}
use Rattle.areas.specs.Answers.{all_passed, need_holds, need_fails}
use Rattle.areas.specs.Areas.{areas, out, done, checked_pass, checked_refuse}
use Rattle.areas.specs.Layout.{reopening_at, finished}
use Rattle.areas.specs.Ranges.{fit}
use Rattle.areas.specs.Entry.{pages, records}
use Rattle.calls.specs.Formatting.{formatted, format_tests, call_format}
use Rattle.acceptance.specs.Lengths.{sized}

-- as many zeros as there are words
abbrev pub zeros : List ℕ → List ℕ
zeros a = replicate (length a) 0

-- a page area: zeros, and the root
unfoldable pub formatted_area : List ℕ → List ℕ
formatted_area a = occupy (zeros a) root

-- the working tables: zeros, and the reopening finished
abbrev pub formatted_work : List ℕ → List ℕ
formatted_work w = set (zeros w) reopening_at finished

pub area_formatted : (a : List ℕ) (n : ℕ) → length a ≡ page_words * n → formatted_area a ≡ formatted_pages n
unfolding formatted_area formatted_pages
area_formatted a n e = rw e

same_areas : {s s' c c' r r' g g' k k' w w' : List ℕ} → s ≡ s' → c ≡ c' → r ≡ r' → g ≡ g' → k ≡ k' → w ≡ w' → areas s c r g k w ≡ areas s' c' r' g' k' w'
same_areas es ec er eg ek ew = cc

module _ (s c r g k w : List ℕ) where
  pub format_refuses : fit (areas s c r g k w) ≡ false → out (Err Malformed) s c r g k w ≡ call_format (areas s c r g k w)
  unfolding call_format format_tests
  format_refuses h = checked_refuse _ _ _ _ (sym (need_fails _ _ _ _ h))

  -- all six areas by their lengths are the formatted store
  all_formatted : fit (areas s c r g k w) ≡ true →
      areas (formatted_area s) (formatted_area c) (formatted_area r) (zeros g) (zeros k) (formatted_work w) ≡ formatted (pages (areas s c r g k w)) (records (areas s c r g k w))
  unfolding formatted
  all_formatted h = let z = sized (areas s c r g k w) (pages (areas s c r g k w)) h refl in
      same_areas (area_formatted s _ z.stored_len) (area_formatted c _ z.copies_len) (area_formatted r _ z.received_len)
      (ap (λ (l : ℕ). replicate l 0) z.log_len) (ap (λ (l : ℕ). replicate l 0) z.counts_len) (ap (λ (l : ℕ). set (replicate l 0) reopening_at finished) z.work_len)

  pub format_done : {s' c' r' g' k' w' : List ℕ} → fit (areas s c r g k w) ≡ true
      → s' ≡ formatted_area s → c' ≡ formatted_area c → r' ≡ formatted_area r → g' ≡ zeros g → k' ≡ zeros k → w' ≡ formatted_work w
      → out (Ok 0) s' c' r' g' k' w' ≡ call_format (areas s c r g k w)
  unfolding call_format format_tests
  format_done h es ec er eg ek ew = ap (done 0) (same_areas es ec er eg ek ew ∙ all_formatted h) ∙ checked_pass _ _ _ (sym (all_passed ∙ need_holds _ _ _ _ h))
