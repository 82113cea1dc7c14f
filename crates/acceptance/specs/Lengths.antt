-- Document 01, refusal 1: what lengths that fit say, in numbers. Assumes nothing.
use Rattle.std.specs.Prelude.{ℕ, ◌*◌, ◌/◌, ◌≤◌, ◌≡◌, true, ◌&&◌, length, leb, eqb}
use Rattle.std.proofs.Common.{◌∙◌, arith, leb-true, eqb-true}
use Rattle.words.specs.Tests.{and_split}
use Rattle.pages.specs.Geometry.{page_words, max_pages}
use Rattle.records.specs.Records.{record_words, max_records}
use Rattle.areas.specs.Areas.{Areas, count_words}
use Rattle.areas.specs.Layout.{HasTables, HasUndoing, work_words}
use Rattle.areas.specs.Ranges.{pages_in, records_in, whole, lengths_fit, fit}
use Rattle.areas.specs.Entry.{pages, records}

-- of the lengths themselves, as the code has them: n pages and l records
pub record Lengths (s c r g k w : ℕ) : Type 0 where
  pub low : 1 ≤ pages_in s
  pub top : pages_in s ≤ max_pages
  pub stored_len : s ≡ page_words * pages_in s
  pub copies_len : c ≡ page_words * pages_in s
  pub received_len : r ≡ page_words * pages_in s
  pub log_low : 1 ≤ records_in g
  pub log_top : records_in g ≤ max_records
  pub log_len : g ≡ record_words * records_in g
  pub counts_len : k ≡ count_words
  pub work_len : w ≡ work_words (pages_in s) (records_in g)

record Whole (l unit top : ℕ) : Type 0 where
  low : 1 ≤ l / unit
  high : l / unit ≤ top
  all_used : l ≡ unit * (l / unit)

whole_facts : (l unit top : ℕ) → whole l unit top ≡ true → Whole l unit top
whole_facts l unit top h =
    let p = and_split (leb 1 (l / unit) && leb (l / unit) top) (eqb l (unit * (l / unit))) h in
    let q = and_split (leb 1 (l / unit)) (leb (l / unit) top) p.0 in
    record { low = leb-true _ _ q.0; high = leb-true _ _ q.1; all_used = eqb-true _ _ p.1 }

pub lengths_facts : (s c r g k w : ℕ) → lengths_fit s c r g k w ≡ true → Lengths s c r g k w
unfolding lengths_fit
lengths_facts s c r g k w h =
    let h5 = and_split _ _ h in
    let h4 = and_split _ _ h5.0 in
    let h3 = and_split _ _ h4.0 in
    let h2 = and_split _ _ h3.0 in
    let h1 = and_split _ _ h2.0 in
    let pw = whole_facts s page_words max_pages h1.0 in
    let rw' = whole_facts g record_words max_records h3.1 in
    let c_len : c ≡ s = eqb-true _ _ h1.1 in
    let r_len : r ≡ s = eqb-true _ _ h2.1 in
    record {
      low = pw.low;
      top = pw.high;
      stored_len = pw.all_used;
      copies_len = c_len ∙ pw.all_used;
      received_len = r_len ∙ pw.all_used;
      log_low = rw'.low;
      log_top = rw'.high;
      log_len = rw'.all_used;
      counts_len = eqb-true _ _ h4.1;
      work_len = eqb-true _ _ h5.1;
    }

-- of the areas of n pages and `records s` records
pub record Sized (s : Areas) (n : ℕ) : Type 0 where
  pub count : pages s ≡ n
  pub low : 1 ≤ n
  pub top : n ≤ max_pages
  pub stored_len : length s.stored ≡ page_words * n
  pub copies_len : length s.copies ≡ page_words * n
  pub received_len : length s.received ≡ page_words * n
  pub log_low : 1 ≤ records s
  pub log_top : records s ≤ max_records
  pub log_len : length s.log ≡ record_words * records s
  pub counts_len : length s.counts ≡ count_words
  pub work_len : length s.work ≡ work_words n (records s)
  pub tables : HasTables s.work n
  pub undoing : HasUndoing s.work n (records s)

pub sized : (s : Areas) (n : ℕ) → fit s ≡ true → pages s ≡ n → Sized s n
sized s n h e =
    let l = lengths_facts (length s.stored) (length s.copies) (length s.received) (length s.log) (length s.counts) (length s.work) h in
    record {
      count = e;
      low = omega arith;
      top = omega arith;
      stored_len = omega arith;
      copies_len = omega arith;
      received_len = omega arith;
      log_low = l.log_low;
      log_top = l.log_top;
      log_len = l.log_len;
      counts_len = l.counts_len;
      work_len = omega arith;
      tables = (omega arith, omega arith);
      undoing = (omega arith, omega arith);
    }
