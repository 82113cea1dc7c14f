-- What a record may ask of a page area, so that it has its effect there and nowhere else. Assumes nothing.
use Rattle.std.specs.Prelude.{ℕ, ◌+◌, ◌*◌, ◌/◌, ◌<◌, ◌≤◌, ◌≡◌, true, List, length}
use Rattle.std.proofs.Common.{arith}
use Rattle.pages.specs.Geometry.{page_words, slot_words, map_top, page_at, page_of}
use Rattle.records.specs.declared.Record.{Record}
use Rattle.records.specs.Records.{sweep_of}
use Rattle.records.specs.Soundness.{record_sound}
use Rattle.record_laws.specs.RecordLaws.{sound_record}

-- object o is on a page of area a
abbrev pub Within : List ℕ → ℕ → Type 0
Within a o = (1 ≤ o) × (page_at (page_of o) + page_words ≤ length a)

-- not 'a record's .. object, page or field out of range', nor 'a map above 65535', for area a. Less than soundness: such a record may
-- be 'a record that creates or frees the root', and has its effect all the same
pub record InRange (a : List ℕ) (r : Record) : Type 0 where
  pub create : r.kind ≡ 2 → Within a r.object
  pub write : r.kind ≡ 3 → Within a r.object × (r.field < slot_words)
  pub uncreate : r.kind ≡ 6 → Within a r.object
  pub sweep : r.kind ≡ 7 → (page_at r.object + page_words ≤ length a) × (r.new ≤ map_top)

pub sound_in_range : (a : List ℕ) (r : Record) → record_sound (length a / page_words) r ≡ true → InRange a r
sound_in_range a r h = let s = sound_record (length a / page_words) r h in record {
  create = λ e. let k = s.create e in (omega arith, omega arith);
  write = λ e. let k = s.write e in let f = s.field_below in ((omega arith, omega arith), f);
  uncreate = λ e. let k = s.uncreate e in (omega arith, omega arith);
  sweep = λ e. let k = s.sweep e in (omega arith, omega arith);
}

pub sweep_in_range : (a : List ℕ) (p m : ℕ) → page_at p + page_words ≤ length a → m ≤ map_top → InRange a (sweep_of p m)
sweep_in_range a p m h k = record {
  create = λ e. absurd (omega arith);
  write = λ e. absurd (omega arith);
  uncreate = λ e. absurd (omega arith);
  sweep = λ e. (h, k);
}
