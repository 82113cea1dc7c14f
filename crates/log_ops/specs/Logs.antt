-- The log and its counts, as a call finds them and as a record leaves them. Assumes nothing.
use Rattle.std.specs.Prelude.{ℕ, ◌+◌, ◌*◌, ◌<◌, ◌≤◌, ◌≡◌, refl, Bool, true, List, [], length, get_or, set, leb, Ok}
use Rattle.std.proofs.Common.{ap, ◌∙◌, get_or-set_same, arith}
use Rattle.records.specs.declared.Record.{Record}
use Rattle.pages.specs.Geometry.{page_words, max_pages, map_top, page_at}
use Rattle.records.specs.Records.{record_words, max_records, recorded, sweep_of}
use Rattle.records.specs.Effects.{effect}
use Rattle.records.specs.Soundness.{record_sound, records_sound}
use Rattle.records.specs.Changes.{noted, changes_left, reserved}
use Rattle.record_laws.specs.RecordLaws.{left_le, records_sound_wider}
use Rattle.record_laws.specs.EffectLaws.{sound_for}
use Rattle.record_ops.specs.InRange.{InRange, sound_in_range, sweep_in_range}
use Rattle.areas.specs.Areas.{Areas, Out, count_words, areas, out, done, received_count, with_work, appended}
use Rattle.areas.specs.Entry.{records}
use Rattle.areas.specs.Layout.{HasUndoing, active_at, undoing_from, undoing_at}
use Rattle.areas.specs.Tables.{at, undoes}
use Rattle.areas.specs.Ranges.{records_in}
use Rattle.calls.specs.Room.{room_beyond}
use Rattle.calls.specs.Transactions.{changes_of}
use Rattle.acceptance.specs.Entered.{Open}

-- the received records of log g with counts k: they fit, and each is sound
pub record Kept (g k : List ℕ) : Type 0 where
  pub two : length k ≡ count_words
  pub few : get_or k 0 0 ≤ max_records
  pub inside : record_words * get_or k 0 0 ≤ length g
  pub sound : records_sound max_pages g (get_or k 0 0) ≡ true

pub open_kept : (s : Areas) (n : ℕ) → Open s n → Kept s.log s.counts
open_kept s n o =
    let z = o.sized in
    let r = o.ranged in
    record {
      two = z.counts_len;
      few = omega arith;
      inside = omega arith;
      sound = records_sound_wider n max_pages s.log (received_count s) z.top r.records_sound_law;
    }

-- each of them has its undoing word
pub open_undoing : (s : Areas) (n : ℕ) → Open s n → HasUndoing s.work n (received_count s)
open_undoing s n o = let z = o.sized in let r = o.ranged.received_le in (z.top, omega arith)

-- record r may be appended to log g with counts k, and takes effect on the pages a
pub record Fits (a g k : List ℕ) (r : Record) : Type 0 where
  pub in_range_law : InRange a r
  pub two : length k ≡ count_words
  pub few : get_or k 0 0 < max_records
  pub inside : record_words * get_or k 0 0 + record_words ≤ length g

pub open_fits : (s : Areas) (n : ℕ) (r : Record) → Open s n → record_sound n r ≡ true → received_count s + 1 ≤ records s →
    Fits s.received s.log s.counts r
open_fits s n r o h l =
    let z = o.sized in
    record {
      in_range_law = sound_in_range s.received r (sound_for n s.received r z.received_len h);
      two = z.counts_len;
      few = omega arith;
      inside = omega arith;
    }

-- a sweep's record, which may free the root in a state that no calls lead to, is in range all the same
pub sweep_fits : (a g k : List ℕ) (p m : ℕ) → page_at p + page_words ≤ length a → m ≤ map_top → length k ≡ count_words → get_or k 0 0 < max_records →
    record_words * get_or k 0 0 + record_words ≤ length g → Fits a g k (sweep_of p m)
sweep_fits a g k p m page map two few inside = record { in_range_law = sweep_in_range a p m page map; two = two; few = few; inside = inside }

-- room, of the lists that it reads
abbrev pub room_in : List ℕ → List ℕ → List ℕ → ℕ → ℕ → Bool
room_in g k w n m = room_beyond (areas [] [] [] g k w) n m

pub room_in_law : (s c r g k w : List ℕ) (n m : ℕ) → room_in g k w n m ≡ room_beyond (areas s c r g k w) n m
unfolding room_beyond
room_in_law s c r g k w n m = refl

-- as the code finds it: h is what it found reserved, by the undoing words from word a
pub room_leb : (g k w : List ℕ) (n m a h : ℕ) → a ≡ undoing_at n 0 → h ≡ reserved (noted w a) g (get_or k 0 0) (at w active_at) →
    leb (get_or k 0 0 + h + m) (records_in (length g)) ≡ room_in g k w n m
unfolding room_beyond
room_leb g k w n m a h p e =
    let q : a ≡ undoing_from n = omega arith in
    ap (λ (x : ℕ). leb (get_or k 0 0 + x + m) (records_in (length g))) (e ∙ ap (λ (i : ℕ). reserved (noted w i) g (get_or k 0 0) (at w active_at)) q)

-- the changes of t that are left, of the lists that they are read from
abbrev pub left_in : List ℕ → List ℕ → List ℕ → ℕ → ℕ → List ℕ
left_in g k w n t = changes_of (areas [] [] [] g k w) n t

pub left_found : (g k w : List ℕ) (n t a h : ℕ) → a ≡ undoing_at n 0 → h ≡ length (changes_left (noted w a) g (get_or k 0 0) t) →
    (h ≡ length (left_in g k w n t)) × (h ≤ get_or k 0 0)
left_found g k w n t a h p e =
    let q : a ≡ undoing_from n = omega arith in
    let d : h ≡ length (left_in g k w n t) = e ∙ ap (λ (i : ℕ). length (changes_left (noted w i) g (get_or k 0 0) t)) q in
    let l = left_le (undoes w n) g (get_or k 0 0) t in
    (d, omega arith)

-- the outcome of a call that answers the received count
abbrev pub counted : Areas → Out
counted a = done (received_count a) a

-- .. and appends one record, e being what `append` tells, and then changes the working tables
pub appended_out : (s c a g k w : List ℕ) (r : Record) (x : ℕ) (a' g' k' w' v : List ℕ) → length k ≡ count_words →
    (x ≡ get_or k 0 0 + 1) × (a' ≡ effect a r) × (g' ≡ recorded g (get_or k 0 0) r) × (k' ≡ set k 0 (get_or k 0 0 + 1)) → w' ≡ v →
    out (Ok x) s c a' g' k' w' ≡ counted (with_work (appended (areas s c a g k w) r) v)
unfolding appended
appended_out s c a g k w r x a' g' k' w' v l e h = rw (get_or-set_same k 0 (get_or k 0 0 + 1) 0 (omega arith), e.0, e.1, e.2, e.3, h)
