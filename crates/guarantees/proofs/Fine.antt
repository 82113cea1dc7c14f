-- What holds beside the invariant of demand 3: lengths, ranges, sound areas and room. n is the number of pages. Assumes nothing.
use Prim.Native.Nat.{ℕ, zero, suc, ◌+◌, ◌*◌, ◌≤◌, ◌<◌}
use native.Mathlib.Omega.{arith}
use mathlib.Core.Path.{◌≡◌, refl, sym, ap, ◌∙◌}
use mathlib.Core.Bool.{true, false}
use mathlib.Core.List.{List}
use lib.ListN.{length, length-set}
use lib.Seq.{get_or-set_same}
use lib.Dec.{eqb}
use borrow.Author.Tests.{eqb-true, eqb-false, le-leb}
use Rattle.words.specs.Tests.{sum, by_bool}
use Rattle.words.specs.Bits.{bit}
use Rattle.pages.specs.Soundness.{area_sound}
use Rattle.records.specs.declared.Record.{Record}
use Rattle.records.specs.Records.{record_words, txn_count}
use Rattle.records.specs.Changes.{reserve_of, reserved}
use Rattle.records.specs.Effects.{effect}
use Rattle.records.specs.Soundness.{records_sound}
use Rattle.record_laws.specs.RecordLaws.{log_sound_records, recorded_length}
use Rattle.record_laws.specs.EffectLaws.{length_effect}
use Rattle.areas.specs.Areas.{Areas, received_count, stable_count, with_work, appended}
use Rattle.areas.specs.Layout.{active_at, work_words}
use Rattle.areas.specs.Tables.{at, undoes}
use Rattle.areas.specs.Ranges.{pages_in, records_in, counts_in_range, in_range}
use Rattle.areas.specs.Entry.{records, reopening}
use Rattle.acceptance.specs.Lengths.{Sized}
use Rattle.acceptance.specs.Entered.{Open}
use Rattle.book.specs.Books.{Book}
use Rattle.acceptance.specs.Working.{ranged}
use Rattle.machine_calls.proofs.Facts.{act_is}
use Rattle.demand.proofs.State.{machine, OpenInv}
use Rattle.demand.proofs.Change.{machine_shows}
use Rattle.demand.proofs.Abort.{words_count}
use Rattle.guarantees.proofs.Tables.{Within, within_rows}
use Rattle.guarantees.proofs.Reserve.{share, held, held_same}
use Rattle.guarantees.proofs.Sound.{Firm}

pub record Fine (n : ℕ) (s : Areas) (b : Book) : Type 0 where
  pub sized : Sized s n
  pub stored : area_sound s.stored n ≡ true
  pub stable_le : stable_count s ≤ records s
  -- what a cut may leave
  pub firm : Firm n b
  -- refusal 1
  pub range : (reopening s ≡ 0 → ⊥) → in_range s n (records s) ≡ true
  -- what is reserved fits
  pub room : reopening s ≡ 2 → received_count s + held b ≤ records s

pub resized : (n : ℕ) (s s' : Areas) → Sized s n → length s'.stored ≡ length s.stored → length s'.copies ≡ length s.copies → length s'.received ≡ length s.received
    → length s'.log ≡ length s.log → length s'.counts ≡ length s.counts → length s'.work ≡ work_words n (records s') → Sized s' n
resized n s s' z a c r g k w = record {
  count = ap pages_in a ∙ z.count;
  low = z.low;
  top = z.top;
  stored_len = a ∙ z.stored_len;
  copies_len = c ∙ z.copies_len;
  received_len = r ∙ z.received_len;
  log_low = rw g z.log_low;
  log_top = rw g z.log_top;
  log_len = g ∙ z.log_len ∙ ap (λ (m : ℕ). record_words * records_in m) (sym g);
  counts_len = k ∙ z.counts_len;
  work_len = w;
  tables = (z.top, omega arith);
  undoing = (z.top, omega arith);
}

pub in_range_law : (n : ℕ) (s : Areas) → 1 ≤ n → stable_count s ≤ received_count s → received_count s ≤ records s → Within s.work n (records s) → area_sound s.received n ≡ true → area_sound s.copies n ≡ true
    → records_sound n s.log (received_count s) ≡ true → in_range s n (records s) ≡ true
unfolding in_range counts_in_range
in_range_law n s some a b w r c g = rw (le-leb _ _ a, le-leb _ _ b, within_rows s.work n (records s) some w, r, c) g

-- of an open store
pub open_fine : (n : ℕ) → 1 ≤ n → (s : Areas) (b : Book) → OpenInv n s b → Sized s n → area_sound s.stored n ≡ true → Within s.work n (records s) → area_sound s.received n ≡ true
    → area_sound s.copies n ≡ true → Firm n b → received_count s + held b ≤ records s → Fine n s b
open_fine n some s b i z st w r c f m = let k = i.log.stable_few in record {
  sized = z;
  stored = st;
  stable_le = omega arith;
  firm = f;
  range = λ no. in_range_law n s some k (omega arith) w r c (log_sound_records n s.log (received_count s) i.log.order);
  room = λ e. m;
}

-- what active transactions reserve is what open ones do
sum_alike : (f g : ℕ → ℕ) (n : ℕ) → ((i : ℕ) → i < n → f i ≡ g i) → sum f n ≡ sum g n
unfolding sum
sum_alike f g zero h = refl
sum_alike f g (suc n) h = rw (sum_alike f g n (λ i l. h i (omega arith)), h n (omega arith))

pub reserved_held : (n : ℕ) (s : Areas) (b : Book) → OpenInv n s b → reserved (undoes s.work n) s.log (received_count s) (at s.work active_at) ≡ held b
unfolding reserved
reserved_held n s b i = sum_alike _ _ txn_count shares
  where
    shares : (t : ℕ) → t < txn_count → reserve_of (undoes s.work n) s.log (received_count s) (at s.work active_at) t ≡ share b t
    shares t l = let a = act_is s n (machine n s b) (machine_shows n s b) t l in by_bool (eqb (b.running t) 0)
        (λ e. rw (e, idle (eqb-true (b.running t) 0 e)) refl)
        (λ e. let run = eqb-false (b.running t) 0 e in rw (e, sym a ∙ i.runs t run, words_count n s b i t l run) refl)
      where
        idle : b.running t ≡ 0 → bit (at s.work active_at) t ≡ false
        idle z = by_bool (bit (at s.work active_at) t) (λ e. absurd (i.active t (act_is s n (machine n s b) (machine_shows n s b) t l ∙ e) z)) (λ e. e)

-- a fine store that is open can be entered
pub enterable : (n : ℕ) (s : Areas) (b : Book) → OpenInv n s b → Fine n s b → Open s n
enterable n s b i f = record { sized = f.sized; finished = i.word; ranged = ranged s n f.sized.low (f.range (λ z. let w = i.word in omega arith)) }

-- a call that changes working words alone
pub quiet_fine : (n : ℕ) → 1 ≤ n → (s : Areas) (b b' : Book) (w : List ℕ) → OpenInv n (with_work s w) b' → Fine n s b → Open s n → Within w n (records s) → b'.origin ≡ b.origin → b'.lines ≡ b.lines
    → b'.stable ≡ b.stable → b'.running ≡ b.running → Fine n (with_work s w) b'
quiet_fine n some s b b' w j f h v o e d r = open_fine n some (with_work s w) b' j (resized n s (with_work s w) h.sized refl refl refl refl refl v.size) f.stored v
    h.ranged.received_sound h.ranged.copies_sound (rw (o, e, d) f.firm) (rw (held_same b b' e r) (f.room h.finished))

-- a call that appends a record
pub added_fine : (n : ℕ) → 1 ≤ n → (s : Areas) (b b' : Book) (r : Record) (w : List ℕ) → OpenInv n (with_work (appended s r) w) b' → Fine n s b → Open s n → Within w n (records s)
    → area_sound (effect s.received r) n ≡ true → Firm n b' → received_count s + 1 + held b' ≤ records s → Fine n (with_work (appended s r) w) b'
unfolding appended
added_fine n some s b b' r w j f h v sound firm room =
    let s' = with_work (appended s r) w in
    let c : received_count s' ≡ received_count s + 1 = get_or-set_same s.counts 0 (received_count s + 1) 0 (let e = h.sized.counts_len in omega arith) in
    let g : length s'.log ≡ length s.log = recorded_length s.log (received_count s) r in
    open_fine n some s' b' j
    (resized n s s' h.sized refl refl (length_effect s.received r) g (length-set s.counts 0 (received_count s + 1)) (rw g v.size))
    f.stored (rw g v) sound h.ranged.copies_sound firm (rw (c, g) room)
